use Rattle.std.proofs.Common.{◌≤◌, ◌^◌, length, ap, arith}
use Rattle.call_text.proofs.KeptSteps.{few_lines}
use Rattle.call_text.proofs.CallBytes.{script_known}
use Rattle.call_text.proofs.reading.read_script.Goals as goal

pub read_lines-requires : goal.read_lines-requires
read_lines-requires c =
    let short : length c.args.text.now ≤ 2 ^ 24 = omega arith in
    let low = few_lines c.args.text.now c.in_ok-lines.lines.items (λ x. x.now) c.in_ok-lines.ensures short in
    let same = c.deref.ensures.value in
    omega (arith, low, ap (λ xs. length xs) same)

pub returns-clause-ordered : goal.returns-clause-ordered
returns-clause-ordered c = (script_known c.in_ok-script.script _ _ _ _ c.new.ensures c.new-2.ensures c.in_ok-script.ensures.kept c.in_ok-script.ensures.is).0

pub returns-clause-limits : goal.returns-clause-limits
returns-clause-limits c = (script_known c.in_ok-script.script _ _ _ _ c.new.ensures c.new-2.ensures c.in_ok-script.ensures.kept c.in_ok-script.ensures.is).1
