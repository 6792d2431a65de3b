use Rattle.std.proofs.Common.{sym, ◌∙◌}
use Rattle.select_lines.proofs.Found.{not_found, found_here, found_later}
use Rattle.select_lines.proofs.files.file_named.Goals as goal

pub returns-in_default : goal.returns-in_default
returns-in_default c = not_found c.args.name.now c.args.plain.now.files c.loop-i.i (sym c.in_default.ensures) c.loop-i.invariant

pub returns-then-has_name : goal.returns-then-has_name
returns-then-has_name c =
    found_here c.args.name.now c.args.plain.now.files c.loop-i.i c.in-Some.file.now (sym c.in-Some.ensures) (sym c.has_name.ensures ∙ c.if-has_name.true) c.loop-i.invariant

pub loop-i-preserved : goal.loop-i-preserved
loop-i-preserved c =
    found_later c.args.name.now c.args.plain.now.files c.loop-i.i c.in-Some.file.now (sym c.in-Some.ensures) (sym c.has_name.ensures ∙ c.if-has_name.false) c.loop-i.invariant
