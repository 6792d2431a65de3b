use Rattle.std.proofs.Common.{◌∙◌, arith}
use Rattle.fault_lines.proofs.Listing.{numbers_none, numbers_next}
use Rattle.fault_lines.proofs.planning.numbers_of.Goals as goal

pub loop-left-init : goal.loop-left-init
loop-left-init c = record { within = omega arith; named = c.new-numbers.ensures.items ∙ numbers_none c.args.copy c.args.writing c.args.die _ c.args.lines.now (omega arith) }

pub loop-left-preserved : goal.loop-left-preserved
loop-left-preserved c =
    let positive = c.loop-left-test.true in
    let within = c.loop-left.invariant.within in
    record {
      within = omega arith;
      named = numbers_next c.args.copy c.args.writing c.args.die _ c.loop-left.left c.args.lines.now _ _ c.loop-left.numbers.items (c.in_ok-list_line.ensures) c.loop-left.invariant.named (omega arith) (omega arith);
    }
