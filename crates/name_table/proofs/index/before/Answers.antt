use Rattle.std.proofs.Common.{arith}
use Rattle.name_table.proofs.Classes.{is_before, not_before, before_within}
use Rattle.name_table.proofs.index.before.Goals as goal

pub loop-low-init : goal.loop-low-init
loop-low-init c = record { high = omega arith; least = omega arith; most = before_within c.args.hash c.args.entries.now }

pub loop-low-preserved-then-entries-middle : goal.loop-low-preserved-then-entries-middle
loop-low-preserved-then-entries-middle c =
    record {
      high = c.loop-low.invariant.high;
      least = is_before c.args.hash 0 c.args.entries.now _ _ c.requires (omega arith) c.if-entries-middle.true;
      most = c.loop-low.invariant.most;
    }

pub loop-low-preserved : goal.loop-low-preserved
loop-low-preserved c =
    record {
      high = omega arith;
      least = c.loop-low.invariant.least;
      most = not_before c.args.hash c.args.entries.now _ _ (omega arith) c.if-entries-middle.false;
    }
