use Rattle.std.proofs.Common.{arith}
use Rattle.extent_map.proofs.Searches.{is_within, not_within, end_within}
use Rattle.extent_map.proofs.order.end_of.Goals as goal

pub loop-low-init : goal.loop-low-init
loop-low-init c = record { high = omega arith; least = omega arith; most = end_within c.args.file c.args.placed.now }

pub loop-low-preserved-then-placed-middle : goal.loop-low-preserved-then-placed-middle
loop-low-preserved-then-placed-middle c =
    record {
      high = c.loop-low.invariant.high;
      least = is_within c.args.file c.args.placed.now _ _ c.requires (omega arith) c.if-placed-middle.true;
      most = c.loop-low.invariant.most;
    }

pub loop-low-preserved : goal.loop-low-preserved
loop-low-preserved c =
    record {
      high = omega arith;
      least = c.loop-low.invariant.least;
      most = not_within c.args.file c.args.placed.now _ _ (omega arith) c.if-placed-middle.false;
    }
