use Rattle.std.proofs.Common.{sym, ◌∙◌, arith}
use Rattle.extent_map.proofs.Searches.{is_below, not_below, below_within}
use Rattle.extent_map.proofs.order.before.Goals as goal

pub loop-low-init : goal.loop-low-init
loop-low-init c = record { high = omega arith; least = omega arith; most = below_within c.args.file c.args.page c.args.placed.now }

pub loop-low-preserved-then-is_before : goal.loop-low-preserved-then-is_before
loop-low-preserved-then-is_before c =
    record {
      high = c.loop-low.invariant.high;
      least = is_below c.args.file c.args.page c.args.placed.now _ _ c.requires (omega arith) (sym c.is_before.ensures ∙ c.if-is_before.true);
      most = c.loop-low.invariant.most;
    }

pub loop-low-preserved : goal.loop-low-preserved
loop-low-preserved c =
    record {
      high = omega arith;
      least = c.loop-low.invariant.least;
      most = not_below c.args.file c.args.page c.args.placed.now _ _ (omega arith) (sym c.is_before.ensures ∙ c.if-is_before.false);
    }
