use Rattle.std.proofs.Common.{ap, arith}
use Rattle.name_table.specs.declared.files.FileRec.{FileRec}
use Rattle.name_table.proofs.Places.{is_below, not_below, below_within}
use Rattle.name_table.proofs.files.lower.Goals as goal

pub loop-low-init : goal.loop-low-init
loop-low-init c = record { high = omega arith; least = omega arith; most = below_within c.args.id c.args.files.now }

pub loop-low-preserved-then-files-middle : goal.loop-low-preserved-then-files-middle
loop-low-preserved-then-files-middle c =
    let f = c.index-files-middle.result in
    record {
      high = c.loop-low.invariant.high;
      least = is_below c.args.id 1 c.args.files.now _ f c.requires (omega arith) (omega (arith, c.if-files-middle.true, ap (λ (g : FileRec). g.id) c.index-files-middle.is));
      most = c.loop-low.invariant.most;
    }

pub loop-low-preserved : goal.loop-low-preserved
loop-low-preserved c =
    let f = c.index-files-middle.result in
    record {
      high = omega arith;
      least = c.loop-low.invariant.least;
      most = not_below c.args.id c.args.files.now _ f (omega arith) (omega (arith, c.if-files-middle.false, ap (λ (g : FileRec). g.id) c.index-files-middle.is));
    }
