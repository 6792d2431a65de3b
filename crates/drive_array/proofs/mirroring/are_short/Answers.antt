use Rattle.std.proofs.Common.{arith}
use Rattle.drive_array.proofs.Pairs.{short_more}
use Rattle.drive_array.proofs.mirroring.are_short.Goals as goal

pub loop-plan-preserved : goal.loop-plan-preserved
loop-plan-preserved c =
    short_more c.args.plans.now c.loop-plan.plan-index c.plan-item.result c.loop-plan-test.true c.plan-item.is (record {
      reads = omega (arith, c.len.ensures, c.if-len-ge-TOO_LONG.false);
      writes = omega (arith, c.len-else-len-ge-TOO_LONG.ensures, c.if-len-ge-TOO_LONG-2.false);
    }) c.loop-plan.invariant
