use Rattle.std.proofs.Common.{◌+◌, sym, subst, arith}
use Rattle.std.specs.Prelude.{slice_set}
use Rattle.drive_runs.proofs.Moved.{AreMoved, moved_on}
use Rattle.drive_runs.proofs.requests.move_all.Goals as goal

pub loop-lane-preserved : goal.loop-lane-preserved
loop-lane-preserved c =
    let cap = c.push_reserved.ensures.capacity in
    let room = c.loop-lane.invariant.1 in
    let k = c.loop-lane.lane-index in
    let next = slice_set c.loop-lane.lanes k c.moved_out.new.lane in (
      subst (λ vs. AreMoved c.args.lanes.now next vs (k + 1)) (sym c.push_reserved.ensures.items)
          (moved_on c.args.lanes.now c.loop-lane.lanes c.loop-lane.moved.items k c.lane-item.result c.moved_out.new.lane c.moved_out.result c.loop-lane.invariant.0 c.loop-lane-test.true c.moved_out.ensures.moved c.moved_out.ensures.name),
      omega arith,
    )
