use Rattle.std.proofs.Common.{◌≤◌, length}
use Rattle.std.specs.Prelude.{vec_capacity}
use Rattle.drive_runs.proofs.Moved.{AreMoved}
use Rattle.drive_runs.proofs.requests.move_all.Given as goal

abbrev pub invariant-loop-lane : goal.invariant-loop-lane
invariant-loop-lane l = AreMoved l.initial.lanes l.lanes l.moved.items l.lane-index × (length l.initial.lanes ≤ vec_capacity l.moved)
