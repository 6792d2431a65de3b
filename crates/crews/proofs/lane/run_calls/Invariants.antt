use Rattle.std.proofs.Common.{◌≡◌, ◌≤◌, length}
use Rattle.std.specs.Prelude.{take, vec_capacity}
use Rattle.system_state.specs.Cores.{core_of}
use Rattle.crews.specs.Seats.{view_at, opening_at, table_at, IsFreeSeat}
use Rattle.crews.proofs.LaneRuns.{Called}
use Rattle.crews.proofs.lane.run_calls.Given as goal

abbrev pub invariant-loop-request : goal.invariant-loop-request
invariant-loop-request g l =
    IsFreeSeat l.desk
    × ((table_at l.desk ≡ table_at l.initial.desk) × (opening_at l.desk ≡ opening_at l.initial.desk))
    × Called (core_of g.D.Die.seen) (opening_at l.initial.desk).value.last (opening_at l.initial.desk) (view_at l.initial.desk) (view_at l.desk) l.lane (take l.request-index l.requests) l.log.items
    × ((length l.log.items ≡ l.request-index) × (vec_capacity l.initial.log ≤ vec_capacity l.log))
    × (l.k ≡ l.request-index)
