use Rattle.std.proofs.Common.{◌≡◌, length, map}
use Rattle.crews.specs.Crews.{Each}
use Rattle.lane_runs.specs.Seating.{IsNew, IsSharing}
use Rattle.lane_runs.proofs.Seats.{IsUntouched}
use Rattle.lane_runs.proofs.seating.seat_lanes.Given as goal

abbrev pub invariant-loop-requests : goal.invariant-loop-requests
invariant-loop-requests g l =
    IsSharing l.turn (length l.posts.items) l.root
    × (length l.posts.items ≡ l.requests-index)
    × (l.lane ≡ l.requests-index)
    × IsUntouched l.initial.lanes l.lanes l.requests-index
    × Each (IsNew (map (λ v. v.items) l.initial.lanes) l.turn) l.posts.items
