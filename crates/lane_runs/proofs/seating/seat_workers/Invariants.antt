use Rattle.std.proofs.Common.{◌≡◌, ◌+◌, List, length}
use Rattle.plain_files.specs.declared.calls.Request.{Request}
use Rattle.crews.specs.Crews.{Each}
use Rattle.lane_runs.specs.Seating.{IsNew, IsSharing}
use Rattle.lane_runs.proofs.seating.seat_workers.Given as goal

abbrev pub invariant-loop-worker : goal.invariant-loop-worker
invariant-loop-worker g l =
    IsSharing l.turn (length l.posts.items) l.root
    × (length l.posts.items ≡ length l.initial.posts.items + l.worker)
    × ((lanes : List (List Request)) → length lanes ≡ length l.initial.posts.items → Each (IsNew lanes l.turn) l.initial.posts.items → Each (IsNew lanes l.turn) l.posts.items)
