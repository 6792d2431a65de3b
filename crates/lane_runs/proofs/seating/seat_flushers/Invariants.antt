use Rattle.std.proofs.Common.{◌≡◌, ◌+◌, List, length}
use Rattle.plain_files.specs.declared.calls.Request.{Request}
use Rattle.crews.specs.Crews.{Each}
use Rattle.lane_runs.specs.Seating.{IsNew, IsSharing}
use Rattle.lane_runs.proofs.seating.seat_flushers.Given as goal

abbrev pub invariant-loop-number : goal.invariant-loop-number
invariant-loop-number g l =
    IsSharing l.turn (length l.posts.items) l.root
    × (length l.posts.items ≡ length l.initial.posts.items + l.number)
    × ((lanes : List (List Request)) → length lanes + l.crew.workers ≡ length l.initial.posts.items → Each (IsNew lanes l.turn) l.initial.posts.items → Each (IsNew lanes l.turn) l.posts.items)
