use Rattle.std.proofs.Common.{◌≡◌, ◌≤◌, length}
use Rattle.std.specs.Prelude.{vec_capacity}
use Rattle.crew_runs.proofs.Logging.{AreLeft, AreTaken}
use Rattle.crew_runs.proofs.logs.take_logs.Given as goal

abbrev pub invariant-loop-i : goal.invariant-loop-i
invariant-loop-i g l =
    AreTaken l.initial.posts l.logs.items × AreLeft l.initial.posts l.posts l.i
    × (length l.logs.items ≡ l.i)
    × (l.lanes ≤ vec_capacity l.logs)
