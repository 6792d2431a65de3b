use Rattle.std.proofs.Common.{◌≡◌, ℕ, [], length}
use Rattle.std.specs.Prelude.{vec_capacity}
use Rattle.script_words.specs.Lanes.{requests_by_lane}
use Rattle.lane_logs.specs.Logs.{AreLogs, HaveRoom}
use Rattle.lane_logs.proofs.logs.empty_logs.Given as goal

abbrev pub invariant-loop-i : goal.invariant-loop-i
invariant-loop-i l = ((last : ℕ) → AreLogs l.i last [] l.logs.items) × HaveRoom (requests_by_lane l.lanes) l.logs.items × (length l.logs.items ≡ l.i) × (vec_capacity l.logs ≡ length l.lanes)
