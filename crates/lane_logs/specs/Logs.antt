-- What the lanes were told: their replies, with their numbers. This project's own.
use Rattle.std.specs.Prelude.{◌≡◌, ◌≤◌, ◌==◌, ℕ, ◌+◌, List, [], ◌∷◌, length, if◌then◌else◌, slice_get, Some, vec_capacity}
use Rattle.plain_files.specs.declared.calls.Numbered.{Numbered}
use Rattle.plain_files.specs.declared.calls.Request.{Request}
use Rattle.plain_files.specs.History.{Entry, requests_of}
use Rattle.lane_logs.specs.declared.logs.LaneLog.{LaneLog}

-- The replies to a lane's calls, in their order, each with its number. The first of all calls has the number that follows `last`.
abbrev pub replies_to : ℕ → ℕ → List Entry → List Numbered
replies_to lane last [] = []
replies_to lane last (e ∷ es) =
    if e.lane == lane
    then record { number = last + 1; reply = e.reply } ∷ replies_to lane (last + 1) es
    else replies_to lane (last + 1) es

-- a log for each lane, with the replies to its calls
pub record AreLogs (lanes last : ℕ) (calls : List Entry) (logs : List LaneLog) : Type 0 where
  pub count : length logs ≡ lanes
  pub lane : (l : ℕ) (log : LaneLog) → slice_get logs l ≡ Some log → log.lane ≡ l
  pub replies : (l : ℕ) (log : LaneLog) → slice_get logs l ≡ Some log → log.entries.items ≡ replies_to l last calls

-- each log has room for the replies to all requests of its lane
abbrev pub HaveRoom : List (List Request) → List LaneLog → Type 0
HaveRoom lanes logs = (l : ℕ) (log : LaneLog) → slice_get logs l ≡ Some log → length (requests_of lanes l) ≤ vec_capacity log.entries
