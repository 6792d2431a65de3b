-- Where the replies to calls stand in the logs of lanes. This project's own.
use Rattle.std.specs.Prelude.{◌≡◌, ◌≢◌, ℕ, ◌+◌, ◌<◌, ◌^◌, List, length, take, slice_get, Some}
use Rattle.plain_files.specs.History.{Entry, calls_in}
use Rattle.lane_logs.specs.declared.logs.LaneLog.{LaneLog}
use Rattle.lane_logs.specs.Logs.{replies_to}

-- the place of the call that follows others: its lane, and its number in the lane, from 1
abbrev pub place_behind : List Entry → Entry → ℕ × ℕ
place_behind before e = (e.lane, length (calls_in e.lane before) + 1)

-- the places of all calls of the lanes below this one, by the calls' numbers
pub record ArePlacesBelow (lane : ℕ) (calls : List Entry) (places : List (ℕ × ℕ)) : Type 0 where
  pub count : length places ≡ length calls
  pub each : (i : ℕ) (e : Entry) → slice_get calls i ≡ Some e → e.lane < lane → slice_get places i ≡ Some (place_behind (take i calls) e)

-- the places of all calls, by their numbers
pub record ArePlaces (calls : List Entry) (places : List (ℕ × ℕ)) : Type 0 where
  pub count : length places ≡ length calls
  pub each : (i : ℕ) (e : Entry) → slice_get calls i ≡ Some e → slice_get places i ≡ Some (place_behind (take i calls) e)

-- the log of a lane of a run with so many calls
pub record IsLogOf (calls : List Entry) (log : LaneLog) (many : ℕ) : Type 0 where
  pub replies : log.entries.items ≡ replies_to log.lane 0 calls
  pub count : length calls ≡ many
  pub few : length calls < 2 ^ 32

-- the first k calls of a lane have got their places, and the places of other lanes' calls stay
pub record HasNoted (lane k : ℕ) (calls : List Entry) (old new : List (ℕ × ℕ)) : Type 0 where
  pub count : length new ≡ length old
  pub noted : (i : ℕ) (e : Entry) → slice_get calls i ≡ Some e → e.lane ≡ lane → length (calls_in lane (take i calls)) < k → slice_get new i ≡ Some (place_behind (take i calls) e)
  pub kept : (i : ℕ) (e : Entry) → slice_get calls i ≡ Some e → e.lane ≢ lane → slice_get new i ≡ slice_get old i
