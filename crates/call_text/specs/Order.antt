-- The order of a script's calls: it has each call of each lane once, in the order of its lane and behind the call that it
-- awaits. It is this project's own.
use Rattle.std.specs.Prelude.{◌≡◌, ℕ, ◌+◌, ◌≤◌, ◌^◌, List, [], ◌∷◌, ◌++◌, length, bytes_eq, ◌==◌, if◌then◌else◌, Some, slice_get, IfSome, IsTrue}
use Rattle.std.specs.List.{IsDistinct, AllByRecursion, sum_by}
use Rattle.plain_files.specs.declared.calls.Call.{Call}
use Rattle.plain_files.specs.declared.calls.Call.TheVariants.{Write, Append, Load, Readl, Writel}
use Rattle.plain_files.specs.declared.calls.Request.{Request}
use Rattle.plain_files.specs.History.{requests_of}
use Rattle.script_words.specs.declared.script.Lane.{Lane}
use Rattle.script_words.specs.declared.script.Script.{Script}
use Rattle.script_words.specs.Words.{is_lane}
use Rattle.script_words.specs.Lanes.{requests, names}

-- how many of some places are in a lane
abbrev pub count_in : ℕ → List (ℕ × ℕ) → ℕ
count_in lane [] = 0
count_in lane (place ∷ places) = if place.0 == lane then count_in lane places + 1 else count_in lane places

-- A place is a lane and the number of a call in it, from 1. Behind some places, each place is the next call of its lane,
-- and behind the last place no call is left.
abbrev pub InOrder : List (List Request) → List (ℕ × ℕ) → List (ℕ × ℕ) → Type 0
InOrder lanes before [] = (lane : ℕ) → count_in lane before ≡ length (requests_of lanes lane)
InOrder lanes before (place ∷ places) =
    (place.1 ≡ count_in place.0 before + 1)
    × (place.1 ≤ length (requests_of lanes place.0))
    × InOrder lanes (before ++ place ∷ []) places

-- behind some places, the call (lane, k) has been made
abbrev pub HasEnded : List (ℕ × ℕ) → ℕ × ℕ → Type 0
HasEnded before call = (1 ≤ call.1) × (call.1 ≤ count_in call.0 before)

-- behind some places, each place's request comes after the call that it awaits
abbrev pub Awaited : List (List Request) → List (ℕ × ℕ) → List (ℕ × ℕ) → Type 0
Awaited lanes before [] = Unit {0}
Awaited lanes before (place ∷ places) =
    ((r : Request) → slice_get (requests_of lanes place.0) (count_in place.0 before) ≡ Some r → IfSome r.awaits (HasEnded before))
    × Awaited lanes (before ++ place ∷ []) places

-- The order has each call once, in its lane's order and behind the call that it awaits; no two lanes have one name, and each
-- name is well formed.
pub record IsOrdered (s : Script) : Type 0 where
  pub order : InOrder (requests s) [] s.order
  pub awaited : Awaited (requests s) [] s.order
  pub names : IsDistinct bytes_eq (names s)
  pub formed : AllByRecursion (λ lane. IsTrue (is_lane lane.name)) s.lanes

-- the bytes that a call brings: its bytes, parameter and input, and its code
abbrev pub bytes_in : Call → ℕ
bytes_in (Write name off bytes) = length bytes
bytes_in (Append name bytes) = length bytes
bytes_in (Load name code) = length code
bytes_in (Readl file off len function fuel cap param) = length param
bytes_in (Writel file off len function fuel param input) = length param + length input
bytes_in _ = 0

-- the bytes of all requests of a lane, and of all lanes
abbrev pub lane_bytes_in : List Request → ℕ
lane_bytes_in requests = sum_by (λ r. bytes_in r.call) requests

abbrev pub bytes_of_lanes : List Lane → ℕ
bytes_of_lanes lanes = sum_by (λ lane. lane_bytes_in lane.requests) lanes

-- at most 32 lanes, 10,000 calls and 2^28 bytes of calls
pub record IsWithinLimits (s : Script) : Type 0 where
  pub lanes : length s.lanes ≤ 32
  pub calls : length s.order ≤ 10000
  pub bytes : bytes_of_lanes s.lanes ≤ 2 ^ 28
