-- Lanes by their names, their requests, and words that name a call of a lane. It is this project's own.
use Rattle.std.specs.Prelude.{ℕ, ◌+◌, List, [], ◌∷◌, length, map, take, drop, Bool, ◌==◌, nat_lt, bytes_eq, if◌then◌else◌}
use Rattle.std.specs.List.{position_or_len}
use Rattle.plain_files.specs.declared.calls.Request.{Request}
use Rattle.script_words.specs.declared.script.Lane.{Lane}
use Rattle.script_words.specs.declared.script.Script.{Script}

-- which lane has a name, behind n others, and how many requests it has; a new lane comes last
abbrev pub place_of : List ℕ → ℕ → List Lane → ℕ × ℕ
place_of name n [] = (n, 0)
place_of name n (lane ∷ lanes) = if bytes_eq lane.name name then (n, length lane.requests) else place_of name (n + 1) lanes

-- some lane has the name
abbrev pub has_lane : List ℕ → List Lane → Bool
has_lane name lanes = nat_lt (place_of name 0 lanes).0 (length lanes)

-- the requests of each lane
abbrev pub requests_by_lane : List Lane → List (List Request)
requests_by_lane lanes = map (λ lane. lane.requests) lanes

abbrev pub requests : Script → List (List Request)
requests s = requests_by_lane s.lanes

-- the names of the lanes
abbrev pub lane_names : List Lane → List (List ℕ)
lane_names lanes = map (λ lane. lane.name) lanes

abbrev pub names : Script → List (List ℕ)
names s = lane_names s.lanes

-- ---- `LANE.K`

-- a point (46)
abbrev pub is_point : ℕ → Bool
is_point b = b == 46

-- `LANE`: what stands ahead of the first point
abbrev pub lane_part : List ℕ → List ℕ
lane_part word = take (position_or_len is_point word) word

-- `K`: what stands behind it
abbrev pub number_part : List ℕ → List ℕ
number_part word = drop (position_or_len is_point word + 1) word
