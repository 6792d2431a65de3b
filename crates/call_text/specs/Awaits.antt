-- The calls that lanes wait for. It is this project's own.
use Rattle.std.specs.Prelude.{ℕ, List, [], ◌∷◌, Bool, true, false, not, ◌&&◌, ◌||◌, ◌==◌, bytes_eq, filter, Option, is_some}
use Rattle.std.specs.List.{find}
use Rattle.std.specs.Option.{option_map}
use Rattle.sbpf_text.specs.Lexing.{ends_with_colon, without_last}
use Rattle.script_words.specs.declared.script.Lane.{Lane}
use Rattle.call_text.specs.declared.building.Await.{Await}
use Rattle.script_words.specs.Words.{words, number_in}
use Rattle.script_words.specs.Lanes.{place_of, lane_part, number_part}
use Rattle.call_text.specs.Blocks.{begins_block, ends_block}
use Rattle.call_text.specs.Calls.{verb_of}

-- the call `L.K`, by the number of its lane: one of the calls that lane L has so far, counted from 1
unfoldable pub awaited : List Lane → List ℕ → Option (ℕ × ℕ)
awaited lanes word =
    let place = place_of (lane_part word) 0 lanes in
    option_map (λ k. (place.0, k)) (number_in 1 place.1 (number_part word))

-- ---- awaits whose calls are still to come

-- an await is the lane's
abbrev pub is_await_of : ℕ → Await → Bool
is_await_of lane await = await.lane == lane

-- the call that the lane's next call waits for
abbrev pub await_of : ℕ → List Await → Option (ℕ × ℕ)
await_of lane awaits = option_map (λ await. await.call) (find (is_await_of lane) awaits)

-- the awaits of the other lanes
abbrev pub without_await : ℕ → List Await → List Await
without_await lane awaits = filter (λ await. not (is_await_of lane await)) awaits

-- ---- later lines

-- the first two words are the lane, with its colon, and the first word of a call
abbrev pub calls : List ℕ → List (List ℕ) → Bool
calls name (lane ∷ verb ∷ args) = ends_with_colon lane && bytes_eq (without_last lane) name && is_some (verb_of verb)
calls name _ = false

-- a line has a call of the lane, whatever else is wrong with it
abbrev pub is_call_of : List ℕ → List ℕ → Bool
is_call_of name line = calls name (words line)

-- one of the lines has a call of the lane, outside the blocks; at first a block is open or not
abbrev pub is_called_later : List ℕ → Bool → List (List ℕ) → Bool
is_called_later name in_block [] = false
is_called_later name true (line ∷ rest) = is_called_later name (not (ends_block line)) rest
is_called_later name false (line ∷ rest) = is_call_of name line || is_called_later name (begins_block line) rest
