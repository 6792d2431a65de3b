-- What the reader keeps at each step, by the equations that the step leaves.
use Rattle.std.proofs.Common.{◌≡◌, ℕ, ◌+◌, ◌<◌, List, [], ◌∷◌, ◌++◌, length, map, ◌∙◌, Bool, true, false, subst, sym, refl, ap, arith}
use Rattle.std.specs.Prelude.{IsTrue, ◌||◌, ◌&&◌, not, nat_le, is_some, Option, Some, None, Ok, count_by, ◌≤◌, ◌^◌}
use Rattle.std.proofs.lemmas.Bool.Decides.{nat_tests}
use Rattle.std.proofs.lemmas.List.{length-map}
use Rattle.std.proofs.lemmas.List.Sums.{count_by-le-length}
use Rattle.std.proofs.lemmas.List.Splits.{length-slice_split}
use Rattle.sbpf_text.specs.Lexing.{lines, is_line_end}
use Rattle.call_text.specs.declared.verb.Verb.{Verb}
use Rattle.call_text.specs.Blocks.{Block}
use Rattle.call_text.specs.Calls.{call_of}
use Rattle.plain_files.specs.declared.calls.Call.{Call}
use Rattle.script_words.specs.declared.script.Lane.{Lane}
use Rattle.call_text.specs.declared.building.Await.{Await}
use Rattle.call_text.specs.declared.building.Building.{Building}
use Rattle.script_words.specs.Words.{is_lane}
use Rattle.script_words.specs.Lanes.{place_of, has_lane}
use Rattle.call_text.specs.Awaits.{awaited, await_of, without_await}
use Rattle.call_text.specs.Limits.{has_call}
use Rattle.call_text.specs.Scripts.{with_request, with_lane, behind_lane}
use Rattle.call_text.specs.Order.{HasEnded}
use Rattle.call_text.specs.Building.{AreCalls, FitsLane, FitsLine}
use Rattle.call_text.proofs.Kept.{HasEnded-awaited, AreCalls-nothing, AreCalls-with_call, AreCalls-with_await}

pub kept_nothing : (lanes : List Lane) (order : List (ℕ × ℕ)) (awaits : List Await) → lanes ≡ [] → order ≡ [] → awaits ≡ [] → AreCalls lanes order awaits
kept_nothing lanes order awaits no_lanes no_order no_awaits =
    subst (λ (ls : List Lane). AreCalls ls order awaits) (sym no_lanes) (subst (λ (os : List (ℕ × ℕ)). AreCalls [] os awaits) (sym no_order) (subst (λ (ws : List Await). AreCalls [] [] ws) (sym no_awaits) AreCalls-nothing))

pub kept_await : (lanes new : List Lane) (order : List (ℕ × ℕ)) (awaits new_awaits : List Await) (name : List ℕ) (call place : ℕ × ℕ) → AreCalls lanes order awaits → FitsLane name lanes → HasEnded order call → place ≡ place_of name 0 lanes → new ≡ with_lane name lanes → new_awaits ≡ awaits ++ record { lane = place.0; call = call } ∷ [] → AreCalls new order new_awaits
kept_await lanes new order awaits new_awaits name call place calls fits ended at is awaits_are =
    subst (λ (ls : List Lane). AreCalls ls order new_awaits) (sym is)
    (subst (λ (ws : List Await). AreCalls (with_lane name lanes) order ws) (sym awaits_are)
    (subst (λ (p : ℕ × ℕ). AreCalls (with_lane name lanes) order (awaits ++ record { lane = p.0; call = call } ∷ [])) (sym at) (AreCalls-with_await lanes order awaits name call calls fits ended)))

pub kept_call : (lanes new : List Lane) (order new_order : List (ℕ × ℕ)) (awaits new_awaits : List Await) (name : List ℕ) (call : Call) (waits : Option (ℕ × ℕ)) (place : ℕ × ℕ) → AreCalls lanes order awaits → FitsLane name lanes → length order < 10000 → place ≡ place_of name 0 lanes → waits ≡ await_of place.0 awaits → new ≡ with_request name (record { call = call; awaits = waits }) lanes → new_order ≡ order ++ (place.0, place.1 + 1) ∷ [] → new_awaits ≡ without_await place.0 awaits → AreCalls new new_order new_awaits
kept_call lanes new order new_order awaits new_awaits name call waits place calls fits few at waits_are is order_is awaits_are =
    subst (λ (ls : List Lane). AreCalls ls new_order new_awaits) (sym is)
    (subst (λ (w : Option (ℕ × ℕ)). AreCalls (with_request name (record { call = call; awaits = w }) lanes) new_order new_awaits) (sym waits_are)
    (subst (λ (os : List (ℕ × ℕ)). AreCalls (with_request name (record { call = call; awaits = await_of place.0 awaits }) lanes) os new_awaits) (sym order_is)
    (subst (λ (ws : List Await). AreCalls (with_request name (record { call = call; awaits = await_of place.0 awaits }) lanes) (order ++ (place.0, place.1 + 1) ∷ []) ws) (sym awaits_are)
    (subst (λ (p : ℕ × ℕ). AreCalls (with_request name (record { call = call; awaits = await_of p.0 awaits }) lanes) (order ++ (p.0, p.1 + 1) ∷ []) (without_await p.0 awaits)) (sym at) (AreCalls-with_call lanes order awaits name call calls fits few)))))

-- ---- the limits of a line

parts_of_limit : (new many call full more : Bool) → (new && many) || (call && full) || more ≡ false → (new ≡ true → many ≡ false) × (call ≡ true → full ≡ false)
parts_of_limit new many call full more h = (λ a. grind (arith, nat_tests), λ a. grind (arith, nat_tests))

-- a line that breaks no limit leaves room for its lane
pub fits_lane : (b : Building) (name : List ℕ) (rest : List (List ℕ)) → IsTrue (is_lane name) → FitsLine b name rest → FitsLane name b.lanes.items
fits_lane b name rest formed fits = record {
  few = λ new.
      let parts = parts_of_limit (not (has_lane name b.lanes.items)) (nat_le 32 (length b.lanes.items)) (has_call rest) (nat_le 10000 (length b.order.items)) _ (fits formed) in
      let many = parts.0 (ap not new) in
      grind (arith, nat_tests);
}

-- and for its call
pub fits_call : (b : Building) (name : List ℕ) (rest : List (List ℕ)) → IsTrue (is_lane name) → FitsLine b name rest → has_call rest ≡ true → length b.order.items < 10000
fits_call b name rest formed fits call =
    let parts = parts_of_limit (not (has_lane name b.lanes.items)) (nat_le 32 (length b.lanes.items)) (has_call rest) (nat_le 10000 (length b.order.items)) _ (fits formed) in
    let full = parts.1 call in
    grind (arith, nat_tests)

-- a call that was found has a first word
pub verb_found : (formed : Bool) (blocks : List Block) (verb : Option Verb) (args : List (List ℕ)) (call : Call) → behind_lane formed (call_of blocks verb args) ≡ Ok call → is_some verb ≡ true
unfolding call_of
verb_found formed blocks None args call is = cc
verb_found formed blocks (Some verb) args call is = refl

-- a text of 16 MiB has few lines
pub few_lines : {A : Type 0} → (text : List ℕ) (parts : List A) (part : A → List ℕ) → map part parts ≡ lines text → length text ≤ 2 ^ 24 → length parts ≤ 2 ^ 24 + 1
few_lines text parts part is short =
    let all : length parts ≡ count_by is_line_end text + 1 = sym (length-map parts part) ∙ ap (λ ls. length ls) is ∙ length-slice_split is_line_end text in
    let most = count_by-le-length is_line_end text in
    omega (arith, all, most, short)

-- a call that may be awaited has been made
pub ended_at : (lanes ls : List Lane) (order : List (ℕ × ℕ)) (awaits : List Await) (word : List ℕ) (call : ℕ × ℕ) → AreCalls lanes order awaits → ls ≡ lanes → Some call ≡ awaited ls word → HasEnded order call
ended_at lanes ls order awaits word call calls same is = HasEnded-awaited lanes order awaits word call calls (sym (ap (λ (x : List Lane). awaited x word) same) ∙ sym is)
