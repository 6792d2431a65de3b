-- What the reader keeps when a call or an await is added.
use Rattle.std.proofs.Common.{◌≡◌, ℕ, ◌+◌, ◌≤◌, ◌<◌, List, [], ◌∷◌, ◌++◌, length, true, false, cond, eqb, Option, Some, None, subst, refl, arith, length-append}
use Rattle.std.specs.Prelude.{IfSome, not, option_and_then}
use Rattle.std.specs.List.{find, IsDistinct}
use Rattle.std.specs.Option.{option_map}
use Rattle.std.proofs.lemmas.Bool.Decides.{nat_tests}
use Rattle.plain_files.specs.declared.calls.Call.{Call}
use Rattle.plain_files.specs.declared.calls.Request.{Request}
use Rattle.script_words.specs.declared.script.Lane.{Lane}
use Rattle.call_text.specs.declared.building.Await.{Await}
use Rattle.sbpf_text.specs.Numbers.{decimal_number}
use Rattle.script_words.specs.Words.{within, number_in}
use Rattle.script_words.specs.Lanes.{place_of, lane_part, number_part}
use Rattle.call_text.specs.Awaits.{awaited, is_await_of, await_of, without_await}
use Rattle.call_text.specs.Scripts.{with_request, with_lane}
use Rattle.script_words.specs.Lanes.{requests_by_lane}
use Rattle.call_text.specs.Order.{HasEnded}
use Rattle.call_text.specs.Building.{AreFor, AreCalls, FitsLane, HasRoom}
use Rattle.call_text.proofs.Orders.{grown, extended, awaited-extended, in_order-with_lane, awaited-with_lane, count_in-le-length, count_in-grows, all_counted, count_at}
use Rattle.call_text.proofs.Names.{distinct-with_request, distinct-with_lane, few-with_request, few-with_lane}

-- ---- room

pub HasRoom-calls : (lanes : List Lane) (order : List (ℕ × ℕ)) (awaits : List Await) → AreCalls lanes order awaits → HasRoom lanes
HasRoom-calls lanes order awaits calls = record {
  few_lanes = calls.few_lanes;
  few_calls = λ name.
      let place = (place_of name 0 lanes).0 in
      let counted = all_counted (requests_by_lane lanes) [] order place calls.ordered in
      let at = count_at name lanes in
      let most = count_in-le-length place order in
      let few = calls.few_calls in
      omega (arith, counted, at, most, few);
}

-- ---- awaits that are left

ended-grows : (order : List (ℕ × ℕ)) (place call : ℕ × ℕ) → HasEnded order call → HasEnded (order ++ place ∷ []) call
ended-grows order place call ended = let more = count_in-grows call.0 order place in let h = ended.1 in (ended.0, omega (arith, h, more))

pending-grows : (order : List (ℕ × ℕ)) (place : ℕ × ℕ) (awaits : List Await) → AreFor order awaits → AreFor (order ++ place ∷ []) awaits
pending-grows order place [] all = tt
pending-grows order place (w ∷ awaits) all = (ended-grows order place w.call all.0, pending-grows order place awaits all.1)

pending-left : (order : List (ℕ × ℕ)) (lane : ℕ) (awaits : List Await) → AreFor order awaits → AreFor order (without_await lane awaits)
pending-left order lane [] all = tt
pending-left order lane (w ∷ awaits) all =
    elim (eqb w.lane lane) as (λ b. AreFor order (cond (not b) (w ∷ without_await lane awaits) (without_await lane awaits))) [
      | true ↦ pending-left order lane awaits all.1
      | false ↦ (all.0, pending-left order lane awaits all.1)
    ]

pending-push : (order : List (ℕ × ℕ)) (w : Await) (awaits : List Await) → AreFor order awaits → HasEnded order w.call → AreFor order (awaits ++ w ∷ [])
pending-push order w [] all ended = (ended, tt)
pending-push order w (x ∷ awaits) all ended = (all.0, pending-push order w awaits all.1 ended)

pending-of : (order : List (ℕ × ℕ)) (lane : ℕ) (awaits : List Await) → AreFor order awaits → IfSome (await_of lane awaits) (HasEnded order)
pending-of order lane [] all = tt
pending-of order lane (w ∷ awaits) all =
    elim (eqb w.lane lane) as (λ b. IfSome (option_map (λ (a : Await). a.call) (cond b (Some w) (find (is_await_of lane) awaits))) (HasEnded order)) [
      | true ↦ all.0
      | false ↦ pending-of order lane awaits all.1
    ]

-- ---- a call more

pub AreCalls-with_call : (lanes : List Lane) (order : List (ℕ × ℕ)) (awaits : List Await) (name : List ℕ) (call : Call) → AreCalls lanes order awaits → FitsLane name lanes → length order < 10000 → AreCalls (with_request name (record { call = call; awaits = await_of (place_of name 0 lanes).0 awaits }) lanes) (order ++ ((place_of name 0 lanes).0, (place_of name 0 lanes).1 + 1) ∷ []) (without_await (place_of name 0 lanes).0 awaits)
AreCalls-with_call lanes order awaits name call calls fits few =
    let place : ℕ × ℕ = place_of name 0 lanes in
    let r : Request = record { call = call; awaits = await_of place.0 awaits } in
    let next : ℕ × ℕ = (place.0, place.1 + 1) in
    let grew = grown name r 0 lanes in
    let more : length (order ++ next ∷ []) ≡ length order + 1 = length-append order (next ∷ []) in
    record {
      ordered = extended (requests_by_lane lanes) (requests_by_lane (with_request name r lanes)) place r [] order grew calls.ordered;
      awaited = awaited-extended (requests_by_lane lanes) (requests_by_lane (with_request name r lanes)) place r [] order order refl grew calls.ordered calls.awaited (pending-of order place.0 awaits calls.pending);
      names = distinct-with_request name r lanes calls.names;
      pending = pending-grows order next (without_await place.0 awaits) (pending-left order place.0 awaits calls.pending);
      few_lanes = few-with_request name r lanes fits calls.few_lanes;
      few_calls = omega (arith, more, few);
    }

-- ---- an await more

pub AreCalls-with_await : (lanes : List Lane) (order : List (ℕ × ℕ)) (awaits : List Await) (name : List ℕ) (call : ℕ × ℕ) → AreCalls lanes order awaits → FitsLane name lanes → HasEnded order call → AreCalls (with_lane name lanes) order (awaits ++ record { lane = (place_of name 0 lanes).0; call = call } ∷ [])
AreCalls-with_await lanes order awaits name call calls fits ended = record {
  ordered = in_order-with_lane name lanes order calls.ordered;
  awaited = awaited-with_lane name lanes order calls.awaited;
  names = distinct-with_lane name lanes calls.names;
  pending = pending-push order (record { lane = (place_of name 0 lanes).0; call = call }) awaits calls.pending ended;
  few_lanes = few-with_lane name lanes fits calls.few_lanes;
  few_calls = calls.few_calls;
}

pub AreCalls-nothing : AreCalls [] [] []
unfolding IsDistinct
AreCalls-nothing = record { ordered = λ lane. refl; awaited = tt; names = tt; pending = tt; few_lanes = omega arith; few_calls = omega arith }

-- ---- a call that may be awaited

same_some : {A : Type 0} {x y : A} → Some x ≡ Some y → x ≡ y
same_some h = cc

within_bounds : (low high n k : ℕ) → within low high n ≡ Some k → (low ≤ k) × (k ≤ high)
within_bounds low high n k is = grind (arith, nat_tests)

pub number_in-bounds : (low high : ℕ) (word : List ℕ) (k : ℕ) → number_in low high word ≡ Some k → (low ≤ k) × (k ≤ high)
number_in-bounds low high word k is = go (decimal_number word) is
  where
    go : (o : Option ℕ) → option_and_then (within low high) o ≡ Some k → (low ≤ k) × (k ≤ high)
    go None h = cc
    go (Some n) h = within_bounds low high n k h

pub HasEnded-awaited : (lanes : List Lane) (order : List (ℕ × ℕ)) (awaits : List Await) (word : List ℕ) (call : ℕ × ℕ) → AreCalls lanes order awaits → awaited lanes word ≡ Some call → HasEnded order call
unfolding awaited
HasEnded-awaited lanes order awaits word call calls is = go (number_in 1 place.1 (number_part word)) refl is
  where
    place : ℕ × ℕ
    place = place_of (lane_part word) 0 lanes

    go : (o : Option ℕ) → number_in 1 place.1 (number_part word) ≡ o → option_map (λ k. (place.0, k)) o ≡ Some call → HasEnded order call
    go None found h = cc
    go (Some k) found h =
        let bounds = number_in-bounds 1 place.1 (number_part word) k found in
        let counted = all_counted (requests_by_lane lanes) [] order place.0 calls.ordered in
        let at = count_at (lane_part word) lanes in
        let here : HasEnded order (place.0, k) = (bounds.0, let b = bounds.1 in omega (arith, b, counted, at)) in
        subst (λ (c : ℕ × ℕ). HasEnded order c) (same_some h) here
