-- The names of the lanes stay different, and their number grows by a new lane alone.
use Rattle.std.proofs.Common.{◌≡◌, ◌⊎◌, inl, inr, ℕ, ◌+◌, ◌≤◌, ◌<◌, List, [], ◌∷◌, ◌++◌, length, true, false, cond, bytes_eq, refl, arith}
use Rattle.std.specs.List.{IsDistinct, AllByRecursion}
use Rattle.std.proofs.lemmas.Bool.{le-ltb}
use Rattle.plain_files.specs.declared.calls.Request.{Request}
use Rattle.script_words.specs.declared.script.Lane.{Lane}
use Rattle.script_words.specs.Lanes.{place_of}
use Rattle.call_text.specs.Scripts.{with_request, with_lane}
use Rattle.script_words.specs.Lanes.{lane_names}
use Rattle.call_text.specs.Building.{FitsLane}

-- another name is not among the names
abbrev AllOthers : List ℕ → List Lane → Type 0
AllOthers other lanes = AllByRecursion (λ name. bytes_eq other name ≡ false) (lane_names lanes)

others-with_request : (other name : List ℕ) (r : Request) (lanes : List Lane) → bytes_eq other name ≡ false → AllOthers other lanes → AllOthers other (with_request name r lanes)
others-with_request other name r [] differs all = (differs, tt)
others-with_request other name r (l ∷ lanes) differs all =
    elim (bytes_eq l.name name) as (λ b. AllOthers other (cond b (record l { requests = l.requests ++ r ∷ [] } ∷ lanes) (l ∷ with_request name r lanes))) [
      | true ↦ all
      | false ↦ (all.0, others-with_request other name r lanes differs all.1)
    ]

pub distinct-with_request : (name : List ℕ) (r : Request) (lanes : List Lane) → IsDistinct bytes_eq (lane_names lanes) → IsDistinct bytes_eq (lane_names (with_request name r lanes))
unfolding IsDistinct
distinct-with_request name r [] distinct = (tt, tt)
distinct-with_request name r (l ∷ lanes) distinct =
    elim (bytes_eq l.name name) as (λ b. bytes_eq l.name name ≡ b → IsDistinct bytes_eq (lane_names (cond b (record l { requests = l.requests ++ r ∷ [] } ∷ lanes) (l ∷ with_request name r lanes)))) [
      | true ↦ λ _. distinct
      | false ↦ λ differs. (others-with_request l.name name r lanes differs distinct.0, distinct-with_request name r lanes distinct.1)
    ] refl

others-with_lane : (other name : List ℕ) (lanes : List Lane) → bytes_eq other name ≡ false → AllOthers other lanes → AllOthers other (with_lane name lanes)
others-with_lane other name [] differs all = (differs, tt)
others-with_lane other name (l ∷ lanes) differs all =
    elim (bytes_eq l.name name) as (λ b. AllOthers other (cond b (l ∷ lanes) (l ∷ with_lane name lanes))) [
      | true ↦ all
      | false ↦ (all.0, others-with_lane other name lanes differs all.1)
    ]

pub distinct-with_lane : (name : List ℕ) (lanes : List Lane) → IsDistinct bytes_eq (lane_names lanes) → IsDistinct bytes_eq (lane_names (with_lane name lanes))
unfolding IsDistinct
distinct-with_lane name [] distinct = (tt, tt)
distinct-with_lane name (l ∷ lanes) distinct =
    elim (bytes_eq l.name name) as (λ b. bytes_eq l.name name ≡ b → IsDistinct bytes_eq (lane_names (cond b (l ∷ lanes) (l ∷ with_lane name lanes)))) [
      | true ↦ λ _. distinct
      | false ↦ λ differs. (others-with_lane l.name name lanes differs distinct.0, distinct-with_lane name lanes distinct.1)
    ] refl

-- so many lanes, of which the name has one or gets one
abbrev Counted : ℕ → ℕ → ℕ → ℕ → Type 0
Counted place k old new = ((place < k + old) × (new ≡ old)) ⊎ ((k + old ≤ place) × (new ≡ old + 1))

length-with_request : (name : List ℕ) (r : Request) (k : ℕ) (lanes : List Lane) → Counted (place_of name k lanes).0 k (length lanes) (length (with_request name r lanes))
length-with_request name r k [] = inr (omega arith, omega arith)
length-with_request name r k (l ∷ lanes) =
    elim (bytes_eq l.name name) as (λ b. Counted (cond {A = ℕ × ℕ} b (k, length l.requests) (place_of name (k + 1) lanes)).0 k (length (l ∷ lanes)) (length (cond b (record l { requests = l.requests ++ r ∷ [] } ∷ lanes) (l ∷ with_request name r lanes)))) [
      | true ↦ inl (omega arith, refl)
      | false ↦ elim (length-with_request name r (k + 1) lanes) [ inl w ↦ inl (omega arith, omega arith) | inr w ↦ inr (omega arith, omega arith) ]
    ]

length-with_lane : (name : List ℕ) (k : ℕ) (lanes : List Lane) → Counted (place_of name k lanes).0 k (length lanes) (length (with_lane name lanes))
length-with_lane name k [] = inr (omega arith, omega arith)
length-with_lane name k (l ∷ lanes) =
    elim (bytes_eq l.name name) as (λ b. Counted (cond {A = ℕ × ℕ} b (k, length l.requests) (place_of name (k + 1) lanes)).0 k (length (l ∷ lanes)) (length (cond b (l ∷ lanes) (l ∷ with_lane name lanes)))) [
      | true ↦ inl (omega arith, refl)
      | false ↦ elim (length-with_lane name (k + 1) lanes) [ inl w ↦ inl (omega arith, omega arith) | inr w ↦ inr (omega arith, omega arith) ]
    ]

few : (name : List ℕ) (lanes : List Lane) (new : ℕ) → FitsLane name lanes → length lanes ≤ 32 → Counted (place_of name 0 lanes).0 0 (length lanes) new → new ≤ 32
few name lanes new fits short (inl w) = let e = w.1 in omega (arith, e, short)
few name lanes new fits short (inr w) =
    let e = w.1 in
    let past : length lanes ≤ (place_of name 0 lanes).0 = let h = w.0 in omega (arith, h) in
    let room : length lanes < 32 = fits.few (le-ltb _ _ past) in
    omega (arith, e, room)

pub few-with_request : (name : List ℕ) (r : Request) (lanes : List Lane) → FitsLane name lanes → length lanes ≤ 32 → length (with_request name r lanes) ≤ 32
few-with_request name r lanes fits short = few name lanes _ fits short (length-with_request name r 0 lanes)

pub few-with_lane : (name : List ℕ) (lanes : List Lane) → FitsLane name lanes → length lanes ≤ 32 → length (with_lane name lanes) ≤ 32
few-with_lane name lanes fits short = few name lanes _ fits short (length-with_lane name 0 lanes)
