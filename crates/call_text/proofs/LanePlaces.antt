-- Where the lane of a name stands.
use Rattle.std.proofs.Common.{◌≡◌, ℕ, zero, suc, ◌+◌, ◌<◌, ◌≤◌, List, [], ◌∷◌, ◌++◌, length, get_or, set, Bool, true, false, bytes_eq, ap, ◌∙◌, sym, refl, arith}
use Rattle.std.proofs.lemmas.Bool.{cond-true, cond-false}
use Rattle.plain_files.specs.declared.calls.Request.{Request}
use Rattle.script_words.specs.declared.script.Lane.{Lane}
use Rattle.script_words.specs.Lanes.{place_of}
use Rattle.call_text.specs.Scripts.{with_request, with_lane}

-- a place behind n lanes is at least n
place-ge : (name : List ℕ) (n : ℕ) (lanes : List Lane) → n ≤ (place_of name n lanes).0
place-ge name n [] = omega arith
place-ge name n (lane ∷ lanes) = go (place-ge name (n + 1) lanes) (bytes_eq lane.name name) refl
  where
    go : n + 1 ≤ (place_of name (n + 1) lanes).0 → (b : Bool) → bytes_eq lane.name name ≡ b → n ≤ (place_of name n (lane ∷ lanes)).0
    go low true named = let at = ap (λ (p : ℕ × ℕ). p.0) (cond-true (bytes_eq lane.name name) (n, length lane.requests) (place_of name (n + 1) lanes) named) in omega (arith, at)
    go low false other =
        let at = ap (λ (p : ℕ × ℕ). p.0) (cond-false (bytes_eq lane.name name) (n, length lane.requests) (place_of name (n + 1) lanes) other) in
        omega (arith, at, low)

-- a new lane comes last
request_of_new : (name : List ℕ) (n : ℕ) (lanes : List Lane) (r : Request) → n + length lanes ≤ (place_of name n lanes).0 → with_request name r lanes ≡ lanes ++ record { name = name; requests = r ∷ [] } ∷ []
request_of_new name n [] r past = refl
request_of_new name n (lane ∷ lanes) r past = go (λ h. request_of_new name (n + 1) lanes r h) (bytes_eq lane.name name) refl
  where
    go : (n + 1 + length lanes ≤ (place_of name (n + 1) lanes).0 → with_request name r lanes ≡ lanes ++ record { name = name; requests = r ∷ [] } ∷ []) → (b : Bool) → bytes_eq lane.name name ≡ b → with_request name r (lane ∷ lanes) ≡ lane ∷ lanes ++ record { name = name; requests = r ∷ [] } ∷ []
    go rest true named = let at = ap (λ (p : ℕ × ℕ). p.0) (cond-true (bytes_eq lane.name name) (n, length lane.requests) (place_of name (n + 1) lanes) named) in absurd (omega (arith, at))
    go rest false other =
        let at = ap (λ (p : ℕ × ℕ). p.0) (cond-false (bytes_eq lane.name name) (n, length lane.requests) (place_of name (n + 1) lanes) other) in
        cond-false _ _ _ other ∙ ap (λ ls. lane ∷ ls) (rest (omega (arith, at)))

lane_of_new : (name : List ℕ) (n : ℕ) (lanes : List Lane) → n + length lanes ≤ (place_of name n lanes).0 → with_lane name lanes ≡ lanes ++ record { name = name; requests = [] } ∷ []
lane_of_new name n [] past = refl
lane_of_new name n (lane ∷ lanes) past = go (λ h. lane_of_new name (n + 1) lanes h) (bytes_eq lane.name name) refl
  where
    go : (n + 1 + length lanes ≤ (place_of name (n + 1) lanes).0 → with_lane name lanes ≡ lanes ++ record { name = name; requests = [] } ∷ []) → (b : Bool) → bytes_eq lane.name name ≡ b → with_lane name (lane ∷ lanes) ≡ lane ∷ lanes ++ record { name = name; requests = [] } ∷ []
    go rest true named = let at = ap (λ (p : ℕ × ℕ). p.0) (cond-true (bytes_eq lane.name name) (n, length lane.requests) (place_of name (n + 1) lanes) named) in absurd (omega (arith, at))
    go rest false other =
        let at = ap (λ (p : ℕ × ℕ). p.0) (cond-false (bytes_eq lane.name name) (n, length lane.requests) (place_of name (n + 1) lanes) other) in
        cond-false _ _ _ other ∙ ap (λ ls. lane ∷ ls) (rest (omega (arith, at)))

-- a lane that is there stays where it is
lane_of_old : (name : List ℕ) (n : ℕ) (lanes : List Lane) → (place_of name n lanes).0 < n + length lanes → lanes ≡ with_lane name lanes
lane_of_old name n [] within = absurd (omega arith)
lane_of_old name n (lane ∷ lanes) within = go (λ h. lane_of_old name (n + 1) lanes h) (bytes_eq lane.name name) refl
  where
    go : ((place_of name (n + 1) lanes).0 < n + 1 + length lanes → lanes ≡ with_lane name lanes) → (b : Bool) → bytes_eq lane.name name ≡ b → lane ∷ lanes ≡ with_lane name (lane ∷ lanes)
    go rest true named = sym (cond-true _ _ _ named)
    go rest false other =
        let at = ap (λ (p : ℕ × ℕ). p.0) (cond-false (bytes_eq lane.name name) (n, length lane.requests) (place_of name (n + 1) lanes) other) in
        ap (λ ls. lane ∷ ls) (rest (omega (arith, at))) ∙ sym (cond-false _ _ _ other)

-- and gets a request more
request_of_old : (name : List ℕ) (n i : ℕ) (lanes : List Lane) (r : Request) (lane new : Lane) → (place_of name n lanes).0 ≡ n + i → i < length lanes → lane ≡ get_or lanes i lane → new ≡ record lane { requests = lane.requests ++ r ∷ [] } → set lanes i new ≡ with_request name r lanes
request_of_old name n i [] r lane new at within here is = absurd (omega arith)
request_of_old name n zero (first ∷ lanes) r lane new at within here is = go (bytes_eq first.name name) refl
  where
    go : (b : Bool) → bytes_eq first.name name ≡ b → new ∷ lanes ≡ with_request name r (first ∷ lanes)
    go true named = ap (λ l. l ∷ lanes) (is ∙ ap (λ (l : Lane). let m : Lane = record l { requests = l.requests ++ r ∷ [] } in m) here) ∙ sym (cond-true _ _ _ named)
    go false other =
        let behind = ap (λ (p : ℕ × ℕ). p.0) (cond-false (bytes_eq first.name name) (n, length first.requests) (place_of name (n + 1) lanes) other) in
        let low = place-ge name (n + 1) lanes in
        absurd (omega (arith, at, behind, low))
request_of_old name n (suc i) (first ∷ lanes) r lane new at within here is = go (λ h. request_of_old name (n + 1) i lanes r lane new h (omega (arith, within)) here is) (bytes_eq first.name name) refl
  where
    go : ((place_of name (n + 1) lanes).0 ≡ n + 1 + i → set lanes i new ≡ with_request name r lanes) → (b : Bool) → bytes_eq first.name name ≡ b → first ∷ set lanes i new ≡ with_request name r (first ∷ lanes)
    go rest true named =
        let front = ap (λ (p : ℕ × ℕ). p.0) (cond-true (bytes_eq first.name name) (n, length first.requests) (place_of name (n + 1) lanes) named) in
        absurd (omega (arith, at, front))
    go rest false other =
        let behind = ap (λ (p : ℕ × ℕ). p.0) (cond-false (bytes_eq first.name name) (n, length first.requests) (place_of name (n + 1) lanes) other) in
        ap (λ ls. first ∷ ls) (rest (omega (arith, at, behind))) ∙ sym (cond-false _ _ _ other)

-- ---- the same of a place that was looked up

pub put_new : (name : List ℕ) (lanes : List Lane) (place : ℕ × ℕ) (r : Request) → place ≡ place_of name 0 lanes → length lanes ≤ place.0 → lanes ++ record { name = name; requests = r ∷ [] } ∷ [] ≡ with_request name r lanes
put_new name lanes place r is past = let at = ap (λ (p : ℕ × ℕ). p.0) is in sym (request_of_new name 0 lanes r (omega (arith, at, past)))

pub put_old : (name : List ℕ) (lanes : List Lane) (place : ℕ × ℕ) (r : Request) (lane new : Lane) → place ≡ place_of name 0 lanes → place.0 < length lanes → lane ≡ get_or lanes place.0 lane → new ≡ record lane { requests = lane.requests ++ r ∷ [] } → set lanes place.0 new ≡ with_request name r lanes
put_old name lanes place r lane new is within here new_is = let at = ap (λ (p : ℕ × ℕ). p.0) is in request_of_old name 0 place.0 lanes r lane new (omega (arith, at)) within here new_is

pub lane_new : (name : List ℕ) (lanes : List Lane) (place : ℕ × ℕ) → place ≡ place_of name 0 lanes → length lanes ≤ place.0 → lanes ++ record { name = name; requests = [] } ∷ [] ≡ with_lane name lanes
lane_new name lanes place is past = let at = ap (λ (p : ℕ × ℕ). p.0) is in sym (lane_of_new name 0 lanes (omega (arith, at, past)))

pub lane_old : (name : List ℕ) (lanes : List Lane) (place : ℕ × ℕ) → place ≡ place_of name 0 lanes → place.0 < length lanes → lanes ≡ with_lane name lanes
lane_old name lanes place is within = let at = ap (λ (p : ℕ × ℕ). p.0) is in lane_of_old name 0 lanes (omega (arith, at, within))
