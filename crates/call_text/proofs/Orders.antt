-- A script that is read stays ordered when a call or an await is added.
use Rattle.std.proofs.Common.{◌≡◌, ◌≢◌, ◌⊎◌, inl, inr, ℕ, zero, suc, ◌+◌, ◌≤◌, ◌<◌, List, [], ◌∷◌, ◌++◌, length, true, false, cond, eqb, Some, None, bytes_eq, ap, subst, ◌∙◌, sym, refl, arith, length-append, append_assoc}
use Rattle.std.specs.Prelude.{slice_get, IfSome}
use Rattle.std.proofs.lemmas.Bool.{cond-true, cond-false, eq-eqb, ne_eqb}
use Rattle.std.proofs.lemmas.List.{append-nil}
use Rattle.plain_files.specs.declared.calls.Request.{Request}
use Rattle.plain_files.specs.declared.calls.Call.TheVariants.{Sync}
use Rattle.plain_files.specs.History.{requests_of}
use Rattle.script_words.specs.declared.script.Lane.{Lane}
use Rattle.script_words.specs.Lanes.{place_of}
use Rattle.call_text.specs.Scripts.{with_request, with_lane}
use Rattle.script_words.specs.Lanes.{requests_by_lane}
use Rattle.call_text.specs.Order.{count_in, InOrder, HasEnded, Awaited}

-- one place more
pub count_in-push : (lane : ℕ) (before : List (ℕ × ℕ)) (place : ℕ × ℕ) → count_in lane (before ++ place ∷ []) ≡ cond (eqb place.0 lane) (count_in lane before + 1) (count_in lane before)
count_in-push lane [] place = refl
count_in-push lane (p ∷ before) place =
    elim (eqb p.0 lane) as (λ b. cond b (count_in lane (before ++ place ∷ []) + 1) (count_in lane (before ++ place ∷ [])) ≡ cond (eqb place.0 lane) (cond b (count_in lane before + 1) (count_in lane before) + 1) (cond b (count_in lane before + 1) (count_in lane before))) [
      | true ↦ elim (eqb place.0 lane) as (λ d. count_in lane (before ++ place ∷ []) ≡ cond d (count_in lane before + 1) (count_in lane before) → count_in lane (before ++ place ∷ []) + 1 ≡ cond d (count_in lane before + 1 + 1) (count_in lane before + 1)) [ true ↦ λ h. ap (λ n. n + 1) h | false ↦ λ h. ap (λ n. n + 1) h ] (count_in-push lane before place)
      | false ↦ count_in-push lane before place
    ]

-- the lane at a place has a request more, or is as before
abbrev pub Grown : ℕ × ℕ → ℕ → ℕ → List Request → List Request → Request → Type 0
Grown place k lane new old r = ((k + lane ≡ place.0) × (new ≡ old ++ r ∷ []) × (length old ≡ place.1)) ⊎ ((k + lane ≢ place.0) × (new ≡ old))

place_from : (name : List ℕ) (k : ℕ) (lanes : List Lane) → k ≤ (place_of name k lanes).0
place_from name k [] = omega arith
place_from name k (l ∷ lanes) = elim (bytes_eq l.name name) as (λ b. k ≤ (cond b (k, length l.requests) (place_of name (k + 1) lanes)).0) [ true ↦ omega arith | false ↦ let h = place_from name (k + 1) lanes in omega (arith, h) ]

pub grown : (name : List ℕ) (r : Request) (k : ℕ) (lanes : List Lane) (lane : ℕ) → Grown (place_of name k lanes) k lane (requests_of (requests_by_lane (with_request name r lanes)) lane) (requests_of (requests_by_lane lanes) lane) r
grown name r k [] zero = inl (omega arith, refl, refl)
grown name r k [] (suc j) = inr (λ e. omega (arith, e), refl)
grown name r k (l ∷ lanes) zero =
    elim (bytes_eq l.name name) as (λ b. Grown (cond b (k, length l.requests) (place_of name (k + 1) lanes)) k zero (requests_of (requests_by_lane (cond b (record l { requests = l.requests ++ r ∷ [] } ∷ lanes) (l ∷ with_request name r lanes))) zero) l.requests r) [
      | true ↦ inl (omega arith, refl, refl)
      | false ↦ let h = place_from name (k + 1) lanes in inr (λ e. omega (arith, h, e), refl)
    ]
grown name r k (l ∷ lanes) (suc j) =
    elim (bytes_eq l.name name) as (λ b. Grown (cond b (k, length l.requests) (place_of name (k + 1) lanes)) k (suc j) (requests_of (requests_by_lane (cond b (record l { requests = l.requests ++ r ∷ [] } ∷ lanes) (l ∷ with_request name r lanes))) (suc j)) (requests_of (requests_by_lane lanes) j) r) [
      | true ↦ inr (λ e. omega (arith, e), refl)
      | false ↦ elim (grown name r (k + 1) lanes j) [ inl w ↦ inl (let h = w.0 in omega (arith, h), w.1, w.2) | inr w ↦ inr (λ e. w.0 (omega (arith, e)), w.1) ]
    ]

pub extended : (lanes new : List (List Request)) (place : ℕ × ℕ) (r : Request) (before places : List (ℕ × ℕ)) → ((lane : ℕ) → Grown place 0 lane (requests_of new lane) (requests_of lanes lane) r) → InOrder lanes before places → InOrder new before (places ++ (place.0, place.1 + 1) ∷ [])
extended lanes new place r before [] grew ordered =
    let here : (length (requests_of lanes place.0) ≡ place.1) × (requests_of new place.0 ≡ requests_of lanes place.0 ++ r ∷ []) = elim (grew place.0) [ inl w ↦ (w.2, w.1) | inr w ↦ absurd (w.0 (omega arith)) ] in
    let counted = ordered place.0 in
    let longer : length (requests_of new place.0) ≡ length (requests_of lanes place.0) + 1 = ap (λ rs. length rs) here.1 ∙ length-append (requests_of lanes place.0) (r ∷ []) in
    let e = here.0 in
    (omega (arith, counted, e), omega (arith, longer, counted, e), λ lane. count_in-push lane before (place.0, place.1 + 1) ∙ last lane (grew lane) (ordered lane))
  where
    last : (lane : ℕ) → Grown place 0 lane (requests_of new lane) (requests_of lanes lane) r → count_in lane before ≡ length (requests_of lanes lane) → cond (eqb place.0 lane) (count_in lane before + 1) (count_in lane before) ≡ length (requests_of new lane)
    last lane (inl w) counted = let at : place.0 ≡ lane = let h = w.0 in omega (arith, h) in let longer : length (requests_of new lane) ≡ length (requests_of lanes lane) + 1 = ap (λ rs. length rs) w.1 ∙ length-append (requests_of lanes lane) (r ∷ []) in cond-true _ _ _ (eq-eqb place.0 lane at) ∙ omega (arith, longer, counted)
    last lane (inr w) counted = cond-false _ _ _ (ne_eqb place.0 lane (λ e. w.0 (omega (arith, e)))) ∙ counted ∙ sym (ap (λ rs. length rs) w.1)
extended lanes new place r before (p ∷ places) grew ordered =
    let longer : length (requests_of lanes p.0) ≤ length (requests_of new p.0) = elim (grew p.0) [ inl w ↦ (let h : length (requests_of new p.0) ≡ length (requests_of lanes p.0) + 1 = ap (λ rs. length rs) w.1 ∙ length-append (requests_of lanes p.0) (r ∷ []) in omega (arith, h)) | inr w ↦ (let h : length (requests_of new p.0) ≡ length (requests_of lanes p.0) = ap (λ rs. length rs) w.1 in omega (arith, h)) ] in
    let e = ordered.1 in
    (ordered.0, omega (arith, e, longer), extended lanes new place r (before ++ p ∷ []) places grew ordered.2)

-- ---- counts

pub count_in-le-length : (lane : ℕ) (places : List (ℕ × ℕ)) → count_in lane places ≤ length places
count_in-le-length lane [] = omega arith
count_in-le-length lane (p ∷ places) =
    let h = count_in-le-length lane places in
    elim (eqb p.0 lane) as (λ b. cond b (count_in lane places + 1) (count_in lane places) ≤ length (p ∷ places)) [ true ↦ omega (arith, h) | false ↦ omega (arith, h) ]

-- a place more leaves no lane fewer calls
pub count_in-grows : (lane : ℕ) (before : List (ℕ × ℕ)) (place : ℕ × ℕ) → count_in lane before ≤ count_in lane (before ++ place ∷ [])
count_in-grows lane before place =
    let more = count_in-push lane before place in
    elim (eqb place.0 lane) as (λ b. count_in lane (before ++ place ∷ []) ≡ cond b (count_in lane before + 1) (count_in lane before) → count_in lane before ≤ count_in lane (before ++ place ∷ [])) [ true ↦ λ h. omega (arith, h) | false ↦ λ h. omega (arith, h) ] more

-- the order has as many calls of a lane as the lane
pub all_counted : (lanes : List (List Request)) (before places : List (ℕ × ℕ)) (lane : ℕ) → InOrder lanes before places → count_in lane (before ++ places) ≡ length (requests_of lanes lane)
all_counted lanes before [] lane ordered = ap (count_in lane) (append-nil before) ∙ ordered lane
all_counted lanes before (p ∷ places) lane ordered = ap (count_in lane) (sym (append_assoc before (p ∷ []) places)) ∙ all_counted lanes (before ++ p ∷ []) places lane ordered.2

-- the count of requests at the place of a name
pub count_at : (name : List ℕ) (lanes : List Lane) → length (requests_of (requests_by_lane lanes) (place_of name 0 lanes).0) ≡ (place_of name 0 lanes).1
count_at name lanes =
    let r : Request = record { call = Sync; awaits = None } in
    elim (grown name r 0 lanes (place_of name 0 lanes).0) [ inl w ↦ w.2 | inr w ↦ absurd (w.0 (omega arith)) ]

-- ---- awaits

-- a place in front stays when something comes behind
got_front : (xs : List Request) (r : Request) (n : ℕ) (x : Request) → n < length xs → slice_get (xs ++ r ∷ []) n ≡ Some x → slice_get xs n ≡ Some x
got_front [] r n x within got = absurd (omega arith)
got_front (y ∷ xs) r zero x within got = got
got_front (y ∷ xs) r (suc n) x within got = got_front xs r n x (omega arith) got

got_last : (xs : List Request) (r : Request) (n : ℕ) (x : Request) → n ≡ length xs → slice_get (xs ++ r ∷ []) n ≡ Some x → r ≡ x
got_last [] r zero x at got = cc
got_last [] r (suc n) x at got = absurd (omega arith)
got_last (y ∷ xs) r zero x at got = absurd (omega arith)
got_last (y ∷ xs) r (suc n) x at got = got_last xs r n x (omega arith) got

pub awaited-extended : (lanes new : List (List Request)) (place : ℕ × ℕ) (r : Request) (before places whole : List (ℕ × ℕ)) → whole ≡ before ++ places → ((lane : ℕ) → Grown place 0 lane (requests_of new lane) (requests_of lanes lane) r) → InOrder lanes before places → Awaited lanes before places → IfSome r.awaits (HasEnded whole) → Awaited new before (places ++ (place.0, place.1 + 1) ∷ [])
awaited-extended lanes new place r before [] whole is grew ordered waits ended =
    let here : (length (requests_of lanes place.0) ≡ place.1) × (requests_of new place.0 ≡ requests_of lanes place.0 ++ r ∷ []) = elim (grew place.0) [ inl w ↦ (w.2, w.1) | inr w ↦ absurd (w.0 (omega arith)) ] in
    let same : whole ≡ before = is ∙ append-nil before in
    (λ q got. subst (λ (x : Request). IfSome x.awaits (HasEnded before)) (got_last (requests_of lanes place.0) r (count_in place.0 before) q (ordered place.0) (ap (λ rs. slice_get rs (count_in place.0 before)) (sym here.1) ∙ got)) (subst (λ b. IfSome r.awaits (HasEnded b)) same ended), tt)
awaited-extended lanes new place r before (p ∷ places) whole is grew ordered waits ended =
    let within : count_in p.0 before < length (requests_of lanes p.0) = let a = ordered.0 in let b = ordered.1 in omega (arith, a, b) in
    let old : (q : Request) → slice_get (requests_of new p.0) (count_in p.0 before) ≡ Some q → slice_get (requests_of lanes p.0) (count_in p.0 before) ≡ Some q =
    λ q got. elim (grew p.0) [
      | inl w ↦ got_front (requests_of lanes p.0) r (count_in p.0 before) q within (ap (λ rs. slice_get rs (count_in p.0 before)) (sym w.1) ∙ got)
      | inr w ↦ ap (λ rs. slice_get rs (count_in p.0 before)) (sym w.1) ∙ got
    ] in
    (λ q got. waits.0 q (old q got), awaited-extended lanes new place r (before ++ p ∷ []) places whole (is ∙ sym (append_assoc before (p ∷ []) places)) grew ordered.2 waits.1 ended)

-- ---- a lane without requests

requests_in-with_lane : (name : List ℕ) (lanes : List Lane) (lane : ℕ) → requests_of (requests_by_lane (with_lane name lanes)) lane ≡ requests_of (requests_by_lane lanes) lane
requests_in-with_lane name [] zero = refl
requests_in-with_lane name [] (suc n) = refl
requests_in-with_lane name (l ∷ lanes) zero =
    elim (bytes_eq l.name name) as (λ b. requests_of (requests_by_lane (cond b (l ∷ lanes) (l ∷ with_lane name lanes))) zero ≡ l.requests) [ true ↦ refl | false ↦ refl ]
requests_in-with_lane name (l ∷ lanes) (suc n) =
    elim (bytes_eq l.name name) as (λ b. requests_of (requests_by_lane (cond b (l ∷ lanes) (l ∷ with_lane name lanes))) (suc n) ≡ requests_of (requests_by_lane lanes) n) [ true ↦ refl | false ↦ requests_in-with_lane name lanes n ]

in_order-same : (lanes new : List (List Request)) (before places : List (ℕ × ℕ)) → ((lane : ℕ) → requests_of new lane ≡ requests_of lanes lane) → InOrder lanes before places → InOrder new before places
in_order-same lanes new before [] same ordered = λ lane. ordered lane ∙ sym (ap (λ rs. length rs) (same lane))
in_order-same lanes new before (p ∷ places) same ordered =
    let len : length (requests_of new p.0) ≡ length (requests_of lanes p.0) = ap (λ rs. length rs) (same p.0) in
    let b = ordered.1 in
    (ordered.0, omega (arith, len, b), in_order-same lanes new (before ++ p ∷ []) places same ordered.2)

awaited-same : (lanes new : List (List Request)) (before places : List (ℕ × ℕ)) → ((lane : ℕ) → requests_of new lane ≡ requests_of lanes lane) → Awaited lanes before places → Awaited new before places
awaited-same lanes new before [] same waits = tt
awaited-same lanes new before (p ∷ places) same waits =
    (λ q got. waits.0 q (ap (λ rs. slice_get rs (count_in p.0 before)) (sym (same p.0)) ∙ got), awaited-same lanes new (before ++ p ∷ []) places same waits.1)

pub in_order-with_lane : (name : List ℕ) (lanes : List Lane) (places : List (ℕ × ℕ)) → InOrder (requests_by_lane lanes) [] places → InOrder (requests_by_lane (with_lane name lanes)) [] places
in_order-with_lane name lanes places ordered = in_order-same _ _ [] places (requests_in-with_lane name lanes) ordered

pub awaited-with_lane : (name : List ℕ) (lanes : List Lane) (places : List (ℕ × ℕ)) → Awaited (requests_by_lane lanes) [] places → Awaited (requests_by_lane (with_lane name lanes)) [] places
awaited-with_lane name lanes places waits = awaited-same _ _ [] places (requests_in-with_lane name lanes) waits
