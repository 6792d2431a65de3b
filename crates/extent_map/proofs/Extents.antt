-- Maximal runs of places.
use Rattle.std.proofs.Common.{◌≡◌, ℕ, zero, suc, ◌+◌, ◌<◌, ◌≤◌, List, [], ◌∷◌, length, drop, get_or, Bool, true, false, cond, eqb, Option, Some, None, ap, ◌∙◌, sym, refl, arith}
use Rattle.std.specs.Prelude.{slice_get, ◌&&◌}
use Rattle.std.proofs.lemmas.Bool.{cond-true, cond-false}
use Rattle.std.proofs.lemmas.Bool.Decides.{nat_tests}
use Rattle.std.proofs.lemmas.List.{drop_more, drop_all, drop-drop}
use Rattle.extent_map.specs.declared.places.Place.{Place}
use Rattle.extent_map.specs.declared.places.Extent.{Extent}
use Rattle.extent_map.specs.Places.{runs, in_front, single, goes_on}
use Rattle.extent_map.specs.Owners.{joins}

abbrev pub extent : ℕ → ℕ → ℕ → ℕ → Extent
extent file page block count = record { file = file; page = page; block = block; count = count }

-- how many places from the first on go on with a file, a page and a block
abbrev pub more_of : ℕ → ℕ → ℕ → List Place → ℕ
more_of file page block [] = 0
more_of file page block (q ∷ qs) = cond (eqb q.file file && (eqb q.page page && eqb q.block block)) (suc (more_of file (page + 1) (block + 1) qs)) 0

-- the run that begins with a place, and the runs behind it
run_is : (p : Place) (ps : List Place) → runs (p ∷ ps) ≡ extent p.file p.page p.block (more_of p.file (p.page + 1) (p.block + 1) ps + 1) ∷ runs (drop (more_of p.file (p.page + 1) (p.block + 1) ps) ps)
run_is p [] = refl
run_is p (q ∷ qs) =
    ap (in_front p) (run_is q qs) ∙ by_test (eqb q.file p.file && (eqb q.page (p.page + 1) && eqb q.block (p.block + 1))) refl (run_is q qs)
  where
    joined : (eqb q.file p.file && (eqb q.page (p.page + 1) && eqb q.block (p.block + 1))) ≡ true → (q.file ≡ p.file) × (q.page ≡ p.page + 1) × (q.block ≡ p.block + 1)
    joined e = (grind (arith, nat_tests), grind (arith, nat_tests), grind (arith, nat_tests))

    same_test : (n : ℕ) (t : Bool) → (eqb q.file p.file && (eqb q.page (p.page + 1) && eqb q.block (p.block + 1))) ≡ t → goes_on p (extent q.file q.page q.block n) ≡ t
    same_test n true e = grind (arith, nat_tests)
    same_test n false e = grind (arith, nat_tests)

    by_test : (t : Bool) → (eqb q.file p.file && (eqb q.page (p.page + 1) && eqb q.block (p.block + 1))) ≡ t
        → runs (q ∷ qs) ≡ extent q.file q.page q.block (more_of q.file (q.page + 1) (q.block + 1) qs + 1) ∷ runs (drop (more_of q.file (q.page + 1) (q.block + 1) qs) qs)
        → in_front p (extent q.file q.page q.block (more_of q.file (q.page + 1) (q.block + 1) qs + 1) ∷ runs (drop (more_of q.file (q.page + 1) (q.block + 1) qs) qs))
        ≡ extent p.file p.page p.block (cond t (suc (more_of p.file (p.page + 1 + 1) (p.block + 1 + 1) qs)) 0 + 1) ∷ runs (drop (cond t (suc (more_of p.file (p.page + 1 + 1) (p.block + 1 + 1) qs)) 0) (q ∷ qs))
    by_test true e rest =
        let j = joined e in
        let n = more_of q.file (q.page + 1) (q.block + 1) qs in
        let m = more_of p.file (p.page + 1 + 1) (p.block + 1 + 1) qs in
        let same : n ≡ m = ap (λ f. more_of f (q.page + 1) (q.block + 1) qs) j.0 ∙ ap (λ g. more_of p.file (g + 1) (q.block + 1) qs) j.1 ∙ ap (λ b. more_of p.file (p.page + 1 + 1) (b + 1) qs) j.2 in
        let count : n + 1 + 1 ≡ suc m + 1 = omega arith in
        cond-true (goes_on p (extent q.file q.page q.block (n + 1))) (extent p.file p.page p.block (n + 1 + 1) ∷ runs (drop n qs)) (single p ∷ extent q.file q.page q.block (n + 1) ∷ runs (drop n qs)) (same_test (n + 1) true e)
        ∙ ap (λ k. extent p.file p.page p.block k ∷ runs (drop n qs)) count ∙ ap (λ k. extent p.file p.page p.block (suc m + 1) ∷ runs (drop k qs)) same
    by_test false e rest =
        let n = more_of q.file (q.page + 1) (q.block + 1) qs in
        cond-false (goes_on p (extent q.file q.page q.block (n + 1))) (extent p.file p.page p.block (n + 1 + 1) ∷ runs (drop n qs)) (single p ∷ extent q.file q.page q.block (n + 1) ∷ runs (drop n qs)) (same_test (n + 1) false e)
        ∙ ap (λ es. single p ∷ es) (sym rest)

-- ---- the search for a run's end

pub more_true : (f : Place) (n : ℕ) (xs : List Place) (i : ℕ) → joins f n (slice_get xs i) ≡ true → more_of f.file (f.page + n) (f.block + n) (drop i xs) ≡ suc (more_of f.file (f.page + n + 1) (f.block + n + 1) (drop (i + 1) xs))
more_true f n [] i e = absurd cc
more_true f n (x ∷ xs) zero e = cond-true (eqb x.file f.file && (eqb x.page (f.page + n) && eqb x.block (f.block + n))) (suc (more_of f.file (f.page + n + 1) (f.block + n + 1) xs)) 0 e
more_true f n (x ∷ xs) (suc i) e =
    let at : suc (i + 1) ≡ suc i + 1 = omega arith in
    more_true f n xs i e ∙ ap (λ k. suc (more_of f.file (f.page + n + 1) (f.block + n + 1) (drop k (x ∷ xs)))) at

pub more_false : (f : Place) (n : ℕ) (xs : List Place) (i : ℕ) → joins f n (slice_get xs i) ≡ false → more_of f.file (f.page + n) (f.block + n) (drop i xs) ≡ 0
more_false f n [] zero e = refl
more_false f n [] (suc i) e = refl
more_false f n (x ∷ xs) zero e = cond-false (eqb x.file f.file && (eqb x.page (f.page + n) && eqb x.block (f.block + n))) (suc (more_of f.file (f.page + n + 1) (f.block + n + 1) xs)) 0 e
more_false f n (x ∷ xs) (suc i) e = more_false f n xs i e

pub count_step : (f : Place) (n at total : ℕ) (xs : List Place) → joins f n (slice_get xs (at + n)) ≡ true → n + more_of f.file (f.page + n) (f.block + n) (drop (at + n) xs) ≡ total
    → n + 1 + more_of f.file (f.page + (n + 1)) (f.block + (n + 1)) (drop (at + (n + 1)) xs) ≡ total
count_step f n at total xs e before =
    let page : f.page + (n + 1) ≡ f.page + n + 1 = omega arith in
    let block : f.block + (n + 1) ≡ f.block + n + 1 = omega arith in
    let place : at + (n + 1) ≡ at + n + 1 = omega arith in
    let same : more_of f.file (f.page + (n + 1)) (f.block + (n + 1)) (drop (at + (n + 1)) xs) ≡ more_of f.file (f.page + n + 1) (f.block + n + 1) (drop (at + n + 1) xs) = rw (page, block, place) refl in
    omega (arith, more_true f n xs (at + n) e, same, before)

pub count_done : (f : Place) (n at total : ℕ) (xs : List Place) → joins f n (slice_get xs (at + n)) ≡ false → n + more_of f.file (f.page + n) (f.block + n) (drop (at + n) xs) ≡ total → n ≡ total
count_done f n at total xs e before = omega (arith, more_false f n xs (at + n) e, before)

pub run_done : (d : Place) (n at : ℕ) (xs : List Place) → at < length xs → n ≡ 1 + more_of (get_or xs at d).file ((get_or xs at d).page + 1) ((get_or xs at d).block + 1) (drop (at + 1) xs)
    → runs (drop at xs) ≡ extent (get_or xs at d).file (get_or xs at d).page (get_or xs at d).block n ∷ runs (drop (at + n) xs)
run_done d n at xs lt is =
    let f = get_or xs at d in
    let m = more_of f.file (f.page + 1) (f.block + 1) (drop (at + 1) xs) in
    let count : m + 1 ≡ n = omega arith in
    let place : at + 1 + m ≡ at + n = omega arith in
    ap runs (drop_more xs at d lt) ∙ run_is f (drop (at + 1) xs) ∙ ap (λ k. extent f.file f.page f.block k ∷ runs (drop m (drop (at + 1) xs))) count
    ∙ ap (λ ys. extent f.file f.page f.block n ∷ runs ys) (drop-drop m (at + 1) xs ∙ ap (λ k. drop k xs) place)

-- ---- the i-th run

pub run_here : (ps : List Place) (at next : ℕ) (e : Extent) (r : Option Extent) → runs (drop at ps) ≡ e ∷ runs (drop next ps) → slice_get (runs (drop at ps)) 0 ≡ r → Some e ≡ r
run_here ps at next e r is before = sym (ap (λ es. slice_get es 0) is) ∙ before

pub run_later : (ps : List Place) (at next left less : ℕ) (e : Extent) (r : Option Extent) → runs (drop at ps) ≡ e ∷ runs (drop next ps) → left ≡ suc less → slice_get (runs (drop at ps)) left ≡ r → slice_get (runs (drop next ps)) less ≡ r
run_later ps at next left less e r is left-is before = sym (ap (λ es. slice_get es (suc less)) is) ∙ ap (slice_get (runs (drop at ps))) (sym left-is) ∙ before

pub run_none : (ps : List Place) (at left : ℕ) (r : Option Extent) → length ps ≤ at → slice_get (runs (drop at ps)) left ≡ r → None ≡ r
run_none ps at left r le before = sym (ap (λ xs. slice_get (runs xs) left) (drop_all at ps le)) ∙ before

pub joins_within : (f : Place) (n : ℕ) (xs : List Place) (i : ℕ) → joins f n (slice_get xs i) ≡ true → i < length xs
joins_within f n [] i e = absurd cc
joins_within f n (x ∷ xs) zero e = omega arith
joins_within f n (x ∷ xs) (suc i) e = omega (arith, joins_within f n xs i e)
