-- Where places stand.
use Rattle.std.proofs.Common.{◌≡◌, ℕ, zero, suc, ◌+◌, ◌<◌, ◌≤◌, List, [], ◌∷◌, ◌++◌, length, take, drop, get_or, Bool, true, false, cond, eqb, leb, Option, Some, None, ap, ◌∙◌, sym, refl, subst, arith, add-one}
use Rattle.std.specs.Prelude.{slice_get, ◌&&◌}
use Rattle.std.specs.List.{AllByRecursion}
use Rattle.std.proofs.lemmas.Bool.{cond-true, cond-false}
use Rattle.std.proofs.lemmas.List.{append-nil}
use Rattle.std.proofs.lemmas.Bool.Decides.{nat_tests}
use Rattle.std.proofs.lemmas.Option.{slice_get_read, slice_get_past}
use Rattle.extent_map.specs.declared.places.Place.{Place}
use Rattle.extent_map.specs.Places.{block_of, owner_of, put_in, follows, Goes, AreInOrder}
use Rattle.extent_map.specs.Owners.{is_before, before_of, end_of}

-- ---- tests that are true of a front

front_step : (b : Bool) (n i : ℕ) → n ≤ i → cond b (n + 1) 0 ≤ suc i
front_step true n i le = omega arith
front_step false n i le = omega arith

before_step : (file page : ℕ) (p q : Place) → follows p q ≡ true → is_before file page q ≡ true → is_before file page p ≡ true
before_step file page p q f b = grind (arith, nat_tests)

end_step : (file : ℕ) (p q : Place) → follows p q ≡ true → leb q.file file ≡ true → leb p.file file ≡ true
end_step file p q f b = grind (arith, nat_tests)

before_first : (file page : ℕ) (p : Place) (ps : List Place) (i : ℕ) (d : Place) → Goes p ps → i < length ps → is_before file page (get_or ps i d) ≡ true → is_before file page p ≡ true
before_first file page p [] i d goes lt b = absurd (omega arith)
before_first file page p (q ∷ qs) zero d goes lt b = before_step file page p q goes.0 b
before_first file page p (q ∷ qs) (suc i) d goes lt b = before_step file page p q goes.0 (before_first file page q qs i d goes.1 (omega arith) b)

end_first : (file : ℕ) (p : Place) (ps : List Place) (i : ℕ) (d : Place) → Goes p ps → i < length ps → leb (get_or ps i d).file file ≡ true → leb p.file file ≡ true
end_first file p [] i d goes lt b = absurd (omega arith)
end_first file p (q ∷ qs) zero d goes lt b = end_step file p q goes.0 b
end_first file p (q ∷ qs) (suc i) d goes lt b = end_step file p q goes.0 (end_first file q qs i d goes.1 (omega arith) b)

before_at : (file page : ℕ) (p : Place) (ps : List Place) (i : ℕ) (d : Place) → Goes p ps → i < length (p ∷ ps) → is_before file page (get_or (p ∷ ps) i d) ≡ true → i + 1 ≤ before_of file page (p ∷ ps)
before_at file page p ps zero d goes lt b = rw (cond-true (is_before file page p) (before_of file page ps + 1) 0 b) (omega arith)
before_at file page p [] (suc i) d goes lt b = absurd (omega arith)
before_at file page p (q ∷ qs) (suc i) d goes lt b =
    rw (cond-true (is_before file page p) (before_of file page (q ∷ qs) + 1) 0 (before_first file page p (q ∷ qs) i d goes (omega arith) b)) (omega (arith, before_at file page q qs i d goes.1 (omega arith) b))

end_at : (file : ℕ) (p : Place) (ps : List Place) (i : ℕ) (d : Place) → Goes p ps → i < length (p ∷ ps) → leb (get_or (p ∷ ps) i d).file file ≡ true → i + 1 ≤ end_of file (p ∷ ps)
end_at file p ps zero d goes lt b = rw (cond-true (leb p.file file) (end_of file ps + 1) 0 b) (omega arith)
end_at file p [] (suc i) d goes lt b = absurd (omega arith)
end_at file p (q ∷ qs) (suc i) d goes lt b =
    rw (cond-true (leb p.file file) (end_of file (q ∷ qs) + 1) 0 (end_first file p (q ∷ qs) i d goes (omega arith) b)) (omega (arith, end_at file q qs i d goes.1 (omega arith) b))

pub is_below : (file page : ℕ) (ps : List Place) (i : ℕ) (d : Place) → AreInOrder ps → i < length ps → is_before file page (get_or ps i d) ≡ true → i + 1 ≤ before_of file page ps
is_below file page [] i d order lt b = absurd (omega arith)
is_below file page (p ∷ ps) i d order lt b = before_at file page p ps i d order.1 lt b

pub is_within : (file : ℕ) (ps : List Place) (i : ℕ) (d : Place) → AreInOrder ps → i < length ps → (get_or ps i d).file ≤ file → i + 1 ≤ end_of file ps
is_within file [] i d order lt b = absurd (omega arith)
is_within file (p ∷ ps) i d order lt b = end_at file p ps i d order.1 lt (grind (arith, nat_tests))

pub not_below : (file page : ℕ) (ps : List Place) (i : ℕ) (d : Place) → i < length ps → is_before file page (get_or ps i d) ≡ false → before_of file page ps ≤ i
not_below file page [] i d lt b = absurd (omega arith)
not_below file page (p ∷ ps) zero d lt b = rw (cond-false (is_before file page p) (before_of file page ps + 1) 0 b) (omega arith)
not_below file page (p ∷ ps) (suc i) d lt b = front_step (is_before file page p) (before_of file page ps) i (not_below file page ps i d (omega arith) b)

pub not_within : (file : ℕ) (ps : List Place) (i : ℕ) (d : Place) → i < length ps → file < (get_or ps i d).file → end_of file ps ≤ i
not_within file [] i d lt b = absurd (omega arith)
not_within file (p ∷ ps) zero d lt b = rw (cond-false (leb p.file file) (end_of file ps + 1) 0 (grind (arith, nat_tests))) (omega arith)
not_within file (p ∷ ps) (suc i) d lt b = front_step (leb p.file file) (end_of file ps) i (not_within file ps i d (omega arith) b)

pub below_within : (file page : ℕ) (ps : List Place) → before_of file page ps ≤ length ps
below_within file page [] = omega arith
below_within file page (p ∷ ps) = front_step (is_before file page p) (before_of file page ps) (length ps) (below_within file page ps)

pub end_within : (file : ℕ) (ps : List Place) → end_of file ps ≤ length ps
end_within file [] = omega arith
end_within file (p ∷ ps) = front_step (leb p.file file) (end_of file ps) (length ps) (end_within file ps)

-- places put in stand at the end of the file
pub put_in_is : (file : ℕ) (new ps : List Place) → put_in file new ps ≡ take (end_of file ps) ps ++ new ++ drop (end_of file ps) ps
put_in_is file new [] = sym (append-nil new)
put_in_is file new (p ∷ ps) =
    elim (leb p.file file) as (λ (b : Bool). cond b (p ∷ put_in file new ps) (new ++ p ∷ ps) ≡ take (cond b (end_of file ps + 1) 0) (p ∷ ps) ++ new ++ drop (cond b (end_of file ps + 1) 0) (p ∷ ps)) [
      | true ↦ rw (add-one (end_of file ps)) (ap (λ x. p ∷ x) (put_in_is file new ps))
      | false ↦ refl
    ]

-- ---- the page of a file

abbrev pub checked : ℕ → ℕ → Option Place → Option ℕ
checked file page None = None
checked file page (Some p) = cond (eqb p.file file && eqb p.page page) (Some p.block) None

none_later : (file page : ℕ) (p : Place) (ps : List Place) → Goes p ps → is_before file page p ≡ false → block_of file page ps ≡ None
none_later file page p [] goes b = refl
none_later file page p (q ∷ qs) goes b =
    let later : is_before file page q ≡ false = grind (arith, nat_tests, goes.0) in
    let other : (eqb q.file file && eqb q.page page) ≡ false = grind (arith, nat_tests, goes.0) in
    cond-false (eqb q.file file && eqb q.page page) (Some q.block) (block_of file page qs) other ∙ none_later file page q qs goes.1 later

goes_of : (p : Place) (ps : List Place) → AreInOrder (p ∷ ps) → Goes p ps
goes_of p ps order = order.1

past_it : (file page : ℕ) (p : Place) → is_before file page p ≡ true → (eqb p.file file && eqb p.page page) ≡ false
past_it file page p b = grind (arith, nat_tests)

stop_here : (file page : ℕ) (p : Place) (ps : List Place) → Goes p ps → is_before file page p ≡ false → block_of file page (p ∷ ps) ≡ checked file page (slice_get (p ∷ ps) (before_of file page (p ∷ ps)))
stop_here file page p ps goes e = rw (cond-false (is_before file page p) (before_of file page ps + 1) 0 e) (ap (cond (eqb p.file file && eqb p.page page) (Some p.block)) (none_later file page p ps goes e))

go_past : (file page : ℕ) (p : Place) (ps : List Place) → is_before file page p ≡ true → block_of file page ps ≡ checked file page (slice_get ps (before_of file page ps)) → block_of file page (p ∷ ps) ≡ checked file page (slice_get (p ∷ ps) (before_of file page (p ∷ ps)))
go_past file page p ps e rest =
    rw (cond-true (is_before file page p) (before_of file page ps + 1) 0 e, add-one) (cond-false (eqb p.file file && eqb p.page page) (Some p.block) (block_of file page ps) (past_it file page p e) ∙ rest)

found_from : (file page : ℕ) (p : Place) (ps : List Place) → Goes p ps → block_of file page (p ∷ ps) ≡ checked file page (slice_get (p ∷ ps) (before_of file page (p ∷ ps)))
found_from file page p [] goes =
    (elim (is_before file page p) as (λ (b : Bool). is_before file page p ≡ b → block_of file page (p ∷ []) ≡ checked file page (slice_get (p ∷ []) (before_of file page (p ∷ [])))) [
      | true ↦ λ e. go_past file page p [] e refl
      | false ↦ λ e. stop_here file page p [] goes e
    ]) refl
found_from file page p (q ∷ qs) goes =
    (elim (is_before file page p) as (λ (b : Bool). is_before file page p ≡ b → block_of file page (p ∷ q ∷ qs) ≡ checked file page (slice_get (p ∷ q ∷ qs) (before_of file page (p ∷ q ∷ qs)))) [
      | true ↦ λ e. go_past file page p (q ∷ qs) e (found_from file page q qs goes.1)
      | false ↦ λ e. stop_here file page p (q ∷ qs) goes e
    ]) refl

pub found : (file page : ℕ) (ps : List Place) → AreInOrder ps → block_of file page ps ≡ checked file page (slice_get ps (before_of file page ps))
found file page [] order = refl
found file page (p ∷ ps) order = found_from file page p ps order.1

-- what a search for a page comes to
pub is_there : (file page : ℕ) (ps : List Place) (i : ℕ) (p : Place) → AreInOrder ps → i ≡ before_of file page ps → i < length ps → p ≡ get_or ps i p → p.file ≡ file → p.page ≡ page → Some p.block ≡ block_of file page ps
is_there file page ps i p order is within here same-file same-page =
    let got : slice_get ps (before_of file page ps) ≡ Some p = subst (λ j. slice_get ps j ≡ Some p) is (slice_get_read ps (length ps) i p refl within here) in
    sym (found file page ps order ∙ ap (checked file page) got ∙ cond-true (eqb p.file file && eqb p.page page) (Some p.block) None (grind (arith, nat_tests)))

pub is_other : (file page : ℕ) (ps : List Place) (i : ℕ) (p : Place) → AreInOrder ps → i ≡ before_of file page ps → i < length ps → p ≡ get_or ps i p → (eqb p.file file && eqb p.page page) ≡ false → None ≡ block_of file page ps
is_other file page ps i p order is within here differs =
    let got : slice_get ps (before_of file page ps) ≡ Some p = subst (λ j. slice_get ps j ≡ Some p) is (slice_get_read ps (length ps) i p refl within here) in
    sym (found file page ps order ∙ ap (checked file page) got ∙ cond-false (eqb p.file file && eqb p.page page) (Some p.block) None differs)

pub is_past : (file page : ℕ) (ps : List Place) (i : ℕ) → AreInOrder ps → i ≡ before_of file page ps → length ps ≤ i → None ≡ block_of file page ps
is_past file page ps i order is le = sym (found file page ps order ∙ ap (checked file page) (slice_get_past ps (before_of file page ps) (omega arith)))

-- no page has a block past the end
pub no_owner : (block blocks : ℕ) (ps : List Place) → AllByRecursion (λ p. p.block < blocks) ps → blocks ≤ block → None ≡ owner_of block ps
no_owner block blocks [] within le = refl
no_owner block blocks (p ∷ ps) within le = no_owner block blocks ps within.1 le ∙ sym (cond-false (eqb p.block block) (Some (p.file, p.page)) (owner_of block ps) (grind (arith, nat_tests, within.0)))

pub both_are : (file page : ℕ) (p : Place) → (eqb p.file file && eqb p.page page) ≡ true → (p.file ≡ file) × (p.page ≡ page)
both_are file page p e = (grind (arith, nat_tests), grind (arith, nat_tests))
