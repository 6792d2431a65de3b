-- Pages on the lowest free blocks.
use Rattle.std.proofs.Common.{◌≡◌, ℕ, ◌+◌, ◌<◌, ◌≤◌, List, [], ◌∷◌, length, take, drop, get_or, Bool, true, false, cond, eqb, leb, Option, None, ap, ◌∙◌, sym, refl, subst, arith, inl, inr, ◌||◌}
use Rattle.std.specs.Prelude.{is_some, is_none, not}
use Rattle.std.specs.List.{AllByRecursion}
use Rattle.std.proofs.lemmas.Bool.{cond-true, cond-false, cases_lt}
use Rattle.std.proofs.lemmas.Bool.Decides.{nat_tests}
use Rattle.extent_map.specs.declared.places.Place.{Place}
use Rattle.extent_map.specs.Places.{owner_of, is_used, pages_on, put_in, count_of, free_blocks, follows, Goes, AreInOrder, IsSound}
use Rattle.extent_map.specs.Owners.{is_before, before_of, end_of, or_else, TellsOwners, unowned, HaveOwners}
use Rattle.extent_map.proofs.Runs.{used_is, owner_put, apart_put, within_put, no_more, order_put, places_of}
use Rattle.extent_map.proofs.Free.{skips, free_is, unused_free, apart_free, free_within, none_owned, count_free}

abbrev Owner : Type 0
Owner = Option (ℕ × ℕ)

-- ---- the free blocks

pub free_blocks_are : (blocks lowest : ℕ) (os : List Owner) (ps : List Place) → TellsOwners os blocks ps → HaveOwners lowest os → unowned lowest (drop lowest os) ≡ free_blocks (places_of blocks ps)
unfolding free_blocks
free_blocks_are blocks lowest os ps tells have =
    let e : 0 + lowest ≡ lowest = omega arith in
    sym (skips lowest 0 os have ∙ ap (λ k. unowned k (drop lowest os)) e)
    ∙ sym (free_is ps blocks 0 os tells.len (λ k lt. let f : k ≡ 0 + k = omega arith in tells.each k lt ∙ ap (λ j. owner_of j ps) f))

pub from_first : (lowest : ℕ) (os : List Owner) → HaveOwners lowest os → unowned lowest (drop lowest os) ≡ unowned 0 os
from_first lowest os have = let e : 0 + lowest ≡ lowest = omega arith in sym (skips lowest 0 os have ∙ ap (λ k. unowned k (drop lowest os)) e)

pub free_count : (blocks : ℕ) (ps : List Place) → IsSound (places_of blocks ps) → length (free_blocks (places_of blocks ps)) + length ps ≡ blocks
unfolding free_blocks
free_count blocks ps sound = count_free blocks ps sound.apart sound.within

-- ---- the place of a file's next page

none_of_file : (file : ℕ) (p : Place) (ps : List Place) → Goes p ps → file < p.file → (before_of file 0 ps ≡ 0) × (count_of file ps ≡ 0) × (end_of file ps ≡ 0)
none_of_file file p [] goes lt = (refl, refl, refl)
none_of_file file p (q ∷ qs) goes lt =
    let later : file < q.file = rising p q goes.0 lt in
    let rest = none_of_file file q qs goes.1 later in (
      cond-false (is_before file 0 q) (before_of file 0 qs + 1) 0 (not_before q later),
      cond-false (eqb q.file file) (count_of file qs + 1) (count_of file qs) (grind (arith, nat_tests)) ∙ rest.1,
      cond-false (leb q.file file) (end_of file qs + 1) 0 (grind (arith, nat_tests)),
    )
  where
    rising : (p q : Place) → follows p q ≡ true → file < p.file → file < q.file
    rising p q f lt = grind (arith, nat_tests)

    not_before : (q : Place) → file < q.file → is_before file 0 q ≡ false
    not_before q lt = grind (arith, nat_tests)

-- the places from a page of the file on: none of them is of a lower file
own_pages : (file : ℕ) (p : Place) (ps : List Place) → Goes p ps → p.file ≡ file → (before_of file 0 ps ≡ 0) × (count_of file ps ≡ end_of file ps)
own_pages file p [] goes is = (refl, refl)
own_pages file p (q ∷ qs) goes is =
    (elim (eqb q.file file) as (λ (t : Bool). eqb q.file file ≡ t → (before_of file 0 (q ∷ qs) ≡ 0) × (cond t (count_of file qs + 1) (count_of file qs) ≡ end_of file (q ∷ qs))) [
      | true ↦ λ e.
          let same : q.file ≡ file = grind (arith, nat_tests) in
          let rest = own_pages file q qs goes.1 same in (
            cond-false (is_before file 0 q) (before_of file 0 qs + 1) 0 (not_before q same),
            ap (λ n. n + 1) rest.1 ∙ sym (cond-true (leb q.file file) (end_of file qs + 1) 0 (grind (arith, nat_tests))),
          )
      | false ↦ λ e.
          let later : file < q.file = rising p q goes.0 is e in
          let rest = none_of_file file q qs goes.1 later in (
            cond-false (is_before file 0 q) (before_of file 0 qs + 1) 0 (past q later),
            rest.1 ∙ sym (cond-false (leb q.file file) (end_of file qs + 1) 0 (grind (arith, nat_tests))),
          )
    ]) refl
  where
    not_before : (q : Place) → q.file ≡ file → is_before file 0 q ≡ false
    not_before q is = grind (arith, nat_tests)

    past : (q : Place) → file < q.file → is_before file 0 q ≡ false
    past q lt = grind (arith, nat_tests)

    rising : (p q : Place) → follows p q ≡ true → p.file ≡ file → eqb q.file file ≡ false → file < q.file
    rising p q f is e = grind (arith, nat_tests)

by_file : (file : ℕ) (p : Place) (ps : List Place) → Goes p ps → before_of file 0 ps + count_of file ps ≡ end_of file ps → before_of file 0 (p ∷ ps) + count_of file (p ∷ ps) ≡ end_of file (p ∷ ps)
by_file file p ps goes rest =
    (elim (eqb p.file file) as (λ (t : Bool). eqb p.file file ≡ t → before_of file 0 (p ∷ ps) + cond t (count_of file ps + 1) (count_of file ps) ≡ end_of file (p ∷ ps)) [
      | true ↦ λ e.
          let same : p.file ≡ file = grind (arith, nat_tests) in
          let before : before_of file 0 (p ∷ ps) ≡ 0 = cond-false (is_before file 0 p) (before_of file 0 ps + 1) 0 (not_before p same) in
          let ends : end_of file (p ∷ ps) ≡ end_of file ps + 1 = cond-true (leb p.file file) (end_of file ps + 1) 0 (grind (arith, nat_tests)) in
          omega (arith, before, ends, (own_pages file p ps goes same).1)
      | false ↦ λ e.
          elim (cases_lt p.file file) [
            | inl less ↦
                let before : before_of file 0 (p ∷ ps) ≡ before_of file 0 ps + 1 = cond-true (is_before file 0 p) (before_of file 0 ps + 1) 0 (lower p less) in
                let ends : end_of file (p ∷ ps) ≡ end_of file ps + 1 = cond-true (leb p.file file) (end_of file ps + 1) 0 (grind (arith, nat_tests)) in
                omega (arith, before, ends, rest)
            | inr le ↦
                let more : file < p.file = above p le e in
                let before : before_of file 0 (p ∷ ps) ≡ 0 = cond-false (is_before file 0 p) (before_of file 0 ps + 1) 0 (higher p more) in
                let ends : end_of file (p ∷ ps) ≡ 0 = cond-false (leb p.file file) (end_of file ps + 1) 0 (grind (arith, nat_tests)) in
                omega (arith, before, ends, (none_of_file file p ps goes more).1)
          ]
    ]) refl
  where
    not_before : (q : Place) → q.file ≡ file → is_before file 0 q ≡ false
    not_before q is = grind (arith, nat_tests)

    lower : (p : Place) → p.file < file → is_before file 0 p ≡ true
    lower p lt = grind (arith, nat_tests)

    higher : (p : Place) → file < p.file → is_before file 0 p ≡ false
    higher p lt = grind (arith, nat_tests)

    above : (p : Place) → file ≤ p.file → eqb p.file file ≡ false → file < p.file
    above p le e = grind (arith, nat_tests)

next_from : (file : ℕ) (p : Place) (ps : List Place) → Goes p ps → before_of file 0 (p ∷ ps) + count_of file (p ∷ ps) ≡ end_of file (p ∷ ps)
next_from file p [] goes = by_file file p [] goes refl
next_from file p (q ∷ qs) goes = by_file file p (q ∷ qs) goes (next_from file q qs goes.1)

pub next_page : (file : ℕ) (ps : List Place) → AreInOrder ps → before_of file 0 ps + count_of file ps ≡ end_of file ps
next_page file [] order = refl
next_page file (p ∷ ps) order = next_from file p ps order.1

-- ---- the pages put in

used_within : (bound b : ℕ) (ps : List Place) → AllByRecursion (λ p. p.block < bound) ps → is_used b ps ≡ true → b < bound
used_within bound b [] within used = absurd cc
used_within bound b (p ∷ ps) within used = by_test (eqb p.block b) refl used (λ h. used_within bound b ps within.1 h)
  where
    by_test : (t : Bool) → eqb p.block b ≡ t → (t || is_used b ps) ≡ true → (is_used b ps ≡ true → b < bound) → b < bound
    by_test true e used rest = let is : p.block ≡ b = grind (arith, nat_tests) in omega (arith, within.0)
    by_test false e used rest = rest used

has_owner : (blocks b : ℕ) (os : List Owner) (ps : List Place) → TellsOwners os blocks ps → AllByRecursion (λ p. p.block < blocks) ps → is_used b ps ≡ true → is_none (get_or os b None) ≡ false
has_owner blocks b os ps tells within used = ap (λ o. not (is_some o)) (tells.each b (used_within blocks b ps within used)) ∙ ap not (used_is b ps ∙ used)

abbrev pub after_allocate : ℕ → ℕ → List Owner → List Place → List Place
after_allocate file n os ps = put_in file (pages_on file (count_of file ps) (take n (unowned 0 os))) ps

pub allocated_sound : (blocks file n : ℕ) (os : List Owner) (ps : List Place) → IsSound (places_of blocks ps) → TellsOwners os blocks ps → IsSound (places_of blocks (after_allocate file n os ps))
allocated_sound blocks file n os ps sound tells =
    let new = pages_on file (count_of file ps) (take n (unowned 0 os)) in
    let apart = apart_put file new ps sound.apart (apart_free file (count_of file ps) n 0 os) (λ b used. unused_free file (count_of file ps) n os b (has_owner blocks b os ps tells sound.within used)) in
    let within = within_put (λ p. p.block < blocks) file new ps (free_within blocks file (count_of file ps) n 0 os (omega (arith, tells.len))) sound.within in
    record {
      blocks = sound.blocks;
      count = no_more blocks (put_in file new ps) apart within;
      order = order_put file ps (take n (unowned 0 os)) sound.order;
      apart = apart;
      within = within;
    }

pub allocated_owners : (blocks file n : ℕ) (os new_os : List Owner) (ps : List Place) → IsSound (places_of blocks ps) → TellsOwners os blocks ps → length new_os ≡ length os
    → ((b : ℕ) → get_or new_os b None ≡ or_else (owner_of b (pages_on file (count_of file ps) (take n (unowned 0 os)))) (get_or os b None)) → TellsOwners new_os blocks (after_allocate file n os ps)
allocated_owners blocks file n os new_os ps sound tells len each =
    let new = pages_on file (count_of file ps) (take n (unowned 0 os)) in
    record {
      len = len ∙ tells.len;
      each = λ b lt. each b ∙ ap (or_else (owner_of b new)) (tells.each b lt) ∙ sym (owner_put b file new ps (λ used.
          let e : 0 + b ≡ b = omega arith in
          subst (λ j. owner_of j new ≡ None) e (none_owned file (count_of file ps) n 0 os b (has_owner blocks b os ps tells sound.within used))));
    }
