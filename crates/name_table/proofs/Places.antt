-- Where a file stands.
use Rattle.std.proofs.Common.{◌≡◌, ℕ, zero, suc, ◌+◌, ◌<◌, ◌≤◌, List, [], ◌∷◌, length, set, get_or, Bool, true, false, cond, eqb, ltb, Option, Some, None, ap, ◌∙◌, sym, refl, subst, arith, inl, inr, add-one, ◌≢◌}
use Rattle.std.specs.Prelude.{slice_get, IsSome, remove}
use Rattle.std.proofs.lemmas.Bool.{cond-true, cond-false, cases_lt}
use Rattle.std.proofs.lemmas.Bool.Decides.{nat_tests}
use Rattle.std.proofs.lemmas.Option.{slice_get_read, slice_get_within, slice_get_past}
use Rattle.name_table.specs.declared.files.FileRec.{FileRec}
use Rattle.name_table.specs.Files.{file_of, without, changed, RiseFrom}
use Rattle.name_table.specs.Inside.{below}

-- a file of a lower id stands before the place of an id
pub is_below : (id k : ℕ) (files : List FileRec) (i : ℕ) (d : FileRec) → RiseFrom k files → i < length files → (get_or files i d).id < id → i + 1 ≤ below id files
is_below id k [] i d rise within lt = absurd (omega arith)
is_below id k (f ∷ fs) zero d rise within lt = rw (cond-true (ltb f.id id) (below id fs + 1) 0 (grind (arith, nat_tests))) (omega arith)
is_below id k (f ∷ fs) (suc i) d rise within lt =
    let higher = rises f.id id fs i d rise.1 (omega arith) lt in
    rw (cond-true (ltb f.id id) (below id fs + 1) 0 (grind (arith, nat_tests))) (omega (arith, is_below id (f.id + 1) fs i d rise.1 (omega arith) lt))
  where
    rises : (a id : ℕ) (fs : List FileRec) (i : ℕ) (d : FileRec) → RiseFrom (a + 1) fs → i < length fs → (get_or fs i d).id < id → a < id
    rises a id [] i d rise within lt = absurd (omega arith)
    rises a id (f ∷ fs) zero d rise within lt = omega arith
    rises a id (f ∷ fs) (suc i) d rise within lt = omega (arith, rises f.id id fs i d rise.1 (omega arith) lt)

-- nor is there one before it of no lower id
pub not_below : (id : ℕ) (files : List FileRec) (i : ℕ) (d : FileRec) → i < length files → id ≤ (get_or files i d).id → below id files ≤ i
not_below id [] i d within le = absurd (omega arith)
not_below id (f ∷ fs) zero d within le = rw (cond-false (ltb f.id id) (below id fs + 1) 0 (grind (arith, nat_tests))) (omega arith)
not_below id (f ∷ fs) (suc i) d within le =
    let rest : below id fs ≤ i = not_below id fs i d (omega arith) le in
    split (ltb f.id id) (below id fs) i rest
  where
    split : (b : Bool) (n i : ℕ) → n ≤ i → cond b (n + 1) 0 ≤ suc i
    split true n i le = omega arith
    split false n i le = omega arith

pub below_within : (id : ℕ) (files : List FileRec) → below id files ≤ length files
below_within id [] = omega arith
below_within id (f ∷ fs) = split (ltb f.id id) (below id fs) (length fs) (below_within id fs)
  where
    split : (b : Bool) (n i : ℕ) → n ≤ i → cond b (n + 1) 0 ≤ suc i
    split true n i le = omega arith
    split false n i le = omega arith

-- ids rise, so none below the first is there
pub none_lower : (id k : ℕ) (files : List FileRec) → RiseFrom k files → id < k → file_of id files ≡ None
none_lower id k [] rise lt = refl
none_lower id k (f ∷ fs) rise lt = rw (cond-false (eqb f.id id) (Some f) (file_of id fs) (grind (arith, nat_tests))) (none_lower id (f.id + 1) fs rise.1 (omega arith))

-- the file, where it has the id
abbrev pub checked : ℕ → Option FileRec → Option FileRec
checked id None = None
checked id (Some f) = cond (eqb f.id id) (Some f) None

-- the file of an id stands at the place of the id
pub found : (id k : ℕ) (files : List FileRec) → RiseFrom k files → file_of id files ≡ checked id (slice_get files (below id files))
found id k [] rise = refl
found id k (f ∷ fs) rise =
    elim (cases_lt f.id id) [
      | inl lt ↦ rw (cond-true (ltb f.id id) (below id fs + 1) 0 (grind (arith, nat_tests)), cond-false (eqb f.id id) (Some f) (file_of id fs) (grind (arith, nat_tests)), add-one) (found id (f.id + 1) fs rise.1)
      | inr le ↦ rw (cond-false (ltb f.id id) (below id fs + 1) 0 (grind (arith, nat_tests))) (ap (cond (eqb f.id id) (Some f)) (none_after f id fs rise.1 le))
    ]
  where
    none_after : (f : FileRec) (id : ℕ) (fs : List FileRec) → RiseFrom (f.id + 1) fs → id ≤ f.id → file_of id fs ≡ None
    none_after f id fs rise le = none_lower id (f.id + 1) fs rise (omega arith)

-- the file of an id that is there
pub record Stands (key : ℕ) (files : List FileRec) (i : ℕ) : Type 0 where
  pub file : FileRec
  pub here : slice_get files i ≡ Some file
  pub is : file.id ≡ key
  pub within : i < length files

pub stands : (id k : ℕ) (files : List FileRec) → RiseFrom k files → IsSome (file_of id files) → Stands id files (below id files)
stands id k files rise there = by_place id files (below id files) (slice_get files (below id files)) refl (subst IsSome (found id k files rise) there)
  where
    by_place : (id : ℕ) (files : List FileRec) (i : ℕ) (o : Option FileRec) → slice_get files i ≡ o → IsSome (checked id o) → Stands id files i
    by_place id files i None e there = absurd cc
    by_place id files i (Some f) e there = by_test id files i f (eqb f.id id) refl e there
      where
        by_test : (id : ℕ) (files : List FileRec) (i : ℕ) (f : FileRec) (b : Bool) → eqb f.id id ≡ b → slice_get files i ≡ Some f → IsSome (cond b (Some f) None) → Stands id files i
        by_test id files i f true e here there = record { file = f; here = here; is = grind (arith, nat_tests); within = slice_get_within files i f here }
        by_test id files i f false e here there = absurd cc

-- without it, the other files
pub without_is : (id k : ℕ) (files : List FileRec) → RiseFrom k files → IsSome (file_of id files) → without id files ≡ remove files (below id files)
without_is id k [] rise there = absurd cc
without_is id k (f ∷ fs) rise there =
    elim (cases_lt f.id id) [
      | inl lt ↦
          let other : eqb f.id id ≡ false = grind (arith, nat_tests) in
          rw (cond-true (ltb f.id id) (below id fs + 1) 0 (grind (arith, nat_tests)), cond-false (eqb f.id id) fs (f ∷ without id fs) other, add-one) (ap (λ x. f ∷ x) (without_is id (f.id + 1) fs rise.1 (subst IsSome (cond-false (eqb f.id id) (Some f) (file_of id fs) other) there)))
      | inr le ↦ rw (cond-false (ltb f.id id) (below id fs + 1) 0 (grind (arith, nat_tests))) (first f id fs rise.1 le there)
    ]
  where
    first : (f : FileRec) (id : ℕ) (fs : List FileRec) → RiseFrom (f.id + 1) fs → id ≤ f.id → IsSome (cond (eqb f.id id) (Some f) (file_of id fs)) → cond (eqb f.id id) fs (f ∷ without id fs) ≡ fs
    first f id fs rise le there = by_test f id fs (eqb f.id id) (none_lower id (f.id + 1) fs rise (omega arith)) there
      where
        by_test : (f : FileRec) (id : ℕ) (fs : List FileRec) (b : Bool) → file_of id fs ≡ None → IsSome (cond b (Some f) (file_of id fs)) → cond b fs (f ∷ without id fs) ≡ fs
        by_test f id fs true none there = refl
        by_test f id fs false none there = let h = subst IsSome none there in absurd cc

-- with another in its place
pub changed_is : (id k : ℕ) (change : FileRec → FileRec) (files : List FileRec) (f : FileRec) → RiseFrom k files → slice_get files (below id files) ≡ Some f → f.id ≡ id → changed id change files ≡ set files (below id files) (change f)
changed_is id k change [] g rise here is = absurd cc
changed_is id k change (f ∷ fs) g rise here is =
    elim (cases_lt f.id id) [
      | inl lt ↦
          let place : below id (f ∷ fs) ≡ suc (below id fs) = cond-true (ltb f.id id) (below id fs + 1) 0 (grind (arith, nat_tests)) ∙ add-one (below id fs) in
          rw (place, cond-false (eqb f.id id) (change f ∷ fs) (f ∷ changed id change fs) (grind (arith, nat_tests))) (ap (λ x. f ∷ x) (changed_is id (f.id + 1) change fs g rise.1 (ap (slice_get (f ∷ fs)) (sym place) ∙ here) is))
      | inr le ↦
          let place : below id (f ∷ fs) ≡ 0 = cond-false (ltb f.id id) (below id fs + 1) 0 (grind (arith, nat_tests)) in
          let same : Some f ≡ Some g = ap (slice_get (f ∷ fs)) (sym place) ∙ here in
          rw place (first f g id change fs same is)
    ]
  where
    first : (f g : FileRec) (id : ℕ) (change : FileRec → FileRec) (fs : List FileRec) → Some f ≡ Some g → g.id ≡ id → changed id change (f ∷ fs) ≡ change g ∷ fs
    first f g id change fs same is =
        let e : f ≡ g = cc in
        cond-true (eqb f.id id) (change f ∷ fs) (f ∷ changed id change fs) (grind (arith, nat_tests, ap (λ (x : FileRec). x.id) e)) ∙ ap (λ x. change x ∷ fs) e

-- what a search for an id comes to
pub is_there : (id : ℕ) (files : List FileRec) (i : ℕ) (f : FileRec) → RiseFrom 1 files → i ≡ below id files → i < length files → f ≡ get_or files i f → f.id ≡ id → Some f ≡ file_of id files
is_there id files i f rise is within here same =
    let got : slice_get files (below id files) ≡ Some f = subst (λ j. slice_get files j ≡ Some f) is (slice_get_read files (length files) i f refl within here) in
    sym (found id 1 files rise ∙ ap (checked id) got ∙ cond-true (eqb f.id id) (Some f) None (grind (arith, nat_tests)))

pub is_other : (id : ℕ) (files : List FileRec) (i : ℕ) (f : FileRec) → RiseFrom 1 files → i ≡ below id files → i < length files → f ≡ get_or files i f → f.id ≢ id → None ≡ file_of id files
is_other id files i f rise is within here differs =
    let got : slice_get files (below id files) ≡ Some f = subst (λ j. slice_get files j ≡ Some f) is (slice_get_read files (length files) i f refl within here) in
    sym (found id 1 files rise ∙ ap (checked id) got ∙ cond-false (eqb f.id id) (Some f) None (grind (arith, nat_tests)))

pub is_past : (id : ℕ) (files : List FileRec) (i : ℕ) → RiseFrom 1 files → i ≡ below id files → length files ≤ i → None ≡ file_of id files
is_past id files i rise is le = sym (found id 1 files rise ∙ ap (checked id) (slice_get_past files (below id files) (omega arith)))
