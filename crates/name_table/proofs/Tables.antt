-- What a table keeps through each change.
use Rattle.std.proofs.Common.{◌≡◌, ℕ, zero, suc, ◌+◌, ◌<◌, ◌≤◌, List, [], ◌∷◌, ◌++◌, length, Bool, true, false, bytes_eq, cond, eqb, Some, None, ap, ◌∙◌, sym, refl, subst, arith, ◌||◌}
use Rattle.std.specs.Prelude.{slice_get, not, ◌&&◌, remove}
use Rattle.std.specs.List.{AllByRecursion}
use Rattle.std.proofs.lemmas.Bool.{cond-false}
use Rattle.std.proofs.lemmas.Bool.Decides.{nat_tests}
use Rattle.std.proofs.lemmas.Slice.Eq.{bytes_eq-Decides}
use Rattle.name_table.specs.declared.files.FileRec.{FileRec}
use Rattle.name_table.specs.Files.{file_named, has_slot, without, changed, RiseFrom, AreApart, IsFile, IdsBelow}

-- ---- tests of names

bytes_eq-sym : (a b : List ℕ) → bytes_eq a b ≡ bytes_eq b a
bytes_eq-sym a b = by_tests (bytes_eq a b) (bytes_eq b a) (λ e. (bytes_eq-Decides b a).1 (sym ((bytes_eq-Decides a b).0 e))) (λ e. (bytes_eq-Decides a b).1 (sym ((bytes_eq-Decides b a).0 e)))
  where
    by_tests : (x y : Bool) → (x ≡ true → y ≡ true) → (y ≡ true → x ≡ true) → x ≡ y
    by_tests true y p q = sym (p refl)
    by_tests false true p q = q refl
    by_tests false false p q = refl

none_at_head : (name : List ℕ) (f : FileRec) (fs : List FileRec) → file_named name (f ∷ fs) ≡ None → (bytes_eq f.name name ≡ false) × (file_named name fs ≡ None)
none_at_head name f fs e =
    (elim (bytes_eq f.name name) as (λ (b : Bool). cond b (Some f) (file_named name fs) ≡ None → (b ≡ false) × (file_named name fs ≡ None)) [
      | true ↦ λ e. absurd cc
      | false ↦ λ e. (refl, e)
    ]) e

none_in_front : (name : List ℕ) (f : FileRec) (fs : List FileRec) → bytes_eq f.name name ≡ false → file_named name fs ≡ None → file_named name (f ∷ fs) ≡ None
none_in_front name f fs other e = cond-false (bytes_eq f.name name) (Some f) (file_named name fs) other ∙ e

no_slot_at_head : (b c : Bool) → (b || c) ≡ false → (b ≡ false) × (c ≡ false)
no_slot_at_head true c e = absurd cc
no_slot_at_head false c e = (refl, e)

no_slot_in_front : (b c : Bool) → b ≡ false → c ≡ false → (b || c) ≡ false
no_slot_in_front b c p q = grind arith

eqb-sym : (a b : ℕ) → eqb a b ≡ eqb b a
eqb-sym a b = grind (arith, nat_tests)

-- ---- one more file

pub rise_push : (k : ℕ) (files : List FileRec) (g : FileRec) → RiseFrom k files → k ≤ g.id → ((f : FileRec) (i : ℕ) → slice_get files i ≡ Some f → f.id < g.id) → RiseFrom k (files ++ g ∷ [])
rise_push k [] g rise le above = (le, tt)
rise_push k (f ∷ fs) g rise le above = (rise.0, rise_push (f.id + 1) fs g rise.1 (omega (arith, above f 0 refl)) (λ h i e. above h (suc i) e))

pub named_push : (name : List ℕ) (files : List FileRec) (g : FileRec) → file_named name files ≡ None → bytes_eq g.name name ≡ false → file_named name (files ++ g ∷ []) ≡ None
named_push name [] g none other = none_in_front name g [] other refl
named_push name (f ∷ fs) g none other =
    let h = none_at_head name f fs none in
    none_in_front name f (fs ++ g ∷ []) h.0 (named_push name fs g h.1 other)

pub slot_push : (slot : ℕ) (files : List FileRec) (g : FileRec) → has_slot slot (files ++ g ∷ []) ≡ (has_slot slot files || eqb g.slot slot)
slot_push slot [] g = by_test (eqb g.slot slot)
  where
    by_test : (b : Bool) → (b || false) ≡ b
    by_test true = refl
    by_test false = refl
slot_push slot (f ∷ fs) g = ap (λ b. eqb f.slot slot || b) (slot_push slot fs g) ∙ regroup (eqb f.slot slot) (has_slot slot fs) (eqb g.slot slot)
  where
    regroup : (a b c : Bool) → (a || (b || c)) ≡ ((a || b) || c)
    regroup true b c = refl
    regroup false b c = refl

pub apart_push : (files : List FileRec) (g : FileRec) → AreApart files → file_named g.name files ≡ None → has_slot g.slot files ≡ false → AreApart (files ++ g ∷ [])
apart_push [] g apart none free = (refl, refl, tt)
apart_push (f ∷ fs) g apart none free =
    let n = none_at_head g.name f fs none in
    let s = no_slot_at_head (eqb f.slot g.slot) (has_slot g.slot fs) free in (
      named_push f.name fs g apart.0 (bytes_eq-sym g.name f.name ∙ n.0),
      slot_push f.slot fs g ∙ no_slot_in_front (has_slot f.slot fs) (eqb g.slot f.slot) apart.1 (eqb-sym g.slot f.slot ∙ s.0),
      apart_push fs g apart.2 n.1 s.1,
    )

pub each_push : (next : ℕ) (old : ℕ) (files : List FileRec) (g : FileRec) → old ≤ next → AllByRecursion (IsFile old) files → IsFile next g → AllByRecursion (IsFile next) (files ++ g ∷ [])
each_push next old [] g le each new = (new, tt)
each_push next old (f ∷ fs) g le each new = ((omega (arith, each.0.0), each.0.1, each.0.2, each.0.3), each_push next old fs g le each.1 new)

-- the ids of files that are there are below a number
pub each_below : (next old : ℕ) (files : List FileRec) → ((f : FileRec) (i : ℕ) → slice_get files i ≡ Some f → f.id < next) → AllByRecursion (IsFile old) files → AllByRecursion (IsFile next) files
each_below next old [] below each = tt
each_below next old (f ∷ fs) below each = ((below f 0 refl, each.0.1, each.0.2, each.0.3), each_below next old fs (λ h i e. below h (suc i) e) each.1)

-- ---- one file fewer

rise_less : (k m : ℕ) (files : List FileRec) → k ≤ m → RiseFrom m files → RiseFrom k files
rise_less k m [] le rise = tt
rise_less k m (f ∷ fs) le rise = (omega (arith, rise.0), rise.1)

pub rise_without : (id k : ℕ) (files : List FileRec) → RiseFrom k files → RiseFrom k (without id files)
rise_without id k [] rise = tt
rise_without id k (f ∷ fs) rise =
    elim (eqb f.id id) as (λ (b : Bool). RiseFrom k (cond b fs (f ∷ without id fs))) [
      | true ↦ rise_less k (f.id + 1) fs (omega (arith, rise.0)) rise.1
      | false ↦ (rise.0, rise_without id (f.id + 1) fs rise.1)
    ]

named_without : (id : ℕ) (name : List ℕ) (files : List FileRec) → file_named name files ≡ None → file_named name (without id files) ≡ None
named_without id name [] none = refl
named_without id name (f ∷ fs) none =
    (elim (eqb f.id id) as (λ (b : Bool). ((bytes_eq f.name name ≡ false) × (file_named name fs ≡ None)) → file_named name (cond b fs (f ∷ without id fs)) ≡ None) [
      | true ↦ λ h. h.1
      | false ↦ λ h. none_in_front name f (without id fs) h.0 (named_without id name fs h.1)
    ]) (none_at_head name f fs none)

slot_without : (id slot : ℕ) (files : List FileRec) → has_slot slot files ≡ false → has_slot slot (without id files) ≡ false
slot_without id slot [] none = refl
slot_without id slot (f ∷ fs) none =
    (elim (eqb f.id id) as (λ (b : Bool). ((eqb f.slot slot ≡ false) × (has_slot slot fs ≡ false)) → has_slot slot (cond b fs (f ∷ without id fs)) ≡ false) [
      | true ↦ λ h. h.1
      | false ↦ λ h. no_slot_in_front (eqb f.slot slot) (has_slot slot (without id fs)) h.0 (slot_without id slot fs h.1)
    ]) (no_slot_at_head (eqb f.slot slot) (has_slot slot fs) none)

pub apart_without : (id : ℕ) (files : List FileRec) → AreApart files → AreApart (without id files)
apart_without id [] apart = tt
apart_without id (f ∷ fs) apart =
    elim (eqb f.id id) as (λ (b : Bool). AreApart (cond b fs (f ∷ without id fs))) [
      | true ↦ apart.2
      | false ↦ (named_without id f.name fs apart.0, slot_without id f.slot fs apart.1, apart_without id fs apart.2)
    ]

pub each_without : (P : FileRec → Type 0) (id : ℕ) (files : List FileRec) → AllByRecursion P files → AllByRecursion P (without id files)
each_without P id [] each = tt
each_without P id (f ∷ fs) each =
    elim (eqb f.id id) as (λ (b : Bool). AllByRecursion P (cond b fs (f ∷ without id fs))) [
      | true ↦ each.1
      | false ↦ (each.0, each_without P id fs each.1)
    ]

pub fewer : (id : ℕ) (files : List FileRec) → length (without id files) ≤ length files
fewer id [] = omega arith
fewer id (f ∷ fs) =
    elim (eqb f.id id) as (λ (b : Bool). length (cond b fs (f ∷ without id fs)) ≤ suc (length fs)) [
      | true ↦ omega arith
      | false ↦ omega (arith, fewer id fs)
    ]

-- a slot has a file afterwards where it had one, but for that of the file
slot_there : (slot : ℕ) (files : List FileRec) (i : ℕ) (f : FileRec) → slice_get files i ≡ Some f → eqb f.slot slot ≡ true → has_slot slot files ≡ true
slot_there slot [] i f here is = absurd cc
slot_there slot (g ∷ gs) zero f here is =
    let same : g ≡ f = cc in
    ap (λ (h : FileRec). eqb h.slot slot || has_slot slot gs) same ∙ ap (λ b. b || has_slot slot gs) is
slot_there slot (g ∷ gs) (suc i) f here is = ap (λ b. eqb g.slot slot || b) (slot_there slot gs i f here is) ∙ or_true (eqb g.slot slot)
  where
    or_true : (b : Bool) → (b || true) ≡ true
    or_true true = refl
    or_true false = refl

at_head : (x y : Bool) → (x ≡ true → y ≡ false) → y ≡ ((x || y) && not x)
at_head true y h = h refl
at_head false true h = refl
at_head false false h = refl

later_on : (x y z w : Bool) → w ≡ (y && not z) → (z ≡ true → x ≡ false) → (x || w) ≡ ((x || y) && not z)
later_on true y true w e h = absurd (let k = h refl in cc)
later_on true y false w e h = refl
later_on false y z w e h = e

pub slots_left : (slot : ℕ) (files : List FileRec) (i : ℕ) (f : FileRec) → AreApart files → slice_get files i ≡ Some f → has_slot slot (remove files i) ≡ (has_slot slot files && not (eqb f.slot slot))
slots_left slot [] i f apart here = absurd cc
slots_left slot (g ∷ gs) zero f apart here =
    let same : g ≡ f = cc in
    subst (λ (h : FileRec). has_slot slot gs ≡ ((eqb g.slot slot || has_slot slot gs) && not (eqb h.slot slot))) same (at_head (eqb g.slot slot) (has_slot slot gs) (λ e. let is : g.slot ≡ slot = grind (arith, nat_tests) in subst (λ s. has_slot s gs ≡ false) is apart.1))
slots_left slot (g ∷ gs) (suc i) f apart here =
    later_on (eqb g.slot slot) (has_slot slot gs) (eqb f.slot slot) (has_slot slot (remove gs i)) (slots_left slot gs i f apart.2 here) (λ e. other e (has_slot g.slot gs) refl apart.1)
  where
    other : eqb f.slot slot ≡ true → (b : Bool) → has_slot g.slot gs ≡ b → b ≡ false → eqb g.slot slot ≡ false
    other e b is none = by_test (eqb g.slot slot) refl
      where
        by_test : (t : Bool) → eqb g.slot slot ≡ t → t ≡ false
        by_test false h = refl
        by_test true h =
            let gs-is : g.slot ≡ slot = grind (arith, nat_tests) in
            let there : has_slot g.slot gs ≡ true = slot_there g.slot gs i f here (rw gs-is e) in
            absurd cc

-- ---- one file changed, in its length or its mark

pub record Keeps (change : FileRec → FileRec) : Type 0 where
  pub id : (f : FileRec) → (change f).id ≡ f.id
  pub name : (f : FileRec) → (change f).name ≡ f.name
  pub slot : (f : FileRec) → (change f).slot ≡ f.slot

pub rise_changed : (change : FileRec → FileRec) (id k : ℕ) (files : List FileRec) → Keeps change → RiseFrom k files → RiseFrom k (changed id change files)
rise_changed change id k [] keeps rise = tt
rise_changed change id k (f ∷ fs) keeps rise =
    elim (eqb f.id id) as (λ (b : Bool). RiseFrom k (cond b (change f ∷ fs) (f ∷ changed id change fs))) [
      | true ↦ rw (keeps.id f) rise
      | false ↦ (rise.0, rise_changed change id (f.id + 1) fs keeps rise.1)
    ]

named_changed : (change : FileRec → FileRec) (id : ℕ) (name : List ℕ) (files : List FileRec) → Keeps change → file_named name files ≡ None → file_named name (changed id change files) ≡ None
named_changed change id name [] keeps none = refl
named_changed change id name (f ∷ fs) keeps none =
    (elim (eqb f.id id) as (λ (b : Bool). ((bytes_eq f.name name ≡ false) × (file_named name fs ≡ None)) → file_named name (cond b (change f ∷ fs) (f ∷ changed id change fs)) ≡ None) [
      | true ↦ λ h. none_in_front name (change f) fs (ap (λ n. bytes_eq n name) (keeps.name f) ∙ h.0) h.1
      | false ↦ λ h. none_in_front name f (changed id change fs) h.0 (named_changed change id name fs keeps h.1)
    ]) (none_at_head name f fs none)

pub slot_changed : (change : FileRec → FileRec) (id slot : ℕ) (files : List FileRec) → Keeps change → has_slot slot (changed id change files) ≡ has_slot slot files
slot_changed change id slot [] keeps = refl
slot_changed change id slot (f ∷ fs) keeps =
    elim (eqb f.id id) as (λ (b : Bool). has_slot slot (cond b (change f ∷ fs) (f ∷ changed id change fs)) ≡ (eqb f.slot slot || has_slot slot fs)) [
      | true ↦ ap (λ s. eqb s slot || has_slot slot fs) (keeps.slot f)
      | false ↦ ap (λ b. eqb f.slot slot || b) (slot_changed change id slot fs keeps)
    ]

pub apart_changed : (change : FileRec → FileRec) (id : ℕ) (files : List FileRec) → Keeps change → AreApart files → AreApart (changed id change files)
apart_changed change id [] keeps apart = tt
apart_changed change id (f ∷ fs) keeps apart =
    elim (eqb f.id id) as (λ (b : Bool). AreApart (cond b (change f ∷ fs) (f ∷ changed id change fs))) [
      | true ↦ (ap (λ n. file_named n fs) (keeps.name f) ∙ apart.0, ap (λ s. has_slot s fs) (keeps.slot f) ∙ apart.1, apart.2)
      | false ↦ (named_changed change id f.name fs keeps apart.0, slot_changed change id f.slot fs keeps ∙ apart.1, apart_changed change id fs keeps apart.2)
    ]

pub each_changed : (P : FileRec → Type 0) (change : FileRec → FileRec) (id : ℕ) (files : List FileRec) → ((f : FileRec) → P f → P (change f)) → AllByRecursion P files → AllByRecursion P (changed id change files)
each_changed P change id [] keeps each = tt
each_changed P change id (f ∷ fs) keeps each =
    elim (eqb f.id id) as (λ (b : Bool). AllByRecursion P (cond b (change f ∷ fs) (f ∷ changed id change fs))) [
      | true ↦ (keeps f each.0, each.1)
      | false ↦ (each.0, each_changed P change id fs keeps each.1)
    ]

pub same_count : (change : FileRec → FileRec) (id : ℕ) (files : List FileRec) → length (changed id change files) ≡ length files
same_count change id [] = refl
same_count change id (f ∷ fs) =
    elim (eqb f.id id) as (λ (b : Bool). length (cond b (change f ∷ fs) (f ∷ changed id change fs)) ≡ suc (length fs)) [
      | true ↦ refl
      | false ↦ ap suc (same_count change id fs)
    ]

-- ---- ids below a number

-- what stands somewhere has an id below
pub below_at : (id : ℕ) (files : List FileRec) → IdsBelow id files → (f : FileRec) (i : ℕ) → slice_get files i ≡ Some f → f.id < id
below_at id [] ids f i here = absurd cc
below_at id (g ∷ gs) ids f zero here = let same : g ≡ f = cc in subst (λ (h : FileRec). h.id < id) same ids.0
below_at id (g ∷ gs) ids f (suc i) here = below_at id gs ids.1 f i here

-- the ids of a table are below its next id
pub below_next : (next : ℕ) (files : List FileRec) → AllByRecursion (IsFile next) files → IdsBelow next files
below_next next [] each = tt
below_next next (f ∷ fs) each = (each.0.0, below_next next fs each.1)
