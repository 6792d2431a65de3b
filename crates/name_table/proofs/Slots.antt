-- The lowest slot in which no file stands.
use Rattle.std.proofs.Common.{◌≡◌, ℕ, zero, suc, ◌+◌, ◌-◌, ◌<◌, ◌≤◌, List, [], ◌∷◌, length, get_or, Bool, true, false, cond, eqb, ◌∙◌, sym, refl, subst, arith, inl, inr, ◌≢◌, ◌||◌, ◌⊎◌}
use Rattle.std.proofs.lemmas.Bool.{cases_lt}
use Rattle.std.proofs.lemmas.Bool.Decides.{nat_tests}
use Rattle.name_table.specs.declared.files.FileRec.{FileRec}
use Rattle.name_table.specs.Files.{has_slot, slot_from, free_slot}
use Rattle.name_table.specs.Inside.{MarksSlots}

-- a file in a slot, and the others
pub record Other (slot : ℕ) (files : List FileRec) : Type 0 where
  pub rest : List FileRec
  pub len : length files ≡ length rest + 1
  pub keeps : (t : ℕ) → t ≢ slot → has_slot t files ≡ true → has_slot t rest ≡ true

pub without_slot : (slot : ℕ) (files : List FileRec) → has_slot slot files ≡ true → Other slot files
without_slot slot [] there = absurd cc
without_slot slot (f ∷ fs) there = by_test slot f fs (eqb f.slot slot) (λ h. without_slot slot fs h) refl there
  where
    more : (t slot : ℕ) (f : FileRec) (fs rest : List FileRec) → ((u : ℕ) → u ≢ slot → has_slot u fs ≡ true → has_slot u rest ≡ true) → t ≢ slot → (eqb f.slot t || has_slot t fs) ≡ true → (eqb f.slot t || has_slot t rest) ≡ true
    more t slot f fs rest keeps ne h = by_head (eqb f.slot t) h
      where
        by_head : (b : Bool) → (b || has_slot t fs) ≡ true → (b || has_slot t rest) ≡ true
        by_head true h = refl
        by_head false h = keeps t ne h

    by_test : (slot : ℕ) (f : FileRec) (fs : List FileRec) (b : Bool) → (has_slot slot fs ≡ true → Other slot fs) → eqb f.slot slot ≡ b → (b || has_slot slot fs) ≡ true → Other slot (f ∷ fs)
    by_test slot f fs true ih e there = record { rest = fs; len = omega arith; keeps = λ t ne h. later t f fs (grind (arith, nat_tests)) h }
      where
        later : (t : ℕ) (f : FileRec) (fs : List FileRec) → eqb f.slot t ≡ false → (eqb f.slot t || has_slot t fs) ≡ true → has_slot t fs ≡ true
        later t f fs e h = subst (λ b. (b || has_slot t fs) ≡ true) e h
    by_test slot f fs false ih e there =
        let o = ih there in
        record { rest = f ∷ o.rest; len = omega (arith, o.len); keeps = λ t ne h. more t slot f fs o.rest o.keeps ne h }

-- so many slots with files have as many files
pub as_many : (n a : ℕ) (files : List FileRec) → ((t : ℕ) → a ≤ t → t < a + n → has_slot t files ≡ true) → n ≤ length files
as_many zero a files all = omega arith
as_many (suc n) a files all =
    let o = without_slot (a + n) files (all (a + n) (omega arith) (omega arith)) in
    omega (arith, o.len, as_many n a o.rest (λ t le lt. o.keeps t (omega arith) (all t le (omega arith))))

-- of fewer files than slots, one slot is free
pub slot_bounds : (n a : ℕ) (files : List FileRec) → (a ≤ slot_from a n files) × (slot_from a n files ≤ a + n)
unfolding slot_from
slot_bounds zero a files = (omega arith, omega arith)
slot_bounds (suc n) a files =
    (elim (has_slot a files) as (λ (b : Bool). ((a + 1 ≤ slot_from (a + 1) n files) × (slot_from (a + 1) n files ≤ a + 1 + n)) → (a ≤ cond b (slot_from (a + 1) n files) a) × (cond b (slot_from (a + 1) n files) a ≤ a + suc n)) [
      | true ↦ λ h. (omega arith, omega arith)
      | false ↦ λ h. (omega arith, omega arith)
    ]) (slot_bounds n (a + 1) files)

pub slot_used : (n a : ℕ) (files : List FileRec) (t : ℕ) → a ≤ t → t < slot_from a n files → has_slot t files ≡ true
unfolding slot_from
slot_used zero a files t le lt = absurd (omega arith)
slot_used (suc n) a files t le lt = by_test (has_slot a files) (λ past lt. slot_used n (a + 1) files t past lt) refl lt
  where
    by_test : (b : Bool) → (a + 1 ≤ t → t < slot_from (a + 1) n files → has_slot t files ≡ true) → has_slot a files ≡ b → t < cond b (slot_from (a + 1) n files) a → has_slot t files ≡ true
    by_test true ih e lt = by_place (cases_lt a t)
      where
        by_place : (a < t) ⊎ (t ≤ a) → has_slot t files ≡ true
        by_place (inl past) = ih (omega arith) lt
        by_place (inr here) = let is : a ≡ t = omega arith in subst (λ u. has_slot u files ≡ true) is e
    by_test false ih e lt = absurd (omega arith)

pub slot_free : (n a : ℕ) (files : List FileRec) → slot_from a n files < a + n → has_slot (slot_from a n files) files ≡ false
unfolding slot_from
slot_free zero a files lt = absurd (omega arith)
slot_free (suc n) a files lt =
    (elim (has_slot a files) as (λ (b : Bool). has_slot a files ≡ b → cond b (slot_from (a + 1) n files) a < a + suc n → has_slot (cond b (slot_from (a + 1) n files) a) files ≡ false) [
      | true ↦ λ e lt. slot_free n (a + 1) files (omega arith)
      | false ↦ λ e lt. e
    ]) refl lt

-- fewer than 4,096 files leave a slot free
pub has_room : (files : List FileRec) → length files < 4096 → (free_slot files < 4096) × (has_slot (free_slot files) files ≡ false)
unfolding free_slot
has_room files few =
    let within : free_slot files < 4096 = below_all (cases_lt (free_slot files) 4096) in
    (within, slot_free 4096 0 files within)
  where
    below_all : (free_slot files < 4096) ⊎ (4096 ≤ free_slot files) → free_slot files < 4096
    below_all (inl lt) = lt
    below_all (inr le) = absurd (omega (arith, as_many 4096 0 files (λ t _ lt. slot_used 4096 0 files t (omega arith) (omega arith))))

-- ---- the loop

pub first_here : (taken : List Bool) (slot : ℕ) (files : List FileRec) → MarksSlots taken files → slot < 4096 → get_or taken slot false ≡ false → slot_from slot (4096 - slot) files ≡ slot
unfolding slot_from
first_here taken slot files marks lt free =
    let n : 4096 - slot ≡ suc (4096 - (slot + 1)) = omega arith in
    let none : has_slot slot files ≡ false = sym (marks.each slot lt) ∙ free in
    rw (n, none) refl

pub goes_past : (taken : List Bool) (slot : ℕ) (files : List FileRec) → MarksSlots taken files → slot < 4096 → get_or taken slot false ≡ true → slot_from slot (4096 - slot) files ≡ slot_from (slot + 1) (4096 - (slot + 1)) files
unfolding slot_from
goes_past taken slot files marks lt used =
    let n : 4096 - slot ≡ suc (4096 - (slot + 1)) = omega arith in
    let there : has_slot slot files ≡ true = sym (marks.each slot lt) ∙ used in
    rw (n, there) refl

pub at_end : (slot : ℕ) (files : List FileRec) → 4096 ≤ slot → slot_from slot (4096 - slot) files ≡ slot
unfolding slot_from
at_end slot files le = let n : 4096 - slot ≡ 0 = omega arith in rw n refl

pub from_first : (files : List FileRec) → slot_from 0 (4096 - 0) files ≡ free_slot files
unfolding free_slot
from_first files = refl
