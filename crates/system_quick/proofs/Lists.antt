-- Lists of which one element changes, comes or goes: after a map, at a place, and in the table of files.
use Rattle.std.proofs.Common.{◌≡◌, ℕ, zero, suc, ◌+◌, ◌≤◌, Bool, true, false, cond, List, [], ◌∷◌, ◌++◌, length, Option, Some, None, refl, sym, ap, ◌∙◌, arith}
use Rattle.std.specs.Prelude.{◌≢◌, ◌==◌, not, map, bytes_eq, if◌then◌else◌}
use Rattle.std.specs.List.{position, position_or_len, remove}
use Rattle.std.proofs.lemmas.Bool.Decides.{nat_tests}
use Rattle.name_table.specs.declared.files.FileRec.{FileRec}
use Rattle.name_table.specs.Files as name_table
use Rattle.name_table.specs.Files.{RiseFrom, file_named, changed}
use Rattle.plain_files.specs.Lists.{with_changed, without}
use Rattle.core_lemmas.proofs.Words.{same_some}
use Rattle.system_state.specs.Kept.{slot_of}
use Rattle.call_checks.proofs.Found.{found_again}
use Rattle.system_quick.specs.Tables.{sealing}

-- ---- after a map

pub map_changed : {A B : Type 0} (f : A → B) (p : A → Bool) (q : B → Bool) (change : A → A) (change2 : B → B) → ((x : A) → q (f x) ≡ p x) → ((x : A) → f (change x) ≡ change2 (f x)) → (xs : List A) → map f (with_changed p change xs) ≡ with_changed q change2 (map f xs)
map_changed f p q change change2 same moves [] = refl
map_changed {A} {B} f p q change change2 same moves (x ∷ xs) = go (p x) (q (f x)) (same x) (map_changed f p q change change2 same moves xs)
  where
    go : (t u : Bool) → u ≡ t → map f (with_changed p change xs) ≡ with_changed q change2 (map f xs) → map f (if t then change x ∷ xs else x ∷ with_changed p change xs) ≡ (if u then change2 (f x) ∷ map f xs else f x ∷ with_changed q change2 (map f xs))
    go true true e ih = ap (λ (y : B). y ∷ map f xs) (moves x)
    go false false e ih = ap (λ (ys : List B). f x ∷ ys) ih
    go true false e ih = absurd (cc)
    go false true e ih = absurd (cc)

pub map_without : {A B : Type 0} (f : A → B) (p : A → Bool) (q : B → Bool) → ((x : A) → q (f x) ≡ p x) → (xs : List A) → map f (without p xs) ≡ without q (map f xs)
map_without f p q same [] = refl
map_without {A} {B} f p q same (x ∷ xs) = go (p x) (q (f x)) (same x) (map_without f p q same xs)
  where
    go : (t u : Bool) → u ≡ t → map f (without p xs) ≡ without q (map f xs) → map f (if t then xs else x ∷ without p xs) ≡ (if u then map f xs else f x ∷ without q (map f xs))
    go true true e ih = refl
    go false false e ih = ap (λ (ys : List B). f x ∷ ys) ih
    go true false e ih = absurd (cc)
    go false true e ih = absurd (cc)

-- ---- at a place

one_more : (n : ℕ) → 1 + n ≡ suc n
one_more n = omega arith

without_at : {A : Type 0} (p : A → Bool) (xs : List A) → without p xs ≡ remove xs (position_or_len p xs)
without_at p [] = refl
without_at p (y ∷ ys) =
    elim (p y) as (λ b. cond b ys (y ∷ without p ys) ≡ remove (y ∷ ys) (cond (not b) (1 + position_or_len p ys) 0)) [
      | true ↦ refl
      | false ↦ ap (λ zs. y ∷ zs) (without_at p ys) ∙ ap (λ k. remove (y ∷ ys) k) (sym (one_more (position_or_len p ys)))
    ]

place_is : {A : Type 0} (p : A → Bool) (xs : List A) (i : ℕ) → position p xs ≡ Some i → position_or_len p xs ≡ i
place_is p xs i found = grind (arith, nat_tests)

-- what stands at the place that was found is gone
pub removed_at : {A : Type 0} (p : A → Bool) (xs : List A) (i : ℕ) → position p xs ≡ Some i → remove xs i ≡ without p xs
removed_at p xs i e = ap (remove xs) (sym (place_is p xs i e)) ∙ sym (without_at p xs)

-- where no place was found, nothing goes
pub removed_none : {A : Type 0} (p : A → Bool) (xs : List A) → position p xs ≡ None → without p xs ≡ xs
removed_none p xs e = without_at p xs ∙ past xs (position_or_len p xs) last
  where
    last : length xs ≤ position_or_len p xs
    last = grind (arith, nat_tests)

    past : {B : Type 0} (ys : List B) (n : ℕ) → length ys ≤ n → remove ys n ≡ ys
    past [] zero l = refl
    past [] (suc n) l = refl
    past (y ∷ ys) zero l = absurd (omega arith)
    past (y ∷ ys) (suc n) l = ap (λ zs. y ∷ zs) (past ys n (omega arith))

-- ---- the table of files

-- a file that is there is found again, with one more behind it
pub found_before : (id : ℕ) (rows : List FileRec) (x r : FileRec) → name_table.file_of id rows ≡ Some r → name_table.file_of id (rows ++ x ∷ []) ≡ Some r
found_before id [] x r e = absurd (cc)
found_before id (y ∷ ys) x r e = go (y.id == id) e (found_before id ys x r)
  where
    go : (t : Bool) → (if t then Some y else name_table.file_of id ys) ≡ Some r → (name_table.file_of id ys ≡ Some r → name_table.file_of id (ys ++ x ∷ []) ≡ Some r) → (if t then Some y else name_table.file_of id (ys ++ x ∷ [])) ≡ Some r
    go true f ih = f
    go false f ih = ih f

-- a sealed file keeps its slot
pub sealed_slots : (id j : ℕ) (rows : List FileRec) → slot_of (name_table.file_of j (changed id sealing rows)) ≡ slot_of (name_table.file_of j rows)
sealed_slots id j [] = refl
sealed_slots id j (x ∷ xs) = go (x.id == id) (sealed_slots id j xs)
  where
    here : (u : Bool) → slot_of (if u then Some (sealing x) else name_table.file_of j xs) ≡ slot_of (if u then Some x else name_table.file_of j xs)
    here true = refl
    here false = refl

    there : (u : Bool) → slot_of (name_table.file_of j (changed id sealing xs)) ≡ slot_of (name_table.file_of j xs) → slot_of (if u then Some x else name_table.file_of j (changed id sealing xs)) ≡ slot_of (if u then Some x else name_table.file_of j xs)
    there true h = refl
    there false h = h

    go : (t : Bool) → slot_of (name_table.file_of j (changed id sealing xs)) ≡ slot_of (name_table.file_of j xs) → slot_of (name_table.file_of j (if t then sealing x ∷ xs else x ∷ changed id sealing xs)) ≡ slot_of (name_table.file_of j (x ∷ xs))
    go true h = here (x.id == j)
    go false h = there (x.id == j) h

-- another file stays
pub other_stays : (id j : ℕ) (rows : List FileRec) → j ≢ id → name_table.file_of j (name_table.without id rows) ≡ name_table.file_of j rows
other_stays id j [] d = refl
other_stays id j (x ∷ xs) d = go (x.id == id) refl (other_stays id j xs d)
  where
    not_it : (x.id == id) ≡ true → (x.id == j) ≡ false
    not_it e = grind (arith, nat_tests)

    go : (t : Bool) → (x.id == id) ≡ t → name_table.file_of j (name_table.without id xs) ≡ name_table.file_of j xs → name_table.file_of j (if t then xs else x ∷ name_table.without id xs) ≡ name_table.file_of j (x ∷ xs)
    go true e ih = ap (λ (u : Bool). if u then Some x else name_table.file_of j xs) (sym (not_it e))
    go false e ih = ap (λ (o : Option FileRec). if x.id == j then Some x else o) ih

abbrev pub named : List ℕ → FileRec → Bool
named name r = bytes_eq r.name name

-- the file of a name, by its id
pub changed_named : (n : ℕ) (name : List ℕ) (rows : List FileRec) (r : FileRec) → RiseFrom n rows → file_named name rows ≡ Some r → changed r.id sealing rows ≡ with_changed (named name) sealing rows
changed_named n name [] r k e = refl
changed_named n name (x ∷ xs) r k e = go (bytes_eq x.name name) e (changed_named (x.id + 1) name xs r k.1)
  where
    own : x ≡ r → (x.id == r.id) ≡ true
    own s = let w : x.id ≡ r.id = ap (λ (f : FileRec). f.id) s in grind (arith, nat_tests)

    other : x.id + 1 ≤ r.id → (x.id == r.id) ≡ false
    other l = grind (arith, nat_tests)

    go : (t : Bool) → (if t then Some x else file_named name xs) ≡ Some r → (file_named name xs ≡ Some r → changed r.id sealing xs ≡ with_changed (named name) sealing xs) → (if x.id == r.id then sealing x ∷ xs else x ∷ changed r.id sealing xs) ≡ (if t then sealing x ∷ xs else x ∷ with_changed (named name) sealing xs)
    go true f ih = ap (λ (u : Bool). if u then sealing x ∷ xs else x ∷ changed r.id sealing xs) (own (same_some (Some x) x r refl f))
    go false f ih = ap (λ (u : Bool). if u then sealing x ∷ xs else x ∷ changed r.id sealing xs) (other (found_again (x.id + 1) xs name r k.1 f).low) ∙ ap (λ (ys : List FileRec). x ∷ ys) (ih f)

pub without_named : (n : ℕ) (name : List ℕ) (rows : List FileRec) (r : FileRec) → RiseFrom n rows → file_named name rows ≡ Some r → name_table.without r.id rows ≡ without (named name) rows
without_named n name [] r k e = refl
without_named n name (x ∷ xs) r k e = go (bytes_eq x.name name) e (without_named (x.id + 1) name xs r k.1)
  where
    own : x ≡ r → (x.id == r.id) ≡ true
    own s = let w : x.id ≡ r.id = ap (λ (f : FileRec). f.id) s in grind (arith, nat_tests)

    other : x.id + 1 ≤ r.id → (x.id == r.id) ≡ false
    other l = grind (arith, nat_tests)

    go : (t : Bool) → (if t then Some x else file_named name xs) ≡ Some r → (file_named name xs ≡ Some r → name_table.without r.id xs ≡ without (named name) xs) → (if x.id == r.id then xs else x ∷ name_table.without r.id xs) ≡ (if t then xs else x ∷ without (named name) xs)
    go true f ih = ap (λ (u : Bool). if u then xs else x ∷ name_table.without r.id xs) (own (same_some (Some x) x r refl f))
    go false f ih = ap (λ (u : Bool). if u then xs else x ∷ name_table.without r.id xs) (other (found_again (x.id + 1) xs name r k.1 f).low) ∙ ap (λ (ys : List FileRec). x ∷ ys) (ih f)
