-- The first element of a list that passes a test: where it stands, and what edits there come to.
use Rattle.std.proofs.Common.{◌≡◌, ℕ, ◌+◌, ◌<◌, List, [], ◌∷◌, length, set, Bool, true, false, not, cond, Option, Some, None, suc, refl, ap, ◌∙◌, sym, arith}
use Rattle.std.specs.Prelude.{slice_get, is_none, unwrap_or}
use Rattle.std.specs.List.{find, position, position_or_len, remove}
use Rattle.std.proofs.lemmas.Bool.Decides.{nat_tests}
use Rattle.std.proofs.lemmas.List.Folds.{find_at}
use Rattle.plain_files.specs.declared.calls.PlainFile.{PlainFile}
use Rattle.plain_files.specs.Lists.{with_changed, without}
use Rattle.plain_files.specs.Plain.{State, Function, is_file, is_function, file_in, has_no_file}

one_more : (n : ℕ) → 1 + n ≡ suc n
one_more n = omega arith

-- the element at that place has changed
pub with_changed_at : {A : Type 0} → (p : A → Bool) (change : A → A) (xs : List A) (x : A) → find p xs ≡ Some x → with_changed p change xs ≡ set xs (position_or_len p xs) (change x)
with_changed_at p change [] x found = cc
with_changed_at p change (y ∷ ys) x found =
    elim (p y) as (λ b. cond b (Some y) (find p ys) ≡ Some x → cond b (change y ∷ ys) (y ∷ with_changed p change ys) ≡ set (y ∷ ys) (cond (not b) (1 + position_or_len p ys) 0) (change x)) [
      | true ↦ λ here. ap (λ z. change z ∷ ys) (some_same y x here)
      | false ↦ λ later. ap (λ zs. y ∷ zs) (with_changed_at p change ys x later) ∙ ap (λ k. set (y ∷ ys) k (change x)) (sym (one_more (position_or_len p ys)))
    ] found
  where
    some_same : {B : Type 0} → (a b : B) → Some a ≡ Some b → a ≡ b
    some_same a b same = cc

-- the element at that place is gone
pub without_at : {A : Type 0} → (p : A → Bool) (xs : List A) → without p xs ≡ remove xs (position_or_len p xs)
without_at p [] = refl
without_at p (y ∷ ys) =
    elim (p y) as (λ b. cond b ys (y ∷ without p ys) ≡ remove (y ∷ ys) (cond (not b) (1 + position_or_len p ys) 0)) [
      | true ↦ refl
      | false ↦ ap (λ zs. y ∷ zs) (without_at p ys) ∙ ap (λ k. remove (y ∷ ys) k) (sym (one_more (position_or_len p ys)))
    ]

-- the place that was found
pub place_is : {A : Type 0} → (p : A → Bool) (xs : List A) (i : ℕ) → position p xs ≡ Some i → (position_or_len p xs ≡ i) × (i < length xs)
place_is p xs i found = grind (arith, nat_tests)

-- what is found, where something is
pub there : {A : Type 0} → (o : Option A) (d : A) → is_none o ≡ false → o ≡ Some (unwrap_or o d)
there None d some = cc
there (Some x) d some = refl

-- nothing is found, where there is no place
pub nowhere : {A : Type 0} → (p : A → Bool) (xs : List A) → None ≡ position p xs → is_none (find p xs) ≡ false → ⊥
nowhere p xs none some =
    let last : position_or_len p xs < length xs = found_within p xs some in
    grind (arith, nat_tests)
  where
    found_within : {B : Type 0} → (q : B → Bool) (ys : List B) → is_none (find q ys) ≡ false → position_or_len q ys < length ys
    found_within q [] some = cc
    found_within q (y ∷ ys) some =
        elim (q y) as (λ b. is_none (cond b (Some y) (find q ys)) ≡ false → cond (not b) (1 + position_or_len q ys) 0 < length (y ∷ ys)) [
          | true ↦ λ here. omega arith
          | false ↦ λ later. let within = found_within q ys later in omega (arith, within)
        ] some

-- the file of a name stands at a place: it is read, changed and removed there
pub record FilePlace (s : State) (name : List ℕ) (i : ℕ) : Type 0 where
  pub found : slice_get s.files i ≡ Some (file_in s name)
  pub changed : (change : PlainFile → PlainFile) → with_changed (is_file name) change s.files ≡ set s.files i (change (file_in s name))
  pub removed : without (is_file name) s.files ≡ remove s.files i

pub file_place : (s : State) (name : List ℕ) (i : ℕ) → has_no_file s name ≡ false → Some i ≡ position (is_file name) s.files → FilePlace s name i
file_place s name i some found =
    let at : position_or_len (is_file name) s.files ≡ i = (place_is (is_file name) s.files i (sym found)).0 in
    let file : find (is_file name) s.files ≡ Some (file_in s name) = there (find (is_file name) s.files) (record { id = 0; name = name; bytes = []; sealed = false }) some in
    record {
      found = ap (λ k. slice_get s.files k) (sym at) ∙ sym (find_at (is_file name) s.files) ∙ file;
      changed = λ change. with_changed_at (is_file name) change s.files (file_in s name) file ∙ ap (λ k. set s.files k (change (file_in s name))) at;
      removed = without_at (is_file name) s.files ∙ ap (λ k. remove s.files k) at;
    }

-- the function of a name is removed at its place
pub function_removed : (name : List ℕ) (functions : List Function) (i : ℕ) → Some i ≡ position (is_function name) functions → without (is_function name) functions ≡ remove functions i
function_removed name functions i found = without_at (is_function name) functions ∙ ap (λ k. remove functions k) (place_is (is_function name) functions i (sym found)).0
