-- What the plain machine makes of a call in flight depends on the file and the function that it finds, and on no others.
use Rattle.std.proofs.Common.{◌≡◌, ℕ, Bool, true, false, List, [], ◌∷◌, Option, Some, None, refl, sym, ap, ◌∙◌, ⊎_elim}
use Rattle.std.specs.Prelude.{◌⊎◌, map, option_map, is_some, if◌then◌else◌, bytes_eq}
use Rattle.std.specs.List.{find}
use Rattle.core_state.specs.Call.{Call}
use Rattle.core_state.specs.Call.TheVariants.{Create, OpenFile, Stat, Remove, Read, Write, Append, Trunc, Seal, Load, Unload, Readl, Writel, Sync}
use Rattle.core_state.specs.PlainFile.{PlainFile}
use Rattle.core_state.specs.Plain as plain_files
use Rattle.core_state.specs.Plain.{State, file_of, function_of, early}
use Rattle.core_state.specs.State.{Page, Shape, Function, Names, Places}
use Rattle.core_state.specs.Reach.{is_data, is_sync, file_word, function_word, file_by, function_by}
use Rattle.core_state.specs.PlainOf.{plain_file, plain_function, plain_of, outcome_of}

-- ---- what is found

-- a search after a map is a map after the search
pub find_map : {A B : Type 0} (f : A → B) (test : B → Bool) (xs : List A) → find test (map f xs) ≡ option_map f (find (λ x. test (f x)) xs)
find_map f test [] = refl
find_map {A} {B} f test (x ∷ xs) = go (test (f x)) (find_map f test xs)
  where
    go : (t : Bool) → find test (map f xs) ≡ option_map f (find (λ x. test (f x)) xs) → (if t then Some (f x) else find test (map f xs)) ≡ option_map f (if t then Some x else find (λ x. test (f x)) xs)
    go true ih = refl
    go false ih = ih

pub is_some_map : {A B : Type 0} (f : A → B) (o : Option A) → is_some (option_map f o) ≡ is_some o
is_some_map f None = refl
is_some_map f (Some x) = refl

-- where the functions are the same but for their e, a word finds one in both or in neither
pub function_there : (fs gs : List Function) (word : Option (List ℕ)) → map plain_function gs ≡ map plain_function fs → is_some (function_by gs word) ≡ is_some (function_by fs word)
function_there fs gs None e = refl
function_there fs gs (Some name) e =
    sym (is_some_map plain_function (function_by gs (Some name))) ∙ (ap is_some (sym (find_map plain_function (λ (f : plain_files.Function). bytes_eq f.name name) gs))
    ∙ (ap (λ (xs : List plain_files.Function). is_some (find (λ (f : plain_files.Function). bytes_eq f.name name) xs)) e
    ∙ (ap is_some (find_map plain_function (λ (f : plain_files.Function). bytes_eq f.name name) fs) ∙ is_some_map plain_function (function_by fs (Some name)))))

-- the file of a name in the plain state is that of the core
pub file_seen : (shape : Shape) (names : Names) (places : Places) (pages : ℕ → Page) (name : List ℕ) → file_of name (plain_of shape names places pages).files ≡ option_map (plain_file places pages) (file_by names.files (Some name))
file_seen shape names places pages name = find_map (plain_file places pages) (λ (f : PlainFile). bytes_eq f.name name) names.files

-- and so is the function
pub function_seen : (shape : Shape) (names : Names) (places : Places) (pages : ℕ → Page) (name : List ℕ) → function_of name (plain_of shape names places pages).functions ≡ option_map plain_function (function_by names.functions (Some name))
function_seen shape names places pages name = find_map plain_function (λ (f : plain_files.Function). bytes_eq f.name name) names.functions

-- ---- early refusals and runs

-- two plain states in which a call finds the same file and the same function
pub record FindsSame (s t : State) (call : Call) : Type 0 where
  pub file : (name : List ℕ) → file_word call ≡ Some name → file_of name s.files ≡ file_of name t.files
  pub function : (name : List ℕ) → function_word call ≡ Some name → function_of name s.functions ≡ function_of name t.functions

-- a call that can be in flight
abbrev pub CanFly : Call → Type 0
CanFly call = (is_data call ≡ true) ⊎ (is_sync call ≡ true)

not_flying : {P : Type 0} → (false ≡ true) ⊎ (false ≡ true) → P
not_flying h = absurd (⊎_elim (λ (e : false ≡ true). cc) (λ (e : false ≡ true). cc) h)

pub early_same : (s t : State) (call : Call) → CanFly call → FindsSame s t call → early s call ≡ early t call
early_same s t (Read name off len) k h = let e = h.file name refl in cc
early_same s t (Write name off bytes) k h = let e = h.file name refl in cc
early_same s t (Append name bytes) k h = let e = h.file name refl in cc
early_same s t (Trunc name len) k h = let e = h.file name refl in cc
early_same s t (Readl file off len function fuel cap param) k h = let e = h.file file refl in let f = h.function function refl in cc
early_same s t (Writel file off len function fuel param input) k h = let e = h.file file refl in let f = h.function function refl in cc
early_same s t Sync k h = refl
early_same s t (Create name) k h = not_flying k
early_same s t (OpenFile name) k h = not_flying k
early_same s t (Stat name) k h = not_flying k
early_same s t (Remove name) k h = not_flying k
early_same s t (Seal name) k h = not_flying k
early_same s t (Load name bytes) k h = not_flying k
early_same s t (Unload name) k h = not_flying k

pub outcome_same : (s t : State) (call : Call) → FindsSame s t call → outcome_of s call ≡ outcome_of t call
outcome_same s t (Readl file off len function fuel cap param) h = let e = h.file file refl in let f = h.function function refl in cc
outcome_same s t (Writel file off len function fuel param input) h = let e = h.file file refl in let f = h.function function refl in cc
outcome_same s t (Read name off len) h = refl
outcome_same s t (Write name off bytes) h = refl
outcome_same s t (Append name bytes) h = refl
outcome_same s t (Trunc name len) h = refl
outcome_same s t Sync h = refl
outcome_same s t (Create name) h = refl
outcome_same s t (OpenFile name) h = refl
outcome_same s t (Stat name) h = refl
outcome_same s t (Remove name) h = refl
outcome_same s t (Seal name) h = refl
outcome_same s t (Load name bytes) h = refl
outcome_same s t (Unload name) h = refl
