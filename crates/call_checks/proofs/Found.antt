-- What a word finds among files and functions: in the tables, in the core's names, and among the plain files.
use Rattle.std.proofs.Common.{◌≡◌, ℕ, ◌+◌, ◌<◌, ◌≤◌, Bool, true, false, List, [], ◌∷◌, length, Option, Some, None, refl, sym, ap, ◌∙◌, subst, arith}
use Rattle.std.specs.Prelude.{◌==◌, map, option_map, is_none, bytes_eq, IsTrue, Decides, if◌then◌else◌}
use Rattle.std.specs.List.{find, AllByRecursion}
use Rattle.std.proofs.lemmas.Bool.Decides.{nat_tests}
use Rattle.std.proofs.lemmas.Slice.Eq.{bytes_eq-Decides}
use Rattle.name_table.specs.Name.{is_name}
use Rattle.name_table.specs.declared.files.FileRec.{FileRec}
use Rattle.name_table.specs.Files.{file_named, file_of, RiseFrom, IsFile}
use Rattle.plain_files.specs.declared.calls.PlainFile.{PlainFile}
use Rattle.plain_files.specs.Plain as plain_files
use Rattle.plain_files.specs.Plain.{is_file, is_function}
use Rattle.core_state.specs.State.{Page, File, Function, Places}
use Rattle.core_state.specs.Reach.{file_by, function_by}
use Rattle.core_state.specs.PlainOf.{plain_file, plain_function}
use Rattle.core_lemmas.proofs.Words.{same_some}
use Rattle.system_state.specs.Cores as cores
use Rattle.system_state.specs.declared.state.Function.{Function as FunctionRow}
use Rattle.call_checks.specs.Checks as checks
use Rattle.call_checks.specs.Checks.{row_by, id_or, len_or}

pub same_bytes : (xs ys : List ℕ) → bytes_eq xs ys ≡ true → xs ≡ ys
same_bytes xs ys e = (bytes_eq-Decides xs ys).0 e

-- ---- the table of files

-- a word that is no name finds none
pub no_name : (next : ℕ) (rows : List FileRec) (w : List ℕ) → AllByRecursion (IsFile next) rows → (IsTrue (is_name w) → ⊥) → file_named w rows ≡ None
no_name next [] w k n = refl
no_name next (f ∷ fs) w k n = go (bytes_eq f.name w) refl (no_name next fs w k.1 n)
  where
    go : (t : Bool) → bytes_eq f.name w ≡ t → file_named w fs ≡ None → (if t then Some f else file_named w fs) ≡ None
    go true e ih = absurd (n (subst (λ (x : List ℕ). IsTrue (is_name x)) (same_bytes f.name w e) k.0.3))
    go false e ih = ih

pub record IsFound (n : ℕ) (rows : List FileRec) (f : FileRec) : Type 0 where
  pub found : file_of f.id rows ≡ Some f
  pub low : n ≤ f.id

-- the id of what a name finds finds it again
pub found_again : (n : ℕ) (rows : List FileRec) (w : List ℕ) (f : FileRec) → RiseFrom n rows → file_named w rows ≡ Some f → IsFound n rows f
found_again n [] w f k e = absurd (cc)
found_again n (x ∷ xs) w f k e = go (bytes_eq x.name w) e (λ u. found_again (x.id + 1) xs w f k.1 u)
  where
    own : (i : ℕ) → x.id ≡ i → (x.id == i) ≡ true
    own i e = grind (arith, nat_tests)

    other : (i : ℕ) → x.id + 1 ≤ i → (x.id == i) ≡ false
    other i e = grind (arith, nat_tests)

    go : (t : Bool) → (if t then Some x else file_named w xs) ≡ Some f → (file_named w xs ≡ Some f → IsFound (x.id + 1) xs f) → IsFound n (x ∷ xs) f
    go true g h =
        let s : x ≡ f = same_some (Some x) x f refl g in
        let i : x.id ≡ f.id = ap (λ (r : FileRec). r.id) s in
        let l = k.0 in
        record {
          found = ap (λ (t : Bool). if t then Some x else file_of f.id xs) (own f.id i) ∙ ap Some s;
          low = omega arith;
        }
    go false g h =
        let r = h g in
        let l = k.0 in
        let m = r.low in
        record {
          found = ap (λ (t : Bool). if t then Some x else file_of f.id xs) (other f.id m) ∙ r.found;
          low = omega arith;
        }

none_of : (o : Option FileRec) → None ≡ option_map (λ (f : FileRec). f.id) o → None ≡ o
none_of None e = refl
none_of (Some f) e = absurd (cc)

-- what the code finds by a name, and then by its id
pub by_id_none : (w : List ℕ) (rows : List FileRec) → None ≡ option_map (λ (f : FileRec). f.id) (file_named w rows) → None ≡ file_named w rows
by_id_none w rows e = none_of (file_named w rows) e

pub by_id_found : (w : List ℕ) (rows : List FileRec) (id : ℕ) → RiseFrom 1 rows → Some id ≡ option_map (λ (f : FileRec). f.id) (file_named w rows) → file_of id rows ≡ file_named w rows
by_id_found w rows id k e = go (file_named w rows) refl e
  where
    go : (o : Option FileRec) → file_named w rows ≡ o → Some id ≡ option_map (λ (f : FileRec). f.id) o → file_of id rows ≡ o
    go None g h = absurd (cc)
    go (Some f) g h = ap (λ (i : ℕ). file_of i rows) (same_some (Some id) id f.id refl h) ∙ (found_again 1 rows w f k g).found

-- ---- the core's names

pub row_seen : (rows : List FileRec) (w : Option (List ℕ)) → file_by (map cores.file_of rows) w ≡ option_map cores.file_of (row_by rows w)
row_seen rows None = refl
row_seen rows (Some word) = by rows
  where
    by : (rows : List FileRec) → find (λ (f : File). bytes_eq f.name word) (map cores.file_of rows) ≡ option_map cores.file_of (file_named word rows)
    by [] = refl
    by (f ∷ fs) = go (bytes_eq f.name word) (by fs)
      where
        go : (t : Bool) → find (λ (f : File). bytes_eq f.name word) (map cores.file_of fs) ≡ option_map cores.file_of (file_named word fs) →
            (if t then Some (cores.file_of f) else find (λ (f : File). bytes_eq f.name word) (map cores.file_of fs)) ≡ option_map cores.file_of (if t then Some f else file_named word fs)
        go true ih = refl
        go false ih = ih

-- ---- the plain files

-- a row as a plain file
abbrev pub plain_row : Places → (ℕ → Page) → FileRec → PlainFile
plain_row places pages f = plain_file places pages (cores.file_of f)

pub plain_seen : (places : Places) (pages : ℕ → Page) (word : List ℕ) (rows : List FileRec) → find (is_file word) (map (plain_file places pages) (map cores.file_of rows)) ≡ option_map (plain_row places pages) (file_named word rows)
plain_seen places pages word [] = refl
plain_seen places pages word (f ∷ fs) = go (bytes_eq f.name word) (plain_seen places pages word fs)
  where
    go : (t : Bool) → find (is_file word) (map (plain_file places pages) (map cores.file_of fs)) ≡ option_map (plain_row places pages) (file_named word fs) →
        (if t then Some (plain_row places pages f) else find (is_file word) (map (plain_file places pages) (map cores.file_of fs))) ≡ option_map (plain_row places pages) (if t then Some f else file_named word fs)
    go true ih = refl
    go false ih = ih

pub function_seen : (word : List ℕ) (rows : List FunctionRow) → is_none (find (is_function word) (map plain_function (map cores.function_of rows))) ≡ is_none (checks.function_by rows word)
function_seen word [] = refl
function_seen word (f ∷ fs) = go (bytes_eq f.name word) (function_seen word fs)
  where
    go : (t : Bool) → is_none (find (is_function word) (map plain_function (map cores.function_of fs))) ≡ is_none (checks.function_by fs word) →
        is_none (if t then Some (plain_function (cores.function_of f)) else find (is_function word) (map plain_function (map cores.function_of fs))) ≡ is_none (if t then Some f else checks.function_by fs word)
    go true ih = refl
    go false ih = ih

-- the name of what is found is the word
pub name_found : (word : List ℕ) (rows : List FunctionRow) (f : FunctionRow) → checks.function_by rows word ≡ Some f → f.name ≡ word
name_found word [] f e = absurd (cc)
name_found word (x ∷ xs) f e = go (bytes_eq x.name word) refl e (name_found word xs f)
  where
    go : (t : Bool) → bytes_eq x.name word ≡ t → (if t then Some x else checks.function_by xs word) ≡ Some f → (checks.function_by xs word ≡ Some f → f.name ≡ word) → f.name ≡ word
    go true b g h = sym (ap (λ (r : FunctionRow). r.name) (same_some (Some x) x f refl g)) ∙ same_bytes x.name word b
    go false b g h = h g
