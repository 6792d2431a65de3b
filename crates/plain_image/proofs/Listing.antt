-- Files as their records tell them: what those of a table and those of a plain machine keep, and what each file has ahead of it.
use Rattle.std.proofs.Common.{◌≡◌, ℕ, zero, suc, ◌+◌, ◌<◌, ◌≤◌, ◌^◌, List, [], ◌∷◌, ◌++◌, length, take, get_or, map, false, bytes_eq, Some, None, refl, sym, subst, ap, ◌∙◌, arith}
use Rattle.std.specs.Prelude.{slice_get, option_map, IsTrue}
use Rattle.std.specs.List.{AllByRecursion}
use Rattle.std.proofs.lemmas.Bool.{cond-false}
use Rattle.std.proofs.lemmas.List.Sums.{sum_by-cons}
use Rattle.std.proofs.lemmas.Option.{slice_get-map}
use Rattle.name_table.specs.Name.{is_name}
use Rattle.name_table.specs.declared.files.FileRec.{FileRec}
use Rattle.name_table.specs.Files as table
use Rattle.name_table.specs.Files.{Table, IsTable, AreApart, file_named}
use Rattle.page_base.specs.Bytes.{Pages}
use Rattle.image_format.specs.Records.{Stored}
use Rattle.image_format.specs.Tables.{stored_of, stored_files, pages_of}
use Rattle.image_format.proofs.Covers.{Rise, rise_stored}
use Rattle.plain_files.specs.declared.calls.PlainFile.{PlainFile}
use Rattle.plain_files.specs.Plain as plain
use Rattle.plain_files.specs.Plain.{State, file_of}
use Rattle.plain_run.specs.Order as order
use Rattle.plain_run.specs.Order.{Below}
use Rattle.plain_image.specs.Fits.{IsFile, HaveOwnNames, Fits}
use Rattle.plain_image.specs.Tables.{stored_file}
use Rattle.plain_image.proofs.Keeping.{eq_sym, none_first}

-- ---- what files keep

abbrev pub Unnamed : List ℕ → List Stored → Type 0
Unnamed name [] = Unit {0}
Unnamed name (f ∷ fs) = (bytes_eq f.name name ≡ false) × Unnamed name fs

abbrev pub OwnNames : List Stored → Type 0
OwnNames [] = Unit {0}
OwnNames (f ∷ fs) = Unnamed f.name fs × OwnNames fs

abbrev pub Under : ℕ → List Stored → Type 0
Under id [] = Unit {0}
Under id (f ∷ fs) = (f.id < id) × Under id fs

abbrev pub IsStored : ℕ → Stored → Type 0
IsStored next f = (f.id < next) × (f.len ≤ 2 ^ 28) × IsTrue (is_name f.name)

pub record IsListing (next : ℕ) (files : List Stored) : Type 0 where
  pub count : length files ≤ 4096
  pub low : 1 ≤ next
  pub high : next < 2 ^ 32
  pub rise : Rise 1 files
  pub own : OwnNames files
  pub each : AllByRecursion (IsStored next) files

-- ---- of a table

unnamed_records : (name : List ℕ) (files : List FileRec) → file_named name files ≡ None → Unnamed name (map stored_of files)
unnamed_records name [] none = tt
unnamed_records name (f ∷ fs) none = let n = none_first (bytes_eq f.name name) f (file_named name fs) none in (n.0, unnamed_records name fs n.1)

own_records : (files : List FileRec) → AreApart files → OwnNames (map stored_of files)
own_records [] apart = tt
own_records (f ∷ fs) apart = (unnamed_records f.name fs apart.0, own_records fs apart.2)

each_record : (next : ℕ) (files : List FileRec) → AllByRecursion (table.IsFile next) files → AllByRecursion (IsStored next) (map stored_of files)
each_record next [] each = tt
each_record next (f ∷ fs) each = ((each.0.0, each.0.2, each.0.3), each_record next fs each.1)

length_records : (files : List FileRec) → length (map stored_of files) ≡ length files
length_records [] = refl
length_records (f ∷ fs) = ap suc (length_records fs)

pub table_listing : (t : Table) → IsTable t → IsListing t.next (stored_files t)
table_listing t sound =
    record { count = omega (arith, sound.count, length_records t.files); low = sound.next.0; high = sound.next.1; rise = rise_stored 1 t.files sound.rise; own = own_records t.files sound.apart; each = each_record t.next t.files sound.each }

-- ---- of a machine

pub length_files : (files : List PlainFile) → length (map stored_file files) ≡ length files
length_files [] = refl
length_files (f ∷ fs) = ap suc (length_files fs)

-- ---- back to a machine

files_rise : (low : ℕ) (files : List PlainFile) → Rise low (map stored_file files) → order.Rise low files
files_rise low [] rise = tt
files_rise low (f ∷ fs) rise = (rise.0, files_rise (f.id + 1) fs rise.1)

pub none_of_name : (name : List ℕ) (files : List PlainFile) → Unnamed name (map stored_file files) → file_of name files ≡ None
none_of_name name [] unnamed = refl
none_of_name name (f ∷ fs) unnamed = cond-false (bytes_eq f.name name) (Some f) (file_of name fs) unnamed.0 ∙ none_of_name name fs unnamed.1

files_own : (files : List PlainFile) → OwnNames (map stored_file files) → HaveOwnNames files
files_own [] own = tt
files_own (f ∷ fs) own = (none_of_name f.name fs own.0, files_own fs own.1)

files_below : (next : ℕ) (files : List PlainFile) → AllByRecursion (IsStored next) (map stored_file files) → Below next files
files_below next [] each = tt
files_below next (f ∷ fs) each = (each.0.0, files_below next fs each.1)

files_each : (next : ℕ) (files : List PlainFile) → AllByRecursion (IsStored next) (map stored_file files) → AllByRecursion IsFile files
files_each next [] each = tt
files_each next (f ∷ fs) each = ((each.0.2, each.0.1), files_each next fs each.1)

pub pages_same : (files : List PlainFile) → plain.pages_of files ≡ pages_of (map stored_file files)
pages_same [] = refl
pages_same (f ∷ fs) = sum_by-cons (λ (g : PlainFile). Pages (length g.bytes)) f fs ∙ ap (λ n. Pages (length f.bytes) + n) (pages_same fs)

pub listing_fits : (blocks : ℕ) (s : State) → IsListing s.next (map stored_file s.files) → plain.pages_of s.files ≤ s.capacity → s.capacity ≡ blocks → Fits blocks s
listing_fits blocks s l room capacity =
    record {
      order = record { rise = files_rise 1 s.files l.rise; below = files_below s.next s.files l.each; least = l.low };
      last = l.high;
      few = omega (arith, l.count, length_files s.files);
      each = files_each s.next s.files l.each;
      names = files_own s.files l.own;
      room = room;
      capacity = capacity;
    }

-- ---- the files ahead of one

-- a file, and what those ahead of it keep
pub record IsNext (next : ℕ) (files : List Stored) (i : ℕ) (f : Stored) : Type 0 where
  pub low : 1 ≤ f.id
  pub stored : IsStored next f
  pub under : Under f.id (take i files)
  pub new : Unnamed f.name (take i files)
  pub few : i < length files

rise_low : (low : ℕ) (files : List Stored) (i : ℕ) (f : Stored) → Rise low files → slice_get files i ≡ Some f → low ≤ f.id
rise_low low [] i f rise here = absurd cc
rise_low low (g ∷ gs) zero f rise here = let same : g ≡ f = cc in subst (λ (h : Stored). low ≤ h.id) same rise.0
rise_low low (g ∷ gs) (suc i) f rise here = omega (arith, rise.0, rise_low (g.id + 1) gs i f rise.1 here)

under_at : (low : ℕ) (files : List Stored) (i : ℕ) (f : Stored) → Rise low files → slice_get files i ≡ Some f → Under f.id (take i files)
under_at low [] i f rise here = absurd cc
under_at low (g ∷ gs) zero f rise here = tt
under_at low (g ∷ gs) (suc i) f rise here = (omega (arith, rise_low (g.id + 1) gs i f rise.1 here), under_at (g.id + 1) gs i f rise.1 here)

unnamed_at : (name : List ℕ) (files : List Stored) (i : ℕ) (f : Stored) → Unnamed name files → slice_get files i ≡ Some f → bytes_eq f.name name ≡ false
unnamed_at name [] i f unnamed here = absurd cc
unnamed_at name (g ∷ gs) zero f unnamed here = let same : g ≡ f = cc in subst (λ (h : Stored). bytes_eq h.name name ≡ false) same unnamed.0
unnamed_at name (g ∷ gs) (suc i) f unnamed here = unnamed_at name gs i f unnamed.1 here

new_at : (files : List Stored) (i : ℕ) (f : Stored) → OwnNames files → slice_get files i ≡ Some f → Unnamed f.name (take i files)
new_at [] i f own here = absurd cc
new_at (g ∷ gs) zero f own here = tt
new_at (g ∷ gs) (suc i) f own here = (eq_sym g.name f.name ∙ unnamed_at g.name gs i f own.0 here, new_at gs i f own.1 here)

stored_at : (next : ℕ) (files : List Stored) (i : ℕ) (f : Stored) → AllByRecursion (IsStored next) files → slice_get files i ≡ Some f → IsStored next f
stored_at next [] i f each here = absurd cc
stored_at next (g ∷ gs) zero f each here = let same : g ≡ f = cc in subst (IsStored next) same each.0
stored_at next (g ∷ gs) (suc i) f each here = stored_at next gs i f each.1 here

within : (files : List Stored) (i : ℕ) (f : Stored) → slice_get files i ≡ Some f → i < length files
within [] i f here = absurd cc
within (g ∷ gs) zero f here = omega arith
within (g ∷ gs) (suc i) f here = omega (arith, within gs i f here)

pub next_file : (next : ℕ) (files : List Stored) (i : ℕ) (f : Stored) → IsListing next files → slice_get files i ≡ Some f → IsNext next files i f
next_file next files i f l here =
    record { low = rise_low 1 files i f l.rise here; stored = stored_at next files i f l.each here; under = under_at 1 files i f l.rise here; new = new_at files i f l.own here; few = within files i f here }

pub all_under : (next : ℕ) (files : List Stored) → AllByRecursion (IsStored next) files → Under next files
all_under next [] each = tt
all_under next (f ∷ fs) each = (each.0.0, all_under next fs each.1)

-- the ids of a machine's files, and of a table's
pub ids_under : (id : ℕ) (files : List PlainFile) → Under id (map stored_file files) → (k : ℕ) (d : PlainFile) → k < length files → (get_or files k d).id < id
ids_under id [] under k d lt = absurd (omega arith)
ids_under id (f ∷ fs) under zero d lt = under.0
ids_under id (f ∷ fs) under (suc k) d lt = ids_under id fs under.1 k d (omega arith)

length_front : (n : ℕ) (xs : List Stored) → n ≤ length xs → length (take n xs) ≡ n
length_front zero xs le = refl
length_front (suc n) [] le = absurd (omega arith)
length_front (suc n) (x ∷ xs) le = ap suc (length_front n xs (omega arith))

pub files_count : (files : List PlainFile) (n : ℕ) (whole : List Stored) → map stored_file files ≡ take n whole → n ≤ length whole → length files ≡ n
files_count files n whole is le = sym (length_files files) ∙ ap length is ∙ length_front n whole le

-- ---- what stands at a place

pub record_at : (files : List FileRec) (i : ℕ) (f : FileRec) → slice_get files i ≡ Some f → slice_get (map stored_of files) i ≡ Some (stored_of f)
record_at files i f here = slice_get-map stored_of files i ∙ ap (option_map stored_of) here

pub record_past : (files : List FileRec) (i : ℕ) → slice_get files i ≡ None → slice_get (map stored_of files) i ≡ None
record_past files i past = slice_get-map stored_of files i ∙ ap (option_map stored_of) past

-- ---- one file more

pub take_next : (files : List Stored) (i : ℕ) (f : Stored) → slice_get files i ≡ Some f → take (i + 1) files ≡ take i files ++ f ∷ []
take_next [] i f here = absurd cc
take_next (g ∷ gs) zero f here = let same : g ≡ f = cc in ap (λ h. h ∷ []) same
take_next (g ∷ gs) (suc i) f here = let e : suc i + 1 ≡ suc (i + 1) = omega arith in ap (λ k. take k (g ∷ gs)) e ∙ ap (λ xs. g ∷ xs) (take_next gs i f here)

pub take_whole : (files : List Stored) (i : ℕ) → slice_get files i ≡ None → take i files ≡ files
take_whole [] zero past = refl
take_whole [] (suc i) past = refl
take_whole (g ∷ gs) zero past = absurd cc
take_whole (g ∷ gs) (suc i) past = ap (λ xs. g ∷ xs) (take_whole gs i past)

pub pages_next : (files : List Stored) (i : ℕ) (f : Stored) → slice_get files i ≡ Some f → pages_of (take (i + 1) files) ≡ pages_of (take i files) + Pages f.len
pages_next [] i f here = absurd cc
pages_next (g ∷ gs) zero f here = let same : g ≡ f = cc in ap (λ (h : Stored). Pages h.len + 0) same ∙ (let e : Pages f.len + 0 ≡ 0 + Pages f.len = omega arith in e)
pages_next (g ∷ gs) (suc i) f here =
    let e : suc i + 1 ≡ suc (i + 1) = omega arith in
    ap (λ k. pages_of (take k (g ∷ gs))) e ∙ omega (arith, pages_next gs i f here)

pub pages_within : (files : List Stored) (i : ℕ) (f : Stored) → slice_get files i ≡ Some f → pages_of (take i files) + Pages f.len ≤ pages_of files
pages_within [] i f here = absurd cc
pages_within (g ∷ gs) zero f here = let same : g ≡ f = cc in omega (arith, ap (λ (h : Stored). Pages h.len) same)
pages_within (g ∷ gs) (suc i) f here = omega (arith, pages_within gs i f here)

pub stored_push : (files : List PlainFile) (f : PlainFile) → map stored_file (files ++ f ∷ []) ≡ map stored_file files ++ stored_file f ∷ []
stored_push [] f = refl
stored_push (g ∷ gs) f = ap (λ xs. stored_file g ∷ xs) (stored_push gs f)
