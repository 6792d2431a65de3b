-- A record that is written is read again.
use Rattle.std.proofs.Common.{◌≡◌, ℕ, zero, suc, ◌+◌, ◌-◌, ◌*◌, ◌<◌, ◌≤◌, ◌^◌, List, [], ◌∷◌, ◌++◌, length, take, drop, map, replicate, Bool, true, false, bytes_eq, cond, eqb, ltb, leb, Some, None, Result, Ok, ap, ◌∙◌, sym, refl, arith, ◌||◌, append_assoc, length-append}
use Rattle.std.proofs.Math.Nat.{suc-mul}
use Rattle.std.proofs.lemmas.Slice.Eq.{bytes_eq-Decides}
use Rattle.name_table.specs.Files.{file_named, RiseFrom, AreApart, IsFile}
use Rattle.image_format.proofs.Areas.{length_fill}
use Rattle.image_format.proofs.Written.{short_name}
use Rattle.std.specs.Prelude.{⊤, IsTrue, not, ◌&&◌, slice_index}
use Rattle.std.specs.List.{list_any, flat_map, AllByRecursion}
use Rattle.std.proofs.lemmas.Bool.{cond-false}
use Rattle.std.proofs.lemmas.Bool.Decides.{nat_tests}
use Rattle.std.proofs.lemmas.List.{take_at, drop_at, drop-drop, append-nil, take-replicate, drop-replicate}
use Rattle.std.proofs.lemmas.Nat.{from_le_bytes-to_le_bytes_4}
use Rattle.name_table.specs.Name.{is_name}
use Rattle.name_table.specs.declared.files.FileRec.{FileRec}
use Rattle.image_format.specs.declared.faults.ImageKind.{ImageKind}
use Rattle.image_format.specs.declared.faults.ImageFault.{ImageFault}
use Rattle.image_format.specs.declared.layout.Layout.{Layout}
use Rattle.image_format.specs.Faults.{◌>>=◌, demand}
use Rattle.image_format.specs.Numbers.{u32_at, are_zero}
use Rattle.image_format.specs.Layout.{second}
use Rattle.image_format.specs.Records.{Stored, Listing, stored, name_in, is_plain, is_next, has_name, is_good_name, is_new_name, unused_record, used_record, one_record, records}
use Rattle.image_format.specs.Tables.{stored_of}
use Rattle.image_format.specs.Encoding.{fill, u32_bytes, one_if, record_head, record_fields, record_bytes}

-- what a file must be for its record to be read after those so far
pub record Comes (next : ℕ) (so_far : Listing) (f : FileRec) : Type 0 where
  pub above : so_far.last < f.id
  pub below : f.id < next
  pub small : next < 2 ^ 32
  pub len : f.len ≤ 2 ^ 28
  pub going : so_far.ended ≡ false
  pub name : IsTrue (is_name f.name)
  pub new : list_any (has_name f.name) so_far.files ≡ false

demand_ok : {A : Type 0} (b : Bool) (kind : ImageKind) (place : ℕ) (f : ⊤ → Result A ImageFault) → b ≡ true → (demand b kind place >>= f) ≡ f tt
demand_ok true kind place f e = refl
demand_ok false kind place f e = absurd cc

are_zero-replicate : (n : ℕ) → are_zero (replicate n 0) ≡ true
are_zero-replicate zero = refl
are_zero-replicate (suc n) = are_zero-replicate n

mark_fits : (b : Bool) → leb (one_if b) 1 ≡ true
mark_fits true = refl
mark_fits false = refl

mark_is : (b : Bool) → eqb (one_if b) 1 ≡ b
mark_is true = refl
mark_is false = refl

both : (a b : Bool) → a ≡ true → b ≡ true → (a && b) ≡ true
both a b p q = grind arith

-- a record whose tests hold is taken
used_ok : (l : Layout) (next at : ℕ) (so_far : Listing) (raw : List ℕ) → (is_next next so_far (u32_at raw 0) && is_plain l raw) ≡ true → leb (u32_at raw 4) (2 ^ 28) ≡ true → is_new_name l so_far.files raw ≡ true
    → used_record l next at so_far raw ≡ Ok (record { files = so_far.files ++ stored l raw ∷ []; last = u32_at raw 0; ended = so_far.ended })
unfolding used_record
used_ok l next at so_far raw p q r = demand_ok _ _ _ _ p ∙ demand_ok _ _ _ _ q ∙ demand_ok _ _ _ _ r

one_ok : (l : Layout) (next at : ℕ) (so_far : Listing) (raw : List ℕ) → eqb (u32_at raw 0) 0 ≡ false → one_record l next at so_far raw ≡ used_record l next at so_far raw
unfolding one_record
one_ok l next at so_far raw e = cond-false _ _ _ e

-- ---- the fields of a record

id_is : (f : FileRec) → f.id < 2 ^ 32 → u32_at (record_bytes f) 0 ≡ f.id
id_is f lt = from_le_bytes-to_le_bytes_4 f.id lt

len_is : (f : FileRec) → f.len < 2 ^ 32 → u32_at (record_bytes f) 4 ≡ f.len
len_is f lt = from_le_bytes-to_le_bytes_4 f.len lt

count_is : (f : FileRec) → slice_index (record_bytes f) 8 ≡ length f.name
count_is f = refl

mark_at : (f : FileRec) → slice_index (record_bytes f) 9 ≡ one_if f.sealed
mark_at f = refl

name_is : (f : FileRec) → name_in second (record_bytes f) ≡ f.name
name_is f = take_at f.name _ (length f.name) refl

rest_is : (f : FileRec) → are_zero (drop (32 + length f.name) (record_bytes f)) ≡ true
rest_is f = ap are_zero (sym (drop-drop (length f.name) 32 (record_bytes f)) ∙ drop_at f.name _ (length f.name) refl) ∙ are_zero-replicate (128 - length (fill 32 (u32_bytes f.id ++ u32_bytes f.len ++ length f.name ∷ one_if f.sealed ∷ []) ++ f.name))

plain_is : (f : FileRec) → is_plain second (record_bytes f) ≡ true
plain_is f = both (leb (one_if f.sealed) 1) _ (mark_fits f.sealed) refl

abbrev made : ℕ → List ℕ → ℕ → Bool → Stored
made i n l b = record { id = i; name = n; len = l; sealed = b }

stored_is : (f : FileRec) → f.id < 2 ^ 32 → f.len < 2 ^ 32 → stored second (record_bytes f) ≡ stored_of f
stored_is f id len =
    ap (λ i. made i (name_in second (record_bytes f)) (u32_at (record_bytes f) 4) (eqb (one_if f.sealed) 1)) (id_is f id)
    ∙ ap (λ n. made f.id n (u32_at (record_bytes f) 4) (eqb (one_if f.sealed) 1)) (name_is f)
    ∙ ap (λ l. made f.id f.name l (eqb (one_if f.sealed) 1)) (len_is f len)
    ∙ ap (made f.id f.name f.len) (mark_is f.sealed)

true_middle : (a b c : Bool) → IsTrue (a && b && c) → b ≡ true
true_middle true true c h = refl
true_middle true false c h = absurd cc
true_middle false true c h = refl
true_middle false false c h = absurd cc

is_true : (b : Bool) → IsTrue b → b ≡ true
is_true true h = refl
is_true false h = absurd cc

good_is : (f : FileRec) → IsTrue (is_name f.name) → is_good_name second (record_bytes f) ≡ true
good_is f named =
    both (leb (length f.name) 96) (is_name (name_in second (record_bytes f))) (true_middle _ _ _ named) (ap is_name (name_is f) ∙ is_true (is_name f.name) named)

new_is : (f : FileRec) (files : List Stored) → IsTrue (is_name f.name) → list_any (has_name f.name) files ≡ false → is_new_name second files (record_bytes f) ≡ true
new_is f files named new =
    both (is_good_name second (record_bytes f)) _ (good_is f named)
    (both (are_zero (drop (32 + length f.name) (record_bytes f))) _ (rest_is f) (ap not (ap (λ n. list_any (has_name n) files) (name_is f) ∙ new)))

next_is : (next : ℕ) (so_far : Listing) (id : ℕ) → so_far.last < id → id < next → so_far.ended ≡ false → is_next next so_far id ≡ true
next_is next so_far id above below going = both_more (not so_far.ended) (ltb so_far.last id) (ltb id next) (ap not going) (grind (arith, nat_tests)) (grind (arith, nat_tests))
  where
    both_more : (a b c : Bool) → a ≡ true → b ≡ true → c ≡ true → (a && b && c) ≡ true
    both_more a b c p q r = grind arith

abbrev listed : List Stored → ℕ → Bool → Listing
listed files last ended = record { files = files; last = last; ended = ended }

pub record_read : (next at : ℕ) (so_far : Listing) (f : FileRec) → Comes next so_far f → one_record second next at so_far (record_bytes f) ≡ Ok (record { files = so_far.files ++ stored_of f ∷ []; last = f.id; ended = so_far.ended })
record_read next at so_far f comes =
    let raw = record_bytes f in
    let id : f.id < 2 ^ 32 = omega (arith, comes.below, comes.small) in
    let len : f.len < 2 ^ 32 = omega (arith, comes.len) in
    let used : eqb f.id 0 ≡ false = positive f.id so_far.last comes.above in
    let p = both (is_next next so_far (u32_at raw 0)) (is_plain second raw) (ap (is_next next so_far) (id_is f id) ∙ next_is next so_far f.id comes.above comes.below comes.going) (plain_is f) in
    let q : leb (u32_at raw 4) (2 ^ 28) ≡ true = ap (λ n. leb n (2 ^ 28)) (len_is f len) ∙ at_most f.len comes.len in
    one_ok second next at so_far raw (ap (λ i. eqb i 0) (id_is f id) ∙ used)
    ∙ used_ok second next at so_far raw p q (new_is f so_far.files comes.name comes.new)
    ∙ ap (λ s. Ok (listed (so_far.files ++ s ∷ []) (u32_at raw 0) so_far.ended)) (stored_is f id len)
    ∙ ap (λ i. Ok (listed (so_far.files ++ stored_of f ∷ []) i so_far.ended)) (id_is f id)
  where
    positive : (n m : ℕ) → m < n → eqb n 0 ≡ false
    positive n m lt = grind (arith, nat_tests)

    at_most : (n : ℕ) → n ≤ 2 ^ 28 → leb n (2 ^ 28) ≡ true
    at_most n le = grind (arith, nat_tests)

-- ---- all records

-- records that are read, and the files that they tell
pub record Told (next n at : ℕ) (so_far : Listing) (bytes : List ℕ) (files : List Stored) : Type 0 where
  pub listing : Listing
  pub read : records second next n at so_far bytes ≡ Ok listing
  pub files_are : listing.files ≡ files

-- an unused record
unused_ok : (next at : ℕ) (so_far : Listing) → one_record second next at so_far (replicate 128 0) ≡ Ok (record so_far { ended = true })
unfolding one_record unused_record
unused_ok next at so_far = refl

next_record : (next n at : ℕ) (so_far now : Listing) (bytes : List ℕ) → one_record second next at so_far (take 128 bytes) ≡ Ok now → records second next (suc n) at so_far bytes ≡ records second next n (at + 128) now (drop 128 bytes)
unfolding records
next_record next n at so_far now bytes one = rw one refl

no_records : (next at : ℕ) (so_far : Listing) (bytes : List ℕ) → records second next 0 at so_far bytes ≡ Ok so_far
unfolding records
no_records next at so_far bytes = refl

zeros_again : (next n at z : ℕ) (so_far : Listing) → z ≡ n * 128 → Told next n at so_far (replicate z 0) so_far.files
zeros_again next zero at z so_far is = record { listing = so_far; read = no_records next at so_far (replicate z 0); files_are = refl }
zeros_again next (suc n) at z so_far is =
    let size : z ≡ n * 128 + 128 = omega (arith, suc-mul n 128) in
    let front : take 128 (replicate z 0) ≡ replicate 128 0 = take-replicate 128 z 0 (omega arith) in
    let rest = zeros_again next n (at + 128) (z - 128) (record so_far { ended = true }) (omega arith) in
    record {
      listing = rest.listing;
      read = next_record next n at so_far (record so_far { ended = true }) (replicate z 0) (ap (one_record second next at so_far) front ∙ unused_ok next at so_far) ∙ ap (records second next n (at + 128) (record so_far { ended = true })) (drop-replicate 128 z 0) ∙ rest.read;
      files_are = rest.files_are;
    }

-- names that no earlier record has
abbrev pub AreNew : List Stored → List FileRec → Type 0
AreNew told files = AllByRecursion (λ f. list_any (has_name f.name) told ≡ false) files

any_push : (name : List ℕ) (told : List Stored) (s : Stored) → list_any (has_name name) told ≡ false → bytes_eq s.name name ≡ false → list_any (has_name name) (told ++ s ∷ []) ≡ false
any_push name [] s none other = ap (λ b. b || false) other
any_push name (t ∷ ts) s none other = by_test (has_name name t) (list_any (has_name name) ts) none (λ h. any_push name ts s h other)
  where
    by_test : (a b : Bool) → (a || b) ≡ false → (b ≡ false → list_any (has_name name) (ts ++ s ∷ []) ≡ false) → (a || list_any (has_name name) (ts ++ s ∷ [])) ≡ false
    by_test true b e rest = absurd cc
    by_test false b e rest = rest e

bytes_eq-sym : (a b : List ℕ) → bytes_eq a b ≡ bytes_eq b a
bytes_eq-sym a b = by_tests (bytes_eq a b) (bytes_eq b a) (λ e. (bytes_eq-Decides b a).1 (sym ((bytes_eq-Decides a b).0 e))) (λ e. (bytes_eq-Decides a b).1 (sym ((bytes_eq-Decides b a).0 e)))
  where
    by_tests : (x y : Bool) → (x ≡ true → y ≡ true) → (y ≡ true → x ≡ true) → x ≡ y
    by_tests true y p q = sym (p refl)
    by_tests false true p q = q refl
    by_tests false false p q = refl

-- a file's name is new after another with a name of its own
new_after : (told : List Stored) (f : FileRec) (fs : List FileRec) → file_named f.name fs ≡ None → AreNew told fs → AreNew (told ++ stored_of f ∷ []) fs
new_after told f [] none new = tt
new_after told f (g ∷ gs) none new =
    let h = none_at_head (bytes_eq g.name f.name) none in
    (any_push g.name told (stored_of f) new.0 (bytes_eq-sym f.name g.name ∙ h.0), new_after told f gs h.1 new.1)
  where
    none_at_head : (b : Bool) → cond b (Some g) (file_named f.name gs) ≡ None → (b ≡ false) × (file_named f.name gs ≡ None)
    none_at_head true e = absurd cc
    none_at_head false e = (refl, e)

record_size : (f : FileRec) → IsTrue (is_name f.name) → length (record_bytes f) ≡ 128
record_size f named = length_fill 128 (record_fields f) (omega (arith, length-append (record_head f) f.name, short_name f.name named))

pub records_again : (files : List FileRec) (next n at left z : ℕ) (so_far : Listing) → n ≡ length files + left → z ≡ left * 128 → next < 2 ^ 32 → so_far.ended ≡ false → RiseFrom (so_far.last + 1) files → AllByRecursion (IsFile next) files → AreApart files → AreNew so_far.files files
    → Told next n at so_far (flat_map record_bytes files ++ replicate z 0) (so_far.files ++ map stored_of files)
records_again [] next n at left z so_far n-is z-is small going rise each apart new =
    let is : n ≡ left = omega arith in
    let rest = zeros_again next n at z so_far (z-is ∙ ap (λ k. k * 128) (sym is)) in
    record { listing = rest.listing; read = rest.read; files_are = rest.files_are ∙ sym (append-nil so_far.files) }
records_again (f ∷ fs) next n at left z so_far n-is z-is small going rise each apart new =
    let more : n ≡ suc (n - 1) = omega arith in
    let bytes = flat_map record_bytes fs ++ replicate z 0 in
    let now : Listing = listed (so_far.files ++ stored_of f ∷ []) f.id so_far.ended in
    let size = record_size f each.0.3 in
    let split : flat_map record_bytes (f ∷ fs) ++ replicate z 0 ≡ record_bytes f ++ bytes = append_assoc (record_bytes f) (flat_map record_bytes fs) (replicate z 0) in
    let one : one_record second next at so_far (take 128 (record_bytes f ++ bytes)) ≡ Ok now =
    ap (one_record second next at so_far) (take_at (record_bytes f) bytes 128 size)
    ∙ record_read next at so_far f (record { above = omega (arith, rise.0); below = each.0.0; small = small; len = each.0.2; going = going; name = each.0.3; new = new.0 }) in
    let rest = records_again fs next (n - 1) (at + 128) left z now (omega arith) z-is small going rise.1 each.1 apart.2 (new_after so_far.files f fs apart.0 new.1) in
    record {
      listing = rest.listing;
      read =
          ap (λ k. records second next k at so_far (flat_map record_bytes (f ∷ fs) ++ replicate z 0)) more ∙ ap (records second next (suc (n - 1)) at so_far) split
          ∙ next_record next (n - 1) at so_far now (record_bytes f ++ bytes) one ∙ ap (records second next (n - 1) (at + 128) now) (drop_at (record_bytes f) bytes 128 size) ∙ rest.read;
      files_are = rest.files_are ∙ append_assoc so_far.files (stored_of f ∷ []) (map stored_of fs);
    }
