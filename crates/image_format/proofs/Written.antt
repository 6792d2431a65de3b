-- Records, entries and bits in the places of their pages.
use Rattle.std.proofs.Common.{◌≡◌, ℕ, zero, suc, ◌+◌, ◌-◌, ◌*◌, ◌<◌, ◌≤◌, List, [], ◌∷◌, length, Bool, true, false, cond, Option, Some, None, ap, ◌∙◌, refl, arith, length-append}
use Rattle.std.specs.Prelude.{slice_get, IsTrue}
use Rattle.std.specs.List.{flat_map, range_with_len, AllByRecursion}
use Rattle.std.proofs.lemmas.Bool.Decides.{nat_tests}
use Rattle.std.proofs.lemmas.List.{length-map}
use Rattle.name_table.specs.Name.{is_name}
use Rattle.name_table.specs.Files.{Table, IsTable, IsFile}
use Rattle.name_table.specs.declared.files.FileRec.{FileRec}
use Rattle.extent_map.specs.declared.places.Extent.{Extent}
use Rattle.extent_map.specs.declared.places.Place.{Place}
use Rattle.extent_map.specs.Places.{runs, in_front, single, goes_on}
use Rattle.image_format.specs.Numbers.{part}
use Rattle.image_format.specs.Layout.{entry_pages, bit_pages}
use Rattle.image_format.specs.Encoding.{fill, record_head, record_fields, record_bytes, record_at, entry_bytes, entry_at, byte_from, record_part, entry_part, bits_part}
use Rattle.image_format.proofs.Areas.{placed_at, place_is, length_flat, length_fill, value_at, length_range}

pub short_name : (name : List ℕ) → IsTrue (is_name name) → length name ≤ 96
short_name name named = grind (arith, nat_tests)

-- ---- records

fields_length : (f : FileRec) → length (record_fields f) ≡ 32 + length f.name
fields_length f = length-append (record_head f) f.name

pub all_records : (next : ℕ) (files : List FileRec) → AllByRecursion (IsFile next) files → AllByRecursion (λ f. length (record_bytes f) ≡ 128) files
all_records next [] each = tt
all_records next (f ∷ fs) each =
    (length_fill 128 (record_fields f) (omega (arith, fields_length f, short_name f.name each.0.3)), all_records next fs each.1)

as_filled : (o : Option FileRec) → placed_at record_bytes 128 o ≡ fill 128 (record_at o)
as_filled None = refl
as_filled (Some f) = refl

pub record_length : (t : Table) → IsTable t → length (record_part t.files) ≡ 524288
unfolding record_part
record_length t sound =
    length_fill 524288 (flat_map record_bytes t.files) (omega (arith, length_flat record_bytes 128 t.files (all_records t.next t.files sound.each), sound.count))

pub record_slot : (t : Table) (j a : ℕ) → IsTable t → a ≡ j * 128 → j < 4096 → part (record_part t.files) a 128 ≡ fill 128 (record_at (slice_get t.files j))
unfolding record_part
record_slot t j a sound at lt =
    let each = all_records t.next t.files sound.each in
    let len : length (flat_map record_bytes t.files) ≡ length t.files * 128 = length_flat record_bytes 128 t.files each in
    place_is record_bytes 128 (524288 - length (flat_map record_bytes t.files)) a t.files j each at (omega (arith, len, sound.count)) ∙ as_filled (slice_get t.files j)

all_short : (files : List FileRec) (next j : ℕ) → AllByRecursion (IsFile next) files → length (record_at (slice_get files j)) ≤ 128
all_short [] next j each = omega arith
all_short (f ∷ fs) next zero each = omega (arith, fields_length f, short_name f.name each.0.3)
all_short (f ∷ fs) next (suc j) each = all_short fs next j each.1

pub record_short : (t : Table) (j : ℕ) → IsTable t → length (record_at (slice_get t.files j)) ≤ 128
record_short t j sound = all_short t.files t.next j sound.each

-- ---- entries

pub all_entries : (es : List Extent) → AllByRecursion (λ e. length (entry_bytes e) ≡ 16) es
all_entries [] = tt
all_entries (e ∷ es) = (refl, all_entries es)

entry_filled : (o : Option Extent) → placed_at entry_bytes 16 o ≡ fill 16 (entry_at o)
entry_filled None = refl
entry_filled (Some e) = refl

pub entry_short : (o : Option Extent) → length (entry_at o) ≤ 16
entry_short None = omega arith
entry_short (Some e) = omega arith

pub entry_length : (blocks : ℕ) (es : List Extent) → length es ≤ blocks → length (entry_part blocks es) ≡ 4096 * entry_pages blocks
unfolding entry_part
entry_length blocks es few =
    length_fill (4096 * entry_pages blocks) (flat_map entry_bytes es) (omega (arith, length_flat entry_bytes 16 es (all_entries es)))

pub entry_slot : (blocks : ℕ) (es : List Extent) (j a : ℕ) → length es ≤ blocks → a ≡ j * 16 → j < 256 * entry_pages blocks → part (entry_part blocks es) a 16 ≡ fill 16 (entry_at (slice_get es j))
unfolding entry_part
entry_slot blocks es j a few at lt =
    let len : length (flat_map entry_bytes es) ≡ length es * 16 = length_flat entry_bytes 16 es (all_entries es) in
    place_is entry_bytes 16 (4096 * entry_pages blocks - length (flat_map entry_bytes es)) a es j (all_entries es) at (omega (arith, len)) ∙ entry_filled (slice_get es j)

-- ---- bits

pub bits_length : (blocks : ℕ) (written : List Bool) → length (bits_part blocks written) ≡ 4096 * bit_pages blocks
unfolding bits_part
bits_length blocks written = length-map (range_with_len 0 (4096 * bit_pages blocks)) (λ i. byte_from written (8 * i)) ∙ length_range 0 (4096 * bit_pages blocks)

pub bits_slot : (blocks : ℕ) (written : List Bool) (j : ℕ) → j < 4096 * bit_pages blocks → part (bits_part blocks written) j 1 ≡ byte_from written (8 * j) ∷ []
unfolding bits_part
bits_slot blocks written j lt =
    let e : 0 + j ≡ j = omega arith in
    value_at (λ i. byte_from written (8 * i)) 0 (4096 * bit_pages blocks) j lt ∙ ap (λ k. byte_from written (8 * k) ∷ []) e

-- there are no more runs than places
pub fewer_runs : (ps : List Place) → length (runs ps) ≤ length ps
fewer_runs [] = omega arith
fewer_runs (p ∷ ps) = in_front_length p (runs ps) (length ps) (fewer_runs ps)
  where
    in_front_length : (p : Place) (es : List Extent) (n : ℕ) → length es ≤ n → length (in_front p es) ≤ suc n
    in_front_length p [] n le = omega arith
    in_front_length p (e ∷ es) n le =
        elim (goes_on p e) as (λ (t : Bool). length (cond t (record { file = p.file; page = p.page; block = p.block; count = e.count + 1 } ∷ es) (single p ∷ e ∷ es)) ≤ suc n) [
          | true ↦ omega arith
          | false ↦ omega arith
        ]
