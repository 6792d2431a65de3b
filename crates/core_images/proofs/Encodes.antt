-- The meta pages of a core: their lengths, what they tell of, and that they are those of tables that the core has.
use Rattle.std.proofs.Common.{◌≡◌, ℕ, ◌-◌, ◌*◌, ◌<◌, ◌≤◌, List, [], ◌∷◌, ◌++◌, length, map, replicate, Bool, false, refl, sym, ap, ◌∙◌, arith, length-append}
use Rattle.std.specs.List.{range_with_len, flat_map}
use Rattle.std.proofs.Math.Path.{fun_ext}
use Rattle.std.proofs.lemmas.List.{length-replicate, ext_get_or}
use Rattle.std.proofs.lemmas.List.FromFn.{get_or-map-range_with_len, length-map-range_with_len}
use Rattle.page_base.specs.Drive.{Drive, meta_pages}
use Rattle.name_table.specs.declared.files.FileRec.{FileRec}
use Rattle.extent_map.specs.declared.places.Extent.{Extent}
use Rattle.extent_map.specs.Places.{IsSound, runs}
use Rattle.image_format.specs.declared.meta.Meta.{Meta}
use Rattle.image_format.specs.Numbers.{part}
use Rattle.image_format.specs.Layout.{entry_pages, bit_pages}
use Rattle.image_format.specs.Encoding.{fill, byte_from, header_bytes, record_bytes, entry_bytes, header_part, record_part, entry_part, bits_part, meta_bytes, meta_page}
use Rattle.image_format.proofs.Areas.{part_length}
use Rattle.core_state.specs.State.{Core}
use Rattle.core_state.specs.Coherent.{Coherent}
use Rattle.core_solo.specs.Alone.{IsEncoding}
use Rattle.core_solo.specs.Stored.{IsOfDrive}
use Rattle.system_state.specs.Cores.{file_of}
use Rattle.system_metas.specs.Encode.{record_for, files_placed, meta_for, encode}
use Rattle.core_images.specs.Tables.{HasTables}
use Rattle.system_metas.proofs.Encoded.{places_are}

-- ---- lengths

fill_least : (n : ℕ) (xs : List ℕ) → n ≤ length (fill n xs)
fill_least n xs = omega (arith, length-append xs (replicate (n - length xs) 0), length-replicate {A = ℕ} (n - length xs) 0)

header_least : (d : Drive) (next : ℕ) → 4096 ≤ length (header_part d next)
unfolding header_part
header_least d next = fill_least 4096 (header_bytes d next)

records_least : (fs : List FileRec) → 524288 ≤ length (record_part fs)
unfolding record_part
records_least fs = fill_least 524288 (flat_map record_bytes fs)

entries_least : (blocks : ℕ) (es : List Extent) → 4096 * entry_pages blocks ≤ length (entry_part blocks es)
unfolding entry_part
entries_least blocks es = fill_least (4096 * entry_pages blocks) (flat_map entry_bytes es)

bits_are : (blocks : ℕ) (written : List Bool) → length (bits_part blocks written) ≡ 4096 * bit_pages blocks
unfolding bits_part
bits_are blocks written = length-map-range_with_len (λ i. byte_from written (8 * i)) 0 (4096 * bit_pages blocks)

-- meta data of any tables fill their pages
pub meta_least : (m : Meta) → 4096 * meta_pages m.geometry.blocks ≤ length (meta_bytes m)
unfolding meta_bytes
meta_least m =
    let h = header_part m.geometry m.names.next in
    let r = record_part m.names.files in
    let e = entry_part m.geometry.blocks (runs m.extents.placed) in
    let b = bits_part m.geometry.blocks m.written in
    omega (arith, length-append h (r ++ (e ++ b)), length-append r (e ++ b), length-append e b, header_least m.geometry m.names.next, records_least m.names.files, entries_least m.geometry.blocks (runs m.extents.placed), bits_are m.geometry.blocks m.written)

pub page_whole : (m : Meta) (i : ℕ) → i < meta_pages m.geometry.blocks → length (meta_page m i) ≡ 4096
page_whole m i l = part_length (meta_bytes m) (4096 * i) 4096 (let k = meta_least m in omega arith)

pub encodes : IsEncoding encode
encodes c k number l = page_whole (meta_for c) number l

-- ---- what they tell of

pub of_drive : IsOfDrive encode
of_drive c d shape names places written number =
    let marks : (λ b. (d.blocks b).written) ≡ (λ b. (c.blocks b).written) = fun_ext written in
    λ i. meta_page (record {
      geometry = record { blocks = (shape i).blocks; dies = (shape i).dies };
      names = record { files = map record_for (names i).files; next = (names i).next };
      extents = record { blocks = (shape i).blocks; placed = files_placed (places i) (names i).files };
      written = map (marks i) (range_with_len 0 (shape i).blocks);
    }) number

-- ---- tables that the core has

same_records : (fs : List FileRec) → flat_map record_bytes (map record_for (map file_of fs)) ≡ flat_map record_bytes fs
same_records [] = refl
same_records (f ∷ fs) = ap (λ (xs : List ℕ). record_bytes f ++ xs) (same_records fs)

record_part_is : (fs : List FileRec) → record_part (map record_for (map file_of fs)) ≡ record_part fs
unfolding record_part
record_part_is fs = ap (fill 524288) (same_records fs)

slotless : (m : Meta) (fs : List FileRec) → record_part fs ≡ record_part m.names.files → meta_bytes (record m { names = record m.names { files = fs } }) ≡ meta_bytes m
unfolding meta_bytes
slotless m fs e = ap (λ (xs : List ℕ). header_part m.geometry m.names.next ++ (xs ++ (entry_part m.geometry.blocks (runs m.extents.placed) ++ bits_part m.geometry.blocks m.written))) e

marks_are : (m : Meta) (c : Core) → HasTables m c → map (λ b. (c.blocks b).written) (range_with_len 0 c.shape.blocks) ≡ m.written
marks_are m c h =
    let f : ℕ → Bool = λ b. (c.blocks b).written in
    let n : length (map f (range_with_len 0 c.shape.blocks)) ≡ c.shape.blocks = length-map-range_with_len f 0 c.shape.blocks in
    ext_get_or false (map f (range_with_len 0 c.shape.blocks)) m.written (n ∙ (h.blocks ∙ sym h.count))
    (λ i l. get_or-map-range_with_len f 0 c.shape.blocks i i false (omega arith) (omega arith) ∙ h.written i (let e = h.blocks in omega arith))

pub tables_encode : (m : Meta) (c : Core) (i : ℕ) → HasTables m c → Coherent c → IsSound m.extents → encode c i ≡ meta_page m i
tables_encode m c i h k sound =
    let w = marks_are m c h in
    let p = sym (places_are c m.extents.placed k sound.order h.places) in
    let x = h.blocks ∙ sym h.extents in
    let files = map record_for (map file_of m.names.files) in
    (λ j. meta_page (record {
      geometry = record { blocks = h.blocks j; dies = h.dies j };
      names = record { files = map record_for (h.files j); next = h.next j };
      extents = record { blocks = x j; placed = p j };
      written = w j;
    }) i)
    ∙ ap (λ (bytes : List ℕ). part bytes (4096 * i) 4096) (slotless m files (record_part_is m.names.files))
