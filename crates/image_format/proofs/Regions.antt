-- The parts of the meta data, page by page.
use Rattle.std.proofs.Common.{◌≡◌, ℕ, ◌+◌, ◌-◌, ◌*◌, ◌<◌, ◌≤◌, List, ◌++◌, length, ap, ◌∙◌, sym, arith}
use Rattle.std.proofs.lemmas.List.{take_all}
use Rattle.page_base.specs.Drive.{Drive}
use Rattle.name_table.specs.Files.{IsTable}
use Rattle.extent_map.specs.Places.{IsSound, runs}
use Rattle.image_format.specs.declared.meta.Meta.{Meta}
use Rattle.image_format.specs.Numbers.{part}
use Rattle.image_format.specs.Layout.{entry_pages}
use Rattle.image_format.specs.Encoding.{header_bytes, header_part, record_part, entry_part, bits_part, meta_bytes}
use Rattle.image_format.specs.Tables.{IsOneSize}
use Rattle.image_format.proofs.Areas.{part_left, part_right, length_fill}
use Rattle.image_format.proofs.Written.{record_length, entry_length, fewer_runs}

pub header_length : (d : Drive) (next : ℕ) → length (header_part d next) ≡ 4096
unfolding header_part
header_length d next = length_fill 4096 (header_bytes d next) (omega arith)

pub few_runs : (m : Meta) → IsSound m.extents → IsOneSize m → length (runs m.extents.placed) ≤ m.geometry.blocks
few_runs m sound size = omega (arith, fewer_runs m.extents.placed, sound.count, size.extents)

-- the parts behind page 0, behind the records and behind the entries
abbrev behind_entries : Meta → List ℕ
behind_entries m = bits_part m.geometry.blocks m.written

abbrev behind_records : Meta → List ℕ
behind_records m = entry_part m.geometry.blocks (runs m.extents.placed) ++ behind_entries m

abbrev behind_header : Meta → List ℕ
behind_header m = record_part m.names.files ++ behind_records m

pub header_at : (m : Meta) (i : ℕ) → i ≡ 0 → header_part m.geometry m.names.next ≡ part (meta_bytes m) (4096 * i) 4096
unfolding meta_bytes
header_at m i is =
    let h = header_part m.geometry m.names.next in
    let at : 4096 * i ≡ 0 = omega arith in
    let len : length h ≡ 4096 = header_length m.geometry m.names.next in
    sym (ap (λ a. part (h ++ behind_header m) a 4096) at ∙ part_left h (behind_header m) 0 4096 (omega arith) ∙ whole h len)
  where
    whole : (xs : List ℕ) → length xs ≡ 4096 → part xs 0 4096 ≡ xs
    whole xs len = take_all 4096 xs (omega arith)

pub records_at : (m : Meta) (i : ℕ) → IsTable m.names → 1 ≤ i → i < 129 → part (record_part m.names.files) (4096 * (i - 1)) 4096 ≡ part (meta_bytes m) (4096 * i) 4096
unfolding meta_bytes
records_at m i sound from to =
    let h = header_part m.geometry m.names.next in
    let r = record_part m.names.files in
    let at : 4096 * i ≡ length h + 4096 * (i - 1) = omega (arith, header_length m.geometry m.names.next) in
    sym (part_right h (behind_header m) (4096 * i) (4096 * (i - 1)) 4096 at ∙ part_left r (behind_records m) (4096 * (i - 1)) 4096 (omega (arith, record_length m.names sound)))

pub entries_at : (m : Meta) (i : ℕ) → IsTable m.names → IsSound m.extents → IsOneSize m → 129 ≤ i → i < 129 + entry_pages m.geometry.blocks
    → part (entry_part m.geometry.blocks (runs m.extents.placed)) (4096 * (i - 129)) 4096 ≡ part (meta_bytes m) (4096 * i) 4096
unfolding meta_bytes
entries_at m i sound places size from to =
    let h = header_part m.geometry m.names.next in
    let r = record_part m.names.files in
    let e = entry_part m.geometry.blocks (runs m.extents.placed) in
    let at : 4096 * i ≡ length h + 4096 * (i - 1) = omega (arith, header_length m.geometry m.names.next) in
    let next : 4096 * (i - 1) ≡ length r + 4096 * (i - 129) = omega (arith, record_length m.names sound) in
    sym (
    part_right h (behind_header m) (4096 * i) (4096 * (i - 1)) 4096 at ∙ part_right r (behind_records m) (4096 * (i - 1)) (4096 * (i - 129)) 4096 next
    ∙ part_left e (behind_entries m) (4096 * (i - 129)) 4096 (omega (arith, entry_length m.geometry.blocks (runs m.extents.placed) (few_runs m places size)))
    )

pub bits_at : (m : Meta) (i : ℕ) → IsTable m.names → IsSound m.extents → IsOneSize m → 129 + entry_pages m.geometry.blocks ≤ i
    → part (bits_part m.geometry.blocks m.written) (4096 * (i - 129 - entry_pages m.geometry.blocks)) 4096 ≡ part (meta_bytes m) (4096 * i) 4096
unfolding meta_bytes
bits_at m i sound places size from =
    let h = header_part m.geometry m.names.next in
    let r = record_part m.names.files in
    let e = entry_part m.geometry.blocks (runs m.extents.placed) in
    let at : 4096 * i ≡ length h + 4096 * (i - 1) = omega (arith, header_length m.geometry m.names.next) in
    let next : 4096 * (i - 1) ≡ length r + 4096 * (i - 129) = omega (arith, record_length m.names sound) in
    let last : 4096 * (i - 129) ≡ length e + 4096 * (i - 129 - entry_pages m.geometry.blocks) = omega (arith, entry_length m.geometry.blocks (runs m.extents.placed) (few_runs m places size)) in
    sym (
    part_right h (behind_header m) (4096 * i) (4096 * (i - 1)) 4096 at ∙ part_right r (behind_records m) (4096 * (i - 1)) (4096 * (i - 129)) 4096 next
    ∙ part_right e (behind_entries m) (4096 * (i - 129)) (4096 * (i - 129 - entry_pages m.geometry.blocks)) 4096 last
    )
