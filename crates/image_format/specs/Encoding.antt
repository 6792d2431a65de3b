-- The bytes of meta data and of an image of version 2, the one version that is written.
use Rattle.std.specs.Prelude.{ℕ, ◌+◌, ◌*◌, ◌-◌, List, [], ◌∷◌, ◌++◌, length, map, replicate, Bool, false, if◌then◌else◌, Option, Some, None, slice_index_or}
use Rattle.std.specs.List.{flat_map, range_with_len}
use Rattle.std.specs.Int.{w32, to_le_bytes}
use Rattle.page_base.specs.Drive.{Drive}
use Rattle.name_table.specs.declared.files.FileRec.{FileRec}
use Rattle.extent_map.specs.declared.places.Extent.{Extent}
use Rattle.extent_map.specs.Places.{runs}
use Rattle.image_format.specs.declared.meta.Meta.{Meta}
use Rattle.image_format.specs.Numbers.{part}
use Rattle.image_format.specs.Layout.{entry_pages, bit_pages}
use Rattle.image_format.specs.Header.{magic}

-- some bytes, and zeros up to a length
abbrev pub fill : ℕ → List ℕ → List ℕ
fill len bytes = bytes ++ replicate (len - length bytes) 0

-- a number as four bytes
abbrev pub u32_bytes : ℕ → List ℕ
u32_bytes n = to_le_bytes w32 n

abbrev pub one_if : Bool → ℕ
one_if b = if b then 1 else 0

-- the fields of page 0
abbrev pub header_bytes : Drive → ℕ → List ℕ
header_bytes drive next = magic ++ u32_bytes 2 ++ u32_bytes drive.blocks ++ u32_bytes drive.dies ++ u32_bytes next

-- the fields of a file record ahead of the name: id, length, name length and sealed mark, and zeros up to 32
abbrev pub record_head : FileRec → List ℕ
record_head f = fill 32 (u32_bytes f.id ++ u32_bytes f.len ++ length f.name ∷ one_if f.sealed ∷ [])

-- a file record: these, the name, and zeros
abbrev pub record_fields : FileRec → List ℕ
record_fields f = record_head f ++ f.name

abbrev pub record_bytes : FileRec → List ℕ
record_bytes f = fill 128 (record_fields f)

abbrev pub entry_bytes : Extent → List ℕ
entry_bytes e = u32_bytes e.file ++ u32_bytes e.page ++ u32_bytes e.block ++ u32_bytes e.count

-- what stands in the place of a record or an entry, of which there may be none
abbrev pub record_at : Option FileRec → List ℕ
record_at None = []
record_at (Some f) = record_fields f

abbrev pub entry_at : Option Extent → List ℕ
entry_at None = []
entry_at (Some e) = entry_bytes e

-- the bit of a block: 0 past the end
abbrev pub bit : List Bool → ℕ → ℕ
bit written b = one_if (slice_index_or written b false)

-- the bits of eight blocks from one on, the first with the lowest value
abbrev pub byte_from : List Bool → ℕ → ℕ
byte_from written b =
    bit written b + 2 * bit written (b + 1) + 4 * bit written (b + 2) + 8 * bit written (b + 3)
    + 16 * bit written (b + 4) + 32 * bit written (b + 5) + 64 * bit written (b + 6) + 128 * bit written (b + 7)

-- the parts of the meta data: page 0, 4,096 records, the entries, the bitmap
unfoldable pub header_part : Drive → ℕ → List ℕ
header_part drive next = fill 4096 (header_bytes drive next)

unfoldable pub record_part : List FileRec → List ℕ
record_part files = fill 524288 (flat_map record_bytes files)

unfoldable pub entry_part : ℕ → List Extent → List ℕ
entry_part blocks extents = fill (4096 * entry_pages blocks) (flat_map entry_bytes extents)

unfoldable pub bits_part : ℕ → List Bool → List ℕ
bits_part blocks written = map (λ i. byte_from written (8 * i)) (range_with_len 0 (4096 * bit_pages blocks))

-- the bytes of the meta data: the extent entries are the maximal runs
unfoldable pub meta_bytes : Meta → List ℕ
meta_bytes m =
    header_part m.geometry m.names.next
    ++ (record_part m.names.files
    ++ (entry_part m.geometry.blocks (runs m.extents.placed)
    ++ bits_part m.geometry.blocks m.written))

-- a page of the meta data
abbrev pub meta_page : Meta → ℕ → List ℕ
meta_page m i = part (meta_bytes m) (4096 * i) 4096

-- the image: the meta data, and then the data blocks
unfoldable pub image_bytes : Meta → List (List ℕ) → List ℕ
image_bytes m blocks = meta_bytes m ++ flat_map (λ page. page) blocks
