-- An image read as a function: what its parts say, the files that it mounts to, or its first fault.
use Rattle.std.specs.Prelude.{ℕ, ◌+◌, ◌*◌, List, take, drop, map, replicate, Bool, if◌then◌else◌, Result, Ok}
use Rattle.std.specs.List.{flat_map}
use Rattle.image_format.specs.declared.faults.ImageFault.{ImageFault}
use Rattle.image_format.specs.declared.header.Header.{Header}
use Rattle.image_format.specs.Faults.{◌>>=◌}
use Rattle.image_format.specs.Layout.{layout, record_pages, entry_pages, bit_pages}
use Rattle.image_format.specs.Header.{header}
use Rattle.image_format.specs.Records.{Stored, records, none_yet}
use Rattle.image_format.specs.Entries.{entries, nothing_yet, covered}
use Rattle.image_format.specs.Bitmap.{is_set, bitmap}
use Rattle.image_format.specs.Tails.{Share, shares, data_page, tails}

-- the bytes of the parts of an image, after its header
pub record Parts : Type 0 where
  pub records : List ℕ
  pub entries : List ℕ
  pub bits : List ℕ
  pub body : List ℕ

unfoldable pub parts : Header → List ℕ → Parts
parts h bytes =
    let behind_header = drop 4096 bytes in
    let behind_records = drop (4096 * record_pages (layout h.version)) behind_header in
    let behind_entries = drop (4096 * entry_pages h.blocks) behind_records in
    record {
      records = take (4096 * record_pages (layout h.version)) behind_header;
      entries = take (4096 * entry_pages h.blocks) behind_records;
      bits = take (4096 * bit_pages h.blocks) behind_entries;
      body = drop (4096 * bit_pages h.blocks) behind_entries;
    }

-- what an image says: its header, its files, the blocks of their pages in order, its bitmap, and the bytes of its data blocks
pub record Image : Type 0 where
  pub header : Header
  pub files : List Stored
  pub blocks : List ℕ
  pub bits : List ℕ
  pub body : List ℕ

-- the files of the records
unfoldable pub files_in : Header → List ℕ → Result (List Stored) ImageFault
files_in h bytes =
    let l = layout h.version in do
      listing ← records l h.next l.records 4096 none_yet bytes
      Ok listing.files

-- the blocks of the entries, which cover the files wholly
unfoldable pub blocks_of : Header → List Stored → List ℕ → Result (List ℕ) ImageFault
blocks_of h files bytes = do
  cover ← entries h.blocks files (256 * entry_pages h.blocks) (4096 * (1 + record_pages (layout h.version))) nothing_yet bytes
  _ ← covered files cover.blocks
  Ok cover.blocks

-- what the parts say
unfoldable pub meant : Header → Parts → Result Image ImageFault
meant h p = do
  files ← files_in h p.records
  blocks ← blocks_of h files p.entries
  _ ← bitmap blocks p.bits
  _ ← tails p.bits p.body (shares files blocks)
  Ok (record { header = h; files = files; blocks = blocks; bits = p.bits; body = p.body })

-- the image that some bytes are, or their first fault
unfoldable pub read_image : List ℕ → Result Image ImageFault
read_image bytes = do
  h ← header bytes
  meant h (parts h bytes)

-- a file as a caller sees it
pub record File : Type 0 where
  pub id : ℕ
  pub name : List ℕ
  pub bytes : List ℕ
  pub sealed : Bool

-- a block that isn't written stands for zeros
abbrev pub content : Image → ℕ → List ℕ
content i b = if is_set i.bits b then data_page i.body b else replicate 4096 0

-- a file's bytes are its blocks joined and cut
abbrev pub file_in : Image → Share → File
file_in i s = record { id = s.file.id; name = s.file.name; bytes = take s.file.len (flat_map (content i) s.blocks); sealed = s.file.sealed }

pub record Mounted : Type 0 where
  pub files : List File
  pub next : ℕ

abbrev pub mounted : Image → Mounted
mounted i = record { files = map (file_in i) (shares i.files i.blocks); next = i.header.next }

-- the files and the next id of an image, or its first fault
unfoldable pub mounts_to : List ℕ → Result Mounted ImageFault
mounts_to bytes = do
  i ← read_image bytes
  Ok (mounted i)
