-- What meta data and data blocks stand for, and when an image can be made of them.
use Rattle.std.specs.Prelude.{ℕ, ◌/◌, ◌%◌, ◌≡◌, List, [], length, drop, map, replicate, Bool, true, false, not, ◌&&◌, ◌==◌, if◌then◌else◌, Ok, slice_index, slice_index_or, take}
use Rattle.std.specs.List.{flat_map, AllByRecursion}
use Rattle.page_base.specs.Drive.{IsDrive}
use Rattle.name_table.specs.Files.{IsTable}
use Rattle.extent_map.specs.Places.{IsSound, is_used}
use Rattle.image_format.specs.declared.meta.Meta.{Meta}
use Rattle.image_format.specs.Numbers.{are_zero}
use Rattle.image_format.specs.Tails.{Share, shares}
use Rattle.image_format.specs.Image.{File, Mounted, mounts_to}
use Rattle.image_format.specs.Encoding.{image_bytes}
use Rattle.image_format.specs.Tables.{stored_files, blocks_in, placed_of, IsOneSize, pages_of}

-- a data block
abbrev pub block_at : List (List ℕ) → ℕ → List ℕ
block_at body b = slice_index_or body b []

-- a block that isn't written stands for zeros
abbrev pub content_of : Meta → List (List ℕ) → ℕ → List ℕ
content_of m body b = if slice_index_or m.written b false then block_at body b else replicate 4096 0

abbrev pub file_with : Meta → List (List ℕ) → Share → File
file_with m body s = record { id = s.file.id; name = s.file.name; bytes = take s.file.len (flat_map (content_of m body) s.blocks); sealed = s.file.sealed }

-- the files and the next id that meta data and data blocks stand for
abbrev pub stands_for : Meta → List (List ℕ) → Mounted
stands_for m body = record { files = map (file_with m body) (shares (stored_files m.names) (blocks_in m.extents)); next = m.names.next }

-- a file's last block is written and has a byte past the file's length that isn't zero
abbrev pub goes_on : Meta → List (List ℕ) → Share → Bool
goes_on m body s =
    let last = slice_index s.blocks (s.file.len / 4096) in
    not (s.file.len % 4096 == 0) && (slice_index_or m.written last false && not (are_zero (drop (s.file.len % 4096) (block_at body last))))

-- each file has blocks for exactly its pages, no other block has a place or is written, and no file goes on behind its length
pub record IsWhole (m : Meta) (body : List (List ℕ)) : Type 0 where
  pub size : IsOneSize m
  pub pages : length body ≡ m.geometry.blocks
  pub places : m.extents.placed ≡ placed_of (stored_files m.names) (blocks_in m.extents)
  pub count : length m.extents.placed ≡ pages_of (stored_files m.names)
  pub written : (b : ℕ) → slice_index_or m.written b false ≡ true → is_used b m.extents.placed ≡ true
  pub ends : AllByRecursion (λ s. goes_on m body s ≡ false) (shares (stored_files m.names) (blocks_in m.extents))

-- what the parts and the data blocks are by their types
pub record IsValid (m : Meta) (body : List (List ℕ)) : Type 0 where
  pub drive : IsDrive m.geometry.blocks m.geometry.dies
  pub table : IsTable m.names
  pub sound : IsSound m.extents
  pub whole : AllByRecursion (λ (page : List ℕ). length page ≡ 4096) body

-- mounting the image gives the files that meta data and data blocks stand for
abbrev pub Remounts : Type 0
Remounts = (m : Meta) (body : List (List ℕ)) → IsValid m body → IsWhole m body → mounts_to (image_bytes m body) ≡ Ok (stands_for m body)
