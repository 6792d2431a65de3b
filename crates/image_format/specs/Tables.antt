-- How the tables of meta data stand for what an image says.
use Rattle.std.specs.Prelude.{ℕ, ◌+◌, ◌≡◌, List, [], ◌∷◌, ◌++◌, length, take, drop, map, ◌==◌, if◌then◌else◌, Result, Ok, Err}
use Rattle.std.specs.List.{range_with_len}
use Rattle.page_base.specs.Bytes.{Pages}
use Rattle.page_base.specs.Drive.{meta_pages}
use Rattle.name_table.specs.declared.files.FileRec.{FileRec}
use Rattle.name_table.specs.Files.{Table}
use Rattle.extent_map.specs.declared.places.Place.{Place}
use Rattle.extent_map.specs.Places.{Places, pages_on}
use Rattle.image_format.specs.declared.faults.ImageFault.{ImageFault}
use Rattle.image_format.specs.declared.meta.Meta.{Meta}
use Rattle.image_format.specs.Records.{Stored}
use Rattle.image_format.specs.Bitmap.{written_in}
use Rattle.image_format.specs.Tails.{data_page}
use Rattle.image_format.specs.Image.{Image}
use Rattle.image_format.specs.Encoding.{meta_page}

-- a file without its slot
abbrev pub stored_of : FileRec → Stored
stored_of f = record { id = f.id; name = f.name; len = f.len; sealed = f.sealed }

abbrev pub stored_files : Table → List Stored
stored_files t = map stored_of t.files

-- the blocks of the pages that have one, by file and page
abbrev pub blocks_in : Places → List ℕ
blocks_in s = map (λ p. p.block) s.placed

-- how many pages the files have
abbrev pub pages_of : List Stored → ℕ
pages_of [] = 0
pages_of (f ∷ fs) = Pages f.len + pages_of fs

-- the places of the files' pages, with these blocks in order
abbrev pub placed_of : List Stored → List ℕ → List Place
placed_of [] blocks = []
placed_of (f ∷ fs) blocks = pages_on f.id 0 (take (Pages f.len) blocks) ++ placed_of fs (drop (Pages f.len) blocks)

-- so many pages from the first one on
abbrev pub pages_from : List ℕ → ℕ → List (List ℕ)
pages_from bytes count = map (data_page bytes) (range_with_len 0 count)

-- the pages of meta data: an image's own ones where it is of version 2, and else those that version 2 has
abbrev pub own_pages : ℕ → ℕ → List ℕ → Meta → List (List ℕ)
own_pages version blocks bytes m = if version == 2 then pages_from bytes (meta_pages blocks) else map (meta_page m) (range_with_len 0 (meta_pages blocks))

-- the meta data and all pages that an image mounts to: those of the meta data, and then its data blocks as they are
pub record IsMounted (bytes : List ℕ) (i : Image) (m : Meta) (all : List (List ℕ)) : Type 0 where
  pub blocks : m.geometry.blocks ≡ i.header.blocks
  pub dies : m.geometry.dies ≡ i.header.dies
  pub files : stored_files m.names ≡ i.files
  pub next : m.names.next ≡ i.header.next
  pub sizes : m.extents.blocks ≡ i.header.blocks
  pub extents : m.extents.placed ≡ placed_of i.files i.blocks
  pub order : blocks_in m.extents ≡ i.blocks
  pub written : m.written ≡ written_in i.header.blocks i.bits
  pub pages : all ≡ own_pages i.header.version i.header.blocks bytes m ++ pages_from i.body i.header.blocks

-- what some bytes are read as is an image that mounts to the meta data and pages
abbrev pub Mounts : List ℕ → Meta → List (List ℕ) → Result Image ImageFault → Type 0
Mounts bytes m all (Ok i) = IsMounted bytes i m all
Mounts bytes m all (Err f) = ⊥

-- the parts of meta data have one number of blocks
pub record IsOneSize (m : Meta) : Type 0 where
  pub extents : m.extents.blocks ≡ m.geometry.blocks
  pub written : length m.written ≡ m.geometry.blocks
