-- How far a reader has come, seen as the definitions see it; no caller sees it.
use Rattle.std.specs.Prelude.{ℕ, ◌+◌, ◌*◌, ◌≡◌, List, [], ◌∷◌, ◌++◌, length, take, ◌≤◌, Bool, max, slice_get, Some, None}
use Rattle.page_base.specs.Bytes.{Pages}
use Rattle.name_table.specs.Files.{Table, free_slot}
use Rattle.image_format.specs.declared.records.Listed.{Listed}
use Rattle.image_format.specs.declared.entries.Covered.{Covered}
use Rattle.image_format.specs.declared.entries.Awaited.{Awaited}
use Rattle.image_format.specs.declared.header.Header.{Header}
use Rattle.image_format.specs.declared.mounting.Split.{Split}
use Rattle.image_format.specs.declared.mounting.Read.{Read}
use Rattle.image_format.specs.Layout.{layout, record_pages, entry_pages, bit_pages}
use Rattle.image_format.specs.Records.{Stored, Listing}
use Rattle.image_format.specs.Entries.{Cover}
use Rattle.image_format.specs.Image.{Parts, Image}
use Rattle.image_format.specs.Tables.{stored_files, blocks_in, placed_of, pages_of}

abbrev pub listing : Listed → Listing
listing l = record { files = stored_files l.names; last = l.last; ended = l.ended }

-- the table with a file at its end
abbrev pub with_file : Table → ℕ → List ℕ → ℕ → Bool → Table
with_file t id name len sealed = record { files = t.files ++ record { id = id; name = name; len = len; slot = free_slot t.files; sealed = sealed } ∷ []; next = max t.next (id + 1) }

abbrev pub cover : Covered → Cover
cover c = record { blocks = blocks_in c.map; ended = c.ended }

-- so many pages come before this page of this file, counted from 0
pub record IsAt (n index page : ℕ) (files : List Stored) : Type 0 where
  pub before : n ≡ pages_of (take index files) + page
  pub inside : (f : Stored) → slice_get files index ≡ Some f → page ≤ Pages f.len
  pub past : slice_get files index ≡ None → page ≡ 0

-- the pages that have blocks are the first ones of the files, and the next one is where the cursor stands
pub record IsPlaced (t : Table) (c : Covered) : Type 0 where
  pub places : c.map.placed ≡ placed_of (stored_files t) (blocks_in c.map)
  pub cursor : IsAt (length c.map.placed) c.index c.page (stored_files t)

-- the page is of the file of an index, and the rest of its pages follow
pub record IsLast (w : Awaited) (index : ℕ) (files : List Stored) : Type 0 where
  pub file : Stored
  pub here : slice_get files index ≡ Some file
  pub id : w.file ≡ file.id
  pub left : w.page + w.left ≡ Pages file.len

abbrev pub parts_of : Split → Parts
parts_of s = record { records = s.records.now; entries = s.entries.now; bits = s.bits.now; body = s.body.now }

abbrev pub image_of : Header → Parts → Read → Image
image_of h p t = record { header = h; files = stored_files t.names; blocks = blocks_in t.extents; bits = p.bits; body = p.body }

-- how long the parts are
pub record HasSizes (h : Header) (p : Parts) : Type 0 where
  pub records : length p.records ≡ 4096 * record_pages (layout h.version)
  pub entries : length p.entries ≡ 4096 * entry_pages h.blocks
  pub bits : length p.bits ≡ 4096 * bit_pages h.blocks
  pub body : length p.body ≡ 4096 * h.blocks
