-- The extent entries, which cover the pages of the files in order: each is judged by all its faults before the next one.
use Rattle.std.specs.Prelude.{ℕ, zero, suc, ◌+◌, ◌-◌, List, [], ◌∷◌, ◌++◌, length, take, drop, Bool, true, false, not, ◌&&◌, ◌==◌, nat_lt, nat_le, Option, Some, None, Result, Ok, ⊤, if◌then◌else◌}
use Rattle.std.specs.List.{list_any, range_with_len}
use Rattle.page_base.specs.Bytes.{Pages}
use Rattle.extent_map.specs.declared.places.Extent.{Extent}
use Rattle.image_format.specs.declared.entries.Awaited.{Awaited}
use Rattle.image_format.specs.declared.faults.ImageKind.TheVariants as kinds
use Rattle.image_format.specs.declared.faults.ImageFault.{ImageFault}
use Rattle.image_format.specs.Faults.{◌>>=◌, demand, fault}
use Rattle.image_format.specs.Numbers.{u32_at, are_zero}
use Rattle.image_format.specs.Records.{Stored}

-- what the entries so far told: the blocks of the pages that they cover, in the order of files and pages, and whether an unused entry came
pub record Cover : Type 0 where
  pub blocks : List ℕ
  pub ended : Bool

abbrev pub nothing_yet : Cover
nothing_yet = record { blocks = []; ended = false }

-- An `Awaited` has a page of a file, and how many pages the file has from there on.

-- the page of all files in order that so many pages come before
abbrev pub page_after : ℕ → List Stored → Option Awaited
page_after n [] = None
page_after n (f ∷ fs) = if nat_lt n (Pages f.len) then Some (record { file = f.id; page = n; left = Pages f.len - n }) else page_after (n - Pages f.len) fs

-- an entry: file, page, block and count
abbrev pub entry_in : List ℕ → Extent
entry_in raw = record { file = u32_at raw 0; page = u32_at raw 4; block = u32_at raw 8; count = u32_at raw 12 }

-- the entry begins with this page and stays in its file
abbrev pub is_at : Extent → Option Awaited → Bool
is_at e None = false
is_at e (Some w) = e.file == w.file && (e.page == w.page && nat_le e.count w.left)

abbrev pub is_in : Extent → ℕ → Bool
is_in e b = nat_le e.block b && nat_lt b (e.block + e.count)

-- an unused entry is all zeros
unfoldable pub unused_entry : ℕ → Cover → List ℕ → Result Cover ImageFault
unused_entry at cover raw = do
  _ ← demand (are_zero raw) kinds.Extent at
  Ok (record cover { ended = true })

-- of an image of so many blocks, with these files
unfoldable pub used_entry : ℕ → List Stored → ℕ → Cover → Extent → Result Cover ImageFault
used_entry blocks files at cover e = do
  _ ← demand (not cover.ended && (is_at e (page_after (length cover.blocks) files) && nat_le (e.block + e.count) blocks)) kinds.Extent at
  _ ← demand (not (list_any (is_in e) cover.blocks)) kinds.Overlap at
  Ok (record cover { blocks = cover.blocks ++ range_with_len e.block e.count })

unfoldable pub one_entry : ℕ → List Stored → ℕ → Cover → List ℕ → Result Cover ImageFault
one_entry blocks files at cover raw = if u32_at raw 12 == 0 then unused_entry at cover raw else used_entry blocks files at cover (entry_in raw)

-- so many entries, of which the first stands at an offset
unfoldable pub entries : ℕ → List Stored → ℕ → ℕ → Cover → List ℕ → Result Cover ImageFault
entries blocks files zero at cover bytes = Ok cover
entries blocks files (suc n) at cover bytes = do
  now ← one_entry blocks files at cover (take 16 bytes)
  entries blocks files n (at + 16) now (drop 16 bytes)

-- every page of every file is covered
unfoldable pub covered : List Stored → List ℕ → Result ⊤ ImageFault
covered files blocks = none_left (page_after (length blocks) files)
  where
    none_left : Option Awaited → Result ⊤ ImageFault
    none_left None = Ok tt
    none_left (Some w) = fault kinds.Cover w.file
