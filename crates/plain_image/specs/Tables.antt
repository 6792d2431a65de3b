-- How tables of meta data stand for a machine's files; no caller sees it.
use Rattle.std.specs.Prelude.{ℕ, ◌-◌, ◌≡◌, List, length, drop, map}
use Rattle.image_format.specs.declared.meta.Meta.{Meta}
use Rattle.image_format.specs.Records.{Stored}
use Rattle.image_format.specs.Tables.{stored_files, blocks_in, IsOneSize, pages_of}
use Rattle.image_format.specs.Tails.{shares}
use Rattle.image_format.specs.Whole.{file_with}
use Rattle.plain_files.specs.declared.calls.PlainFile.{PlainFile}
use Rattle.plain_image.specs.Drives.{plain_file}

-- a file as its record tells it; a record does not tell the slot
abbrev pub stored_file : PlainFile → Stored
stored_file f = record { id = f.id; name = f.name; len = length f.bytes; sealed = f.sealed }

-- the places are those of all pages of the files, and there is a page of data for each block
pub record IsPlaced (m : Meta) (body : List (List ℕ)) : Type 0 where
  pub size : IsOneSize m
  pub pages : length body ≡ m.geometry.blocks
  pub count : length m.extents.placed ≡ pages_of (stored_files m.names)

-- the machine's files from one on, before whose pages so many have their places
abbrev pub files_left : Meta → List (List ℕ) → ℕ → ℕ → List PlainFile
files_left m body i before = map plain_file (map (file_with m body) (shares (drop i (stored_files m.names)) (drop before (blocks_in m.extents))))
