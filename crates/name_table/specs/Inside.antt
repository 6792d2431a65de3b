-- How the table of files is kept; no caller sees it.
use Rattle.std.specs.Prelude.{ℕ, ◌+◌, ◌<◌, ◌≤◌, ◌≡◌, List, [], ◌∷◌, length, map, Bool, false, bytes_eq, Option, Some, None, slice_index_or, nat_lt, if◌then◌else◌}
use Rattle.name_table.specs.declared.files.FileRec.{FileRec}
use Rattle.name_table.specs.declared.index.Hashed.{Hashed}
use Rattle.name_table.specs.Files.{has_slot}
use Rattle.name_table.specs.Hashes.{hash_of, Indexed, of_hash}

-- which slots have a file
pub record MarksSlots (taken : List Bool) (files : List FileRec) : Type 0 where
  pub len : length taken ≡ 4096
  pub each : (slot : ℕ) → slot < 4096 → slice_index_or taken slot false ≡ has_slot slot files

-- a file's entry in the index
abbrev pub entry_of : FileRec → Hashed
entry_of f = record { hash = hash_of f.name; id = f.id }

-- the index has each file, those with names of one hash in the order of the files
pub record Indexes (index : Indexed) (files : List FileRec) : Type 0 where
  pub classes : (hash : ℕ) → of_hash hash index.entries ≡ of_hash hash (map entry_of files)
  pub count : length index.entries ≡ length files
  pub room : 4096 ≤ index.room

-- how many files come before an id, where ids rise
abbrev pub below : ℕ → List FileRec → ℕ
below id [] = 0
below id (f ∷ fs) = if nat_lt f.id id then below id fs + 1 else 0

-- whether there is a file, and it has the name
abbrev pub is_named : List ℕ → Option FileRec → Bool
is_named name None = false
is_named name (Some f) = bytes_eq f.name name

-- the first entry whose id passes
abbrev pub first_of : (ℕ → Bool) → List Hashed → Option ℕ
first_of passes [] = None
first_of passes (e ∷ es) = if passes e.id then Some e.id else first_of passes es
