-- The table of files: those that are there by rising id, and the id that comes next. This project's own.
use Rattle.std.specs.Prelude.{ℕ, zero, suc, ◌+◌, ◌-◌, ◌<◌, ◌≤◌, ◌≡◌, ◌^◌, List, [], ◌∷◌, ◌++◌, length, Bool, false, ◌||◌, ◌==◌, nat_le, max, bytes_eq, if◌then◌else◌, Option, Some, None, Result, Ok, Err, IsTrue}
use Rattle.std.specs.List.{AllByRecursion}
use Rattle.name_table.specs.declared.files.FileRec.{FileRec}
use Rattle.name_table.specs.declared.files.NameErr.{NameErr}
use Rattle.name_table.specs.declared.files.NameErr.TheVariants.{Exists, Full}
use Rattle.name_table.specs.Name.{is_name}

-- the files by rising id, and the id that comes next
pub record Table : Type 0 where
  pub files : List FileRec
  pub next : ℕ

-- the file of a name
abbrev pub file_named : List ℕ → List FileRec → Option FileRec
file_named name [] = None
file_named name (f ∷ fs) = if bytes_eq f.name name then Some f else file_named name fs

-- the file of an id
abbrev pub file_of : ℕ → List FileRec → Option FileRec
file_of id [] = None
file_of id (f ∷ fs) = if f.id == id then Some f else file_of id fs

-- the other files
abbrev pub without : ℕ → List FileRec → List FileRec
without id [] = []
without id (f ∷ fs) = if f.id == id then fs else f ∷ without id fs

-- the files, of which that of the id is another
abbrev pub changed : ℕ → (FileRec → FileRec) → List FileRec → List FileRec
changed id change [] = []
changed id change (f ∷ fs) = if f.id == id then change f ∷ fs else f ∷ changed id change fs

-- whether a file stands in a slot
abbrev pub has_slot : ℕ → List FileRec → Bool
has_slot slot [] = false
has_slot slot (f ∷ fs) = f.slot == slot || has_slot slot fs

-- of the slots from one on, so many, the first in which no file stands; else the one after them
unfoldable pub slot_from : ℕ → ℕ → List FileRec → ℕ
slot_from slot zero files = slot
slot_from slot (suc n) files = if has_slot slot files then slot_from (slot + 1) n files else slot

-- the lowest slot in which no file stands
unfoldable pub free_slot : List FileRec → ℕ
free_slot files = slot_from 0 4096 files

-- an empty file that isn't sealed
abbrev pub new_file : ℕ → List ℕ → List FileRec → FileRec
new_file id name files = record { id = id; name = name; len = 0; slot = free_slot files; sealed = false }

-- the table with a file of this id at its end
abbrev pub placed : Table → ℕ → List ℕ → Table
placed t id name = record { files = t.files ++ new_file id name t.files ∷ []; next = max t.next (id + 1) }

-- the reply to a create: the id, or which file has the name, or that there is no room for another
abbrev pub create_new : Table → Result ℕ NameErr
create_new t = if nat_le 4096 (length t.files) || nat_le (2 ^ 32 - 1) t.next then Err (Full (length t.files) t.next) else Ok t.next

abbrev pub created : Table → Option FileRec → Result ℕ NameErr
created t (Some f) = Err (Exists f.id)
created t None = create_new t

-- the table that a create leaves
abbrev pub after_create : Table → List ℕ → Result ℕ NameErr → Table
after_create t name (Ok id) = placed t id name
after_create t name (Err e) = t

-- ids rise from one on
abbrev pub RiseFrom : ℕ → List FileRec → Type 0
RiseFrom id [] = Unit {0}
RiseFrom id (f ∷ fs) = (id ≤ f.id) × RiseFrom (f.id + 1) fs

-- every id is below a number
abbrev pub IdsBelow : ℕ → List FileRec → Type 0
IdsBelow id [] = Unit {0}
IdsBelow id (f ∷ fs) = (f.id < id) × IdsBelow id fs

-- no file comes twice, by name or by slot
abbrev pub AreApart : List FileRec → Type 0
AreApart [] = Unit {0}
AreApart (f ∷ fs) = (file_named f.name fs ≡ None) × (has_slot f.slot fs ≡ false) × AreApart fs

-- what each file keeps
abbrev pub IsFile : ℕ → FileRec → Type 0
IsFile next f = (f.id < next) × (f.slot < 4096) × (f.len ≤ 2 ^ 28) × IsTrue (is_name f.name)

-- what each table keeps
pub record IsTable (t : Table) : Type 0 where
  pub count : length t.files ≤ 4096
  pub next : (1 ≤ t.next) × (t.next < 2 ^ 32)
  pub rise : RiseFrom 1 t.files
  pub apart : AreApart t.files
  pub each : AllByRecursion (IsFile t.next) t.files
