-- Which states a plain machine over a drive may have: the limits on its files, names, lengths and ids. This project's own.
use Rattle.std.specs.Prelude.{ℕ, ◌<◌, ◌≤◌, ◌≡◌, ◌^◌, List, [], ◌∷◌, length, None, IsTrue}
use Rattle.std.specs.List.{AllByRecursion}
use Rattle.name_table.specs.Name.{is_name}
use Rattle.plain_files.specs.declared.calls.PlainFile.{PlainFile}
use Rattle.plain_files.specs.Plain.{State, file_of, pages_of}
use Rattle.plain_run.specs.Order.{IsInOrder}

-- the name is well formed, and the file is no longer than the longest one
abbrev pub IsFile : PlainFile → Type 0
IsFile f = IsTrue (is_name f.name) × (length f.bytes ≤ 2 ^ 28)

-- no two files have one name
abbrev pub HaveOwnNames : List PlainFile → Type 0
HaveOwnNames [] = Unit {0}
HaveOwnNames (f ∷ fs) = (file_of f.name fs ≡ None) × HaveOwnNames fs

-- the state of a machine over so many data blocks, within all limits
pub record Fits (blocks : ℕ) (s : State) : Type 0 where
  pub order : IsInOrder s
  pub last : s.next < 2 ^ 32
  pub few : length s.files ≤ 4096
  pub each : AllByRecursion IsFile s.files
  pub names : HaveOwnNames s.files
  pub room : pages_of s.files ≤ s.capacity
  pub capacity : s.capacity ≡ blocks
