-- Files by rising id. This project's own.
use Rattle.std.specs.Prelude.{ℕ, ◌+◌, ◌<◌, ◌≤◌, List, [], ◌∷◌}
use Rattle.plain_files.specs.declared.calls.PlainFile.{PlainFile}
use Rattle.plain_files.specs.Plain.{State}

-- each id is above the one before it, and the first is no lower than that
abbrev pub Rise : ℕ → List PlainFile → Type 0
Rise low [] = Unit {0}
Rise low (file ∷ rest) = (low ≤ file.id) × Rise (file.id + 1) rest

-- each id is below the next one
abbrev pub Below : ℕ → List PlainFile → Type 0
Below next [] = Unit {0}
Below next (file ∷ rest) = (file.id < next) × Below next rest

-- the files stand by rising id, and no id that is there comes again
pub record IsInOrder (s : State) : Type 0 where
  pub rise : Rise 1 s.files
  pub below : Below s.next s.files
  pub least : 1 ≤ s.next
