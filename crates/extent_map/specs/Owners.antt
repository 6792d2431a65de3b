-- How the places are kept, and searched; no caller sees it.
use Rattle.std.specs.Prelude.{ℕ, ◌+◌, ◌<◌, ◌≡◌, List, [], ◌∷◌, length, Option, Some, None, Bool, ◌||◌, ◌&&◌, ◌==◌, nat_lt, nat_le, if◌then◌else◌, is_none, false, slice_index_or}
use Rattle.extent_map.specs.declared.places.Place.{Place}
use Rattle.extent_map.specs.Places.{owner_of}

-- each block's owner
pub record TellsOwners (owners : List (Option (ℕ × ℕ))) (blocks : ℕ) (placed : List Place) : Type 0 where
  pub len : length owners ≡ blocks
  pub each : (block : ℕ) → block < blocks → slice_index_or owners block None ≡ owner_of block placed

-- whether a place comes before a page of a file
abbrev pub is_before : ℕ → ℕ → Place → Bool
is_before file page p = nat_lt p.file file || (p.file == file && nat_lt p.page page)

-- how many places do, where they are in order
abbrev pub before_of : ℕ → ℕ → List Place → ℕ
before_of file page [] = 0
before_of file page (p ∷ ps) = if is_before file page p then before_of file page ps + 1 else 0

-- how many places come before those of later files
abbrev pub end_of : ℕ → List Place → ℕ
end_of file [] = 0
end_of file (p ∷ ps) = if nat_le p.file file then end_of file ps + 1 else 0

-- the first, or else the second
abbrev pub or_else : Option (ℕ × ℕ) → Option (ℕ × ℕ) → Option (ℕ × ℕ)
or_else None other = other
or_else (Some x) other = Some x

-- the blocks without an owner, where the first owner is that of a block
abbrev pub unowned : ℕ → List (Option (ℕ × ℕ)) → List ℕ
unowned block [] = []
unowned block (o ∷ os) = if is_none o then block ∷ unowned (block + 1) os else unowned (block + 1) os

-- every block before one has an owner
abbrev pub HaveOwners : ℕ → List (Option (ℕ × ℕ)) → Type 0
HaveOwners block owners = (b : ℕ) → b < block → is_none (slice_index_or owners b None) ≡ false

-- whether there is a place, and it goes on with a run of so many pages that begins with another
abbrev pub joins : Place → ℕ → Option Place → Bool
joins first count None = false
joins first count (Some p) = p.file == first.file && (p.page == first.page + count && p.block == first.block + count)
