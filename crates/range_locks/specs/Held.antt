-- What calls hold, and which calls are in the way of a range. This project's own: shared ranges may overlap, an exclusive one overlaps none.
use Rattle.std.specs.Prelude.{◌≡◌, ◌<◌, ◌≤◌, ◌⊎◌, ℕ, suc, ◌==◌, ◌&&◌, ltb, min, max, Bool, true, false, if◌then◌else◌, List, [], ◌∷◌, Option, Some, None, option_map, get_or, set}
use Rattle.range_locks.specs.declared.range.Range.{Range}
use Rattle.range_locks.specs.declared.range.Mode.{Mode}
use Rattle.range_locks.specs.declared.range.Mode.TheVariants.{Shared, Exclusive}

-- how many files there are, and of each call what it holds
pub record Ranged : Type 0 where
  pub files : ℕ
  pub held : List (Option Range)

-- what a call holds
abbrev pub held_by : Ranged → ℕ → Option Range
held_by s call = get_or s.held call None

-- the call holds this range, or none
abbrev pub with_held : Ranged → ℕ → Option Range → Ranged
with_held s call r = record s { held = set s.held call r }

-- one of the two is exclusive
abbrev pub apart : Mode → Mode → Bool
apart Shared Shared = false
apart Shared Exclusive = true
apart Exclusive m = true

-- two ranges conflict: they are of one file, some page is in both, and one of them is exclusive
pub record Conflicts (range held : Range) : Type 0 where
  pub page : ℕ
  pub of_one_file : held.file ≡ range.file
  pub in_range : (range.from ≤ page) × (page < range.to)
  pub in_held : (held.from ≤ page) × (page < held.to)
  pub one_exclusive : (range.mode ≡ Exclusive) ⊎ (held.mode ≡ Exclusive)

-- whether what a call holds conflicts with a range
abbrev pub hits : Range → Option Range → Bool
hits r None = false
hits r (Some o) = (o.file == r.file) && ltb (max o.from r.from) (min o.to r.to) && apart r.mode o.mode

-- whether what a call holds is of the file, an empty range too
abbrev pub is_on : ℕ → Option Range → Bool
is_on file None = false
is_on file (Some o) = o.file == file

-- this call's range passes the test, and no lower call's does; or no call's does
abbrev pub IsFirst : (Option Range → Bool) → List (Option Range) → Option ℕ → Type 0
IsFirst test held None = (c : ℕ) → test (get_or held c None) ≡ false
IsFirst test held (Some call) = (test (get_or held call None) ≡ true) × ((c : ℕ) → c < call → test (get_or held c None) ≡ false)

-- the least call whose range passes a test
unfoldable pub first_such : (Option Range → Bool) → List (Option Range) → Option ℕ
first_such test [] = None
first_such test (x ∷ xs) = if test x then Some 0 else option_map suc (first_such test xs)

-- the least call whose range conflicts with this one, and the least that holds a file
abbrev pub least_conflict : Range → Ranged → Option ℕ
least_conflict r s = first_such (hits r) s.held

abbrev pub least_on : ℕ → Ranged → Option ℕ
least_on file s = first_such (is_on file) s.held

-- the pages of a file from a page up to below another one
abbrev pub range_of : ℕ → ℕ → ℕ → Mode → Range
range_of file from to mode = record { file = file; from = from; to = to; mode = mode }
