-- How held ranges lie in lists, two for each file. This project's own.
use Rattle.std.specs.Prelude.{◌≡◌, ℕ, ◌+◌, ◌*◌, ◌<◌, ◌≤◌, ◌^◌, ◌==◌, ◌&&◌, not, ltb, if◌then◌else◌, Bool, false, List, length, Option, Some, None, get_or}
use Rattle.index_lists.specs.Words.{one_if, count}
use Rattle.index_lists.specs.Lists.{Lists, list_at}
use Rattle.range_locks.specs.declared.range.Range.{Range}
use Rattle.range_locks.specs.Walks.{IsRising}

-- whether a call holds a range of the file with a page, or one without
abbrev pub spans : ℕ → Option Range → Bool
spans file None = false
spans file (Some o) = (o.file == file) && ltb o.from o.to

abbrev pub is_empty_on : ℕ → Option Range → Bool
is_empty_on file None = false
is_empty_on file (Some o) = (o.file == file) && not (ltb o.from o.to)

-- two lists for each file: the ranges with a page by rising first page, and those without one
pub record AreLocks (files : ℕ) (held : List (Option Range)) (links : Lists) : Type 0 where
  pub calls : length held ≤ links.nodes
  pub lists : length links.lists ≡ 2 * files
  pub small : files ≤ 2 ^ 20
  pub full : (f c : ℕ) → f < files → count c (list_at links (2 * f)) ≡ one_if (spans f (get_or held c None))
  pub empty : (f c : ℕ) → f < files → count c (list_at links (2 * f + 1)) ≡ one_if (is_empty_on f (get_or held c None))
  pub rising : (f : ℕ) → f < files → IsRising held (list_at links (2 * f))
  pub file_of : (c : ℕ) (r : Range) → get_or held c None ≡ Some r → r.file < files

-- the list of a range
abbrev pub list_for : Range → ℕ
list_for r = if ltb r.from r.to then 2 * r.file else 2 * r.file + 1
