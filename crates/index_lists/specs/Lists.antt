-- Several lists of the numbers below a bound, the nodes. This project's own.
use Rattle.std.specs.Prelude.{ℕ, ◌≤◌, List, [], get_or, set, nat_lt}
use Rattle.index_lists.specs.Words.{count, one_if}

-- the bound, and the lists by their numbers
pub record Lists : Type 0 where
  pub nodes : ℕ
  pub lists : List (List ℕ)

-- the list with this number
abbrev pub list_at : Lists → ℕ → List ℕ
list_at s i = get_or s.lists i []

-- the lists where the one with this number is xs
abbrev pub with_list : Lists → ℕ → List ℕ → Lists
with_list s i xs = record s { lists = set s.lists i xs }

-- the list has no number but those below nodes, and each of them at most once
abbrev pub AreNodes : ℕ → List ℕ → Type 0
AreNodes nodes xs = (b : ℕ) → count b xs ≤ one_if (nat_lt b nodes)
