-- How a list of numbers lies in two vectors of neighbours: as a ring, closed by a place of its own after the last number.
use Rattle.std.specs.Prelude.{◌≡◌, ℕ, zero, suc, ◌+◌, ◌<◌, ◌≤◌, ◌==◌, if◌then◌else◌, List, [], ◌∷◌, length, map, slice_index}
use Rattle.index_lists.specs.Words.{count}
use Rattle.index_lists.specs.Lists.{Lists}

-- one list of the numbers below nodes
pub record Ringed : Type 0 where
  pub nodes : ℕ
  pub list : List ℕ

-- from at on, by next, until the end or until the fuel is used
unfoldable pub walk : ℕ → (ℕ → ℕ) → ℕ → ℕ → List ℕ
walk zero next end at = []
walk (suc fuel) next end at = if at == end then [] else at ∷ walk fuel next end (next at)

-- next leads from a over the list to z, and prev back
unfoldable pub Path : (ℕ → ℕ) → (ℕ → ℕ) → ℕ → List ℕ → ℕ → Type 0
Path next prev a [] z = (next a ≡ z) × (prev z ≡ a)
Path next prev a (x ∷ xs) z = (next a ≡ x) × (prev x ≡ a) × Path next prev x xs z

-- what the vectors of neighbours have
abbrev pub at : List ℕ → ℕ → ℕ
at xs i = slice_index xs i

-- the list that the vector of next ones gives
abbrev pub listed : ℕ → List ℕ → List ℕ
listed nodes next = walk nodes (at next) nodes (at next nodes)

-- the ring that the vector of next ones gives
abbrev pub ringed : ℕ → List ℕ → Ringed
ringed nodes next = record { nodes = nodes; list = listed nodes next }

-- the vectors have this list; a number that isn't in it is its own next one
pub record IsRing (nodes : ℕ) (next prev : List ℕ) (xs : List ℕ) : Type 0 where
  pub next_len : length next ≡ nodes + 1
  pub prev_len : length prev ≡ nodes + 1
  pub path : Path (at next) (at prev) nodes xs nodes
  pub once : (b : ℕ) → count b xs < 2
  pub below : (b : ℕ) → nodes ≤ b → count b xs ≡ 0
  pub out : (b : ℕ) → b < nodes → count b xs ≡ 0 → at next b ≡ b

-- the lists of several rings
abbrev pub list_of : Ringed → List ℕ
list_of r = r.list

abbrev pub lists_of : ℕ → List Ringed → Lists
lists_of nodes rings = record { nodes = nodes; lists = map list_of rings }
