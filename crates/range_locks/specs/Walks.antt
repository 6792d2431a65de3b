-- What walks along a list of calls find. This project's own; no clause outside this crate speaks of it.
use Rattle.std.specs.Prelude.{◌≡◌, ℕ, ◌<◌, ◌==◌, ◌&&◌, ◌||◌, ltb, min, Bool, true, false, if◌then◌else◌, List, [], ◌∷◌, Option, Some, None, get_or}
use Rattle.index_lists.specs.Words.{count}
use Rattle.range_locks.specs.declared.range.Range.{Range}
use Rattle.range_locks.specs.Held.{hits}

-- the lesser of two, where there is one
abbrev pub lesser : Option ℕ → Option ℕ → Option ℕ
lesser None o = o
lesser (Some a) None = Some a
lesser (Some a) (Some b) = Some (min a b)

-- a call that passes a test
abbrev pub one_such : Bool → ℕ → Option ℕ
one_such true x = Some x
one_such false x = None

-- the least of the list that passes a test
unfoldable pub least_in : (ℕ → Bool) → List ℕ → Option ℕ
least_in test [] = None
least_in test (x ∷ xs) = lesser (one_such (test x) x) (least_in test xs)

-- the list from a number of it on
unfoldable pub rest_from : Option ℕ → List ℕ → List ℕ
rest_from None xs = []
rest_from (Some b) [] = []
rest_from (Some b) (x ∷ xs) = if b == x then x ∷ xs else rest_from (Some b) xs

-- whether what the call holds conflicts with a range
abbrev pub hit_at : Range → List (Option Range) → ℕ → Bool
hit_at r held c = hits r (get_or held c None)

-- the first page of a call's range
abbrev pub first_page : Option Range → ℕ
first_page None = 0
first_page (Some r) = r.from

abbrev pub from_at : List (Option Range) → ℕ → ℕ
from_at held c = first_page (get_or held c None)

-- by rising first page, equal ones by call
abbrev pub is_ahead : List (Option Range) → ℕ → ℕ → Bool
is_ahead held x y = ltb (from_at held x) (from_at held y) || ((from_at held x == from_at held y) && ltb x y)

-- the first of the list that comes after x
unfoldable pub place_for : List (Option Range) → ℕ → List ℕ → Option ℕ
place_for held x [] = None
place_for held x (y ∷ ys) = if is_ahead held x y then Some y else place_for held x ys

-- the list with x in its place
unfoldable pub inserted : List (Option Range) → ℕ → List ℕ → List ℕ
inserted held x [] = x ∷ []
inserted held x (y ∷ ys) = if is_ahead held x y then x ∷ y ∷ ys else y ∷ inserted held x ys

-- that the list is in this order
unfoldable pub IsRising : List (Option Range) → List ℕ → Type 0
IsRising held [] = Unit {0}
IsRising held (x ∷ xs) = ((y : ℕ) → 0 < count y xs → is_ahead held x y ≡ true) × IsRising held xs
