-- Words on functions from numbers, on tests and on lists of blocks. This project's own.
use Rattle.std.specs.Prelude.{◌≡◌, ℕ, zero, suc, ◌+◌, ◌==◌, Bool, false, ◌||◌, nat_lt, if◌then◌else◌, List, [], ◌∷◌, ◌++◌, map, Option, Some, None, option_to_list}
use Rattle.std.specs.List.{Contains, range_with_len}
use Rattle.index_lists.specs.Words.{put, one_if, count, without}

-- f, changed at this place, if it is one
abbrev pub changed_at : {A : Type 0} → (ℕ → A) → Option ℕ → (A → A) → ℕ → A
changed_at f None change = f
changed_at f (Some i) change = put f i (change (f i))

-- whether it is this number
abbrev pub is_at : Option ℕ → ℕ → Bool
is_at None n = false
is_at (Some i) n = i == n

-- the first of two, or else the second
abbrev pub or_else : {A : Type 0} → Option A → Option A → Option A
or_else None y = y
or_else (Some x) y = Some x

-- f 0, .., f (n - 1)
unfoldable pub from_fn : {A : Type 0} → ℕ → (ℕ → A) → List A
from_fn n f = map f (range_with_len 0 n)

-- f 0 + .. + f (n - 1)
unfoldable pub sum_to : ℕ → (ℕ → ℕ) → ℕ
sum_to zero f = 0
sum_to (suc n) f = sum_to n f + f n

-- of how many numbers below n the test holds
abbrev pub count_to : ℕ → (ℕ → Bool) → ℕ
count_to n test = sum_to n (λ i. one_if (test i))

-- whether the test holds of a number below n
unfoldable pub any_to : ℕ → (ℕ → Bool) → Bool
any_to zero test = false
any_to (suc n) test = any_to n test || test n

-- the first number below n of which the test holds
unfoldable pub first_to : ℕ → (ℕ → Bool) → Option ℕ
first_to zero test = None
first_to (suc n) test = or_else (first_to n test) (if test n then Some n else None)

-- the numbers that f has at 0, .., n - 1, in this order
unfoldable pub listed_to : ℕ → (ℕ → Option ℕ) → List ℕ
listed_to zero f = []
listed_to (suc n) f = listed_to n f ++ option_to_list (f n)

-- whether b stands in the list
abbrev pub is_in : ℕ → List ℕ → Bool
is_in b xs = nat_lt 0 (count b xs)

-- the list without any of those
unfoldable pub without_all : List ℕ → List ℕ → List ℕ
without_all [] xs = xs
without_all (b ∷ bs) xs = without_all bs (without b xs)

-- the list with those moved, or put, to its end, in their order
abbrev pub all_last : List ℕ → List ℕ → List ℕ
all_last bs xs = without_all bs xs ++ bs

-- the list has exactly the numbers of which the test holds, each once
abbrev pub Lists : List ℕ → (ℕ → Bool) → Type 0
Lists xs test = (b : ℕ) → count b xs ≡ one_if (test b)

-- R holds between each element and each one behind it
abbrev pub EachBehind : {A : Type 0} → (A → A → Type 0) → List A → Type 0
EachBehind {A} R [] = Unit {0}
EachBehind {A} R (x ∷ xs) = ((y : A) → Contains xs y → R x y) × EachBehind R xs
