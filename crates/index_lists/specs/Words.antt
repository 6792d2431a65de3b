-- Words on lists of numbers, and on functions from numbers. This project's own; the orders of blocks are told with them.
use Rattle.std.specs.Prelude.{ℕ, ◌+◌, ◌<◌, ◌==◌, Bool, true, false, if◌then◌else◌, List, [], ◌∷◌, ◌++◌, Option, Some, None}

-- f, but v at i
abbrev pub put : {A : Type 0} → (ℕ → A) → ℕ → A → ℕ → A
put f i v j = if j == i then v else f j

-- 1 for true
abbrev pub one_if : Bool → ℕ
one_if true = 1
one_if false = 0

-- how often b stands in the list
unfoldable pub count : ℕ → List ℕ → ℕ
count b [] = 0
count b (x ∷ xs) = one_if (b == x) + count b xs

-- the list without b
unfoldable pub without : ℕ → List ℕ → List ℕ
without b [] = []
without b (x ∷ xs) = if b == x then without b xs else x ∷ without b xs

-- the list with b moved, or put, to its end
abbrev pub last : ℕ → List ℕ → List ℕ
last b xs = without b xs ++ b ∷ []

-- the list with b right before this place, or at its end where the place isn't in it
unfoldable pub before : ℕ → ℕ → List ℕ → List ℕ
before place b [] = b ∷ []
before place b (x ∷ xs) = if place == x then b ∷ x ∷ xs else x ∷ before place b xs

-- the first of the list, if there is one
abbrev pub first : List ℕ → Option ℕ
first [] = None
first (x ∷ xs) = Some x

-- what stands right after b, if anything does
unfoldable pub after : ℕ → List ℕ → Option ℕ
after b [] = None
after b (x ∷ xs) = if b == x then first xs else after b xs

-- no number stands in the list twice
abbrev pub IsOnce : List ℕ → Type 0
IsOnce xs = (b : ℕ) → count b xs < 2
