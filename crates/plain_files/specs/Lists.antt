-- Edits of the first element of a list that passes a test. It is this project's own.
use Rattle.std.specs.Prelude.{List, [], ◌∷◌, Bool, if◌then◌else◌}

-- the list, of which that element has changed
abbrev pub with_changed : {A : Type 0} → (A → Bool) → (A → A) → List A → List A
with_changed test change [] = []
with_changed test change (x ∷ xs) = if test x then change x ∷ xs else x ∷ with_changed test change xs

-- the list without that element
abbrev pub without : {A : Type 0} → (A → Bool) → List A → List A
without test [] = []
without test (x ∷ xs) = if test x then xs else x ∷ without test xs
