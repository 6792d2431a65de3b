-- Which fields a record has: 1, 2, 4 or 8 bytes that don't pass its end. This project's own.
use Rattle.std.specs.Prelude.{ℕ, ◌+◌, Bool, true, ◌&&◌, ◌||◌, nat_eq, nat_le, List, [], ◌∷◌, Option, Some, None, if◌then◌else◌}
use Rattle.std.specs.List.{list_all}
use Rattle.predicates.specs.declared.pred.Pred.{Pred, Cmp}
use Rattle.predicates.specs.Nodes.{preorder}

abbrev pub is_size : ℕ → Bool
is_size n = nat_eq n 1 || (nat_eq n 2 || (nat_eq n 4 || nat_eq n 8))

abbrev pub is_field : ℕ → ℕ → ℕ → Bool
is_field width off size = is_size size && nat_le (off + size) width

-- a comparison of a field that a record of this width has, or a connective
abbrev pub is_sound : ℕ → Pred → Bool
is_sound width (Cmp cond off size value) = is_field width off size
is_sound width _ = true

-- the number of the first node that isn't, where the first node has number n
abbrev pub first_unsound : ℕ → ℕ → List Pred → Option ℕ
first_unsound width n [] = None
first_unsound width n (p ∷ ps) = if is_sound width p then first_unsound width (n + 1) ps else Some n

-- the first node whose field a record of this width doesn't have
abbrev pub field_fault : Pred → ℕ → Option ℕ
field_fault p width = first_unsound width 0 (preorder p)

-- a record of this width has all fields
abbrev pub fields_fit : Pred → ℕ → Bool
fields_fit p width = list_all (is_sound width) (preorder p)
