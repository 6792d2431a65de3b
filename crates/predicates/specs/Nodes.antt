-- The nodes of a predicate: its comparisons and connectives. This project's own.
use Rattle.std.specs.Prelude.{ℕ, List, [], ◌∷◌, ◌++◌, length}
use Rattle.predicates.specs.declared.pred.Pred.{Pred, Cmp, And', Or', Not', more_of-Pred, end_of-Pred}
use Rattle.predicates.specs.declared.pred.Pred.TheVariants.{And, Or, Not}

-- parents before children, left before right
abbrev pub preorder : Pred → List Pred
preorder (Cmp cond off size value) = Cmp cond off size value ∷ []
preorder (And' s (more_of-Pred a end_of-Pred) t (more_of-Pred b end_of-Pred)) = And a b ∷ (preorder a ++ preorder b)
preorder (Or' s (more_of-Pred a end_of-Pred) t (more_of-Pred b end_of-Pred)) = Or a b ∷ (preorder a ++ preorder b)
preorder (Not' s (more_of-Pred a end_of-Pred)) = Not a ∷ preorder a

abbrev pub nodes : Pred → ℕ
nodes p = length (preorder p)
