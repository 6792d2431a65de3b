-- What the definitions come to at each connective.
use Rattle.std.proofs.Common.{◌≡◌, ℕ, ◌+◌, ◌-◌, ◌^◌, min, List, ◌∷◌, ◌++◌, arith, length-append, refl}
use Rattle.std.specs.Prelude.{not, ◌&&◌, ◌||◌}
use Rattle.predicates.specs.declared.pred.Pred.{Pred}
use Rattle.predicates.specs.declared.pred.Pred.TheBlock as block
use Rattle.predicates.specs.declared.pred.Pred.TheVariants.{And, Or, Not}
use Rattle.predicates.specs.Nodes.{preorder, nodes}
use Rattle.predicates.specs.Select.{satisfies}
use denote.Hole.Carrier.{hidden}

pub preorder-and : (a b : Pred) → preorder (And a b) ≡ And a b ∷ (preorder a ++ preorder b)
unfolding block.hidden-the_row-Pred-0 hidden
preorder-and a b = refl

pub preorder-or : (a b : Pred) → preorder (Or a b) ≡ Or a b ∷ (preorder a ++ preorder b)
unfolding block.hidden-the_row-Pred-0 hidden
preorder-or a b = refl

pub preorder-not : (a : Pred) → preorder (Not a) ≡ Not a ∷ preorder a
unfolding block.hidden-the_row-Pred-0 hidden
preorder-not a = refl

pub nodes-and : (a b : Pred) → nodes (And a b) ≡ 1 + (nodes a + nodes b)
unfolding block.hidden-the_row-Pred-0 hidden
nodes-and a b = let l = length-append (preorder a) (preorder b) in omega arith

pub nodes-or : (a b : Pred) → nodes (Or a b) ≡ 1 + (nodes a + nodes b)
unfolding block.hidden-the_row-Pred-0 hidden
nodes-or a b = let l = length-append (preorder a) (preorder b) in omega arith

pub nodes-not : (a : Pred) → nodes (Not a) ≡ 1 + (nodes a + 0)
unfolding block.hidden-the_row-Pred-0 hidden
nodes-not a = omega arith

pub satisfies-and : (a b : Pred) (bytes : List ℕ) → satisfies (And a b) bytes ≡ (satisfies a bytes && satisfies b bytes)
unfolding block.hidden-the_row-Pred-0 hidden
satisfies-and a b bytes = refl

pub satisfies-or : (a b : Pred) (bytes : List ℕ) → satisfies (Or a b) bytes ≡ (satisfies a bytes || satisfies b bytes)
unfolding block.hidden-the_row-Pred-0 hidden
satisfies-or a b bytes = refl

pub satisfies-not : (a : Pred) (bytes : List ℕ) → satisfies (Not a) bytes ≡ not (satisfies a bytes)
unfolding block.hidden-the_row-Pred-0 hidden
satisfies-not a bytes = refl

-- a count that stands still at its end
pub joined_count : (n a b m k r : ℕ) → n ≡ 1 + (a + b) → m ≡ min a (2 ^ 64 - 1) → k ≡ min b (2 ^ 64 - 1) → r ≡ min (1 + (m + k)) (2 ^ 64 - 1) → r ≡ min n (2 ^ 64 - 1)
joined_count n a b m k r e f g h = omega arith
