-- The first node whose field a record doesn't have, and that a record has the fields of each part.
use Rattle.std.proofs.Common.{◌≡◌, ℕ, suc, ◌+◌, Bool, true, false, List, [], ◌∷◌, ◌++◌, length, Option, Some, None, refl, sym, ap, ◌∙◌, arith}
use Rattle.std.specs.Prelude.{◌&&◌, if◌then◌else◌, IfNone}
use Rattle.std.specs.List.{list_all}
use Rattle.std.proofs.lemmas.List.Folds.{list_all-append}
use Rattle.predicates.specs.declared.pred.Pred.{Pred}
use Rattle.predicates.specs.declared.pred.Pred.TheVariants.{And, Or, Not}
use Rattle.predicates.specs.Nodes.{preorder, nodes}
use Rattle.predicates.specs.Fields.{is_sound, first_unsound, field_fault, fields_fit}
use Rattle.predicates.proofs.NodeLaws.{preorder-and, preorder-or, preorder-not}

-- ---- the first of a list and of a second one behind it

found_first : (w n k : ℕ) (xs ys : List Pred) → first_unsound w n xs ≡ Some k → first_unsound w n (xs ++ ys) ≡ Some k
found_first w n k [] ys e = absurd cc
found_first w n k (x ∷ xs) ys e = by (is_sound w x) (found_first w (n + 1) k xs ys) e
  where
    by : (s : Bool) → (first_unsound w (n + 1) xs ≡ Some k → first_unsound w (n + 1) (xs ++ ys) ≡ Some k) → (if s then first_unsound w (n + 1) xs else Some n) ≡ Some k → (if s then first_unsound w (n + 1) (xs ++ ys) else Some n) ≡ Some k
    by true later f = later f
    by false later f = f

found_second : (w n : ℕ) (xs ys : List Pred) → first_unsound w n xs ≡ None → first_unsound w n (xs ++ ys) ≡ first_unsound w (n + length xs) ys
found_second w n [] ys e = let at : n ≡ n + 0 = omega arith in ap (λ (k : ℕ). first_unsound w k ys) at
found_second w n (x ∷ xs) ys e = by (is_sound w x) (found_second w (n + 1) xs ys) e
  where
    by : (s : Bool) → (first_unsound w (n + 1) xs ≡ None → first_unsound w (n + 1) (xs ++ ys) ≡ first_unsound w (n + 1 + length xs) ys) → (if s then first_unsound w (n + 1) xs else Some n) ≡ None → (if s then first_unsound w (n + 1) (xs ++ ys) else Some n) ≡ first_unsound w (n + suc (length xs)) ys
    by true later f = let at : n + 1 + length xs ≡ n + suc (length xs) = omega arith in later f ∙ ap (λ (k : ℕ). first_unsound w k ys) at
    by false later f = absurd cc

-- ---- a node with two parts

pub left_has_it : (w n : ℕ) (p q a b : Pred) (r : Option ℕ) → is_sound w q ≡ true → preorder p ≡ q ∷ (preorder a ++ preorder b) → r ≡ first_unsound w (n + 1) (preorder a) → (r ≡ None → ⊥) → r ≡ first_unsound w n (preorder p)
left_has_it w n p q a b None sound parts first some = absurd (some refl)
left_has_it w n p q a b (Some k) sound parts first some =
    let found : first_unsound w (n + 1) (preorder a ++ preorder b) ≡ Some k = found_first w (n + 1) k (preorder a) (preorder b) (sym first) in
    sym (ap (first_unsound w n) parts ∙ ap (λ (s : Bool). if s then first_unsound w (n + 1) (preorder a ++ preorder b) else Some n) sound ∙ found)

pub right_is_left : (w n m : ℕ) (p q a b : Pred) (o r : Option ℕ) → is_sound w q ≡ true → preorder p ≡ q ∷ (preorder a ++ preorder b) → o ≡ first_unsound w (n + 1) (preorder a) → o ≡ None → m ≡ n + 1 + nodes a → r ≡ first_unsound w m (preorder b) → r ≡ first_unsound w n (preorder p)
right_is_left w n m p q a b o r sound parts first none at second =
    let found : first_unsound w (n + 1) (preorder a ++ preorder b) ≡ first_unsound w (n + 1 + nodes a) (preorder b) = found_second w (n + 1) (preorder a) (preorder b) (sym first ∙ none) in
    second ∙ ap (λ (k : ℕ). first_unsound w k (preorder b)) at ∙ sym (ap (first_unsound w n) parts ∙ ap (λ (s : Bool). if s then first_unsound w (n + 1) (preorder a ++ preorder b) else Some n) sound ∙ found)

pub one_part : (w n : ℕ) (p q a : Pred) (r : Option ℕ) → is_sound w q ≡ true → preorder p ≡ q ∷ preorder a → r ≡ first_unsound w (n + 1) (preorder a) → r ≡ first_unsound w n (preorder p)
one_part w n p q a r sound parts e =
    e ∙ sym (ap (first_unsound w n) parts ∙ ap (λ (s : Bool). if s then first_unsound w (n + 1) (preorder a) else Some n) sound)

-- ---- no node is unsound

pub none_unsound : (w n : ℕ) (ps : List Pred) → first_unsound w n ps ≡ None → list_all (is_sound w) ps ≡ true
none_unsound w n [] e = refl
none_unsound w n (p ∷ ps) e = by (is_sound w p) (none_unsound w (n + 1) ps) e
  where
    by : (s : Bool) → (first_unsound w (n + 1) ps ≡ None → list_all (is_sound w) ps ≡ true) → (if s then first_unsound w (n + 1) ps else Some n) ≡ None → (s && list_all (is_sound w) ps) ≡ true
    by true later f = later f
    by false later f = absurd cc

both : (x y : Bool) → (x && y) ≡ true → (x ≡ true) × (y ≡ true)
both true y e = (refl, e)
both false y e = absurd cc

pub both_all : (w : ℕ) (a b : Pred) → list_all (is_sound w) (preorder a ++ preorder b) ≡ true → (fields_fit a w ≡ true) × (fields_fit b w ≡ true)
both_all w a b e = both (list_all (is_sound w) (preorder a)) (list_all (is_sound w) (preorder b)) (sym (list_all-append (is_sound w) (preorder a) (preorder b)) ∙ e)

pub fit-and : (p a b : Pred) (w : ℕ) → p ≡ And a b → fields_fit p w ≡ true → (fields_fit a w ≡ true) × (fields_fit b w ≡ true)
fit-and p a b w is fit = both_all w a b (sym (ap (list_all (is_sound w)) (ap preorder is ∙ preorder-and a b)) ∙ fit)

pub fit-or : (p a b : Pred) (w : ℕ) → p ≡ Or a b → fields_fit p w ≡ true → (fields_fit a w ≡ true) × (fields_fit b w ≡ true)
fit-or p a b w is fit = both_all w a b (sym (ap (list_all (is_sound w)) (ap preorder is ∙ preorder-or a b)) ∙ fit)

pub fit-not : (p a : Pred) (w : ℕ) → p ≡ Not a → fields_fit p w ≡ true → fields_fit a w ≡ true
fit-not p a w is fit = sym (ap (list_all (is_sound w)) (ap preorder is ∙ preorder-not a)) ∙ fit

pub fit_if_none : (p : Pred) (w : ℕ) (r : Option ℕ) → r ≡ field_fault p w → IfNone r (fields_fit p w ≡ true)
fit_if_none p w None e = none_unsound w 0 (preorder p) (sym e)
fit_if_none p w (Some n) e = tt
