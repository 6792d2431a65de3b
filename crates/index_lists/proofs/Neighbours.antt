-- What is first in a list, and what stands after a number.
use Rattle.std.proofs.Common.{◌≡◌, ℕ, ◌<◌, true, false, List, [], ◌∷◌, refl, sym, ap, ◌∙◌, subst, ⊎_elim, Some, None, arith}
use Rattle.std.specs.Prelude.{◌==◌, ◌≢◌}
use Rattle.std.proofs.lemmas.Bool.Decides.{nat_tests}
use Rattle.index_lists.specs.Words.{count, first, after}
use Rattle.index_lists.proofs.Counts.{same_or_not, count-here, count-tail}

pub after-nil : (b : ℕ) → after b [] ≡ None
unfolding after
after-nil b = refl

pub after-here : (b : ℕ) (xs : List ℕ) → after b (b ∷ xs) ≡ first xs
unfolding after
after-here b xs = let s : (b == b) ≡ true = grind (arith, nat_tests) in rw s refl

pub after-there : (b x : ℕ) (xs : List ℕ) → b ≢ x → after b (x ∷ xs) ≡ after b xs
unfolding after
after-there b x xs d = let s : (b == x) ≡ false = grind (arith, nat_tests) in rw s refl

pub count-first : (xs : List ℕ) (x : ℕ) → first xs ≡ Some x → 0 < count x xs
count-first [] x e = absurd cc
count-first (y ∷ ys) x e = let d : y ≡ x = cc in subst (λ (w : ℕ). 0 < count w (y ∷ ys)) d (omega (arith, count-here y ys))

pub count-after : (b : ℕ) (xs : List ℕ) (x : ℕ) → after b xs ≡ Some x → 0 < count x xs
count-after b [] x e = let n = after-nil b in absurd cc
count-after b (y ∷ ys) x e =
    ⊎_elim (λ (d : b ≡ y). let f : first ys ≡ Some x = sym (after-here b ys) ∙ ap (λ (w : ℕ). after b (w ∷ ys)) d ∙ e in let k = count-first ys x f in omega (arith, count-tail x y ys))
    (λ (d : b ≢ y). let k = count-after b ys x (sym (after-there b y ys d) ∙ e) in omega (arith, count-tail x y ys)) (same_or_not b y)
