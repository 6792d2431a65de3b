-- Sums over the numbers below one.
use Rattle.std.proofs.Common.{◌≡◌, ℕ, zero, suc, ◌+◌, ◌<◌, ◌≤◌, refl, ap, ⊎_elim, arith}
use Rattle.std.specs.Prelude.{◌≢◌}
use Rattle.index_lists.proofs.Counts.{same_or_not}
use Rattle.core_state.specs.Words.{sum_to}

pub sum_both : (n : ℕ) (f g : ℕ → ℕ) → sum_to n (λ i. f i + g i) ≡ sum_to n f + sum_to n g
unfolding sum_to
sum_both zero f g = refl
sum_both (suc n) f g = let k = sum_both n f g in omega arith

pub sum_below : (n : ℕ) (f g : ℕ → ℕ) → ((i : ℕ) → i < n → f i ≤ g i) → sum_to n f ≤ sum_to n g
unfolding sum_to
sum_below zero f g h = omega arith
sum_below (suc n) f g h = let k = sum_below n f g (λ i l. h i (omega arith)) in let x = h n (omega arith) in omega arith

pub sum_has : (n i : ℕ) (f : ℕ → ℕ) → i < n → f i ≤ sum_to n f
unfolding sum_to
sum_has zero i f l = absurd (omega arith)
sum_has (suc n) i f l = ⊎_elim
    (λ (s : i ≡ n). let e : f i ≡ f n = ap f s in omega arith)
    (λ (d : i ≢ n). let k = sum_has n i f (omega arith) in omega arith)
    (same_or_not i n)
