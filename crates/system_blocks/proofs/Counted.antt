-- Sums and tests over the places of a span, or over lanes: what one of them says of all.
use Rattle.std.proofs.Common.{◌≡◌, ℕ, zero, suc, ◌+◌, ◌<◌, ◌≤◌, Bool, true, false, Option, Some, None, refl, sym, ap, ◌∙◌, inl, inr, arith}
use Rattle.std.specs.Prelude.{◌≢◌, ◌⊎◌, ◌||◌}
use Rattle.std.proofs.lemmas.Bool.Decides.{nat_tests}
use Rattle.index_lists.proofs.Counts.{same_or_not}
use Rattle.core_state.specs.Words.{is_at, any_to, sum_to}

-- a term is no more than the sum
pub sum_most : (f : ℕ → ℕ) (n i : ℕ) → i < n → f i ≤ sum_to n f
unfolding sum_to
sum_most f zero i l = absurd (omega arith)
sum_most f (suc n) i l = by (same_or_not i n) (λ m. sum_most f n i m)
  where
    by : (i ≡ n) ⊎ (i ≢ n) → (i < n → f i ≤ sum_to n f) → f i ≤ sum_to n f + f n
    by (inl e) h = let w = ap f e in omega arith
    by (inr d) h = let w = h (omega arith) in omega arith

-- the sum of fewer terms is no more
pub sum_fewer : (f : ℕ → ℕ) (n j : ℕ) → j ≤ n → sum_to j f ≤ sum_to n f
unfolding sum_to
sum_fewer f zero j l = let e : j ≡ 0 = omega arith in let w = ap (λ (k : ℕ). sum_to k f) e in omega arith
sum_fewer f (suc n) j l = by (same_or_not j (suc n)) (λ m. sum_fewer f n j m)
  where
    by : (j ≡ suc n) ⊎ (j ≢ suc n) → (j ≤ n → sum_to j f ≤ sum_to n f) → sum_to j f ≤ sum_to n f + f n
    by (inl e) h = let w = ap (λ (k : ℕ). sum_to k f) e in omega arith
    by (inr d) h = let w = h (omega arith) in omega arith

-- where one passes, some do
pub any_some : (n : ℕ) (test : ℕ → Bool) (i : ℕ) → i < n → test i ≡ true → any_to n test ≡ true
unfolding any_to
any_some zero test i l e = absurd (omega arith)
any_some (suc n) test i l e = by (same_or_not i n) (λ m. any_some n test i m e)
  where
    left : (t u : Bool) → t ≡ true → (t || u) ≡ true
    left true u e = refl
    left false u e = absurd (cc)

    right : (t u : Bool) → u ≡ true → (t || u) ≡ true
    right true u e = refl
    right false u e = e

    by : (i ≡ n) ⊎ (i ≢ n) → (i < n → any_to n test ≡ true) → (any_to n test || test n) ≡ true
    by (inl s) h = right (any_to n test) (test n) (ap test (sym s) ∙ e)
    by (inr d) h = left (any_to n test) (test n) (h (omega arith))

-- tests that are the same are passed by the same
pub any_same : (n : ℕ) (t u : ℕ → Bool) → ((i : ℕ) → i < n → t i ≡ u i) → any_to n t ≡ any_to n u
unfolding any_to
any_same zero t u h = refl
any_same (suc n) t u h = let a = any_same n t u (λ i l. h i (omega arith)) in let b = h n (omega arith) in λ i. a i || b i

pub at_itself : (o : Option ℕ) (b : ℕ) → o ≡ Some b → is_at o b ≡ true
at_itself None b e = absurd (cc)
at_itself (Some x) b e = let k : x ≡ b = cc in grind (arith, nat_tests)
