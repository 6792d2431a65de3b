-- Functions that are changed at one place.
use Rattle.std.proofs.Common.{◌≡◌, ℕ, Option, Some, sym, subst, ⊎_elim, arith}
use Rattle.std.specs.Prelude.{◌≢◌}
use Rattle.std.proofs.lemmas.Bool.Decides.{nat_tests}
use Rattle.index_lists.specs.Words.{put}
use Rattle.index_lists.proofs.Counts.{same_or_not}

pub put-same : {A : Type 0} (f : ℕ → A) (i : ℕ) (v : A) → put f i v i ≡ v
put-same f i v = grind (arith, nat_tests)

pub put-other : {A : Type 0} (f : ℕ → A) (i : ℕ) (v : A) (j : ℕ) → j ≢ i → put f i v j ≡ f j
put-other f i v j n = grind (arith, nat_tests)

-- what holds at each place still holds after a change, where it holds of the new value
pub put-each : {A : Type 0} (P : ℕ → A → Type 0) (f : ℕ → A) (i : ℕ) (v : A) → P i v → ((j : ℕ) → j ≢ i → P j (f j)) → (j : ℕ) → P j (put f i v j)
put-each {A} P f i v here rest j = ⊎_elim at elsewhere (same_or_not j i)
  where
    at : j ≡ i → P j (put f i v j)
    at e = subst (λ (k : ℕ). P k (put f i v k)) (sym e) (subst (λ (w : A). P i w) (sym (put-same f i v)) here)

    elsewhere : j ≢ i → P j (put f i v j)
    elsewhere n = subst (λ (w : A). P j w) (sym (put-other f i v j n)) (rest j n)

-- the same for functions to options: what holds of each value that is there
pub put-some : {A : Type 0} (Q : ℕ → A → Type 0) (f : ℕ → Option A) (i : ℕ) (v : A) → Q i v → ((j : ℕ) (x : A) → j ≢ i → f j ≡ Some x → Q j x) →
    (j : ℕ) (x : A) → put f i (Some v) j ≡ Some x → Q j x
put-some {A} Q f i v here rest j x = put-each (λ (k : ℕ) (w : Option A). (y : A) → w ≡ Some y → Q k y) f i (Some v) at others j x
  where
    at : (y : A) → Some v ≡ Some y → Q i y
    at y e = let d : v ≡ y = cc in subst (λ (w : A). Q i w) d here

    others : (k : ℕ) → k ≢ i → (y : A) → f k ≡ Some y → Q k y
    others k n y e = rest k y n e
