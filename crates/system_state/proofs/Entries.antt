-- Entries of a list, by a default for those past its end.
use Rattle.std.proofs.Common.{◌≡◌, ℕ, zero, suc, ◌<◌, List, [], ◌∷◌, length, get_or, set, refl, sym, subst, ⊎_elim, arith}
use Rattle.std.specs.Prelude.{◌≢◌}
use Rattle.std.proofs.lemmas.List.{get_or-set_same, get_or-set_other}
use Rattle.index_lists.proofs.Counts.{same_or_not}

-- below the end the default doesn't matter
pub get_or-any : {A : Type 0} (xs : List A) (i : ℕ) (a b : A) → i < length xs → get_or xs i a ≡ get_or xs i b
get_or-any [] i a b l = absurd (omega arith)
get_or-any (x ∷ xs) zero a b l = refl
get_or-any (x ∷ xs) (suc i) a b l = get_or-any xs i a b (omega arith)

-- what holds at each place still holds after a change, where it holds of the new value
pub set-each : {A : Type 0} (P : ℕ → A → Type 0) (xs : List A) (i : ℕ) (v d : A) → i < length xs → P i v → ((j : ℕ) → j ≢ i → P j (get_or xs j d)) → (j : ℕ) → P j (get_or (set xs i v) j d)
set-each {A} P xs i v d l here rest j = ⊎_elim at elsewhere (same_or_not j i)
  where
    at : j ≡ i → P j (get_or (set xs i v) j d)
    at e = subst (λ (k : ℕ). P k (get_or (set xs i v) k d)) (sym e) (subst (λ (w : A). P i w) (sym (get_or-set_same xs i v d l)) here)

    elsewhere : j ≢ i → P j (get_or (set xs i v) j d)
    elsewhere n = subst (λ (w : A). P j w) (sym (get_or-set_other xs i j v d n)) (rest j n)
