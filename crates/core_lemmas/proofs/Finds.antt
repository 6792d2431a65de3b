-- What a search through an order finds.
use Rattle.std.proofs.Common.{◌≡◌, ℕ, ◌<◌, Bool, true, false, List, [], ◌∷◌, Some, refl, sym, ap, ◌∙◌, subst, arith}
use Rattle.std.specs.Prelude.{if◌then◌else◌}
use Rattle.std.specs.List.{find}
use Rattle.index_lists.specs.Words.{count, one_if}
use Rattle.index_lists.proofs.Counts.{count-here, count-tail}
use Rattle.core_state.specs.Words.{Lists}
use Rattle.core_lemmas.proofs.Words.{same_some}

-- it passes the test
pub found_passes : {A : Type 0} (test : A → Bool) (xs : List A) (x : A) → find test xs ≡ Some x → test x ≡ true
found_passes test [] x e = absurd (cc)
found_passes {A} test (y ∷ xs) x e = go (test y) refl (found_passes test xs x) e
  where
    go : (t : Bool) → test y ≡ t → (find test xs ≡ Some x → test x ≡ true) → (if t then Some y else find test xs) ≡ Some x → test x ≡ true
    go true is rest f = ap test (sym (same_some (Some y) y x refl f)) ∙ is
    go false is rest f = rest f

-- it is in the list
pub found_counts : (test : ℕ → Bool) (xs : List ℕ) (b : ℕ) → find test xs ≡ Some b → 0 < count b xs
found_counts test [] b e = absurd (cc)
found_counts test (y ∷ xs) b e = go (test y) (found_counts test xs b) e
  where
    go : (t : Bool) → (find test xs ≡ Some b → 0 < count b xs) → (if t then Some y else find test xs) ≡ Some b → 0 < count b (y ∷ xs)
    go true rest f =
        let s : y ≡ b = same_some (Some y) y b refl f in
        let k : 0 < count b (b ∷ xs) = omega (arith, count-here b xs) in
        subst (λ (z : ℕ). 0 < count b (z ∷ xs)) (sym s) k
    go false rest f = let k = rest f in omega (arith, count-tail b y xs)

-- so what a list is of holds of it
pub found_listed : (test : ℕ → Bool) (xs : List ℕ) (of_list : ℕ → Bool) (b : ℕ) → Lists xs of_list → find test xs ≡ Some b → of_list b ≡ true
found_listed test xs of_list b lists e = go (of_list b) (lists b)
  where
    go : (t : Bool) → count b xs ≡ one_if t → t ≡ true
    go true k = refl
    go false k = absurd (omega (arith, found_counts test xs b e))
