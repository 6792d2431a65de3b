-- Sums over numbers, lists of what passes a test, and options.
use Rattle.std.proofs.Common.{◌≡◌, ℕ, zero, suc, ◌+◌, ◌<◌, ◌≤◌, Bool, true, false, List, [], ◌∷◌, ◌++◌, Option, Some, None, refl, sym, ap, ◌∙◌, subst, ⊎_elim, arith}
use Rattle.std.specs.Prelude.{◌≢◌, ◌⊎◌, nat_lt}
use Rattle.std.proofs.lemmas.Bool.Decides.{nat_tests}
use Rattle.index_lists.specs.Words.{put, one_if, count, without, last}
use Rattle.index_lists.proofs.Counts.{same_or_not, count-without_same, count-without_other, count-last_same, count-last_other, count-push_same, count-push_other}
use Rattle.index_lists.proofs.Puts.{put-same, put-other}
use Rattle.core_state.specs.Words.{sum_to, Lists}

pub nothing : {A : Type 0} (o : Option A) (x : A) → o ≡ None → o ≡ Some x → ⊥
nothing o x e f = cc

pub same_some : {A : Type 0} (o : Option A) (x y : A) → o ≡ Some x → o ≡ Some y → x ≡ y
same_some o x y e f = cc

pub less_or_not : (m n : ℕ) → (m < n) ⊎ (n ≤ m)
less_or_not m n = grind arith

-- what a test of numbers tells
pub low : (p n : ℕ) → nat_lt p n ≡ true → p < n
low p n e = grind (arith, nat_tests)

pub high : (p n : ℕ) → nat_lt p n ≡ false → n ≤ p
high p n e = grind (arith, nat_tests)

pub is_low : (p n : ℕ) → p < n → nat_lt p n ≡ true
is_low p n e = grind (arith, nat_tests)

-- ---- sums

-- a change at i is not seen below i
pub sum_to-put_above : {A : Type 0} (g : A → ℕ) (f : ℕ → A) (i : ℕ) (v : A) (n : ℕ) → n ≤ i → sum_to n (λ j. g (put f i v j)) ≡ sum_to n (λ j. g (f j))
unfolding sum_to
sum_to-put_above g f i v zero l = refl
sum_to-put_above g f i v (suc n) l =
    let m : n ≤ i = omega arith in
    let d : n ≢ i = omega arith in
    let e = sum_to-put_above g f i v n m in
    let h = ap g (put-other f i v n d) in
    omega arith

pub sum_to-put : {A : Type 0} (g : A → ℕ) (f : ℕ → A) (i : ℕ) (v : A) (n : ℕ) → i < n → sum_to n (λ j. g (put f i v j)) + g (f i) ≡ sum_to n (λ j. g (f j)) + g v
unfolding sum_to
sum_to-put g f i v zero l = absurd (omega arith)
sum_to-put {A} g f i v (suc n) l = ⊎_elim at (below (λ m. sum_to-put g f i v n m)) (same_or_not n i)
  where
    at : n ≡ i → sum_to n (λ j. g (put f i v j)) + g (put f i v n) + g (f i) ≡ sum_to n (λ j. g (f j)) + g (f n) + g v
    at e =
        let m : n ≤ i = omega arith in
        let a = sum_to-put_above g f i v n m in
        let h = ap g (ap (put f i v) e ∙ put-same f i v) in
        let k = ap (λ (w : ℕ). g (f w)) e in
        omega arith

    below : (i < n → sum_to n (λ j. g (put f i v j)) + g (f i) ≡ sum_to n (λ j. g (f j)) + g v) → n ≢ i → sum_to n (λ j. g (put f i v j)) + g (put f i v n) + g (f i) ≡ sum_to n (λ j. g (f j)) + g (f n) + g v
    below ih d =
        let m : i < n = omega arith in
        let a = ih m in
        let h = ap g (put-other f i v n d) in
        omega arith

-- ---- lists of what passes a test

-- b goes last in the list
pub lists_last : (xs : List ℕ) (test test2 : ℕ → Bool) (b : ℕ) → test2 b ≡ true → ((j : ℕ) → j ≢ b → test2 j ≡ test j) → Lists xs test → Lists (last b xs) test2
lists_last xs test test2 b here others h j = ⊎_elim at elsewhere (same_or_not j b)
  where
    at : j ≡ b → count j (last b xs) ≡ one_if (test2 j)
    at e = subst (λ (k : ℕ). count k (last b xs) ≡ one_if (test2 k)) (sym e) (count-last_same b xs ∙ sym (ap one_if here))

    elsewhere : j ≢ b → count j (last b xs) ≡ one_if (test2 j)
    elsewhere n = count-last_other j b xs n ∙ (h j ∙ sym (ap one_if (others j n)))

-- b leaves the list
pub lists_without : (xs : List ℕ) (test test2 : ℕ → Bool) (b : ℕ) → test2 b ≡ false → ((j : ℕ) → j ≢ b → test2 j ≡ test j) → Lists xs test → Lists (without b xs) test2
lists_without xs test test2 b here others h j = ⊎_elim at elsewhere (same_or_not j b)
  where
    at : j ≡ b → count j (without b xs) ≡ one_if (test2 j)
    at e = subst (λ (k : ℕ). count k (without b xs) ≡ one_if (test2 k)) (sym e) (count-without_same b xs ∙ sym (ap one_if here))

    elsewhere : j ≢ b → count j (without b xs) ≡ one_if (test2 j)
    elsewhere n = count-without_other j b xs n ∙ (h j ∙ sym (ap one_if (others j n)))

-- b, which did not pass, is put at the end
pub lists_push : (xs : List ℕ) (test test2 : ℕ → Bool) (b : ℕ) → test b ≡ false → test2 b ≡ true → ((j : ℕ) → j ≢ b → test2 j ≡ test j) → Lists xs test → Lists (xs ++ b ∷ []) test2
lists_push xs test test2 b before here others h j = ⊎_elim at elsewhere (same_or_not j b)
  where
    at : j ≡ b → count j (xs ++ b ∷ []) ≡ one_if (test2 j)
    at e =
        let a : count b xs ≡ 0 = h b ∙ ap one_if before in
        let k : count b (xs ++ b ∷ []) ≡ 1 = omega (arith, count-push_same b xs) in
        subst (λ (k : ℕ). count k (xs ++ b ∷ []) ≡ one_if (test2 k)) (sym e) (k ∙ sym (ap one_if here))

    elsewhere : j ≢ b → count j (xs ++ b ∷ []) ≡ one_if (test2 j)
    elsewhere n = count-push_other j b xs n ∙ (h j ∙ sym (ap one_if (others j n)))

-- a test that gives the same everywhere
pub lists_same : (xs : List ℕ) (test test2 : ℕ → Bool) → ((j : ℕ) → test2 j ≡ test j) → Lists xs test → Lists xs test2
lists_same xs test test2 same h j = h j ∙ sym (ap one_if (same j))
