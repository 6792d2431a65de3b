-- Counts of lists that lose or get a number.
use Rattle.std.proofs.Common.{◌≡◌, ℕ, zero, suc, ◌+◌, ◌<◌, ◌≤◌, Bool, true, false, List, [], ◌∷◌, ◌++◌, length, refl, sym, ap, ◌∙◌, subst, ⊎_elim, arith, length-append}
use Rattle.std.specs.Prelude.{◌==◌, ◌≢◌, ◌⊎◌, if◌then◌else◌}
use Rattle.std.proofs.lemmas.Bool.Decides.{nat_tests}
use Rattle.index_lists.specs.Words.{one_if, count, without, last, before, IsOnce}

pub same_or_not : (j i : ℕ) → (j ≡ i) ⊎ (j ≢ i)
same_or_not j i = grind arith

pub count-nil : (b : ℕ) → count b [] ≡ 0
unfolding count
count-nil b = refl

pub count-here : (b : ℕ) (xs : List ℕ) → count b (b ∷ xs) ≡ count b xs + 1
unfolding count
count-here b xs = let s : (b == b) ≡ true = grind (arith, nat_tests) in omega (arith, ap one_if s)

pub count-there : (b x : ℕ) (xs : List ℕ) → b ≢ x → count b (x ∷ xs) ≡ count b xs
unfolding count
count-there b x xs n = let s : (b == x) ≡ false = grind (arith, nat_tests) in omega (arith, ap one_if s)

pub count-tail : (b x : ℕ) (xs : List ℕ) → count b xs ≤ count b (x ∷ xs)
unfolding count
count-tail b x xs = omega arith

-- a number that isn't in the list is not its first
pub not_first : (b x : ℕ) (xs : List ℕ) → count b (x ∷ xs) ≡ 0 → b ≢ x
not_first b x xs h e = let k = count-here b xs in let g = ap (λ (y : ℕ). count b (y ∷ xs)) e in absurd (omega arith)

-- of two numbers of which one alone is in the list
pub not_same : (b c : ℕ) (xs : List ℕ) → count b xs ≡ 0 → 0 < count c xs → b ≢ c
not_same b c xs h k e = let g = ap (λ (y : ℕ). count y xs) e in absurd (omega arith)

pub count-append : (b : ℕ) (xs ys : List ℕ) → count b (xs ++ ys) ≡ count b xs + count b ys
unfolding count
count-append b [] ys = omega arith
count-append b (x ∷ xs) ys = omega (arith, count-append b xs ys)

pub without-nil : (b : ℕ) → without b [] ≡ []
unfolding without
without-nil b = refl

pub without-here : (b : ℕ) (xs : List ℕ) → without b (b ∷ xs) ≡ without b xs
unfolding without
without-here b xs = let s : (b == b) ≡ true = grind (arith, nat_tests) in rw s refl

pub without-there : (b x : ℕ) (xs : List ℕ) → b ≢ x → without b (x ∷ xs) ≡ x ∷ without b xs
unfolding without
without-there b x xs n = let s : (b == x) ≡ false = grind (arith, nat_tests) in rw s refl

without-absent_step : (b x : ℕ) (xs : List ℕ) → count b (x ∷ xs) ≡ 0 → without b xs ≡ xs → without b (x ∷ xs) ≡ x ∷ xs
without-absent_step b x xs h ih = without-there b x xs (not_first b x xs h) ∙ ap (λ (t : List ℕ). x ∷ t) ih

pub without-absent : (b : ℕ) (xs : List ℕ) → count b xs ≡ 0 → without b xs ≡ xs
without-absent b [] h = without-nil b
without-absent b (x ∷ xs) h = without-absent_step b x xs h (without-absent b xs (omega (arith, count-tail b x xs)))

pub count-without_same : (b : ℕ) (xs : List ℕ) → count b (without b xs) ≡ 0
count-without_same b [] = rw (without-nil b, count-nil b) refl
count-without_same b (x ∷ xs) = step (count-without_same b xs)
  where
    step : count b (without b xs) ≡ 0 → count b (without b (x ∷ xs)) ≡ 0
    step ih = ⊎_elim at elsewhere (same_or_not b x)
      where
        at : b ≡ x → count b (without b (x ∷ xs)) ≡ 0
        at e = subst (λ (y : ℕ). count b (without b (y ∷ xs)) ≡ 0) e (ap (count b) (without-here b xs) ∙ ih)

        elsewhere : b ≢ x → count b (without b (x ∷ xs)) ≡ 0
        elsewhere n = ap (count b) (without-there b x xs n) ∙ count-there b x (without b xs) n ∙ ih

without_other_step : (b x y : ℕ) (xs : List ℕ) → b ≢ x → count b (without x xs) ≡ count b xs → (t : Bool) → (x == y) ≡ t →
    count b (if t then without x xs else y ∷ without x xs) ≡ one_if (b == y) + count b xs
unfolding count
without_other_step b x y xs n ih true e = let f : (b == y) ≡ false = grind (arith, nat_tests) in let k = ap one_if f in omega arith
without_other_step b x y xs n ih false e = omega arith

pub count-without_other : (b x : ℕ) (xs : List ℕ) → b ≢ x → count b (without x xs) ≡ count b xs
unfolding count without
count-without_other b x [] n = refl
count-without_other b x (y ∷ xs) n = without_other_step b x y xs n (count-without_other b x xs n) (x == y) refl

length_step : (b x : ℕ) (xs : List ℕ) → length (without b xs) + count b xs ≡ length xs → (t : Bool) → (b == x) ≡ t →
    length (if t then without b xs else x ∷ without b xs) + (one_if t + count b xs) ≡ suc (length xs)
length_step b x xs ih true e = omega arith
length_step b x xs ih false e = omega arith

pub length-without : (b : ℕ) (xs : List ℕ) → length (without b xs) + count b xs ≡ length xs
unfolding count without
length-without b [] = refl
length-without b (x ∷ xs) = length_step b x xs (length-without b xs) (b == x) refl

pub count-without : (b x : ℕ) (xs : List ℕ) → count b (without x xs) ≤ count b xs
count-without b x xs = ⊎_elim at elsewhere (same_or_not b x)
  where
    at : b ≡ x → count b (without x xs) ≤ count b xs
    at e = let k = count-without_same b xs in let g = ap (λ (y : ℕ). count b (without y xs)) e in omega arith

    elsewhere : b ≢ x → count b (without x xs) ≤ count b xs
    elsewhere n = omega (arith, count-without_other b x xs n)

pub count-push_same : (b : ℕ) (xs : List ℕ) → count b (xs ++ b ∷ []) ≡ count b xs + 1
count-push_same b xs = omega (arith, count-append b xs (b ∷ []), count-here b [], count-nil b)

pub count-push_other : (b x : ℕ) (xs : List ℕ) → b ≢ x → count b (xs ++ x ∷ []) ≡ count b xs
count-push_other b x xs n = omega (arith, count-append b xs (x ∷ []), count-there b x [] n, count-nil b)

pub before-nil : (place b : ℕ) → before place b [] ≡ b ∷ []
unfolding before
before-nil place b = refl

pub before-here : (place b : ℕ) (xs : List ℕ) → before place b (place ∷ xs) ≡ b ∷ place ∷ xs
unfolding before
before-here place b xs = let s : (place == place) ≡ true = grind (arith, nat_tests) in rw s refl

pub before-there : (place b x : ℕ) (xs : List ℕ) → place ≢ x → before place b (x ∷ xs) ≡ x ∷ before place b xs
unfolding before
before-there place b x xs n = let s : (place == x) ≡ false = grind (arith, nat_tests) in rw s refl

before_step : (c place b x : ℕ) (xs : List ℕ) → count c (before place b xs) ≡ count c (b ∷ xs) → (t : Bool) →
    count c (if t then b ∷ x ∷ xs else x ∷ before place b xs) ≡ one_if (c == b) + (one_if (c == x) + count c xs)
unfolding count
before_step c place b x xs ih true = refl
before_step c place b x xs ih false = omega arith

pub count-before : (c place b : ℕ) (xs : List ℕ) → count c (before place b xs) ≡ count c (b ∷ xs)
unfolding count before
count-before c place b [] = refl
count-before c place b (x ∷ xs) = before_step c place b x xs (count-before c place b xs) (place == x)

pub before-absent : (place b : ℕ) (xs : List ℕ) → count place xs ≡ 0 → before place b xs ≡ xs ++ b ∷ []
before-absent place b [] h = before-nil place b
before-absent place b (x ∷ xs) h = before-there place b x xs (not_first place x xs h) ∙ ap (λ (t : List ℕ). x ∷ t) (before-absent place b xs (omega (arith, count-tail place x xs)))

pub once-tail : (x : ℕ) (xs : List ℕ) → IsOnce (x ∷ xs) → IsOnce xs
once-tail x xs h b = let k = h b in omega (arith, count-tail b x xs)

pub once-first : (x : ℕ) (xs : List ℕ) → IsOnce (x ∷ xs) → count x xs ≡ 0
once-first x xs h = let k = h x in omega (arith, count-here x xs)

-- a list of numbers below m, each once, has at most m
pub short : (m : ℕ) (xs : List ℕ) → IsOnce xs → ((b : ℕ) → m ≤ b → count b xs ≡ 0) → length xs ≤ m
short zero [] h k = omega arith
short zero (x ∷ xs) h k = let e = k x (omega arith) in absurd (omega (arith, count-here x xs))
short (suc m) xs h k =
    let l = short m (without m xs) (λ b. let o = h b in omega (arith, count-without b m xs)) (λ b le. below b le) in
    let o = h m in
    omega (arith, length-without m xs)
  where
    below : (b : ℕ) → m ≤ b → count b (without m xs) ≡ 0
    below b le = ⊎_elim at elsewhere (same_or_not b m)
      where
        at : b ≡ m → count b (without m xs) ≡ 0
        at e = subst (λ (y : ℕ). count y (without m xs) ≡ 0) (sym e) (count-without_same m xs)

        elsewhere : b ≢ m → count b (without m xs) ≡ 0
        elsewhere n = let z = k b (omega arith) in omega (arith, count-without b m xs)

pub count-last_same : (b : ℕ) (xs : List ℕ) → count b (last b xs) ≡ 1
count-last_same b xs = omega (arith, count-push_same b (without b xs), count-without_same b xs)

pub count-last_other : (b x : ℕ) (xs : List ℕ) → b ≢ x → count b (last x xs) ≡ count b xs
count-last_other b x xs n = omega (arith, count-push_other b x (without x xs) n, count-without_other b x xs n)

pub length-last : (b : ℕ) (xs : List ℕ) → length (last b xs) + count b xs ≡ length xs + 1
length-last b xs = omega (arith, length-append (without b xs) (b ∷ []), length-without b xs)

pub count_le_length : (b : ℕ) (xs : List ℕ) → count b xs ≤ length xs
count_le_length b xs = omega (arith, length-without b xs)
