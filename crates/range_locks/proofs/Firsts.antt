-- The least call of a list that passes a test is the first of all that do.
use Rattle.std.proofs.Common.{◌≡◌, ℕ, zero, suc, ◌<◌, ◌≤◌, Bool, true, false, List, [], ◌∷◌, ◌++◌, get_or, Option, Some, None, refl, sym, ap, ◌∙◌, subst, ⊎_elim, arith}
use Rattle.std.specs.Prelude.{◌≢◌, ◌⊎◌, min, if◌then◌else◌, option_map}
use Rattle.index_lists.specs.Words.{count}
use Rattle.index_lists.proofs.Counts.{same_or_not, count-nil, count-here, count-there, count-tail}
use Rattle.range_locks.specs.declared.range.Range.{Range}
use Rattle.range_locks.specs.Held.{first_such}
use Rattle.range_locks.specs.Walks.{lesser, one_such, least_in}
use Rattle.range_locks.proofs.Steps.{ahead_or_not, lesser-assoc}

-- o is the least of the list that passes the test
abbrev IsLeast : (ℕ → Bool) → List ℕ → Option ℕ → Type 0
IsLeast t xs None = (c : ℕ) → 0 < count c xs → t c ≡ false
IsLeast t xs (Some m) = (t m ≡ true) × (0 < count m xs) × ((c : ℕ) → 0 < count c xs → t c ≡ true → m ≤ c)

-- o is the lowest of all that passes the test
abbrev pub IsLowest : (Option Range → Bool) → List (Option Range) → Option ℕ → Type 0
IsLowest test held None = (c : ℕ) → test (get_or held c None) ≡ false
IsLowest test held (Some m) = (test (get_or held m None) ≡ true) × ((c : ℕ) → test (get_or held c None) ≡ true → m ≤ c)

in_tail : (c x : ℕ) (xs : List ℕ) → 0 < count c (x ∷ xs) → c ≢ x → 0 < count c xs
in_tail c x xs k d = omega (arith, count-there c x xs d)

least_fail : (t : ℕ → Bool) (x : ℕ) (xs : List ℕ) (o : Option ℕ) → t x ≡ false → IsLeast t xs o → IsLeast t (x ∷ xs) o
least_fail t x xs None e h = λ c k. ⊎_elim (λ (f : c ≡ x). ap t f ∙ e) (λ (d : c ≢ x). h c (in_tail c x xs k d)) (same_or_not c x)
least_fail t x xs (Some m) e h =
    (h.0, omega (arith, h.1, count-tail m x xs), λ c k f. ⊎_elim (λ (g : c ≡ x). let z : true ≡ false = sym f ∙ ap t g ∙ e in absurd cc) (λ (d : c ≢ x). h.2 c (in_tail c x xs k d) f) (same_or_not c x))

least_pass : (t : ℕ → Bool) (x : ℕ) (xs : List ℕ) (o : Option ℕ) → t x ≡ true → IsLeast t xs o → IsLeast t (x ∷ xs) (lesser (Some x) o)
least_pass t x xs None e h =
    (e, omega (arith, count-here x xs), λ c k f. ⊎_elim (λ (g : c ≡ x). omega arith) (λ (d : c ≢ x). let z : true ≡ false = sym f ∙ h c (in_tail c x xs k d) in absurd cc) (same_or_not c x))
least_pass t x xs (Some m) e h =
    ⊎_elim (λ (l : x ≤ m). let g : min x m ≡ x = omega arith in subst (λ (w : ℕ). (t w ≡ true) × (0 < count w (x ∷ xs)) × ((c : ℕ) → 0 < count c (x ∷ xs) → t c ≡ true → w ≤ c)) (sym g)
    (e, omega (arith, count-here x xs), λ c k f. ⊎_elim (λ (g : c ≡ x). omega arith) (λ (d : c ≢ x). let z = h.2 c (in_tail c x xs k d) f in omega arith) (same_or_not c x)))
    (λ (l : m < x). let g : min x m ≡ m = omega arith in subst (λ (w : ℕ). (t w ≡ true) × (0 < count w (x ∷ xs)) × ((c : ℕ) → 0 < count c (x ∷ xs) → t c ≡ true → w ≤ c)) (sym g)
    (h.0, omega (arith, h.1, count-tail m x xs), λ c k f. ⊎_elim (λ (g : c ≡ x). omega arith) (λ (d : c ≢ x). h.2 c (in_tail c x xs k d) f) (same_or_not c x))) (up_or_down x m)
  where
    up_or_down : (a b : ℕ) → (a ≤ b) ⊎ (b < a)
    up_or_down a b = grind arith

least_in_step : (t : ℕ → Bool) (x : ℕ) (xs : List ℕ) (o : Option ℕ) (b : Bool) → t x ≡ b → IsLeast t xs o → IsLeast t (x ∷ xs) (lesser (one_such b x) o)
least_in_step t x xs o true e h = least_pass t x xs o e h
least_in_step t x xs o false e h = least_fail t x xs o e h

pub least_in_is : (t : ℕ → Bool) (xs : List ℕ) → IsLeast t xs (least_in t xs)
unfolding least_in
least_in_is t [] = λ c k. absurd (omega (arith, count-nil c))
least_in_is t (x ∷ xs) = least_in_step t x xs (least_in t xs) (t x) refl (least_in_is t xs)

pub least_in-append : (t : ℕ → Bool) (xs ys : List ℕ) → lesser (least_in t xs) (least_in t ys) ≡ least_in t (xs ++ ys)
unfolding least_in
least_in-append t [] ys = refl
least_in-append t (x ∷ xs) ys = lesser-assoc (one_such (t x) x) (least_in t xs) (least_in t ys) ∙ ap (lesser (one_such (t x) x)) (least_in-append t xs ys)

-- the first of all is determined
first_step : (test : Option Range → Bool) (x : Option Range) (held : List (Option Range)) (o : Option ℕ) (b : Bool) → test x ≡ b → IsLowest test (x ∷ held) o → ((p : Option ℕ) → IsLowest test held p → first_such test held ≡ p) →
    (if b then Some 0 else option_map suc (first_such test held)) ≡ o
first_step test x held None true e h ih = let z : true ≡ false = sym e ∙ h 0 in absurd cc
first_step test x held (Some zero) true e h ih = refl
first_step test x held (Some (suc m)) true e h ih = let l = h.1 0 e in absurd (omega arith)
first_step test x held None false e h ih = ap (option_map suc) (ih None (λ c. h (suc c)))
first_step test x held (Some zero) false e h ih = let z : true ≡ false = sym h.0 ∙ e in absurd cc
first_step test x held (Some (suc m)) false e h ih = ap (option_map suc) (ih (Some m) (h.0, λ c f. let l = h.1 (suc c) f in omega arith))

pub first_is : (test : Option Range → Bool) (held : List (Option Range)) (o : Option ℕ) → test None ≡ false → IsLowest test held o → first_such test held ≡ o
unfolding first_such
first_is test [] None n h = refl
first_is test [] (Some m) n h = let z : true ≡ false = sym h.0 ∙ n in absurd cc
first_is test (x ∷ held) o n h = first_step test x held o (test x) refl h (λ p g. first_is test held p n g)

-- where the list has all that pass the test, and t is the test on them
listed_first : (test : Option Range → Bool) (held : List (Option Range)) (t : ℕ → Bool) (xs : List ℕ) (o : Option ℕ) → ((c : ℕ) → test (get_or held c None) ≡ true → (0 < count c xs) × (t c ≡ true)) → ((c : ℕ) → 0 < count c xs → t c ≡ true → test (get_or held c None) ≡ true) →
    IsLeast t xs o → IsLowest test held o
listed_first test held t xs None inside back h = λ c. ⊎_elim (λ (f : test (get_or held c None) ≡ true). let i = inside c f in let z : true ≡ false = sym i.1 ∙ h c i.0 in absurd cc) (λ (f : test (get_or held c None) ≡ false). f) (ahead_or_not (test (get_or held c None)))
listed_first test held t xs (Some m) inside back h = (back m h.1 h.0, λ c f. let i = inside c f in h.2 c i.0 i.1)

pub least_is_first : (test : Option Range → Bool) (held : List (Option Range)) (t : ℕ → Bool) (xs : List ℕ) → test None ≡ false → ((c : ℕ) → test (get_or held c None) ≡ true → (0 < count c xs) × (t c ≡ true)) → ((c : ℕ) → 0 < count c xs → t c ≡ true → test (get_or held c None) ≡ true) →
    first_such test held ≡ least_in t xs
least_is_first test held t xs n inside back = first_is test held (least_in t xs) n (listed_first test held t xs (least_in t xs) inside back (least_in_is t xs))
