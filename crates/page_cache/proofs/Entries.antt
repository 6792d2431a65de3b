-- What is read of lists that changed at one place.
use Rattle.std.proofs.Common.{◌≡◌, ℕ, zero, suc, ◌<◌, ◌≤◌, true, List, [], ◌∷◌, length, get_or, set, map, Some, None, refl, sym, ap, ◌∙◌, subst, ⊎_elim, arith, get_or-set_same, get_or-set_other}
use Rattle.std.proofs.lemmas.List.{length-set}
use Rattle.std.proofs.lemmas.Option.{slice_get-get_or, slice_get_past}
use Rattle.std.specs.Prelude.{◌≢◌, ◌⊎◌, slice_get, is_some, option_map, ltb}
use Rattle.std.proofs.lemmas.Bool.Decides.{nat_tests}
use Rattle.index_lists.specs.Words.{count, without, first, after}
use Rattle.index_lists.proofs.Neighbours.{after-nil, after-here, after-there}
use Rattle.index_lists.proofs.Counts.{same_or_not, count-here, count-there, count-nil, count-tail, without-here, without-there, without-nil}

-- what holds of an entry of a list that changed at one place
pub set_cases : {A : Type 0} (P : A → Type 0) (xs : List A) (i j : ℕ) (v d : A) → i < length xs → (j ≡ i → P v) → (j ≢ i → P (get_or xs j d)) → P (get_or (set xs i v) j d)
set_cases {A} P xs i j v d l here rest = ⊎_elim at other (same_or_not j i)
  where
    at : j ≡ i → P (get_or (set xs i v) j d)
    at e = subst (λ (k : ℕ). P (get_or (set xs i v) k d)) (sym e) (subst P (sym (get_or-set_same xs i v d l)) (here e))

    other : j ≢ i → P (get_or (set xs i v) j d)
    other n = subst P (sym (get_or-set_other xs i j v d n)) (rest n)

pub slice_get-set_same : {A : Type 0} (xs : List A) (i : ℕ) (v : A) → i < length xs → slice_get (set xs i v) i ≡ Some v
slice_get-set_same xs i v l = slice_get-get_or (set xs i v) i v (omega (arith, length-set xs i v)) ∙ ap (λ (w : _). Some w) (get_or-set_same xs i v v l)

pub slice_get-set_other : {A : Type 0} (xs : List A) (i j : ℕ) (v : A) → j ≢ i → slice_get (set xs i v) j ≡ slice_get xs j
slice_get-set_other [] i j v n = refl
slice_get-set_other (x ∷ xs) zero zero v n = absurd (n refl)
slice_get-set_other (x ∷ xs) zero (suc j) v n = refl
slice_get-set_other (x ∷ xs) (suc i) zero v n = refl
slice_get-set_other (x ∷ xs) (suc i) (suc j) v n = slice_get-set_other xs i j v (λ e. n (ap suc e))

pub slice_get_none : {A : Type 0} (xs : List A) (i : ℕ) → slice_get xs i ≡ None → length xs ≤ i
slice_get_none [] i e = omega arith
slice_get_none (x ∷ xs) zero e = absurd cc
slice_get_none (x ∷ xs) (suc i) e = omega (arith, slice_get_none xs i e)

pub slice_get_some : {A : Type 0} (xs : List A) (i : ℕ) → is_some (slice_get xs i) ≡ true → i < length xs
slice_get_some [] i e = absurd cc
slice_get_some (x ∷ xs) zero e = omega arith
slice_get_some (x ∷ xs) (suc i) e = omega (arith, slice_get_some xs i e)

-- mapped lists
pub map_same : {B : Type 0} (g h : ℕ → B) (xs : List ℕ) → ((x : ℕ) → 0 < count x xs → g x ≡ h x) → map g xs ≡ map h xs
map_same g h [] e = refl
map_same g h (x ∷ xs) e =
    let here : g x ≡ h x = e x (omega (arith, count-here x xs)) in
    let rest : map g xs ≡ map h xs = map_same g h xs (λ y l. e y (omega (arith, count-tail y x xs))) in
    cc

map-without_here : (g : ℕ → ℕ) (f : ℕ) (xs : List ℕ) → map g (without f xs) ≡ without (g f) (map g xs) → map g (without f (f ∷ xs)) ≡ without (g f) (g f ∷ map g xs)
map-without_here g f xs ih = ap (map g) (without-here f xs) ∙ ih ∙ sym (without-here (g f) (map g xs))

map-without_there : (g : ℕ → ℕ) (f x : ℕ) (xs : List ℕ) → f ≢ x → g f ≢ g x → map g (without f xs) ≡ without (g f) (map g xs) → map g (without f (x ∷ xs)) ≡ without (g f) (g x ∷ map g xs)
map-without_there g f x xs d e ih = ap (map g) (without-there f x xs d) ∙ ap (λ (t : List ℕ). g x ∷ t) ih ∙ sym (without-there (g f) (g x) (map g xs) e)

map-without_step : (g : ℕ → ℕ) (f x : ℕ) (xs : List ℕ) → (g x ≡ g f → x ≡ f) → map g (without f xs) ≡ without (g f) (map g xs) → map g (without f (x ∷ xs)) ≡ without (g f) (g x ∷ map g xs)
map-without_step g f x xs e ih =
    ⊎_elim (λ (d : f ≡ x). subst (λ (y : ℕ). map g (without f (y ∷ xs)) ≡ without (g f) (g y ∷ map g xs)) d (map-without_here g f xs ih)) (λ (d : f ≢ x). map-without_there g f x xs d (λ k. d (sym (e (sym k)))) ih) (same_or_not f x)

pub map-without : (g : ℕ → ℕ) (f : ℕ) (xs : List ℕ) → ((x : ℕ) → 0 < count x xs → g x ≡ g f → x ≡ f) → map g (without f xs) ≡ without (g f) (map g xs)
map-without g f [] e = ap (map g) (without-nil f) ∙ sym (without-nil (g f))
map-without g f (x ∷ xs) e = map-without_step g f x xs (e x (omega (arith, count-here x xs))) (map-without g f xs (λ y l. e y (omega (arith, count-tail y x xs))))

first-map_option : (g : ℕ → ℕ) (xs : List ℕ) → first (map g xs) ≡ option_map g (first xs)
first-map_option g [] = refl
first-map_option g (x ∷ xs) = refl

after-map_step : (g : ℕ → ℕ) (f x : ℕ) (xs : List ℕ) → (g x ≡ g f → x ≡ f) → after (g f) (map g xs) ≡ option_map g (after f xs) → after (g f) (g x ∷ map g xs) ≡ option_map g (after f (x ∷ xs))
after-map_step g f x xs e ih =
    ⊎_elim (λ (d : f ≡ x). subst (λ (y : ℕ). after (g f) (g y ∷ map g xs) ≡ option_map g (after f (y ∷ xs))) d (after-here (g f) (map g xs) ∙ first-map_option g xs ∙ ap (option_map g) (sym (after-here f xs))))
    (λ (d : f ≢ x). after-there (g f) (g x) (map g xs) (λ k. d (sym (e (sym k)))) ∙ ih ∙ ap (option_map g) (sym (after-there f x xs d))) (same_or_not f x)

pub after-map : (g : ℕ → ℕ) (f : ℕ) (xs : List ℕ) → ((x : ℕ) → 0 < count x xs → g x ≡ g f → x ≡ f) → after (g f) (map g xs) ≡ option_map g (after f xs)
after-map g f [] e = after-nil (g f) ∙ ap (option_map g) (sym (after-nil f))
after-map g f (x ∷ xs) e = after-map_step g f x xs (e x (omega (arith, count-here x xs))) (after-map g f xs (λ y l. e y (omega (arith, count-tail y x xs))))

pub first-map : (g : ℕ → ℕ) (xs : List ℕ) (x : ℕ) → first xs ≡ Some x → first (map g xs) ≡ Some (g x)
first-map g [] x e = absurd cc
first-map g (y ∷ ys) x e = ap (λ (w : ℕ). Some (g w)) (let d : y ≡ x = cc in d)

pub some_within : {A : Type 0} (xs : List A) (i : ℕ) → i < length xs → is_some (slice_get xs i) ≡ true
some_within [] i l = absurd (omega arith)
some_within (x ∷ xs) zero l = refl
some_within (x ∷ xs) (suc i) l = some_within xs i (omega arith)

pub below_or_not : (i n : ℕ) → (i < n) ⊎ (n ≤ i)
below_or_not i n = grind arith

pub is_some_get : {A : Type 0} (xs : List A) (i : ℕ) → ltb i (length xs) ≡ is_some (slice_get xs i)
is_some_get xs i = ⊎_elim within past (below_or_not i (length xs))
  where
    within : i < length xs → ltb i (length xs) ≡ is_some (slice_get xs i)
    within l = grind (arith, nat_tests, some_within xs i l)

    past : length xs ≤ i → ltb i (length xs) ≡ is_some (slice_get xs i)
    past l = let e = ap is_some (slice_get_past xs i l) in grind (arith, nat_tests)

count-map_step : (g : ℕ → ℕ) (f x : ℕ) (xs : List ℕ) → (g x ≡ g f → x ≡ f) → count (g f) (map g xs) ≡ count f xs → count (g f) (g x ∷ map g xs) ≡ count f (x ∷ xs)
count-map_step g f x xs e ih =
    ⊎_elim (λ (d : f ≡ x). subst (λ (y : ℕ). count (g f) (g y ∷ map g xs) ≡ count f (y ∷ xs)) d (omega (arith, count-here (g f) (map g xs), count-here f xs)))
    (λ (d : f ≢ x). let n : g f ≢ g x = λ k. d (sym (e (sym k))) in omega (arith, count-there (g f) (g x) (map g xs) n, count-there f x xs d)) (same_or_not f x)

pub count-map : (g : ℕ → ℕ) (f : ℕ) (xs : List ℕ) → ((x : ℕ) → 0 < count x xs → g x ≡ g f → x ≡ f) → count (g f) (map g xs) ≡ count f xs
count-map g f [] e = count-nil (g f) ∙ sym (count-nil f)
count-map g f (x ∷ xs) e = count-map_step g f x xs (e x (omega (arith, count-here x xs))) (count-map g f xs (λ y l. e y (omega (arith, count-tail y x xs))))

pub count-map_none : (g : ℕ → ℕ) (b : ℕ) (xs : List ℕ) → ((x : ℕ) → 0 < count x xs → g x ≢ b) → count b (map g xs) ≡ 0
count-map_none g b [] e = count-nil b
count-map_none g b (x ∷ xs) e = count-there b (g x) (map g xs) (λ k. e x (omega (arith, count-here x xs)) (sym k)) ∙ count-map_none g b xs (λ y l. e y (omega (arith, count-tail y x xs)))
