-- Lists of files and functions: what is found, and what stays of them where one is added, changed or taken away.
use Rattle.std.proofs.Common.{◌≡◌, ℕ, zero, suc, ◌<◌, Bool, true, false, List, [], ◌∷◌, ◌++◌, length, Option, Some, refl, sym, ap, ◌∙◌, subst, inl, inr, ⊎_elim, arith}
use Rattle.std.specs.Prelude.{◌⊎◌, map, is_some, if◌then◌else◌}
use Rattle.std.specs.List.{Contains, find, slice_index_or}
use Rattle.core_lanes.specs.Lists.{with_changed, without}
use Rattle.core_lanes.specs.Words.{EachBehind}
use Rattle.core_lanes.specs.State.{File}

-- ---- elements

pub in_here : {A : Type 0} (x : A) (xs : List A) → Contains (x ∷ xs) x
in_here x xs = (0, omega arith, refl)

pub in_there : {A : Type 0} (x y : A) (xs : List A) → Contains xs y → Contains (x ∷ xs) y
in_there x y xs h = let l = h.1 in (suc h.0, omega arith, h.2)

-- an element of a list is the first, or one of the rest
pub in_cases : {A : Type 0} (x y : A) (xs : List A) → Contains (x ∷ xs) y → (x ≡ y) ⊎ Contains xs y
in_cases {A} x y xs h = go h.0 h.1 h.2
  where
    go : (k : ℕ) → k < suc (length xs) → slice_index_or (x ∷ xs) k y ≡ y → (x ≡ y) ⊎ Contains xs y
    go zero l e = inl e
    go (suc k) l e = inr (k, omega arith, e)

pub in_none : {A : Type 0} (y : A) → Contains [] y → ⊥
in_none y h = let l = h.1 in omega arith

-- an element of a map is that of an element
pub in_map : {A B : Type 0} (g : A → B) (xs : List A) (y : B) → Contains (map g xs) y → (x : A) × Contains xs x × (g x ≡ y)
in_map g [] y h = absurd (in_none y h)
in_map {A} {B} g (x ∷ xs) y h = ⊎_elim (λ (e : g x ≡ y). (x, in_here x xs, e)) (λ (t : Contains (map g xs) y). let k = in_map g xs y t in (k.0, in_there x k.0 xs k.1, k.2)) (in_cases (g x) y (map g xs) h)

pub in_append : {A : Type 0} (xs ys : List A) (y : A) → Contains (xs ++ ys) y → Contains xs y ⊎ Contains ys y
in_append [] ys y h = inr h
in_append (x ∷ xs) ys y h = ⊎_elim (λ e. inl (subst (λ z. Contains (x ∷ xs) z) e (in_here x xs))) (λ t. ⊎_elim (λ a. inl (in_there x y xs a)) (λ b. inr b) (in_append xs ys y t)) (in_cases x y (xs ++ ys) h)

-- ---- searches

pub found_some : {A : Type 0} (test : A → Bool) (xs : List A) (x : A) → Contains xs x → test x ≡ true → is_some (find test xs) ≡ true
found_some test [] x h t = absurd (in_none x h)
found_some {A} test (y ∷ xs) x h t = ⊎_elim (λ (e : y ≡ x). here (test y) (ap test e ∙ t)) (λ (r : Contains xs x). there (test y) (found_some test xs x r t)) (in_cases y x xs h)
  where
    here : (b : Bool) → b ≡ true → is_some (if b then Some y else find test xs) ≡ true
    here true e = refl
    here false e = absurd (cc)

    there : (b : Bool) → is_some (find test xs) ≡ true → is_some (if b then Some y else find test xs) ≡ true
    there true e = refl
    there false e = e

pub find_append : {A : Type 0} (test : A → Bool) (xs ys : List A) → is_some (find test xs) ≡ true → find test (xs ++ ys) ≡ find test xs
find_append test [] ys e = absurd (cc)
find_append {A} test (x ∷ xs) ys e = go (test x) e (find_append test xs ys)
  where
    go : (t : Bool) → is_some (if t then Some x else find test xs) ≡ true → (is_some (find test xs) ≡ true → find test (xs ++ ys) ≡ find test xs) → (if t then Some x else find test (xs ++ ys)) ≡ (if t then Some x else find test xs)
    go true e ih = refl
    go false e ih = ih e

-- a change of an element of another name isn't found, nor missed
pub find_changed : {A : Type 0} (test change_test : A → Bool) (change : A → A) (xs : List A) → ((x : A) → Contains xs x → change_test x ≡ true → (test x ≡ false) × (test (change x) ≡ false)) → find test (with_changed change_test change xs) ≡ find test xs
find_changed test ct change [] h = refl
find_changed {A} test ct change (x ∷ xs) h = go (ct x) refl (find_changed test ct change xs (λ y i. h y (in_there x y xs i)))
  where
    none : (t u : Bool) (v : A) → t ≡ false → u ≡ false → (if t then Some v else find test xs) ≡ (if u then Some x else find test xs)
    none t u v e f = rw (e, f) refl

    go : (t : Bool) → ct x ≡ t → find test (with_changed ct change xs) ≡ find test xs → find test (if t then change x ∷ xs else x ∷ with_changed ct change xs) ≡ find test (x ∷ xs)
    go true e ih = let k = h x (in_here x xs) e in none (test (change x)) (test x) (change x) k.1 k.0
    go false e ih = ap (λ (o : Option A). if test x then Some x else o) ih

pub find_without : {A : Type 0} (test gone : A → Bool) (xs : List A) → ((x : A) → Contains xs x → gone x ≡ true → test x ≡ false) → find test (without gone xs) ≡ find test xs
find_without test gone [] h = refl
find_without {A} test gone (x ∷ xs) h = go (gone x) refl (find_without test gone xs (λ y i. h y (in_there x y xs i)))
  where
    none : (t : Bool) → t ≡ false → find test xs ≡ (if t then Some x else find test xs)
    none true e = absurd (cc)
    none false e = refl

    go : (t : Bool) → gone x ≡ t → find test (without gone xs) ≡ find test xs → find test (if t then xs else x ∷ without gone xs) ≡ find test (x ∷ xs)
    go true e ih = none (test x) (h x (in_here x xs) e)
    go false e ih = ap (λ (o : Option A). if test x then Some x else o) ih

-- ---- relations between elements

pub each_map : {A B : Type 0} (R : B → B → Type 0) (g : A → B) (xs : List A) → EachBehind (λ (x y : A). R (g x) (g y)) xs → EachBehind R (map g xs)
each_map R g [] h = tt
each_map {A} {B} R g (x ∷ xs) h = (λ y i. let k = in_map g xs y i in subst (λ (z : B). R (g x) z) k.2 (h.0 k.0 k.1), each_map R g xs h.1)

pub each_push : {A : Type 0} (R : A → A → Type 0) (xs : List A) (y : A) → EachBehind R xs → ((x : A) → Contains xs x → R x y) → EachBehind R (xs ++ y ∷ [])
each_push R [] y h new = (λ z i. absurd (in_none z i), tt)
each_push {A} R (x ∷ xs) y h new = (
  λ z i. ⊎_elim (λ (a : Contains xs z). h.0 z a) (λ (b : Contains (y ∷ []) z). ⊎_elim (λ (e : y ≡ z). subst (λ (w : A). R x w) e (new x (in_here x xs))) (λ (n : Contains [] z). absurd (in_none z n)) (in_cases y z [] b)) (in_append xs (y ∷ []) z i),
  each_push R xs y h.1 (λ z i. new z (in_there x z xs i)),
)

-- two files of a list with one id are one
pub one_of_id : (files : List File) → EachBehind (λ (f g : File). f.id < g.id) files → (f g : File) → Contains files f → Contains files g → f.id ≡ g.id → f ≡ g
one_of_id [] h f g a b e = absurd (in_none f a)
one_of_id (x ∷ xs) h f g a b e =
    ⊎_elim
    (λ (p : x ≡ f). ⊎_elim (λ (q : x ≡ g). sym p ∙ q) (λ (q : Contains xs g). let l = h.0 g q in let k = ap (λ (w : File). w.id) p in absurd (omega arith)) (in_cases x g xs b))
    (λ (p : Contains xs f). ⊎_elim (λ (q : x ≡ g). let l = h.0 f p in let k = ap (λ (w : File). w.id) q in absurd (omega arith)) (λ (q : Contains xs g). one_of_id xs h.1 f g p q e) (in_cases x g xs b))
    (in_cases x f xs a)
