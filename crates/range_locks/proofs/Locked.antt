-- Locks that come and go.
use Rattle.std.proofs.Common.{◌≡◌, ℕ, ◌+◌, ◌*◌, ◌<◌, ◌≤◌, Bool, true, false, List, [], ◌∷◌, ◌++◌, length, get_or, set, Option, Some, None, refl, sym, ap, ◌∙◌, subst, ⊎_elim, inl, inr, arith, get_or-set_same, get_or-set_other}
use Rattle.std.proofs.lemmas.List.{length-set, get_or_past}
use Rattle.std.specs.Prelude.{◌==◌, ◌≢◌, ◌⊎◌, ◌&&◌, ◌||◌, ltb}
use Rattle.std.proofs.lemmas.Bool.Decides.{nat_tests}
use Rattle.index_lists.specs.Words.{one_if, count, without, IsOnce}
use Rattle.index_lists.specs.Lists.{Lists, list_at}
use Rattle.index_lists.proofs.Counts.{same_or_not, count-here, count-tail, count-append, count-without, without-nil, without-here, without-there}
use Rattle.range_locks.specs.declared.range.Range.{Range}
use Rattle.range_locks.specs.Held.{hits, is_on, first_such}
use Rattle.range_locks.specs.Walks.{lesser, least_in, hit_at, first_page, from_at, IsRising}
use Rattle.range_locks.specs.Locks.{spans, is_empty_on, list_for, AreLocks}
use Rattle.range_locks.proofs.Steps.{ahead_or_not}
use Rattle.range_locks.proofs.Firsts.{least_is_first, least_in-append}

pub one_if_small : (b : Bool) → one_if b < 2
one_if_small true = omega arith
one_if_small false = omega arith

one_if_true : (b : Bool) → 0 < one_if b → b ≡ true
one_if_true true k = refl
one_if_true false k = absurd (omega arith)

hits_spans : (r : Range) (o : Option Range) → hits r o ≡ true → spans r.file o ≡ true
hits_spans r None e = absurd cc
hits_spans r (Some o) e = grind (arith, nat_tests)

spans_on : (f : ℕ) (o : Option Range) → spans f o ≡ true → is_on f o ≡ true
spans_on f None e = absurd cc
spans_on f (Some o) e = grind (arith, nat_tests)

empty_on : (f : ℕ) (o : Option Range) → is_empty_on f o ≡ true → is_on f o ≡ true
empty_on f None e = absurd cc
empty_on f (Some o) e = grind (arith, nat_tests)

on_either : (f : ℕ) (o : Option Range) → is_on f o ≡ true → (spans f o ≡ true) ⊎ (is_empty_on f o ≡ true)
on_either f None e = absurd cc
on_either f (Some o) e = ⊎_elim (λ (a : ltb o.from o.to ≡ true). inl (grind (arith, nat_tests))) (λ (a : ltb o.from o.to ≡ false). inr (grind (arith, nat_tests))) (ahead_or_not (ltb o.from o.to))

pub spans_target : (f : ℕ) (r : Range) → 2 * f ≡ list_for r → spans f (Some r) ≡ true
spans_target f r e = ⊎_elim (λ (a : ltb r.from r.to ≡ true). let g : list_for r ≡ 2 * r.file = rw a refl in let h : f ≡ r.file = omega arith in grind (arith, nat_tests)) (λ (a : ltb r.from r.to ≡ false). let g : list_for r ≡ 2 * r.file + 1 = rw a refl in absurd (omega arith)) (ahead_or_not (ltb r.from r.to))

pub spans_other : (f : ℕ) (r : Range) → 2 * f ≢ list_for r → spans f (Some r) ≡ false
spans_other f r d = ⊎_elim (λ (a : ltb r.from r.to ≡ true). let g : list_for r ≡ 2 * r.file = rw a refl in let h : f ≢ r.file = λ e. d (ap (λ (w : ℕ). 2 * w) e ∙ sym g) in grind (arith, nat_tests)) (λ (a : ltb r.from r.to ≡ false). grind (arith, nat_tests)) (ahead_or_not (ltb r.from r.to))

pub empty_target : (f : ℕ) (r : Range) → 2 * f + 1 ≡ list_for r → is_empty_on f (Some r) ≡ true
empty_target f r e = ⊎_elim (λ (a : ltb r.from r.to ≡ true). let g : list_for r ≡ 2 * r.file = rw a refl in absurd (omega arith)) (λ (a : ltb r.from r.to ≡ false). let g : list_for r ≡ 2 * r.file + 1 = rw a refl in let h : f ≡ r.file = omega arith in grind (arith, nat_tests)) (ahead_or_not (ltb r.from r.to))

pub empty_other : (f : ℕ) (r : Range) → 2 * f + 1 ≢ list_for r → is_empty_on f (Some r) ≡ false
empty_other f r d = ⊎_elim (λ (a : ltb r.from r.to ≡ true). grind (arith, nat_tests)) (λ (a : ltb r.from r.to ≡ false). let g : list_for r ≡ 2 * r.file + 1 = rw a refl in let h : f ≢ r.file = λ e. d (ap (λ (w : ℕ). 2 * w + 1) e ∙ sym g) in grind (arith, nat_tests)) (ahead_or_not (ltb r.from r.to))

-- what the walks ask of the lists
pub full_once : (files : ℕ) (held : List (Option Range)) (links : Lists) (f : ℕ) → AreLocks files held links → f < files → IsOnce (list_at links (2 * f))
full_once files held links f a l c = let e = a.full f c l in omega (arith, one_if_small (spans f (get_or held c None)))

pub empty_once : (files : ℕ) (held : List (Option Range)) (links : Lists) (f : ℕ) → AreLocks files held links → f < files → IsOnce (list_at links (2 * f + 1))
empty_once files held links f a l c = let e = a.empty f c l in omega (arith, one_if_small (is_empty_on f (get_or held c None)))

pub full_calls : (files : ℕ) (held : List (Option Range)) (links : Lists) (f : ℕ) → AreLocks files held links → f < files → (c : ℕ) → 0 < count c (list_at links (2 * f)) → c < length held
full_calls files held links f a l c k = ⊎_elim (λ (m : c < length held). m) (λ (m : length held ≤ c). let e = a.full f c l in let g = ap (λ (o : Option Range). one_if (spans f o)) (get_or_past held c None m) in absurd (omega arith)) (up_or_down c (length held))
  where
    up_or_down : (a b : ℕ) → (a < b) ⊎ (b ≤ a)
    up_or_down a b = grind arith

pub conflict_least : (files : ℕ) (held : List (Option Range)) (links : Lists) (r : Range) → AreLocks files held links → r.file < files → first_such (hits r) held ≡ least_in (hit_at r held) (list_at links (2 * r.file))
conflict_least files held links r a l =
    least_is_first (hits r) held (hit_at r held) (list_at links (2 * r.file)) refl
    (λ c f. let s = ap one_if (hits_spans r (get_or held c None) f) in let e = a.full r.file c l in (omega arith, f))
    (λ c k f. f)

pub any_least : (files : ℕ) (held : List (Option Range)) (links : Lists) (f : ℕ) → AreLocks files held links → f < files → first_such (is_on f) held ≡ lesser (least_in (λ (_ : ℕ). true) (list_at links (2 * f))) (least_in (λ (_ : ℕ). true) (list_at links (2 * f + 1)))
any_least files held links f a l =
    least_is_first (is_on f) held (λ (_ : ℕ). true) (list_at links (2 * f) ++ list_at links (2 * f + 1)) refl inside back
    ∙ sym (least_in-append (λ (_ : ℕ). true) (list_at links (2 * f)) (list_at links (2 * f + 1)))
  where
    inside : (c : ℕ) → is_on f (get_or held c None) ≡ true → (0 < count c (list_at links (2 * f) ++ list_at links (2 * f + 1))) × (true ≡ true)
    inside c g =
        let e = a.full f c l in
        let h = a.empty f c l in (
          ⊎_elim (λ (s : spans f (get_or held c None) ≡ true). let t = ap one_if s in omega (arith, count-append c (list_at links (2 * f)) (list_at links (2 * f + 1))))
              (λ (s : is_empty_on f (get_or held c None) ≡ true). let t = ap one_if s in omega (arith, count-append c (list_at links (2 * f)) (list_at links (2 * f + 1)))) (on_either f (get_or held c None) g),
          refl,
        )

    back : (c : ℕ) → 0 < count c (list_at links (2 * f) ++ list_at links (2 * f + 1)) → true ≡ true → is_on f (get_or held c None) ≡ true
    back c k t =
        let e = a.full f c l in
        let h = a.empty f c l in
        ⊎_elim (λ (s : spans f (get_or held c None) ≡ true). spans_on f (get_or held c None) s)
        (λ (s : spans f (get_or held c None) ≡ false). let u = ap one_if s in empty_on f (get_or held c None) (one_if_true (is_empty_on f (get_or held c None)) (omega (arith, count-append c (list_at links (2 * f)) (list_at links (2 * f + 1)))))) (ahead_or_not (spans f (get_or held c None)))

-- one list changes, by one call
pub record Changes (links links2 : Lists) (t call n : ℕ) : Type 0 where
  pub nodes : links2.nodes ≡ links.nodes
  pub len : length links2.lists ≡ length links.lists
  pub others : (i : ℕ) → i ≢ t → list_at links2 i ≡ list_at links i
  pub same : (c : ℕ) → c ≢ call → count c (list_at links2 t) ≡ count c (list_at links t)
  pub here : count call (list_at links2 t) ≡ n

counts : (links links2 : Lists) (t call n c i : ℕ) → Changes links links2 t call n → c ≢ call → count c (list_at links2 i) ≡ count c (list_at links i)
counts links links2 t call n c i h d =
    ⊎_elim (λ (e : i ≡ t). subst (λ (w : ℕ). count c (list_at links2 w) ≡ count c (list_at links w)) (sym e) (h.same c d)) (λ (e : i ≢ t). ap (count c) (h.others i e)) (same_or_not i t)

set_cases : {A : Type 0} (P : A → Type 0) (xs : List A) (i j : ℕ) (v d : A) → i < length xs → (j ≡ i → P v) → (j ≢ i → P (get_or xs j d)) → P (get_or (set xs i v) j d)
set_cases {A} P xs i j v d l here rest = ⊎_elim at other (same_or_not j i)
  where
    at : j ≡ i → P (get_or (set xs i v) j d)
    at e = subst (λ (k : ℕ). P (get_or (set xs i v) k d)) (sym e) (subst P (sym (get_or-set_same xs i v d l)) (here e))

    other : j ≢ i → P (get_or (set xs i v) j d)
    other n = subst P (sym (get_or-set_other xs i j v d n)) (rest n)

-- a list without the call keeps its order
pub rising_same : (held held2 : List (Option Range)) (xs : List ℕ) → ((c : ℕ) → 0 < count c xs → get_or held2 c None ≡ get_or held c None) → IsRising held xs → IsRising held2 xs
unfolding IsRising
rising_same held held2 [] e r = tt
rising_same held held2 (x ∷ xs) e r = (
  λ y k. subst (λ (o : Option Range). (ltb (first_page o) (from_at held2 y) || ((first_page o == from_at held2 y) && ltb x y)) ≡ true) (sym (e x (omega (arith, count-here x xs))))
      (subst (λ (o : Option Range). (ltb (from_at held x) (first_page o) || ((from_at held x == first_page o) && ltb x y)) ≡ true) (sym (e y (omega (arith, count-tail y x xs)))) (r.0 y k)),
  rising_same held held2 xs (λ c k. e c (omega (arith, count-tail c x xs))) r.1,
)

rising_without_step : (held : List (Option Range)) (b x : ℕ) (xs : List ℕ) → IsRising held (x ∷ xs) → IsRising held (without b xs) → IsRising held (without b (x ∷ xs))
unfolding IsRising
rising_without_step held b x xs r ih =
    ⊎_elim (λ (e : b ≡ x). subst (λ (t : List ℕ). IsRising held t) (sym (ap (λ (w : ℕ). without b (w ∷ xs)) (sym e) ∙ without-here b xs)) ih)
    (λ (d : b ≢ x). subst (λ (t : List ℕ). IsRising held t) (sym (without-there b x xs d)) (λ y k. r.0 y (omega (arith, count-without y b xs)), ih)) (same_or_not b x)

rising_tail : (held : List (Option Range)) (x : ℕ) (xs : List ℕ) → IsRising held (x ∷ xs) → IsRising held xs
unfolding IsRising
rising_tail held x xs r = r.1

pub rising_without : (held : List (Option Range)) (b : ℕ) (xs : List ℕ) → IsRising held xs → IsRising held (without b xs)
rising_without held b [] r = subst (IsRising held) (sym (without-nil b)) r
rising_without held b (x ∷ xs) r = rising_without_step held b x xs r (rising_without held b xs (rising_tail held x xs r))

-- the locks after a change of what one call holds
pub changed : (files : ℕ) (held : List (Option Range)) (links links2 : Lists) (t call n : ℕ) (new : Option Range) → AreLocks files held links → call < length held → Changes links links2 t call n →
    ((f : ℕ) → 2 * f ≡ t → one_if (spans f new) ≡ n) → ((f : ℕ) → 2 * f ≢ t → (spans f new ≡ false) × (spans f (get_or held call None) ≡ false)) →
    ((f : ℕ) → 2 * f + 1 ≡ t → one_if (is_empty_on f new) ≡ n) → ((f : ℕ) → 2 * f + 1 ≢ t → (is_empty_on f new ≡ false) × (is_empty_on f (get_or held call None) ≡ false)) →
    ((f : ℕ) → f < files → 2 * f ≡ t → IsRising (set held call new) (list_at links2 t)) → ((r : Range) → new ≡ Some r → r.file < files) → AreLocks files (set held call new) links2
changed files held links links2 t call n new a lc h ft fo et eo rise file = record {
  calls = let k = a.calls in let m = h.nodes in omega (arith, length-set held call new);
  lists = h.len ∙ a.lists;
  small = a.small;
  full = λ f c l. set_cases (λ (w : Option Range). count c (list_at links2 (2 * f)) ≡ one_if (spans f w)) held call c new None lc (λ e. ap (λ (w : ℕ). count w (list_at links2 (2 * f))) e ∙ full_here f l) (λ d. counts links links2 t call n c (2 * f) h d ∙ a.full f c l);
  empty = λ f c l. set_cases (λ (w : Option Range). count c (list_at links2 (2 * f + 1)) ≡ one_if (is_empty_on f w)) held call c new None lc (λ e. ap (λ (w : ℕ). count w (list_at links2 (2 * f + 1))) e ∙ empty_here f l) (λ d. counts links links2 t call n c (2 * f + 1) h d ∙ a.empty f c l);
  rising = λ f l. ⊎_elim (λ (e : 2 * f ≡ t). subst (λ (w : ℕ). IsRising (set held call new) (list_at links2 w)) (sym e) (rise f l e))
      (λ (d : 2 * f ≢ t). subst (IsRising (set held call new)) (sym (h.others (2 * f) d)) (rising_same held (set held call new) (list_at links (2 * f)) (λ c k. get_or-set_other held call c new None (λ e.
      let z = ap one_if (fo f d).1 in let q = a.full f call l in let g = ap (λ (w : ℕ). count w (list_at links (2 * f))) e in absurd (omega arith))) (a.rising f l))) (same_or_not (2 * f) t);
  file_of = λ c r. set_cases (λ (w : Option Range). w ≡ Some r → r.file < files) held call c new None lc (λ e f. file r f) (λ d f. a.file_of c r f);
}
  where
    full_here : (f : ℕ) → f < files → count call (list_at links2 (2 * f)) ≡ one_if (spans f new)
    full_here f l = ⊎_elim (λ (e : 2 * f ≡ t). ap (λ (w : ℕ). count call (list_at links2 w)) e ∙ h.here ∙ sym (ft f e)) (λ (d : 2 * f ≢ t). ap (count call) (h.others (2 * f) d) ∙ a.full f call l ∙ ap one_if (fo f d).1 ∙ sym (ap one_if (fo f d).0)) (same_or_not (2 * f) t)

    empty_here : (f : ℕ) → f < files → count call (list_at links2 (2 * f + 1)) ≡ one_if (is_empty_on f new)
    empty_here f l = ⊎_elim (λ (e : 2 * f + 1 ≡ t). ap (λ (w : ℕ). count call (list_at links2 w)) e ∙ h.here ∙ sym (et f e)) (λ (d : 2 * f + 1 ≢ t). ap (count call) (h.others (2 * f + 1) d) ∙ a.empty f call l ∙ ap one_if (eo f d).1 ∙ sym (ap one_if (eo f d).0)) (same_or_not (2 * f + 1) t)
