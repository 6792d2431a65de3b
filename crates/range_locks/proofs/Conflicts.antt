-- The tests of ranges against what they mean.
use Rattle.std.proofs.Common.{◌≡◌, ℕ, zero, suc, ◌<◌, ◌≤◌, Bool, true, false, List, [], ◌∷◌, get_or, Option, Some, None, refl, sym, ◌∙◌, subst, ⊎_elim, inl, inr, arith}
use Rattle.std.specs.Prelude.{◌⊎◌, ◌↔◌, max, min, if◌then◌else◌, option_map}
use Rattle.std.proofs.lemmas.Bool.Decides.{nat_tests}
use Rattle.range_locks.specs.declared.range.Range.{Range}
use Rattle.range_locks.specs.declared.range.Mode.{Mode}
use Rattle.range_locks.specs.declared.range.Mode.TheVariants.{Shared, Exclusive}
use Rattle.range_locks.specs.Held.{Conflicts, IsFirst, apart, hits, first_such}
use Rattle.range_locks.proofs.Firsts.{IsLowest, first_is}

apart_some : (m k : Mode) → apart m k ≡ true → (m ≡ Exclusive) ⊎ (k ≡ Exclusive)
apart_some Shared Shared e = absurd cc
apart_some Shared Exclusive e = inr refl
apart_some Exclusive k e = inl refl

apart_one : (m k : Mode) → (m ≡ Exclusive) ⊎ (k ≡ Exclusive) → apart m k ≡ true
apart_one Shared Shared e = ⊎_elim (λ (f : Shared ≡ Exclusive). absurd cc) (λ (f : Shared ≡ Exclusive). absurd cc) e
apart_one Shared Exclusive e = refl
apart_one Exclusive k e = refl

pub record Parts (range held : Range) : Type 0 where
  pub file : held.file ≡ range.file
  pub low : max held.from range.from < min held.to range.to
  pub modes : apart range.mode held.mode ≡ true

parts : (r o : Range) → hits r (Some o) ≡ true → Parts r o
parts r o e = record { file = grind (arith, nat_tests); low = grind (arith, nat_tests); modes = grind (arith, nat_tests) }

pub hit_conflicts : (r o : Range) → hits r (Some o) ≡ true → Conflicts r o
hit_conflicts r o e =
    let p = parts r o e in
    let l = p.low in
    record {
      page = max o.from r.from;
      of_one_file = p.file;
      in_range = (omega arith, omega arith);
      in_held = (omega arith, omega arith);
      one_exclusive = apart_some r.mode o.mode p.modes;
    }

all_tests : (r o : Range) → o.file ≡ r.file → max o.from r.from < min o.to r.to → apart r.mode o.mode ≡ true → hits r (Some o) ≡ true
all_tests r o f l m = grind (arith, nat_tests)

pub conflict_hits : (r o : Range) → Conflicts r o → hits r (Some o) ≡ true
conflict_hits r o c =
    let a = c.in_range in
    let b = c.in_held in
    all_tests r o c.of_one_file (omega (arith, a.0, a.1, b.0, b.1)) (apart_one r.mode o.mode c.one_exclusive)

none_next : (test : Option Range → Bool) (x : Option Range) (xs : List (Option Range)) → test x ≡ false → ((c : ℕ) → test (get_or xs c None) ≡ false) → (c : ℕ) → test (get_or (x ∷ xs) c None) ≡ false
none_next test x xs e h zero = e
none_next test x xs e h (suc c) = h c

below_next : (test : Option Range → Bool) (x : Option Range) (xs : List (Option Range)) (m : ℕ) → test x ≡ false → ((c : ℕ) → c < m → test (get_or xs c None) ≡ false) → (c : ℕ) → c < suc m → test (get_or (x ∷ xs) c None) ≡ false
below_next test x xs m e h zero l = e
below_next test x xs m e h (suc c) l = h c (omega arith)

first_next : (test : Option Range → Bool) (x : Option Range) (xs : List (Option Range)) (o : Option ℕ) → test x ≡ false → IsFirst test xs o → IsFirst test (x ∷ xs) (option_map suc o)
first_next test x xs None e h = none_next test x xs e h
first_next test x xs (Some m) e h = (h.0, below_next test x xs m e h.1)

first_here : (test : Option Range → Bool) (x : Option Range) (xs : List (Option Range)) (o : Option ℕ) (b : Bool) → test x ≡ b → IsFirst test xs o → IsFirst test (x ∷ xs) (if b then Some 0 else option_map suc o)
first_here test x xs o true e h = (e, λ c l. absurd (omega arith))
first_here test x xs o false e h = first_next test x xs o e h

pub such_is_first : (test : Option Range → Bool) (held : List (Option Range)) → test None ≡ false → IsFirst test held (first_such test held)
unfolding first_such
such_is_first test [] n = λ c. n
such_is_first test (x ∷ xs) n = first_here test x xs (first_such test xs) (test x) refl (such_is_first test xs n)

true_or_false : (b : Bool) → (b ≡ true) ⊎ (b ≡ false)
true_or_false true = inl refl
true_or_false false = inr refl

lowest : (test : Option Range → Bool) (held : List (Option Range)) (o : Option ℕ) → IsFirst test held o → IsLowest test held o
lowest test held None h = h
lowest test held (Some m) h = (h.0, λ c f. ⊎_elim (λ (l : c < m). let e = h.1 c l in let z : true ≡ false = sym f ∙ e in absurd cc) (λ (l : m ≤ c). l) (up_or_down c m))
  where
    up_or_down : (a b : ℕ) → (a < b) ⊎ (b ≤ a)
    up_or_down a b = grind arith

pub such_iff_first : (test : Option Range → Bool) (held : List (Option Range)) (o : Option ℕ) → test None ≡ false → (first_such test held ≡ o) ↔ IsFirst test held o
such_iff_first test held o n = (λ e. subst (IsFirst test held) e (such_is_first test held n), λ h. first_is test held o n (lowest test held o h))
