-- Blocks without an owner.
use Rattle.std.proofs.Common.{◌≡◌, ◌≢◌, ℕ, zero, suc, ◌+◌, ◌<◌, ◌≤◌, List, [], ◌∷◌, ◌++◌, length, take, drop, set, get_or, Bool, true, false, cond, eqb, Option, Some, None, ap, ◌∙◌, sym, refl, subst, arith, inl, inr, ◌||◌, append_assoc, get_or-set_same, get_or-set_other, drop-set-lt}
use Rattle.std.specs.Prelude.{is_some, is_none, not, filter}
use Rattle.std.specs.List.{range_with_len, AllByRecursion}
use Rattle.std.proofs.lemmas.Bool.{cond-true, cond-false, cases_lt}
use Rattle.std.proofs.lemmas.Bool.Decides.{nat_tests}
use Rattle.std.proofs.lemmas.List.{append-nil, drop_more, drop_all}
use Rattle.extent_map.specs.declared.places.Place.{Place}
use Rattle.extent_map.specs.Places.{owner_of, is_used, pages_on, AreApart}
use Rattle.extent_map.specs.Owners.{or_else, unowned, HaveOwners}
use Rattle.extent_map.proofs.Runs.{used_is, place}

abbrev Owner : Type 0
Owner = Option (ℕ × ℕ)

-- ---- the search for the next one

pub free_here : (os : List Owner) (b : ℕ) → b < length os → is_none (get_or os b None) ≡ true → unowned b (drop b os) ≡ b ∷ unowned (b + 1) (drop (b + 1) os)
free_here os b lt free = ap (unowned b) (drop_more os b None lt) ∙ cond-true (is_none (get_or os b None)) (b ∷ unowned (b + 1) (drop (b + 1) os)) (unowned (b + 1) (drop (b + 1) os)) free

pub used_here : (os : List Owner) (b : ℕ) → b < length os → is_none (get_or os b None) ≡ false → unowned b (drop b os) ≡ unowned (b + 1) (drop (b + 1) os)
used_here os b lt used = ap (unowned b) (drop_more os b None lt) ∙ cond-false (is_none (get_or os b None)) (b ∷ unowned (b + 1) (drop (b + 1) os)) (unowned (b + 1) (drop (b + 1) os)) used

unowned_end : (os : List Owner) (b : ℕ) → length os ≤ b → unowned b (drop b os) ≡ []
unowned_end os b le = ap (unowned b) (drop_all b os le)

pub have_more : (os : List Owner) (n : ℕ) → HaveOwners n os → is_none (get_or os n None) ≡ false → HaveOwners (n + 1) os
have_more os n have here =
    λ b lt. elim (cases_lt b n) [
      | inl less ↦ have b less
      | inr le ↦ let is : n ≡ b = omega arith in subst (λ k. is_none (get_or os k None) ≡ false) is here
    ]

-- where some are left, one is found
pub next_within : (os : List Owner) (b m : ℕ) → 1 ≤ m → m ≤ length (unowned b (drop b os)) → b < length os
next_within os b m some enough =
    elim (cases_lt b (length os)) [
      | inl lt ↦ lt
      | inr le ↦ absurd (omega (arith, ap length (unowned_end os b le)))
    ]

-- ---- one of them is taken

pub have_set : (os : List Owner) (n : ℕ) (o : ℕ × ℕ) → n < length os → HaveOwners n os → HaveOwners (n + 1) (set os n (Some o))
have_set os n o within have =
    λ b lt. elim (cases_lt b n) [
      | inl less ↦ ap is_none (get_or-set_other os n b (Some o) None (λ is. omega arith)) ∙ have b less
      | inr le ↦
          let is : n ≡ b = omega arith in
          subst (λ k. is_none (get_or (set os n (Some o)) k None) ≡ false) is (ap is_none (get_or-set_same os n (Some o) None within))
    ]

pub taken_first : (os : List Owner) (b next : ℕ) (o : ℕ × ℕ) → next < length os → is_none (get_or os next None) ≡ true → unowned next (drop next os) ≡ unowned b (drop b os)
    → unowned b (drop b os) ≡ next ∷ unowned (next + 1) (drop (next + 1) (set os next (Some o)))
taken_first os b next o within free same =
    sym same ∙ free_here os next within free ∙ ap (λ xs. next ∷ unowned (next + 1) xs) (sym (drop-set-lt (next + 1) os next (Some o) (omega arith)))

-- the pages on them, the first one in front
pub pages_first : (file p q n m next : ℕ) (us rest : List ℕ) → q ≡ p + 1 → n ≡ suc m → us ≡ next ∷ rest → pages_on file p (take n us) ≡ place file p next ∷ pages_on file q (take m rest)
pages_first file p q n m next us rest q-is n-is us-is =
    ap (λ xs. pages_on file p (take n xs)) us-is ∙ ap (λ i. pages_on file p (take i (next ∷ rest))) n-is ∙ ap (λ i. place file p next ∷ pages_on file i (take m rest)) (sym q-is)

pub pages_none : (file p n : ℕ) (us : List ℕ) → n ≡ 0 → pages_on file p (take n us) ≡ []
pages_none file p n us is = ap (λ i. pages_on file p (take i us)) is

pub placed_step : (placed whole : List Place) (x : Place) (left rest : List Place) → left ≡ x ∷ rest → placed ++ left ≡ whole → (placed ++ x ∷ []) ++ rest ≡ whole
placed_step placed whole x left rest is before = append_assoc placed (x ∷ []) rest ∙ ap (λ xs. placed ++ xs) (sym is) ∙ before

pub placed_done : (placed whole left : List Place) → left ≡ [] → placed ++ left ≡ whole → placed ≡ whole
placed_done placed whole left is before = sym (append-nil placed) ∙ ap (λ xs. placed ++ xs) (sym is) ∙ before

-- no block before the first one is among them
pub no_owner_below : (file q m a : ℕ) (os : List Owner) (b : ℕ) → b < a → owner_of b (pages_on file q (take m (unowned a os))) ≡ None
no_owner_below file q zero a os b lt = refl
no_owner_below file q (suc m) a [] b lt = refl
no_owner_below file q (suc m) a (o ∷ os) b lt =
    elim (is_none o) as (λ (t : Bool). owner_of b (pages_on file q (take (suc m) (cond t (a ∷ unowned (a + 1) os) (unowned (a + 1) os)))) ≡ None) [
      | true ↦ cond-false (eqb a b) (Some (file, q)) (owner_of b (pages_on file (q + 1) (take m (unowned (a + 1) os)))) (grind (arith, nat_tests)) ∙ no_owner_below file (q + 1) m (a + 1) os b (omega arith)
      | false ↦ no_owner_below file q (suc m) (a + 1) os b (omega arith)
    ]

pub owners_step : (os : List Owner) (file p next b : ℕ) (left rest : List Place) (whole : Owner) → next < length os → left ≡ place file p next ∷ rest → owner_of next rest ≡ None
    → or_else (owner_of b left) (get_or os b None) ≡ whole → or_else (owner_of b rest) (get_or (set os next (Some (file, p))) b None) ≡ whole
owners_step os file p next b left rest whole within left-is none before =
    by_test (eqb next b) refl (sym (ap (λ ps. or_else (owner_of b ps) (get_or os b None)) left-is) ∙ before)
  where
    by_test : (t : Bool) → eqb next b ≡ t → or_else (cond t (Some (file, p)) (owner_of b rest)) (get_or os b None) ≡ whole → or_else (owner_of b rest) (get_or (set os next (Some (file, p))) b None) ≡ whole
    by_test true e h =
        let is : next ≡ b = grind (arith, nat_tests) in
        let here : get_or (set os next (Some (file, p))) b None ≡ Some (file, p) = subst (λ k. get_or (set os next (Some (file, p))) k None ≡ Some (file, p)) is (get_or-set_same os next (Some (file, p)) None within) in
        ap (λ o. or_else o (get_or (set os next (Some (file, p))) b None)) (ap (λ k. owner_of k rest) (sym is) ∙ none) ∙ here ∙ h
    by_test false e h =
        let ne : b ≢ next = grind (arith, nat_tests) in
        ap (or_else (owner_of b rest)) (get_or-set_other os next b (Some (file, p)) None ne) ∙ h

-- ---- what they are

-- none of them is used before the first one without an owner
pub skips : (n a : ℕ) (os : List Owner) → HaveOwners n os → unowned a os ≡ unowned (a + n) (drop n os)
skips zero a os have = let e : a ≡ a + 0 = omega arith in ap (λ k. unowned k os) e
skips (suc n) a [] have = refl
skips (suc n) a (o ∷ os) have =
    let e : a + 1 + n ≡ a + suc n = omega arith in
    cond-false (is_none o) (a ∷ unowned (a + 1) os) (unowned (a + 1) os) (have 0 (omega arith)) ∙ skips n (a + 1) os (λ b lt. have (suc b) (omega arith)) ∙ ap (λ k. unowned k (drop n os)) e

-- they are the blocks that no page has
pub free_is : (ps : List Place) (n a : ℕ) (os : List Owner) → length os ≡ n → ((k : ℕ) → k < n → get_or os k None ≡ owner_of (a + k) ps) → filter (λ b. not (is_used b ps)) (range_with_len a n) ≡ unowned a os
free_is ps zero a [] len each = refl
free_is ps zero a (o ∷ os) len each = absurd (omega arith)
free_is ps (suc n) a [] len each = absurd (omega arith)
free_is ps (suc n) a (o ∷ os) len each =
    let zero-is : a + 0 ≡ a = omega arith in
    let head : not (is_used a ps) ≡ is_none o = ap not (sym (used_is a ps) ∙ ap is_some (ap (λ k. owner_of k ps) (sym zero-is) ∙ sym (each 0 (omega arith)))) in
    ap (λ t. cond t (a ∷ filter (λ b. not (is_used b ps)) (range_with_len (a + 1) n)) (filter (λ b. not (is_used b ps)) (range_with_len (a + 1) n))) head
    ∙ ap (λ xs. cond (is_none o) (a ∷ xs) xs) (free_is ps n (a + 1) os (omega (arith, len)) (λ k lt. let e : a + suc k ≡ a + 1 + k = omega arith in each (suc k) (omega arith) ∙ ap (λ j. owner_of j ps) e))

-- a block with an owner is not among them
pub none_owned : (file q m a : ℕ) (os : List Owner) (k : ℕ) → is_none (get_or os k None) ≡ false → owner_of (a + k) (pages_on file q (take m (unowned a os))) ≡ None
none_owned file q zero a os k used = refl
none_owned file q (suc m) a [] k used = absurd cc
none_owned file q (suc m) a (o ∷ os) zero used =
    ap (λ xs. owner_of (a + 0) (pages_on file q (take (suc m) xs))) (cond-false (is_none o) (a ∷ unowned (a + 1) os) (unowned (a + 1) os) used) ∙ no_owner_below file q (suc m) (a + 1) os (a + 0) (omega arith)
none_owned file q (suc m) a (o ∷ os) (suc k) used =
    let e : a + 1 + k ≡ a + suc k = omega arith in
    elim (is_none o) as (λ (t : Bool). owner_of (a + suc k) (pages_on file q (take (suc m) (cond t (a ∷ unowned (a + 1) os) (unowned (a + 1) os)))) ≡ None) [
      | true ↦ cond-false (eqb a (a + suc k)) (Some (file, q)) (owner_of (a + suc k) (pages_on file (q + 1) (take m (unowned (a + 1) os)))) (grind (arith, nat_tests)) ∙ subst (λ j. owner_of j (pages_on file (q + 1) (take m (unowned (a + 1) os))) ≡ None) e (none_owned file (q + 1) m (a + 1) os k used)
      | false ↦ subst (λ j. owner_of j (pages_on file q (take (suc m) (unowned (a + 1) os))) ≡ None) e (none_owned file q (suc m) (a + 1) os k used)
    ]

unused_of : (b : ℕ) (ps : List Place) → owner_of b ps ≡ None → is_used b ps ≡ false
unused_of b ps none = sym (used_is b ps) ∙ ap is_some none

pub unused_free : (file q m : ℕ) (os : List Owner) (b : ℕ) → is_none (get_or os b None) ≡ false → is_used b (pages_on file q (take m (unowned 0 os))) ≡ false
unused_free file q m os b used =
    let e : 0 + b ≡ b = omega arith in
    unused_of b (pages_on file q (take m (unowned 0 os))) (subst (λ j. owner_of j (pages_on file q (take m (unowned 0 os))) ≡ None) e (none_owned file q m 0 os b used))

pub apart_free : (file q m a : ℕ) (os : List Owner) → AreApart (pages_on file q (take m (unowned a os)))
apart_free file q zero a os = tt
apart_free file q (suc m) a [] = tt
apart_free file q (suc m) a (o ∷ os) =
    elim (is_none o) as (λ (t : Bool). AreApart (pages_on file q (take (suc m) (cond t (a ∷ unowned (a + 1) os) (unowned (a + 1) os))))) [
      | true ↦ (unused_of a (pages_on file (q + 1) (take m (unowned (a + 1) os))) (no_owner_below file (q + 1) m (a + 1) os a (omega arith)), apart_free file (q + 1) m (a + 1) os)
      | false ↦ apart_free file q (suc m) (a + 1) os
    ]

pub free_within : (bound file q m a : ℕ) (os : List Owner) → a + length os ≤ bound → AllByRecursion (λ p. p.block < bound) (pages_on file q (take m (unowned a os)))
free_within bound file q zero a os le = tt
free_within bound file q (suc m) a [] le = tt
free_within bound file q (suc m) a (o ∷ os) le =
    elim (is_none o) as (λ (t : Bool). AllByRecursion (λ p. p.block < bound) (pages_on file q (take (suc m) (cond t (a ∷ unowned (a + 1) os) (unowned (a + 1) os))))) [
      | true ↦ (omega arith, free_within bound file (q + 1) m (a + 1) os (omega arith))
      | false ↦ free_within bound file q (suc m) (a + 1) os (omega arith)
    ]

-- ---- how many there are

count_past : (u : ℕ → Bool) (b a n : ℕ) → b < a → filter (λ x. not (eqb b x || u x)) (range_with_len a n) ≡ filter (λ x. not (u x)) (range_with_len a n)
count_past u b a zero lt = refl
count_past u b a (suc n) lt =
    let other : eqb b a ≡ false = grind (arith, nat_tests) in
    ap (λ t. cond (not (t || u a)) (a ∷ filter (λ x. not (eqb b x || u x)) (range_with_len (a + 1) n)) (filter (λ x. not (eqb b x || u x)) (range_with_len (a + 1) n))) other
    ∙ ap (λ xs. cond (not (u a)) (a ∷ xs) xs) (count_past u b (a + 1) n (omega arith))

count_one : (u : ℕ → Bool) (b a n : ℕ) → a ≤ b → b < a + n → u b ≡ false → length (filter (λ x. not (eqb b x || u x)) (range_with_len a n)) + 1 ≡ length (filter (λ x. not (u x)) (range_with_len a n))
count_one u b a zero le lt free = absurd (omega arith)
count_one u b a (suc n) le lt free =
    elim (cases_lt a b) [
      | inl less ↦
          let other : eqb b a ≡ false = grind (arith, nat_tests) in
          later (u a) (filter (λ x. not (eqb b x || u x)) (range_with_len (a + 1) n)) (filter (λ x. not (u x)) (range_with_len (a + 1) n)) other (count_one u b (a + 1) n (omega arith) (omega arith) free)
      | inr ge ↦
          let is : a ≡ b = omega arith in
          here (eqb b a) (u a) (filter (λ x. not (eqb b x || u x)) (range_with_len (a + 1) n)) (filter (λ x. not (u x)) (range_with_len (a + 1) n)) (grind (arith, nat_tests)) (ap u is ∙ free) (ap length (count_past u b (a + 1) n (omega arith)))
    ]
  where
    later : (t : Bool) (xs ys : List ℕ) → eqb b a ≡ false → length xs + 1 ≡ length ys → length (cond (not (eqb b a || t)) (a ∷ xs) xs) + 1 ≡ length (cond (not t) (a ∷ ys) ys)
    later t xs ys other rest = ap (λ e. length (cond (not (e || t)) (a ∷ xs) xs) + 1) other ∙ same t
      where
        same : (t : Bool) → length (cond (not (false || t)) (a ∷ xs) xs) + 1 ≡ length (cond (not t) (a ∷ ys) ys)
        same true = rest
        same false = omega arith

    here : (e t : Bool) (xs ys : List ℕ) → e ≡ true → t ≡ false → length xs ≡ length ys → length (cond (not (e || t)) (a ∷ xs) xs) + 1 ≡ length (cond (not t) (a ∷ ys) ys)
    here true false xs ys p q rest = omega arith
    here true true xs ys p q rest = absurd cc
    here false t xs ys p q rest = absurd cc

all_free : (a n : ℕ) → length (filter (λ b. not (is_used b [])) (range_with_len a n)) ≡ n
all_free a zero = refl
all_free a (suc n) = ap suc (all_free (a + 1) n)

pub count_free : (n : ℕ) (ps : List Place) → AreApart ps → AllByRecursion (λ p. p.block < n) ps → length (filter (λ b. not (is_used b ps)) (range_with_len 0 n)) + length ps ≡ n
count_free n [] apart within = omega (arith, all_free 0 n)
count_free n (p ∷ ps) apart within = omega (arith, count_one (λ b. is_used b ps) p.block 0 n (omega arith) (omega (arith, within.0)) apart.0, count_free n ps apart.1 within.1)

-- where a block had an owner, it has one after others were put before
pub have_or : (n : ℕ) (os new_os : List Owner) (ps : List Place) → HaveOwners n os → ((b : ℕ) → get_or new_os b None ≡ or_else (owner_of b ps) (get_or os b None)) → HaveOwners n new_os
have_or n os new_os ps have each = λ b lt. ap is_none (each b) ∙ either (owner_of b ps) (get_or os b None) (have b lt)
  where
    either : (x o : Owner) → is_none o ≡ false → is_none (or_else x o) ≡ false
    either None o e = e
    either (Some x) o e = refl

pub length_pages : (file page : ℕ) (bs : List ℕ) → length (pages_on file page bs) ≡ length bs
length_pages file page [] = refl
length_pages file page (b ∷ bs) = ap suc (length_pages file (page + 1) bs)
