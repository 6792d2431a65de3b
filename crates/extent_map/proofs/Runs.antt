-- Adding the pages of an extent.
use Rattle.std.proofs.Common.{◌≡◌, ◌≢◌, ℕ, zero, suc, ◌+◌, ◌<◌, ◌≤◌, List, [], ◌∷◌, ◌++◌, length, set, get_or, Bool, true, false, cond, eqb, leb, Option, Some, None, ap, ◌∙◌, sym, refl, subst, arith, add-one, ◌||◌, get_or-set_same, get_or-set_other, length-append}
use Rattle.std.specs.Prelude.{is_some}
use Rattle.std.specs.List.{find, range_with_len, AllByRecursion}
use Rattle.std.proofs.lemmas.Bool.{cond-true, cond-false}
use Rattle.std.proofs.lemmas.List.{append-nil}
use Rattle.std.proofs.lemmas.Bool.Decides.{nat_tests}
use Rattle.extent_map.specs.declared.places.Place.{Place}
use Rattle.extent_map.specs.Places.{owner_of, is_used, pages_on, put_in, count_of, follows, Goes, AreInOrder, AreApart, IsSound, Places, first_used, blocks_in}
use Rattle.extent_map.specs.declared.places.Extent.{Extent}
use Rattle.extent_map.specs.Owners.{or_else, TellsOwners}

-- ---- blocks with an owner

pub used_is : (b : ℕ) (ps : List Place) → is_some (owner_of b ps) ≡ is_used b ps
used_is b [] = refl
used_is b (p ∷ ps) =
    elim (eqb p.block b) as (λ (t : Bool). is_some (cond t (Some (p.file, p.page)) (owner_of b ps)) ≡ (t || is_used b ps)) [
      | true ↦ refl
      | false ↦ used_is b ps
    ]

pub owned_here : (owners : List (Option (ℕ × ℕ))) (blocks : ℕ) (ps : List Place) (b : ℕ) → TellsOwners owners blocks ps → b < length owners → is_used b ps ≡ is_some (get_or owners b None)
owned_here owners blocks ps b tells lt = sym (ap is_some (tells.each b (omega (arith, tells.len))) ∙ used_is b ps)

pub found_here : (p : ℕ → Bool) (a n m : ℕ) (r : Option ℕ) → n ≡ suc m → p a ≡ true → find p (range_with_len a n) ≡ r → Some a ≡ r
found_here p a n m r is here all =
    let step : find p (range_with_len a n) ≡ Some a = rw is (cond-true (p a) (Some a) (find p (range_with_len (a + 1) m)) here) in
    sym step ∙ all

pub found_later : (p : ℕ → Bool) (a n m : ℕ) (r : Option ℕ) → n ≡ suc m → p a ≡ false → find p (range_with_len a n) ≡ r → find p (range_with_len (a + 1) m) ≡ r
found_later p a n m r is here all =
    let step : find p (range_with_len a n) ≡ find p (range_with_len (a + 1) m) = rw is (cond-false (p a) (Some a) (find p (range_with_len (a + 1) m)) here) in
    sym step ∙ all

pub found_none : (p : ℕ → Bool) (a n : ℕ) (r : Option ℕ) → n ≡ 0 → find p (range_with_len a n) ≡ r → None ≡ r
found_none p a n r is all =
    let step : find p (range_with_len a n) ≡ None = rw is refl in
    sym step ∙ all

-- ---- runs

abbrev pub place : ℕ → ℕ → ℕ → Place
place file page block = record { file = file; page = page; block = block }

run_push_at : (file page block k p b : ℕ) → p ≡ page + k → b ≡ block + k → pages_on file page (range_with_len block (suc k)) ≡ pages_on file page (range_with_len block k) ++ place file p b ∷ []
run_push_at file page block zero p b p-is b-is =
    let e : page ≡ p = omega arith in
    let f : block ≡ b = omega arith in
    ap (λ x. place file x block ∷ []) e ∙ ap (λ x. place file p x ∷ []) f
run_push_at file page block (suc k) p b p-is b-is = ap (λ x. place file page block ∷ x) (run_push_at file (page + 1) (block + 1) k p b (omega arith) (omega arith))

pub run_push : (file page block k : ℕ) → pages_on file page (range_with_len block (k + 1)) ≡ pages_on file page (range_with_len block k) ++ record { file = file; page = page + k; block = block + k } ∷ []
run_push file page block k = rw (add-one k) (run_push_at file page block k (page + k) (block + k) refl refl)

pub owner_push : (b : ℕ) (ps : List Place) (q : Place) → owner_of b (ps ++ q ∷ []) ≡ or_else (owner_of b ps) (cond (eqb q.block b) (Some (q.file, q.page)) None)
owner_push b [] q = refl
owner_push b (p ∷ ps) q =
    elim (eqb p.block b) as (λ (t : Bool). cond t (Some (p.file, p.page)) (owner_of b (ps ++ q ∷ [])) ≡ or_else (cond t (Some (p.file, p.page)) (owner_of b ps)) (cond (eqb q.block b) (Some (q.file, q.page)) None)) [
      | true ↦ refl
      | false ↦ owner_push b ps q
    ]

pub no_owner_past : (file page block k b : ℕ) → block + k ≤ b → owner_of b (pages_on file page (range_with_len block k)) ≡ None
no_owner_past file page block zero b le = refl
no_owner_past file page block (suc k) b le = cond-false (eqb block b) (Some (file, page)) _ (grind (arith, nat_tests)) ∙ no_owner_past file (page + 1) (block + 1) k b (omega arith)

-- ---- places put in

or_none : (o : Option (ℕ × ℕ)) → o ≡ or_else o None
or_none None = refl
or_none (Some x) = refl

pub owner_append : (b : ℕ) (xs ys : List Place) → owner_of b (xs ++ ys) ≡ or_else (owner_of b xs) (owner_of b ys)
owner_append b [] ys = refl
owner_append b (x ∷ xs) ys =
    elim (eqb x.block b) as (λ (t : Bool). cond t (Some (x.file, x.page)) (owner_of b (xs ++ ys)) ≡ or_else (cond t (Some (x.file, x.page)) (owner_of b xs)) (owner_of b ys)) [
      | true ↦ refl
      | false ↦ owner_append b xs ys
    ]

pub owner_put : (b file : ℕ) (new ps : List Place) → (is_used b ps ≡ true → owner_of b new ≡ None) → owner_of b (put_in file new ps) ≡ or_else (owner_of b new) (owner_of b ps)
owner_put b file new [] apart = or_none (owner_of b new)
owner_put b file new (p ∷ ps) apart =
    elim (leb p.file file) as (λ (t : Bool). owner_of b (cond t (p ∷ put_in file new ps) (new ++ p ∷ ps)) ≡ or_else (owner_of b new) (owner_of b (p ∷ ps))) [
      | true ↦
          (elim (eqb p.block b) as (λ (t : Bool). ((t || is_used b ps) ≡ true → owner_of b new ≡ None) → cond t (Some (p.file, p.page)) (owner_of b (put_in file new ps)) ≡ or_else (owner_of b new) (cond t (Some (p.file, p.page)) (owner_of b ps))) [
            | true ↦ λ none. sym (ap (λ o. or_else o (Some (p.file, p.page))) (none refl))
            | false ↦ λ none. owner_put b file new ps none
          ]) apart
      | false ↦ owner_append b new (p ∷ ps)
    ]

pub used_append : (b : ℕ) (xs ys : List Place) → is_used b (xs ++ ys) ≡ (is_used b xs || is_used b ys)
used_append b [] ys = refl
used_append b (x ∷ xs) ys =
    elim (eqb x.block b) as (λ (t : Bool). (t || is_used b (xs ++ ys)) ≡ ((t || is_used b xs) || is_used b ys)) [
      | true ↦ refl
      | false ↦ used_append b xs ys
    ]

or_right : (b : Bool) → b ≡ (b || false)
or_right true = refl
or_right false = refl

or_turn : (a b c : Bool) → (a || (b || c)) ≡ (b || (a || c))
or_turn true true c = refl
or_turn true false c = refl
or_turn false b c = refl

pub used_put : (b file : ℕ) (new ps : List Place) → is_used b (put_in file new ps) ≡ (is_used b new || is_used b ps)
used_put b file new [] = or_right (is_used b new)
used_put b file new (p ∷ ps) =
    elim (leb p.file file) as (λ (t : Bool). is_used b (cond t (p ∷ put_in file new ps) (new ++ p ∷ ps)) ≡ (is_used b new || is_used b (p ∷ ps))) [
      | true ↦ ap (λ u. eqb p.block b || u) (used_put b file new ps) ∙ or_turn (eqb p.block b) (is_used b new) (is_used b ps)
      | false ↦ used_append b new (p ∷ ps)
    ]

both_false : (a b : Bool) → a ≡ false → b ≡ false → (a || b) ≡ false
both_false a b p q = grind arith

apart_append : (xs ys : List Place) → AreApart xs → AreApart ys → ((b : ℕ) → is_used b ys ≡ true → is_used b xs ≡ false) → AreApart (xs ++ ys)
apart_append [] ys xs-apart ys-apart apart = ys-apart
apart_append (x ∷ xs) ys xs-apart ys-apart apart =
    (used_append x.block xs ys ∙ both_false (is_used x.block xs) (is_used x.block ys) xs-apart.0 (head (is_used x.block ys) refl), apart_append xs ys xs-apart.1 ys-apart (λ b u. (no_head (eqb x.block b) (is_used b xs) (apart b u)).1))
  where
    no_head : (a b : Bool) → (a || b) ≡ false → (a ≡ false) × (b ≡ false)
    no_head true b e = absurd cc
    no_head false b e = (refl, e)

    head : (t : Bool) → is_used x.block ys ≡ t → t ≡ false
    head false e = refl
    head true e =
        let same : eqb x.block x.block ≡ true = grind (arith, nat_tests) in
        let h = no_head (eqb x.block x.block) (is_used x.block xs) (apart x.block e) in
        absurd (let k = h.0 in cc)

pub apart_put : (file : ℕ) (new ps : List Place) → AreApart ps → AreApart new → ((b : ℕ) → is_used b ps ≡ true → is_used b new ≡ false) → AreApart (put_in file new ps)
apart_put file new [] ps-apart new-apart apart = new-apart
apart_put file new (p ∷ ps) ps-apart new-apart apart =
    elim (leb p.file file) as (λ (t : Bool). AreApart (cond t (p ∷ put_in file new ps) (new ++ p ∷ ps))) [
      | true ↦ (used_put p.block file new ps ∙ both_false (is_used p.block new) (is_used p.block ps) (apart p.block (here p ps)) ps-apart.0, apart_put file new ps ps-apart.1 new-apart (λ b u. apart b (later p b ps u)))
      | false ↦ apart_append new (p ∷ ps) new-apart ps-apart apart
    ]
  where
    here : (p : Place) (ps : List Place) → is_used p.block (p ∷ ps) ≡ true
    here p ps = let same : eqb p.block p.block ≡ true = grind (arith, nat_tests) in ap (λ t. t || is_used p.block ps) same

    later : (p : Place) (b : ℕ) (ps : List Place) → is_used b ps ≡ true → is_used b (p ∷ ps) ≡ true
    later p b ps u = ap (λ t. eqb p.block b || t) u ∙ or_true (eqb p.block b)
      where
        or_true : (t : Bool) → (t || true) ≡ true
        or_true true = refl
        or_true false = refl

pub unused_below : (file page block k b : ℕ) → b < block → is_used b (pages_on file page (range_with_len block k)) ≡ false
unused_below file page block zero b lt = refl
unused_below file page block (suc k) b lt = both_false (eqb block b) _ (grind (arith, nat_tests)) (unused_below file (page + 1) (block + 1) k b (omega arith))

pub apart_run : (file page block k : ℕ) → AreApart (pages_on file page (range_with_len block k))
apart_run file page block zero = tt
apart_run file page block (suc k) = (unused_below file (page + 1) (block + 1) k block (omega arith), apart_run file (page + 1) (block + 1) k)

pub within_put : (P : Place → Type 0) (file : ℕ) (new ps : List Place) → AllByRecursion P new → AllByRecursion P ps → AllByRecursion P (put_in file new ps)
within_put P file new [] n all = n
within_put P file new (p ∷ ps) n all =
    elim (leb p.file file) as (λ (t : Bool). AllByRecursion P (cond t (p ∷ put_in file new ps) (new ++ p ∷ ps))) [
      | true ↦ (all.0, within_put P file new ps n all.1)
      | false ↦ both_all new n
    ]
  where
    both_all : (xs : List Place) → AllByRecursion P xs → AllByRecursion P (xs ++ p ∷ ps)
    both_all [] h = all
    both_all (x ∷ xs) h = (h.0, both_all xs h.1)

-- ---- the order

goes_run : (file : ℕ) (p : Place) (bs : List ℕ) (rest : List Place) → p.file ≡ file → ((q : Place) → q.file ≡ file → Goes q rest) → Goes p (pages_on file (p.page + 1) bs ++ rest)
goes_run file p [] rest is last = last p is
goes_run file p (b ∷ bs) rest is last =
    let q : Place = record { file = file; page = p.page + 1; block = b } in
    (first p b is, goes_run file q bs rest refl last)
  where
    first : (p : Place) (b : ℕ) → p.file ≡ file → follows p (record { file = file; page = p.page + 1; block = b }) ≡ true
    first p b is = grind (arith, nat_tests)

-- the page that comes next in a file, after a place
abbrev next_after : ℕ → Place → ℕ
next_after file p = cond (eqb p.file file) (p.page + 1) 0

goes_new : (file : ℕ) (p : Place) (bs : List ℕ) (rest : List Place) → p.file ≤ file → Goes p rest → ((q : Place) → q.file ≡ file → Goes q rest) → Goes p (pages_on file (next_after file p) bs ++ rest)
goes_new file p [] rest le now last = now
goes_new file p (b ∷ bs) rest le now last =
    (elim (eqb p.file file) as (λ (t : Bool). eqb p.file file ≡ t → Goes p (pages_on file (cond t (p.page + 1) 0) (b ∷ bs) ++ rest)) [
      | true ↦ λ e. goes_run file p (b ∷ bs) rest (grind (arith, nat_tests)) last
      | false ↦ λ e. (start p b e le, goes_run file (record { file = file; page = 0; block = b }) bs rest refl last)
    ]) refl
  where
    start : (p : Place) (b : ℕ) → eqb p.file file ≡ false → p.file ≤ file → follows p (record { file = file; page = 0; block = b }) ≡ true
    start p b e le = grind (arith, nat_tests)

count_past : (file : ℕ) (q : Place) (qs : List Place) → Goes q qs → file < q.file → count_of file (q ∷ qs) ≡ 0
count_past file q [] goes lt = cond-false (eqb q.file file) _ _ (grind (arith, nat_tests))
count_past file q (r ∷ rs) goes lt = cond-false (eqb q.file file) (count_of file (r ∷ rs) + 1) (count_of file (r ∷ rs)) (grind (arith, nat_tests)) ∙ count_past file r rs goes.1 (rising q r goes.0 lt)
  where
    rising : (q r : Place) → follows q r ≡ true → file < q.file → file < r.file
    rising q r f lt = grind (arith, nat_tests)

next_moves : (file : ℕ) (p q : Place) (n : ℕ) → follows p q ≡ true → p.file ≤ file → q.file ≤ file → next_after file p + cond (eqb q.file file) (n + 1) n ≡ next_after file q + n
next_moves file p q n f p-le q-le = grind (arith, nat_tests)

starts_past : (file : ℕ) (p q r : Place) → follows p q ≡ true → p.file ≤ file → file < q.file → r.file ≡ file → follows r q ≡ true
starts_past file p q r f le lt is = grind (arith, nat_tests)

order_from : (file : ℕ) (p : Place) (ps : List Place) (bs : List ℕ) → Goes p ps → p.file ≤ file → Goes p (put_in file (pages_on file (next_after file p + count_of file ps) bs) ps)
order_from file p [] bs goes le =
    let n : next_after file p + 0 ≡ next_after file p = omega arith in
    rw n (subst (Goes p) (append-nil (pages_on file (next_after file p) bs)) (goes_new file p bs [] le tt (λ q is. tt)))
order_from file p (q ∷ qs) bs goes le =
    (elim (leb q.file file) as (λ (t : Bool). leb q.file file ≡ t → Goes p (cond t (q ∷ put_in file (pages_on file (next_after file p + count_of file (q ∷ qs)) bs) qs) (pages_on file (next_after file p + count_of file (q ∷ qs)) bs ++ q ∷ qs))) [
      | true ↦ λ e.
          let q-le : q.file ≤ file = grind (arith, nat_tests) in
          (goes.0, subst (λ n. Goes q (put_in file (pages_on file n bs) qs)) (sym (next_moves file p q (count_of file qs) goes.0 le q-le)) (order_from file q qs bs goes.1 q-le))
      | false ↦ λ e.
          let lt : file < q.file = grind (arith, nat_tests) in
          let n : next_after file p + count_of file (q ∷ qs) ≡ next_after file p = omega (arith, count_past file q qs goes.1 lt) in
          subst (λ m. Goes p (pages_on file m bs ++ q ∷ qs)) (sym n) (goes_new file p bs (q ∷ qs) le goes (λ r is. (starts_past file p q r goes.0 le lt is, goes.1)))
    ]) refl

begins : (file page : ℕ) (bs : List ℕ) (rest : List Place) → page ≡ 0 → AreInOrder rest → ((q : Place) → q.file ≡ file → Goes q rest) → AreInOrder (pages_on file page bs ++ rest)
begins file page [] rest is order last = order
begins file page (b ∷ bs) rest is order last = (is, goes_run file (place file page b) bs rest refl last)

pub order_put : (file : ℕ) (ps : List Place) (bs : List ℕ) → AreInOrder ps → AreInOrder (put_in file (pages_on file (count_of file ps) bs) ps)
order_put file [] bs order = subst AreInOrder (append-nil (pages_on file 0 bs)) (begins file 0 bs [] refl tt (λ q is. tt))
order_put file (p ∷ ps) bs order =
    (elim (leb p.file file) as (λ (t : Bool). leb p.file file ≡ t → AreInOrder (cond t (p ∷ put_in file (pages_on file (count_of file (p ∷ ps)) bs) ps) (pages_on file (count_of file (p ∷ ps)) bs ++ p ∷ ps))) [
      | true ↦ λ e.
          let le : p.file ≤ file = grind (arith, nat_tests) in
          (order.0, subst (λ n. Goes p (put_in file (pages_on file n bs) ps)) (first_count p (count_of file ps) order.0) (order_from file p ps bs order.1 le))
      | false ↦ λ e.
          let lt : file < p.file = grind (arith, nat_tests) in
          begins file (count_of file (p ∷ ps)) bs (p ∷ ps) (count_past file p ps order.1 lt) order (λ r is. (starts r p lt order.0 is, order.1))
    ]) refl
  where
    first_count : (p : Place) (n : ℕ) → p.page ≡ 0 → next_after file p + n ≡ cond (eqb p.file file) (n + 1) n
    first_count p n is = grind (arith, nat_tests)

    starts : (r p : Place) → file < p.file → p.page ≡ 0 → r.file ≡ file → follows r p ≡ true
    starts r p lt is same = grind (arith, nat_tests)

-- ---- distinct blocks are no more than there are

pub record Fewer (block : ℕ) (ps : List Place) : Type 0 where
  pub rest : List Place
  pub len : length ps ≤ length rest + 1
  pub apart : AreApart rest
  pub below : AllByRecursion (λ p. p.block < block) rest
  pub kept : (b : ℕ) → is_used b ps ≡ false → is_used b rest ≡ false

below_rest : (block : ℕ) (ps : List Place) → AllByRecursion (λ p. p.block < suc block) ps → is_used block ps ≡ false → AllByRecursion (λ p. p.block < block) ps
below_rest block [] below unused = tt
below_rest block (p ∷ ps) below unused =
    let h = none_of (eqb p.block block) (is_used block ps) unused in
    (less p.block block below.0 h.0, below_rest block ps below.1 h.1)
  where
    none_of : (a b : Bool) → (a || b) ≡ false → (a ≡ false) × (b ≡ false)
    none_of true b e = absurd cc
    none_of false b e = (refl, e)

    less : (n m : ℕ) → n < suc m → eqb n m ≡ false → n < m
    less n m lt e = grind (arith, nat_tests)

without_block : (block : ℕ) (ps : List Place) → AreApart ps → AllByRecursion (λ p. p.block < suc block) ps → Fewer block ps
without_block block [] apart below = record { rest = []; len = omega arith; apart = tt; below = tt; kept = λ b u. u }
without_block block (p ∷ ps) apart below =
    (elim (eqb p.block block) as (λ (t : Bool). eqb p.block block ≡ t → Fewer block (p ∷ ps)) [
      | true ↦ λ e.
          let is : p.block ≡ block = grind (arith, nat_tests) in
          record { rest = ps; len = omega arith; apart = apart.1; below = below_rest block ps below.1 (ap (λ b. is_used b ps) (sym is) ∙ apart.0); kept = λ b u. (none_of (eqb p.block b) (is_used b ps) u).1 }
      | false ↦ λ e.
          let o = without_block block ps apart.1 below.1 in
          record { rest = p ∷ o.rest; len = omega (arith, o.len); apart = (o.kept p.block apart.0, o.apart); below = (less p.block block below.0 e, o.below); kept = λ b u. let h = none_of (eqb p.block b) (is_used b ps) u in both_false (eqb p.block b) (is_used b o.rest) h.0 (o.kept b h.1) }
    ]) refl
  where
    none_of : (a b : Bool) → (a || b) ≡ false → (a ≡ false) × (b ≡ false)
    none_of true b e = absurd cc
    none_of false b e = (refl, e)

    less : (n m : ℕ) → n < suc m → eqb n m ≡ false → n < m
    less n m lt e = grind (arith, nat_tests)

pub no_more : (blocks : ℕ) (ps : List Place) → AreApart ps → AllByRecursion (λ p. p.block < blocks) ps → length ps ≤ blocks
no_more zero [] apart below = omega arith
no_more zero (p ∷ ps) apart below = absurd (omega (arith, below.0))
no_more (suc n) ps apart below =
    let o = without_block n ps apart below in
    omega (arith, o.len, no_more n o.rest o.apart o.below)

-- ---- lengths

pub length_run : (file page block k : ℕ) → length (pages_on file page (range_with_len block k)) ≡ k
length_run file page block zero = refl
length_run file page block (suc k) = ap suc (length_run file (page + 1) (block + 1) k)

pub length_put : (file : ℕ) (new ps : List Place) → length (put_in file new ps) ≡ length new + length ps
length_put file new [] = omega arith
length_put file new (p ∷ ps) =
    elim (leb p.file file) as (λ (t : Bool). length (cond t (p ∷ put_in file new ps) (new ++ p ∷ ps)) ≡ length new + suc (length ps)) [
      | true ↦ omega (arith, length_put file new ps)
      | false ↦ length-append new (p ∷ ps)
    ]

pub count_within : (file : ℕ) (ps : List Place) → count_of file ps ≤ length ps
count_within file [] = omega arith
count_within file (p ∷ ps) =
    elim (eqb p.file file) as (λ (t : Bool). cond t (count_of file ps + 1) (count_of file ps) ≤ suc (length ps)) [
      | true ↦ omega (arith, count_within file ps)
      | false ↦ omega (arith, count_within file ps)
    ]

run_within : (blocks file page block k : ℕ) → block + k ≤ blocks → AllByRecursion (λ p. p.block < blocks) (pages_on file page (range_with_len block k))
run_within blocks file page block zero le = tt
run_within blocks file page block (suc k) le = (omega arith, run_within blocks file (page + 1) (block + 1) k (omega arith))

-- blocks that no page has are not among those that pages have
run_apart : (file page block k : ℕ) (ps : List Place) → find (λ b. is_used b ps) (range_with_len block k) ≡ None → (b : ℕ) → is_used b ps ≡ true → is_used b (pages_on file page (range_with_len block k)) ≡ false
run_apart file page block zero ps none b used = refl
run_apart file page block (suc k) ps none b used =
    let h = not_here (is_used block ps) none in
    both_false (eqb block b) _ (other (eqb block b) refl h.0) (run_apart file (page + 1) (block + 1) k ps h.1 b used)
  where
    not_here : (t : Bool) → cond t (Some block) (find (λ b. is_used b ps) (range_with_len (block + 1) k)) ≡ None → (t ≡ false) × (find (λ b. is_used b ps) (range_with_len (block + 1) k) ≡ None)
    not_here true e = absurd cc
    not_here false e = (refl, e)

    other : (t : Bool) → eqb block b ≡ t → is_used block ps ≡ false → t ≡ false
    other false e unused = refl
    other true e unused =
        let is : block ≡ b = grind (arith, nat_tests) in
        let h : is_used block ps ≡ true = ap (λ c. is_used c ps) is ∙ used in
        absurd cc

none_from : (b file page block k : ℕ) (ps : List Place) → is_used b (pages_on file page (range_with_len block k)) ≡ false → owner_of b (pages_on file page (range_with_len block k)) ≡ None
none_from b file page block k ps unused = by_owner (owner_of b (pages_on file page (range_with_len block k))) (used_is b (pages_on file page (range_with_len block k)) ∙ unused)
  where
    by_owner : (o : Option (ℕ × ℕ)) → is_some o ≡ false → o ≡ None
    by_owner None e = refl
    by_owner (Some x) e = absurd cc

-- ---- an extent that is placed

abbrev pub after_place : Extent → List Place → List Place
after_place e ps = put_in e.file (pages_on e.file e.page (blocks_in e)) ps

pub place_len : (blocks : ℕ) (ps : List Place) (e : Extent) → IsSound (record { blocks = blocks; placed = ps }) → e.block + e.count ≤ blocks → first_used e ps ≡ None → e.count + length ps ≤ blocks
place_len blocks ps e sound within none =
    let new = pages_on e.file e.page (blocks_in e) in
    let apart = apart_put e.file new ps sound.apart (apart_run e.file e.page e.block e.count) (run_apart e.file e.page e.block e.count ps none) in
    let below = within_put (λ p. p.block < blocks) e.file new ps (run_within blocks e.file e.page e.block e.count within) sound.within in
    omega (arith, no_more blocks (put_in e.file new ps) apart below, length_put e.file new ps, length_run e.file e.page e.block e.count)

pub place_sound : (blocks : ℕ) (ps : List Place) (e : Extent) → IsSound (record { blocks = blocks; placed = ps }) → e.page ≡ count_of e.file ps → e.block + e.count ≤ blocks → first_used e ps ≡ None → IsSound (record { blocks = blocks; placed = after_place e ps })
place_sound blocks ps e sound next within none =
    let new = pages_on e.file e.page (blocks_in e) in
    let apart = apart_put e.file new ps sound.apart (apart_run e.file e.page e.block e.count) (run_apart e.file e.page e.block e.count ps none) in
    let below = within_put (λ p. p.block < blocks) e.file new ps (run_within blocks e.file e.page e.block e.count within) sound.within in
    record {
      blocks = sound.blocks;
      count = no_more blocks (put_in e.file new ps) apart below;
      order = subst (λ n. AreInOrder (put_in e.file (pages_on e.file n (blocks_in e)) ps)) (sym next) (order_put e.file ps (blocks_in e) sound.order);
      apart = apart;
      within = below;
    }

pub place_owners : (owners new_owners : List (Option (ℕ × ℕ))) (blocks : ℕ) (ps : List Place) (e : Extent) → TellsOwners owners blocks ps → first_used e ps ≡ None → length new_owners ≡ length owners → ((b : ℕ) → get_or new_owners b None ≡ or_else (owner_of b (pages_on e.file e.page (blocks_in e))) (get_or owners b None)) → TellsOwners new_owners blocks (after_place e ps)
place_owners owners new_owners blocks ps e tells none len each =
    record {
      len = len ∙ tells.len;
      each = λ b lt.
          each b ∙ ap (or_else (owner_of b (pages_on e.file e.page (blocks_in e)))) (tells.each b lt)
          ∙ sym (owner_put b e.file (pages_on e.file e.page (blocks_in e)) ps (λ used. none_from b e.file e.page e.block e.count ps (run_apart e.file e.page e.block e.count ps none b used)));
    }

-- ---- the loop

or_nothing : (o p : Option (ℕ × ℕ)) → or_else o p ≡ or_else (or_else o None) p
or_nothing None p = refl
or_nothing (Some x) p = refl

pub owners_push : (owners first : List (Option (ℕ × ℕ))) (file page block k : ℕ) → block + k < length owners → ((b : ℕ) → get_or owners b None ≡ or_else (owner_of b (pages_on file page (range_with_len block k))) (get_or first b None)) → (b : ℕ) → get_or (set owners (block + k) (Some (file, page + k))) b None ≡ or_else (owner_of b (pages_on file page (range_with_len block (k + 1)))) (get_or first b None)
owners_push owners first file page block k lt each b =
    let run = pages_on file page (range_with_len block k) in
    let more : owner_of b (pages_on file page (range_with_len block (k + 1))) ≡ or_else (owner_of b run) (cond (eqb (block + k) b) (Some (file, page + k)) None) = ap (owner_of b) (run_push file page block k) ∙ owner_push b run (place file (page + k) (block + k)) in
    rw more (by_test (eqb (block + k) b) refl)
  where
    by_test : (t : Bool) → eqb (block + k) b ≡ t → get_or (set owners (block + k) (Some (file, page + k))) b None ≡ or_else (or_else (owner_of b (pages_on file page (range_with_len block k))) (cond t (Some (file, page + k)) None)) (get_or first b None)
    by_test true e =
        let is : block + k ≡ b = grind (arith, nat_tests) in
        let none : owner_of b (pages_on file page (range_with_len block k)) ≡ None = no_owner_past file page block k b (omega arith) in
        let here : get_or (set owners (block + k) (Some (file, page + k))) b None ≡ Some (file, page + k) = subst (λ c. get_or (set owners (block + k) (Some (file, page + k))) c None ≡ Some (file, page + k)) is (get_or-set_same owners (block + k) (Some (file, page + k)) None lt) in
        rw none here
    by_test false e =
        let ne : b ≢ block + k = grind (arith, nat_tests) in
        get_or-set_other owners (block + k) b (Some (file, page + k)) None ne ∙ each b ∙ or_nothing (owner_of b (pages_on file page (range_with_len block k))) (get_or first b None)

abbrev pub places_of : ℕ → List Place → Places
places_of blocks placed = record { blocks = blocks; placed = placed }
