-- A file's pages from one on go.
use Rattle.std.proofs.Common.{◌≡◌, ℕ, zero, suc, ◌+◌, ◌-◌, ◌<◌, ◌≤◌, List, [], ◌∷◌, ◌++◌, length, take, drop, set, get_or, Bool, true, false, cond, eqb, leb, Option, Some, None, ap, ◌∙◌, sym, refl, subst, arith, add-one, ◌||◌, take-append-drop, get_or-set_same, get_or-set_other}
use Rattle.std.specs.Prelude.{is_some, is_none, not, filter}
use Rattle.std.specs.List.{AllByRecursion}
use Rattle.std.proofs.lemmas.Bool.{cond-true}
use Rattle.std.proofs.lemmas.Bool.Decides.{nat_tests}
use Rattle.std.proofs.lemmas.List.{drop-drop, take_more}
use Rattle.extent_map.specs.declared.places.Place.{Place}
use Rattle.extent_map.specs.Places.{owner_of, is_used, is_from, follows, Goes, AreInOrder, AreApart, IsSound}
use Rattle.extent_map.specs.Owners.{is_before, before_of, end_of, or_else, TellsOwners, HaveOwners}
use Rattle.extent_map.proofs.Runs.{used_is, owner_append, used_append, places_of}

abbrev Owner : Type 0
Owner = Option (ℕ × ℕ)

abbrev pub rest_of : ℕ → ℕ → List Place → List Place
rest_of file page ps = filter (λ p. not (is_from file page p)) ps

-- ---- tests of one place

stays : (file page : ℕ) (p : Place) → is_before file page p ≡ true → (is_from file page p ≡ false) × (leb p.file file ≡ true)
stays file page p b = (grind (arith, nat_tests), grind (arith, nat_tests))

goes_too : (file page : ℕ) (p : Place) → is_before file page p ≡ false → leb p.file file ≡ true → is_from file page p ≡ true
goes_too file page p b le = grind (arith, nat_tests)

is_later : (file page : ℕ) (p : Place) → file < p.file → (is_from file page p ≡ false) × (is_before file page p ≡ false) × (leb p.file file ≡ false)
is_later file page p lt = (grind (arith, nat_tests), grind (arith, nat_tests), grind (arith, nat_tests))

above : (file : ℕ) (p : Place) → leb p.file file ≡ false → file < p.file
above file p e = grind (arith, nat_tests)

rising : (file : ℕ) (p q : Place) → follows p q ≡ true → file < p.file → file < q.file
rising file p q f lt = grind (arith, nat_tests)

not_before : (file page : ℕ) (p q : Place) → follows p q ≡ true → is_before file page p ≡ false → is_before file page q ≡ false
not_before file page p q f b = grind (arith, nat_tests)

keeps : (file page : ℕ) (p : Place) (ps : List Place) → is_from file page p ≡ false → rest_of file page (p ∷ ps) ≡ p ∷ rest_of file page ps
keeps file page p ps e = ap (λ t. cond (not t) (p ∷ rest_of file page ps) (rest_of file page ps)) e

drops : (file page : ℕ) (p : Place) (ps : List Place) → is_from file page p ≡ true → rest_of file page (p ∷ ps) ≡ rest_of file page ps
drops file page p ps e = ap (λ t. cond (not t) (p ∷ rest_of file page ps) (rest_of file page ps)) e

-- ---- they stand in a row

all_later : (file page : ℕ) (p : Place) (ps : List Place) → Goes p ps → file < p.file → rest_of file page (p ∷ ps) ≡ p ∷ ps
all_later file page p [] goes lt = keeps file page p [] (is_later file page p lt).0
all_later file page p (q ∷ qs) goes lt = keeps file page p (q ∷ qs) (is_later file page p lt).0 ∙ ap (λ xs. p ∷ xs) (all_later file page q qs goes.1 (rising file p q goes.0 lt))

tail_is : (file page : ℕ) (p : Place) (ps : List Place) → Goes p ps → is_before file page p ≡ false → drop (end_of file (p ∷ ps)) (p ∷ ps) ≡ rest_of file page (p ∷ ps)
tail_is file page p [] goes b =
    (elim (leb p.file file) as (λ (t : Bool). leb p.file file ≡ t → drop (cond t (0 + 1) 0) (p ∷ []) ≡ rest_of file page (p ∷ [])) [
      | true ↦ λ e. sym (drops file page p [] (goes_too file page p b e))
      | false ↦ λ e. sym (all_later file page p [] goes (above file p e))
    ]) refl
tail_is file page p (q ∷ qs) goes b =
    (elim (leb p.file file) as (λ (t : Bool). leb p.file file ≡ t → drop (cond t (end_of file (q ∷ qs) + 1) 0) (p ∷ q ∷ qs) ≡ rest_of file page (p ∷ q ∷ qs)) [
      | true ↦ λ e. ap (λ n. drop n (p ∷ q ∷ qs)) (add-one (end_of file (q ∷ qs))) ∙ tail_is file page q qs goes.1 (not_before file page p q goes.0 b) ∙ sym (drops file page p (q ∷ qs) (goes_too file page p b e))
      | false ↦ λ e. sym (all_later file page p (q ∷ qs) goes (above file p e))
    ]) refl

rest_here : (file page : ℕ) (p : Place) (ps : List Place) → Goes p ps → take (before_of file page ps) ps ++ drop (end_of file ps) ps ≡ rest_of file page ps → take (before_of file page (p ∷ ps)) (p ∷ ps) ++ drop (end_of file (p ∷ ps)) (p ∷ ps) ≡ rest_of file page (p ∷ ps)
rest_here file page p ps goes rest =
    (elim (is_before file page p) as (λ (t : Bool). is_before file page p ≡ t → take (cond t (before_of file page ps + 1) 0) (p ∷ ps) ++ drop (end_of file (p ∷ ps)) (p ∷ ps) ≡ rest_of file page (p ∷ ps)) [
      | true ↦ λ e.
          let s = stays file page p e in
          let ends : end_of file (p ∷ ps) ≡ suc (end_of file ps) = cond-true (leb p.file file) (end_of file ps + 1) 0 s.1 ∙ add-one (end_of file ps) in
          ap (λ n. take n (p ∷ ps) ++ drop (end_of file (p ∷ ps)) (p ∷ ps)) (add-one (before_of file page ps)) ∙ ap (λ n. (p ∷ take (before_of file page ps) ps) ++ drop n (p ∷ ps)) ends ∙ ap (λ xs. p ∷ xs) rest ∙ sym (keeps file page p ps s.0)
      | false ↦ λ e. tail_is file page p ps goes e
    ]) refl

rest_from : (file page : ℕ) (p : Place) (ps : List Place) → Goes p ps → take (before_of file page (p ∷ ps)) (p ∷ ps) ++ drop (end_of file (p ∷ ps)) (p ∷ ps) ≡ rest_of file page (p ∷ ps)
rest_from file page p [] goes = rest_here file page p [] goes refl
rest_from file page p (q ∷ qs) goes = rest_here file page p (q ∷ qs) goes (rest_from file page q qs goes.1)

pub rest_is : (file page : ℕ) (ps : List Place) → AreInOrder ps → take (before_of file page ps) ps ++ drop (end_of file ps) ps ≡ rest_of file page ps
rest_is file page [] order = refl
rest_is file page (p ∷ ps) order = rest_from file page p ps order.1

pub from_to : (file page : ℕ) (ps : List Place) → before_of file page ps ≤ end_of file ps
from_to file page [] = omega arith
from_to file page (p ∷ ps) = split (is_before file page p) (leb p.file file) (before_of file page ps) (end_of file ps) (from_to file page ps) (λ e. (stays file page p e).1)
  where
    split : (a b : Bool) (n m : ℕ) → n ≤ m → (a ≡ true → b ≡ true) → cond a (n + 1) 0 ≤ cond b (m + 1) 0
    split true true n m le h = omega arith
    split true false n m le h = absurd (let k = h refl in cc)
    split false b n m le h = omega arith

-- ---- the order

-- behind places that go, the next one that stays is of a later file
order_past : (file page : ℕ) (p q : Place) (qs : List Place) → p.file ≤ file → Goes q qs → q.file ≡ file → page ≤ q.page → Goes p (rest_of file page qs)
order_past file page p q [] le goes is from = tt
order_past file page p q (r ∷ rs) le goes is from =
    (elim (is_from file page r) as (λ (t : Bool). is_from file page r ≡ t → Goes p (cond (not t) (r ∷ rest_of file page rs) (rest_of file page rs))) [
      | true ↦ λ e. let h = from_is r e in order_past file page p r rs le goes.1 h.0 h.1
      | false ↦ λ e.
          let h = next_file q r goes.0 is from e in
          (starts p r le h.0 h.1, later r rs goes.1 h.0)
    ]) refl
  where
    from_is : (r : Place) → is_from file page r ≡ true → (r.file ≡ file) × (page ≤ r.page)
    from_is r e = (grind (arith, nat_tests), grind (arith, nat_tests))

    next_file : (q r : Place) → follows q r ≡ true → q.file ≡ file → page ≤ q.page → is_from file page r ≡ false → (file < r.file) × (r.page ≡ 0)
    next_file q r f is from e = (grind (arith, nat_tests), grind (arith, nat_tests))

    starts : (p r : Place) → p.file ≤ file → file < r.file → r.page ≡ 0 → follows p r ≡ true
    starts p r le lt is = grind (arith, nat_tests)

    later : (r : Place) (rs : List Place) → Goes r rs → file < r.file → Goes r (rest_of file page rs)
    later r [] goes lt = tt
    later r (s ∷ ss) goes lt = subst (Goes r) (sym (all_later file page s ss goes.1 (rising file r s goes.0 lt))) goes

order_rest : (file page : ℕ) (p : Place) (ps : List Place) → Goes p ps → is_from file page p ≡ false → Goes p (rest_of file page ps)
order_rest file page p [] goes stay = tt
order_rest file page p (q ∷ qs) goes stay =
    (elim (is_from file page q) as (λ (t : Bool). is_from file page q ≡ t → Goes p (cond (not t) (q ∷ rest_of file page qs) (rest_of file page qs))) [
      | true ↦ λ e. let h = from_is p q goes.0 e in order_past file page p q qs h.0 goes.1 h.1 h.2
      | false ↦ λ e. (goes.0, order_rest file page q qs goes.1 e)
    ]) refl
  where
    from_is : (p q : Place) → follows p q ≡ true → is_from file page q ≡ true → (p.file ≤ file) × (q.file ≡ file) × (page ≤ q.page)
    from_is p q f e = (grind (arith, nat_tests), grind (arith, nat_tests), grind (arith, nat_tests))

first_past : (file page : ℕ) (q : Place) (qs : List Place) → Goes q qs → q.file ≡ file → page ≤ q.page → AreInOrder (rest_of file page qs)
first_past file page q [] goes is from = tt
first_past file page q (r ∷ rs) goes is from =
    (elim (is_from file page r) as (λ (t : Bool). is_from file page r ≡ t → AreInOrder (cond (not t) (r ∷ rest_of file page rs) (rest_of file page rs))) [
      | true ↦ λ e. let h = from_is r e in first_past file page r rs goes.1 h.0 h.1
      | false ↦ λ e. (next_file q r goes.0 is from e, order_rest file page r rs goes.1 e)
    ]) refl
  where
    from_is : (r : Place) → is_from file page r ≡ true → (r.file ≡ file) × (page ≤ r.page)
    from_is r e = (grind (arith, nat_tests), grind (arith, nat_tests))

    next_file : (q r : Place) → follows q r ≡ true → q.file ≡ file → page ≤ q.page → is_from file page r ≡ false → r.page ≡ 0
    next_file q r f is from e = grind (arith, nat_tests)

order_released : (file page : ℕ) (ps : List Place) → AreInOrder ps → AreInOrder (rest_of file page ps)
order_released file page [] order = tt
order_released file page (p ∷ ps) order =
    (elim (is_from file page p) as (λ (t : Bool). is_from file page p ≡ t → AreInOrder (cond (not t) (p ∷ rest_of file page ps) (rest_of file page ps))) [
      | true ↦ λ e. let h = from_is p e in first_past file page p ps order.1 h.0 h.1
      | false ↦ λ e. (order.0, order_rest file page p ps order.1 e)
    ]) refl
  where
    from_is : (r : Place) → is_from file page r ≡ true → (r.file ≡ file) × (page ≤ r.page)
    from_is r e = (grind (arith, nat_tests), grind (arith, nat_tests))

-- ---- what any part of the places keeps

unused_rest : (f : Place → Bool) (b : ℕ) (ps : List Place) → is_used b ps ≡ false → is_used b (filter f ps) ≡ false
unused_rest f b [] u = refl
unused_rest f b (p ∷ ps) u =
    let h = none_of (eqb p.block b) (is_used b ps) u in
    elim (f p) as (λ (t : Bool). is_used b (cond t (p ∷ filter f ps) (filter f ps)) ≡ false) [
      | true ↦ ap (λ t. t || is_used b (filter f ps)) h.0 ∙ unused_rest f b ps h.1
      | false ↦ unused_rest f b ps h.1
    ]
  where
    none_of : (x y : Bool) → (x || y) ≡ false → (x ≡ false) × (y ≡ false)
    none_of true y e = absurd cc
    none_of false y e = (refl, e)

apart_rest : (f : Place → Bool) (ps : List Place) → AreApart ps → AreApart (filter f ps)
apart_rest f [] apart = tt
apart_rest f (p ∷ ps) apart =
    elim (f p) as (λ (t : Bool). AreApart (cond t (p ∷ filter f ps) (filter f ps))) [
      | true ↦ (unused_rest f p.block ps apart.0, apart_rest f ps apart.1)
      | false ↦ apart_rest f ps apart.1
    ]

within_rest : (P : Place → Type 0) (f : Place → Bool) (ps : List Place) → AllByRecursion P ps → AllByRecursion P (filter f ps)
within_rest P f [] all = tt
within_rest P f (p ∷ ps) all =
    elim (f p) as (λ (t : Bool). AllByRecursion P (cond t (p ∷ filter f ps) (filter f ps))) [
      | true ↦ (all.0, within_rest P f ps all.1)
      | false ↦ within_rest P f ps all.1
    ]

fewer : (f : Place → Bool) (ps : List Place) → length (filter f ps) ≤ length ps
fewer f [] = omega arith
fewer f (p ∷ ps) =
    elim (f p) as (λ (t : Bool). length (cond t (p ∷ filter f ps) (filter f ps)) ≤ suc (length ps)) [
      | true ↦ omega (arith, fewer f ps)
      | false ↦ omega (arith, fewer f ps)
    ]

pub released_sound : (blocks file page : ℕ) (ps : List Place) → IsSound (places_of blocks ps) → IsSound (places_of blocks (rest_of file page ps))
released_sound blocks file page ps sound =
    record {
      blocks = sound.blocks;
      count = omega (arith, fewer (λ p. not (is_from file page p)) ps, sound.count);
      order = order_released file page ps sound.order;
      apart = apart_rest (λ p. not (is_from file page p)) ps sound.apart;
      within = within_rest (λ p. p.block < blocks) (λ p. not (is_from file page p)) ps sound.within;
    }

-- ---- the owners

apart_left : (b : ℕ) (xs ys : List Place) → AreApart (xs ++ ys) → is_used b ys ≡ true → is_used b xs ≡ false
apart_left b [] ys apart used = refl
apart_left b (x ∷ xs) ys apart used = by_test (eqb x.block b) refl (apart_left b xs ys apart.1 used)
  where
    or_right : (t : Bool) → (t || true) ≡ true
    or_right true = refl
    or_right false = refl

    by_test : (t : Bool) → eqb x.block b ≡ t → is_used b xs ≡ false → (t || is_used b xs) ≡ false
    by_test true e rest =
        let is : x.block ≡ b = grind (arith, nat_tests) in
        let there : is_used b (xs ++ ys) ≡ true = used_append b xs ys ∙ ap (λ t. is_used b xs || t) used ∙ or_right (is_used b xs) in
        let none : is_used b (xs ++ ys) ≡ false = ap (λ k. is_used k (xs ++ ys)) (sym is) ∙ apart.0 in
        absurd cc
    by_test false e rest = rest

apart_right : (b : ℕ) (xs ys : List Place) → AreApart (xs ++ ys) → is_used b xs ≡ true → is_used b ys ≡ false
apart_right b xs ys apart used = by_test (is_used b ys) refl
  where
    by_test : (t : Bool) → is_used b ys ≡ t → t ≡ false
    by_test false e = refl
    by_test true e = let none = apart_left b xs ys apart e in absurd cc

apart_tail : (xs ys : List Place) → AreApart (xs ++ ys) → AreApart ys
apart_tail [] ys apart = apart
apart_tail (x ∷ xs) ys apart = apart_tail xs ys apart.1

none_of_unused : (b : ℕ) (ps : List Place) → is_used b ps ≡ false → owner_of b ps ≡ None
none_of_unused b ps u = by_owner (owner_of b ps) (used_is b ps ∙ u)
  where
    by_owner : (o : Owner) → is_some o ≡ false → o ≡ None
    by_owner None e = refl
    by_owner (Some x) e = absurd cc

-- without the places in the middle
owner_without : (b : ℕ) (xs gone ys : List Place) → AreApart (xs ++ (gone ++ ys)) → owner_of b (xs ++ ys) ≡ cond (is_used b gone) None (owner_of b (xs ++ (gone ++ ys)))
owner_without b xs gone ys apart = by_test (is_used b gone) refl
  where
    or_true : (t : Bool) → (true || t) ≡ true
    or_true t = refl

    by_test : (t : Bool) → is_used b gone ≡ t → owner_of b (xs ++ ys) ≡ cond t None (owner_of b (xs ++ (gone ++ ys)))
    by_test true e =
        let later : is_used b (gone ++ ys) ≡ true = used_append b gone ys ∙ ap (λ t. t || is_used b ys) e in
        let none-left = none_of_unused b xs (apart_left b xs (gone ++ ys) apart later) in
        let none-right = none_of_unused b ys (apart_right b gone ys (apart_tail xs (gone ++ ys) apart) e) in
        owner_append b xs ys ∙ ap (λ o. or_else o (owner_of b ys)) none-left ∙ none-right
    by_test false e =
        let none = none_of_unused b gone e in
        owner_append b xs ys ∙ sym (owner_append b xs (gone ++ ys) ∙ ap (or_else (owner_of b xs)) (owner_append b gone ys ∙ ap (λ o. or_else o (owner_of b ys)) none))

parts : (from to : ℕ) (ps : List Place) → from ≤ to → take from ps ++ (take (to - from) (drop from ps) ++ drop to ps) ≡ ps
parts from to ps le =
    let e : from + (to - from) ≡ to = omega arith in
    ap (λ xs. take from ps ++ (take (to - from) (drop from ps) ++ xs)) (sym (drop-drop (to - from) from ps ∙ ap (λ n. drop n ps) e)) ∙ ap (λ xs. take from ps ++ xs) (take-append-drop (to - from) (drop from ps)) ∙ take-append-drop from ps

-- the places that go, and what they are among all
pub released_owners : (blocks file page from to : ℕ) (os new_os : List Owner) (ps : List Place) → IsSound (places_of blocks ps) → TellsOwners os blocks ps → from ≡ before_of file page ps → to ≡ end_of file ps → length new_os ≡ length os
    → ((b : ℕ) → get_or new_os b None ≡ cond (is_used b (take (to - from) (drop from ps))) None (get_or os b None)) → TellsOwners new_os blocks (rest_of file page ps)
released_owners blocks file page from to os new_os ps sound tells from-is to-is len each =
    let le : from ≤ to = omega (arith, from_to file page ps) in
    let gone = take (to - from) (drop from ps) in
    let all : take from ps ++ (gone ++ drop to ps) ≡ ps = parts from to ps le in
    let kept : take from ps ++ drop to ps ≡ rest_of file page ps = ap (λ n. take n ps ++ drop to ps) from-is ∙ ap (λ n. take (before_of file page ps) ps ++ drop n ps) to-is ∙ rest_is file page ps sound.order in
    record {
      len = len ∙ tells.len;
      each = λ b lt.
          each b ∙ ap (cond (is_used b gone) None) (tells.each b lt ∙ ap (owner_of b) (sym all))
          ∙ sym (owner_without b (take from ps) gone (drop to ps) (subst AreApart (sym all) sound.apart)) ∙ ap (owner_of b) kept;
    }

all_take : (P : Place → Type 0) (n : ℕ) (ps : List Place) → AllByRecursion P ps → AllByRecursion P (take n ps)
all_take P zero ps all = tt
all_take P (suc n) [] all = tt
all_take P (suc n) (p ∷ ps) all = (all.0, all_take P n ps all.1)

all_drop : (P : Place → Type 0) (n : ℕ) (ps : List Place) → AllByRecursion P ps → AllByRecursion P (drop n ps)
all_drop P zero ps all = all
all_drop P (suc n) [] all = tt
all_drop P (suc n) (p ∷ ps) all = all_drop P n ps all.1

pub part_within : (bound from n : ℕ) (ps : List Place) → AllByRecursion (λ p. p.block < bound) ps → AllByRecursion (λ p. p.block < bound) (take n (drop from ps))
part_within bound from n ps all = all_take (λ p. p.block < bound) n (drop from ps) (all_drop (λ p. p.block < bound) from ps all)

-- every block before the lowest one given up, and before the one that was known, has an owner still
pub released_have : (lowest low : ℕ) (os new_os : List Owner) (gone : List Place) → HaveOwners lowest os → low ≤ lowest → ((b : ℕ) → b < low → is_used b gone ≡ false)
    → ((b : ℕ) → get_or new_os b None ≡ cond (is_used b gone) None (get_or os b None)) → HaveOwners low new_os
released_have lowest low os new_os gone have le below each =
    λ b lt. ap is_none (each b ∙ ap (λ t. cond t None (get_or os b None)) (below b lt)) ∙ have b (omega arith)

-- ---- the loop

pub all_at : (P : Place → Type 0) (ps : List Place) (i : ℕ) (d : Place) → AllByRecursion P ps → i < length ps → P (get_or ps i d)
all_at P [] i d all lt = absurd (omega arith)
all_at P (p ∷ ps) zero d all lt = all.0
all_at P (p ∷ ps) (suc i) d all lt = all_at P ps i d all.1 (omega arith)

or_false : (t : Bool) → (t || false) ≡ t
or_false true = refl
or_false false = refl

used_more : (b : ℕ) (ps : List Place) (i : ℕ) (d : Place) → i < length ps → is_used b (take (i + 1) ps) ≡ (is_used b (take i ps) || eqb (get_or ps i d).block b)
used_more b ps i d lt = ap (is_used b) (take_more ps i d lt) ∙ used_append b (take i ps) (get_or ps i d ∷ []) ∙ ap (λ t. is_used b (take i ps) || t) (or_false (eqb (get_or ps i d).block b))

pub give_up_step : (start os : List Owner) (ps : List Place) (i : ℕ) (d : Place) → i < length ps → (get_or ps i d).block < length os → ((b : ℕ) → get_or os b None ≡ cond (is_used b (take i ps)) None (get_or start b None))
    → (b : ℕ) → get_or (set os (get_or ps i d).block None) b None ≡ cond (is_used b (take (i + 1) ps)) None (get_or start b None)
give_up_step start os ps i d lt within before b =
    let n = (get_or ps i d).block in
    by_test n (eqb n b) refl within ∙ sym (ap (λ t. cond t None (get_or start b None)) (used_more b ps i d lt))
  where
    or_true : (t : Bool) → (t || true) ≡ true
    or_true true = refl
    or_true false = refl

    by_test : (n : ℕ) (t : Bool) → eqb n b ≡ t → n < length os → get_or (set os n None) b None ≡ cond (is_used b (take i ps) || t) None (get_or start b None)
    by_test n true e inside =
        let is : n ≡ b = grind (arith, nat_tests) in
        subst (λ k. get_or (set os n None) k None ≡ None) is (get_or-set_same os n None None inside) ∙ sym (ap (λ t. cond t None (get_or start b None)) (or_true (is_used b (take i ps))))
    by_test n false e inside =
        get_or-set_other os n b None None (λ is. apart n e is) ∙ before b ∙ sym (ap (λ t. cond t None (get_or start b None)) (or_false (is_used b (take i ps))))
      where
        apart : (n : ℕ) → eqb n b ≡ false → b ≡ n → ⊥
        apart n e is = grind (arith, nat_tests)

pub below_step : (ps : List Place) (i low new_low : ℕ) (d : Place) → i < length ps → new_low ≤ low → new_low ≤ (get_or ps i d).block → ((b : ℕ) → b < low → is_used b (take i ps) ≡ false) → (b : ℕ) → b < new_low → is_used b (take (i + 1) ps) ≡ false
below_step ps i low new_low d lt le at before b less =
    used_more b ps i d lt ∙ both (is_used b (take i ps)) (eqb (get_or ps i d).block b) (before b (omega arith)) (other (get_or ps i d).block (omega arith))
  where
    both : (x y : Bool) → x ≡ false → y ≡ false → (x || y) ≡ false
    both x y p q = grind arith

    other : (n : ℕ) → b < n → eqb n b ≡ false
    other n less = grind (arith, nat_tests)
