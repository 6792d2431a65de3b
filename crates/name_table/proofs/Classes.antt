-- Entries by rising hash: where those of a hash stand, and what an edit does to each hash's entries.
use Rattle.std.proofs.Common.{◌≡◌, ◌≢◌, ℕ, zero, suc, ◌+◌, ◌-◌, ◌<◌, ◌≤◌, List, [], ◌∷◌, ◌++◌, length, take, drop, get_or, Bool, true, false, cond, eqb, ltb, ap, ◌∙◌, sym, refl, subst, arith, inl, inr, add-one, ◌||◌, append_assoc}
use Rattle.std.specs.Prelude.{insert, remove}
use Rattle.std.specs.List.{list_any}
use Rattle.std.proofs.lemmas.Bool.{cond-true, cond-false, cases_lt}
use Rattle.std.proofs.lemmas.Bool.Decides.{nat_tests}
use Rattle.std.proofs.lemmas.List.{append-nil, drop_more, drop_all, take_more}
use Rattle.std.proofs.lemmas.List.Elements.{filter-append}
use Rattle.name_table.specs.declared.index.Hashed.{Hashed}
use Rattle.name_table.specs.Hashes.{entry, of_hash, without_id, before, RisesFrom}

-- ---- the search for a hash

-- an entry of a lower hash stands before the place of a hash
pub is_before : (hash low : ℕ) (es : List Hashed) (i : ℕ) (d : Hashed) → RisesFrom low es → i < length es → (get_or es i d).hash < hash → i + 1 ≤ before hash es
is_before hash low [] i d rise within lt = absurd (omega arith)
is_before hash low (e ∷ es) zero d rise within lt = rw (cond-true (ltb e.hash hash) (before hash es + 1) 0 (grind (arith, nat_tests))) (omega arith)
is_before hash low (e ∷ es) (suc i) d rise within lt =
    let higher = rises e.hash hash es i d rise.1 (omega arith) lt in
    rw (cond-true (ltb e.hash hash) (before hash es + 1) 0 (grind (arith, nat_tests))) (omega (arith, is_before hash e.hash es i d rise.1 (omega arith) lt))
  where
    rises : (a hash : ℕ) (es : List Hashed) (i : ℕ) (d : Hashed) → RisesFrom a es → i < length es → (get_or es i d).hash < hash → a < hash
    rises a hash [] i d rise within lt = absurd (omega arith)
    rises a hash (e ∷ es) zero d rise within lt = omega arith
    rises a hash (e ∷ es) (suc i) d rise within lt = omega (arith, rises e.hash hash es i d rise.1 (omega arith) lt)

-- nor is there one before it of no lower hash
pub not_before : (hash : ℕ) (es : List Hashed) (i : ℕ) (d : Hashed) → i < length es → hash ≤ (get_or es i d).hash → before hash es ≤ i
not_before hash [] i d within le = absurd (omega arith)
not_before hash (e ∷ es) zero d within le = rw (cond-false (ltb e.hash hash) (before hash es + 1) 0 (grind (arith, nat_tests))) (omega arith)
not_before hash (e ∷ es) (suc i) d within le =
    let rest : before hash es ≤ i = not_before hash es i d (omega arith) le in
    split (ltb e.hash hash) (before hash es) i rest
  where
    split : (b : Bool) (n i : ℕ) → n ≤ i → cond b (n + 1) 0 ≤ suc i
    split true n i le = omega arith
    split false n i le = omega arith

pub before_within : (hash : ℕ) (es : List Hashed) → before hash es ≤ length es
before_within hash [] = omega arith
before_within hash (e ∷ es) = split (ltb e.hash hash) (before hash es) (length es) (before_within hash es)
  where
    split : (b : Bool) (n i : ℕ) → n ≤ i → cond b (n + 1) 0 ≤ suc i
    split true n i le = omega arith
    split false n i le = omega arith

-- a higher hash has as many before it, or more
pub before_more : (a b : ℕ) (es : List Hashed) → a ≤ b → before a es ≤ before b es
before_more a b [] le = omega arith
before_more a b (e ∷ es) le = split (ltb e.hash a) (ltb e.hash b) (before a es) (before b es) (before_more a b es le) (grind (arith, nat_tests))
  where
    split : (x y : Bool) (n m : ℕ) → n ≤ m → (x ≡ true → y ≡ true) → cond x (n + 1) 0 ≤ cond y (m + 1) 0
    split true true n m le h = omega arith
    split true false n m le h = absurd (let k = h refl in cc)
    split false y n m le h = omega arith

-- ---- steps over the first entry

step_in : (hash : ℕ) (e : Hashed) (es : List Hashed) → e.hash < hash → before hash (e ∷ es) ≡ suc (before hash es)
step_in hash e es lt = cond-true (ltb e.hash hash) (before hash es + 1) 0 (grind (arith, nat_tests)) ∙ add-one (before hash es)

stop_at : (hash : ℕ) (e : Hashed) (es : List Hashed) → hash ≤ e.hash → before hash (e ∷ es) ≡ 0
stop_at hash e es le = cond-false (ltb e.hash hash) (before hash es + 1) 0 (grind (arith, nat_tests))

keeps : (hash : ℕ) (e : Hashed) (es : List Hashed) → e.hash ≡ hash → of_hash hash (e ∷ es) ≡ e ∷ of_hash hash es
keeps hash e es is = cond-true (eqb e.hash hash) (e ∷ of_hash hash es) (of_hash hash es) (grind (arith, nat_tests))

skips : (hash : ℕ) (e : Hashed) (es : List Hashed) → e.hash ≢ hash → of_hash hash (e ∷ es) ≡ of_hash hash es
skips hash e es ne = cond-false (eqb e.hash hash) (e ∷ of_hash hash es) (of_hash hash es) (grind (arith, nat_tests))

-- no entry has a hash below the lowest
none_of : (low hash : ℕ) (es : List Hashed) → RisesFrom low es → hash < low → of_hash hash es ≡ []
none_of low hash [] rise lt = refl
none_of low hash (e ∷ es) rise lt = skips hash e es (λ is. omega (arith, rise.0)) ∙ none_of e.hash hash es rise.1 (omega (arith, rise.0))

-- ---- the entries of a hash follow one another

front : (low hash : ℕ) (es : List Hashed) → RisesFrom low es → hash ≤ low → take (before (hash + 1) es) es ≡ of_hash hash es
front low hash [] rise le = refl
front low hash (e ∷ es) rise le =
    elim (cases_lt hash e.hash) [
      | inl lt ↦ ap (λ n. take n (e ∷ es)) (stop_at (hash + 1) e es (omega arith)) ∙ sym (skips hash e es (λ is. omega arith) ∙ none_of e.hash hash es rise.1 lt)
      | inr le' ↦
          let is : e.hash ≡ hash = omega (arith, rise.0) in
          ap (λ n. take n (e ∷ es)) (step_in (hash + 1) e es (omega arith)) ∙ ap (λ xs. e ∷ xs) (front e.hash hash es rise.1 (omega arith)) ∙ sym (keeps hash e es is)
    ]

pub part_is : (low hash : ℕ) (es : List Hashed) → RisesFrom low es → take (before (hash + 1) es - before hash es) (drop (before hash es) es) ≡ of_hash hash es
part_is low hash [] rise = refl
part_is low hash (e ∷ es) rise =
    elim (cases_lt e.hash hash) [
      | inl lt ↦
          let from = step_in hash e es lt in
          let to = step_in (hash + 1) e es (omega arith) in
          let n : before (hash + 1) (e ∷ es) - before hash (e ∷ es) ≡ before (hash + 1) es - before hash es = omega (arith, from, to) in
          ap (λ m. take m (drop (before hash (e ∷ es)) (e ∷ es))) n ∙ ap (λ m. take (before (hash + 1) es - before hash es) (drop m (e ∷ es))) from ∙ part_is e.hash hash es rise.1 ∙ sym (skips hash e es (λ is. omega arith))
      | inr le ↦
          let from = stop_at hash e es le in
          let n : before (hash + 1) (e ∷ es) - before hash (e ∷ es) ≡ before (hash + 1) (e ∷ es) = omega (arith, from) in
          ap (λ m. take m (drop (before hash (e ∷ es)) (e ∷ es))) n ∙ ap (λ m. take (before (hash + 1) (e ∷ es)) (drop m (e ∷ es))) from ∙ front hash hash (e ∷ es) (le, rise.1) (omega arith)
    ]

-- ---- one entry more

pub put_is : (hash id low : ℕ) (es : List Hashed) → RisesFrom low es → (q : ℕ) → of_hash q (insert es (before (hash + 1) es) (entry hash id)) ≡ of_hash q (es ++ entry hash id ∷ [])
put_is hash id low [] rise q = refl
put_is hash id low (e ∷ es) rise q =
    elim (cases_lt hash e.hash) [
      | inl lt ↦ ap (λ n. of_hash q (insert (e ∷ es) n (entry hash id))) (stop_at (hash + 1) e es (omega arith)) ∙ at_front lt
      | inr le ↦ ap (λ n. of_hash q (insert (e ∷ es) n (entry hash id))) (step_in (hash + 1) e es (omega arith)) ∙ ap (λ xs. cond (eqb e.hash q) (e ∷ xs) xs) (put_is hash id e.hash es rise.1 q)
    ]
  where
    at_front : hash < e.hash → of_hash q (entry hash id ∷ e ∷ es) ≡ of_hash q ((e ∷ es) ++ entry hash id ∷ [])
    at_front lt = by_test (eqb hash q) refl ∙ sym (filter-append (λ e. eqb e.hash q) (e ∷ es) (entry hash id ∷ []))
      where
        by_test : (b : Bool) → eqb hash q ≡ b → cond b (entry hash id ∷ of_hash q (e ∷ es)) (of_hash q (e ∷ es)) ≡ of_hash q (e ∷ es) ++ cond b (entry hash id ∷ []) []
        by_test true is =
            let none : of_hash q (e ∷ es) ≡ [] = none_of e.hash q (e ∷ es) (omega arith, rise.1) (let same : hash ≡ q = grind (arith, nat_tests) in omega arith) in
            ap (λ xs. entry hash id ∷ xs) none ∙ sym (ap (λ xs. xs ++ entry hash id ∷ []) none)
        by_test false is = sym (append-nil (of_hash q (e ∷ es)))

pub rises_put : (hash id low : ℕ) (es : List Hashed) → RisesFrom low es → low ≤ hash → RisesFrom low (insert es (before (hash + 1) es) (entry hash id))
rises_put hash id low [] rise le = (le, tt)
rises_put hash id low (e ∷ es) rise le =
    elim (cases_lt hash e.hash) [
      | inl lt ↦ subst (λ n. RisesFrom low (insert (e ∷ es) n (entry hash id))) (sym (stop_at (hash + 1) e es (omega arith))) (le, (omega arith, rise.1))
      | inr le' ↦ subst (λ n. RisesFrom low (insert (e ∷ es) n (entry hash id))) (sym (step_in (hash + 1) e es (omega arith))) (rise.0, rises_put hash id e.hash es rise.1 le')
    ]

-- ---- one entry fewer

rises_less : (a b : ℕ) (es : List Hashed) → a ≤ b → RisesFrom b es → RisesFrom a es
rises_less a b [] le rise = tt
rises_less a b (e ∷ es) le rise = (omega (arith, rise.0), rise.1)

pub rises_remove : (low : ℕ) (es : List Hashed) (i : ℕ) → RisesFrom low es → RisesFrom low (remove es i)
rises_remove low [] zero rise = tt
rises_remove low [] (suc i) rise = tt
rises_remove low (e ∷ es) zero rise = rises_less low e.hash es rise.0 rise.1
rises_remove low (e ∷ es) (suc i) rise = (rise.0, rises_remove e.hash es i rise.1)

-- each hash's entries, where one of them goes
pub record Gone (hash k : ℕ) (es rest : List Hashed) : Type 0 where
  pub own : of_hash hash rest ≡ remove (of_hash hash es) k
  pub others : (q : ℕ) → q ≢ hash → of_hash q rest ≡ of_hash q es

gone_front : (low hash : ℕ) (es : List Hashed) (k : ℕ) → RisesFrom low es → hash ≤ low → k < length (of_hash hash es) → Gone hash k es (remove es k)
gone_front low hash [] k rise le within = absurd (omega arith)
gone_front low hash (e ∷ es) zero rise le within =
    elim (cases_lt hash e.hash) [
      | inl lt ↦ absurd (omega (arith, ap length (skips hash e es (λ is. omega arith) ∙ none_of e.hash hash es rise.1 lt)))
      | inr le' ↦ first e es (omega (arith, rise.0))
    ]
  where
    first : (e : Hashed) (es : List Hashed) → e.hash ≡ hash → Gone hash 0 (e ∷ es) es
    first e es is =
        record {
          own = sym (ap (λ xs. remove xs 0) (keeps hash e es is));
          others = λ q ne. sym (skips q e es (λ eq. ne (sym eq ∙ is)));
        }
gone_front low hash (e ∷ es) (suc k) rise le within =
    elim (cases_lt hash e.hash) [
      | inl lt ↦ absurd (omega (arith, ap length (skips hash e es (λ is. omega arith) ∙ none_of e.hash hash es rise.1 lt)))
      | inr le' ↦
          let is : e.hash ≡ hash = omega (arith, rise.0) in
          later e es k is (gone_front e.hash hash es k rise.1 (omega arith) (omega (arith, ap length (keeps hash e es is))))
    ]
  where
    later : (e : Hashed) (es : List Hashed) (k : ℕ) → e.hash ≡ hash → Gone hash k es (remove es k) → Gone hash (suc k) (e ∷ es) (e ∷ remove es k)
    later e es k is rest =
        record {
          own = keeps hash e (remove es k) is ∙ ap (λ xs. e ∷ xs) rest.own ∙ sym (ap (λ xs. remove xs (suc k)) (keeps hash e es is));
          others = λ q ne. ap (λ xs. cond (eqb e.hash q) (e ∷ xs) xs) (rest.others q ne);
        }

pub gone_at : (low hash : ℕ) (es : List Hashed) (k : ℕ) → RisesFrom low es → k < length (of_hash hash es) → Gone hash k es (remove es (before hash es + k))
gone_at low hash [] k rise within = absurd (omega arith)
gone_at low hash (e ∷ es) k rise within =
    elim (cases_lt e.hash hash) [
      | inl lt ↦
          let at : before hash (e ∷ es) + k ≡ suc (before hash es + k) = omega (arith, step_in hash e es lt) in
          subst (λ i. Gone hash k (e ∷ es) (remove (e ∷ es) i)) (sym at) (lower e es (remove es (before hash es + k)) (λ is. omega arith) (gone_at e.hash hash es k rise.1 (omega (arith, ap length (skips hash e es (λ is. omega arith))))))
      | inr le ↦
          let at : before hash (e ∷ es) + k ≡ k = omega (arith, stop_at hash e es le) in
          subst (λ i. Gone hash k (e ∷ es) (remove (e ∷ es) i)) (sym at) (gone_front hash hash (e ∷ es) k (le, rise.1) (omega arith) within)
    ]
  where
    lower : (e : Hashed) (es rest : List Hashed) → e.hash ≢ hash → Gone hash k es rest → Gone hash k (e ∷ es) (e ∷ rest)
    lower e es rest ne gone =
        record {
          own = skips hash e rest ne ∙ gone.own ∙ sym (ap (λ xs. remove xs k) (skips hash e es ne));
          others = λ q differs. ap (λ xs. cond (eqb e.hash q) (e ∷ xs) xs) (gone.others q differs);
        }

-- an entry of a hash stands behind those of lower ones
pub part_within : (low hash : ℕ) (es : List Hashed) (k : ℕ) → RisesFrom low es → k < length (of_hash hash es) → before hash es + k < length es
part_within low hash [] k rise within = absurd (omega arith)
part_within low hash (e ∷ es) k rise within =
    elim (cases_lt e.hash hash) [
      | inl lt ↦ omega (arith, step_in hash e es lt, part_within e.hash hash es k rise.1 (omega (arith, ap length (skips hash e es (λ is. omega arith)))))
      | inr le ↦ omega (arith, stop_at hash e es le, fewer (e ∷ es))
    ]
  where
    fewer : (xs : List Hashed) → length (of_hash hash xs) ≤ length xs
    fewer [] = omega arith
    fewer (x ∷ xs) = split (eqb x.hash hash) (of_hash hash xs) (length xs) (fewer xs)
      where
        split : (b : Bool) (ys : List Hashed) (n : ℕ) → length ys ≤ n → length (cond b (x ∷ ys) ys) ≤ suc n
        split true ys n le = omega arith
        split false ys n le = omega arith

-- ---- the search for an id

-- the entries without the first one of an id, as far as a search for it has come
pub place_here : (id : ℕ) (es : List Hashed) (i : ℕ) (d : Hashed) → i < length es → (get_or es i d).id ≡ id → take i es ++ without_id id (drop i es) ≡ without_id id es → remove es i ≡ without_id id es
place_here id es i d within is before-is =
    let gone : without_id id (drop i es) ≡ drop (i + 1) es = ap (without_id id) (drop_more es i d within) ∙ cond-true (eqb (get_or es i d).id id) (drop (i + 1) es) (get_or es i d ∷ without_id id (drop (i + 1) es)) (grind (arith, nat_tests)) in
    ap (λ n. take i es ++ drop n es) (sym (add-one i)) ∙ sym (ap (λ xs. take i es ++ xs) gone) ∙ before-is

pub place_later : (id : ℕ) (es : List Hashed) (i : ℕ) (d : Hashed) → i < length es → (get_or es i d).id ≢ id → take i es ++ without_id id (drop i es) ≡ without_id id es → take (i + 1) es ++ without_id id (drop (i + 1) es) ≡ without_id id es
place_later id es i d within ne before-is =
    let e = get_or es i d in
    let kept : without_id id (drop i es) ≡ e ∷ without_id id (drop (i + 1) es) = ap (without_id id) (drop_more es i d within) ∙ cond-false (eqb e.id id) (drop (i + 1) es) (e ∷ without_id id (drop (i + 1) es)) (grind (arith, nat_tests)) in
    ap (λ xs. xs ++ without_id id (drop (i + 1) es)) (take_more es i d within) ∙ append_assoc (take i es) (e ∷ []) (without_id id (drop (i + 1) es)) ∙ sym (ap (λ xs. take i es ++ xs) kept) ∙ before-is

pub any_later : (id : ℕ) (es : List Hashed) (i : ℕ) (d : Hashed) → i < length es → (get_or es i d).id ≢ id → list_any (λ x. eqb x.id id) (drop i es) ≡ true → list_any (λ x. eqb x.id id) (drop (i + 1) es) ≡ true
any_later id es i d within ne any =
    by_test (eqb (get_or es i d).id id) (list_any (λ x. eqb x.id id) (drop (i + 1) es)) (grind (arith, nat_tests)) (sym (ap (list_any (λ x. eqb x.id id)) (drop_more es i d within)) ∙ any)
  where
    by_test : (a b : Bool) → a ≡ false → (a || b) ≡ true → b ≡ true
    by_test true b e h = absurd cc
    by_test false b e h = h

pub none_left : (id : ℕ) (es : List Hashed) (i : ℕ) → length es ≤ i → list_any (λ x. eqb x.id id) (drop i es) ≡ true → ⊥
none_left id es i le any =
    let none : list_any (λ x. eqb x.id id) (drop i es) ≡ false = ap (list_any (λ x. eqb x.id id)) (drop_all i es le) in
    absurd cc
