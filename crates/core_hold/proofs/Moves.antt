-- A file of another length: the blocks of the files that calls in flight hold besides stay where they are, as they are.
use Rattle.std.proofs.Common.{◌≡◌, ℕ, zero, suc, ◌+◌, ◌-◌, ◌<◌, Bool, true, false, List, [], ◌∷◌, ◌++◌, take, Option, Some, None, refl, sym, ap, ◌∙◌, ⊎_elim, arith}
use Rattle.std.specs.Prelude.{◌≢◌, nat_lt, not, is_some, if◌then◌else◌, ◌||◌}
use Rattle.std.specs.List.{Contains, filter, list_any, range_with_len}
use mathlib.Core.Path.{fun_ext}
use Rattle.std.proofs.lemmas.Bool.Decides.{nat_tests}
use Rattle.page_base.specs.Bytes.{Pages}
use Rattle.index_lists.specs.Words.{count}
use Rattle.index_lists.proofs.Counts.{same_or_not, count-nil, count-here, count-there, count-append}
use Rattle.core_quick.specs.Words.{is_at, any_to, is_in}
use Rattle.core_quick.specs.State.{Shape, Block, File, Names, Places}
use Rattle.core_quick.specs.Contents.{flashes}
use Rattle.core_quick.specs.Placed.{HavePlaces}
use Rattle.core_quick.specs.Resizing.{is_placed, free_blocks, blocks_between, renewed, renewed_in}
use Rattle.core_quick.proofs.Spans.{listed-none}
use Rattle.core_quick.proofs.Named.{in_cases, in_none}

-- ---- counts of parts of a list

count_take : (b n : ℕ) (xs : List ℕ) → count b xs ≡ 0 → count b (take n xs) ≡ 0
count_take b zero xs e = count-nil b
count_take b (suc n) [] e = count-nil b
count_take b (suc n) (x ∷ xs) e = ⊎_elim
    (λ (s : b ≡ x). let k : count b (b ∷ xs) ≡ 0 = ap (λ (y : ℕ). count b (y ∷ xs)) s ∙ e in absurd (omega (arith, count-here b xs)))
    (λ (d : b ≢ x). count-there b x (take n xs) d ∙ count_take b n xs (sym (count-there b x xs d) ∙ e)) (same_or_not b x)

count_filter : (b : ℕ) (test : ℕ → Bool) (xs : List ℕ) → test b ≡ false → count b (filter test xs) ≡ 0
count_filter b test [] e = count-nil b
count_filter b test (x ∷ xs) e = ⊎_elim (at (count_filter b test xs e)) (elsewhere (test x) (count_filter b test xs e)) (same_or_not b x)
  where
    out : (t : Bool) → t ≡ false → count b (filter test xs) ≡ 0 → count b (if t then x ∷ filter test xs else filter test xs) ≡ 0
    out true f ih = absurd (cc)
    out false f ih = ih

    at : count b (filter test xs) ≡ 0 → b ≡ x → count b (filter test (x ∷ xs)) ≡ 0
    at ih s = out (test x) (ap test (sym s) ∙ e) ih

    elsewhere : (t : Bool) → count b (filter test xs) ≡ 0 → b ≢ x → count b (if t then x ∷ filter test xs else filter test xs) ≡ 0
    elsewhere true ih d = count-there b x (filter test xs) d ∙ ih
    elsewhere false ih d = ih

-- ---- a block with a place is not free

any_some : (n : ℕ) (test : ℕ → Bool) (i : ℕ) → i < n → test i ≡ true → any_to n test ≡ true
unfolding any_to
any_some zero test i l e = absurd (omega arith)
any_some (suc n) test i l e = ⊎_elim (at (any_to n test) (test n)) (λ (d : i ≢ n). below (any_to n test) (test n) (any_some n test i (omega arith) e)) (same_or_not i n)
  where
    at : (t u : Bool) → i ≡ n → (any_to n test || test n) ≡ true
    at t u s = let k : test n ≡ true = ap test (sym s) ∙ e in right (any_to n test) (test n) k
      where
        right : (t u : Bool) → u ≡ true → (t || u) ≡ true
        right true u e = refl
        right false u e = e

    below : (t u : Bool) → t ≡ true → (t || u) ≡ true
    below true u e = refl
    below false u e = absurd (cc)

list_some : {A : Type 0} (test : A → Bool) (xs : List A) (x : A) → Contains xs x → test x ≡ true → list_any test xs ≡ true
list_some test [] x h e = absurd (in_none x h)
list_some {A} test (y ∷ xs) x h e = ⊎_elim (λ (s : y ≡ x). left (test y) (list_any test xs) (ap test s ∙ e)) (λ (r : Contains xs x). right (test y) (list_any test xs) (list_some test xs x r e)) (in_cases y x xs h)
  where
    left : (t u : Bool) → t ≡ true → (t || u) ≡ true
    left true u e = refl
    left false u e = absurd (cc)

    right : (t u : Bool) → u ≡ true → (t || u) ≡ true
    right true u e = refl
    right false u e = e

at_itself : (o : Option ℕ) (b : ℕ) → o ≡ Some b → is_at o b ≡ true
at_itself None b e = absurd (cc)
at_itself (Some x) b e = let k : x ≡ b = cc in grind (arith, nat_tests)

less : (p n : ℕ) → nat_lt p n ≡ true → p < n
less p n e = grind (arith, nat_tests)

placed_is : (shape : Shape) (names : Names) (places : Places) → HavePlaces shape names places → (id p b : ℕ) → places id p ≡ Some b → is_placed names.files places b ≡ true
placed_is shape names places h id p b e =
    let o = h.owned id p b e in
    let f = o.0 in
    let at : places f.id p ≡ Some b = ap (λ (k : ℕ). places k p) o.2 ∙ e in
    list_some (λ (f : File). any_to (Pages f.len) (λ p. is_at (places f.id p) b)) names.files f o.1
    (any_some (Pages f.len) (λ p. is_at (places f.id p) b) p (less p (Pages f.len) (sym (h.exact f o.1 p) ∙ ap is_some at)) (at_itself (places f.id p) b at))

pub not_fresh : (shape : Shape) (names : Names) (places : Places) → HavePlaces shape names places → (n id p b : ℕ) → places id p ≡ Some b → count b (take n (free_blocks shape names.files places)) ≡ 0
not_fresh shape names places h n id p b e =
    count_take b n (free_blocks shape names.files places)
    (count_filter b (λ k. not (is_placed names.files places k)) (range_with_len 0 shape.blocks) (ap not (placed_is shape names places h id p b e)))

-- a block of another file is not one of this file's
pub not_gone : (shape : Shape) (names : Names) (places : Places) → HavePlaces shape names places → (id from to other p b : ℕ) → places other p ≡ Some b → other ≢ id → count b (blocks_between places id to from) ≡ 0
not_gone shape names places h id from to other p b e d = listed-none b (from - to) (λ j. places id (to + j)) (λ j l f. d (h.apart other id p (to + j) b e f).0)

pub out_of_both : (b : ℕ) (xs ys : List ℕ) → count b xs ≡ 0 → count b ys ≡ 0 → is_in b (xs ++ ys) ≡ false
out_of_both b xs ys e f = let k : count b (xs ++ ys) ≡ 0 = omega (arith, count-append b xs ys) in ap (λ (n : ℕ). nat_lt 0 n) k

pub stays_so : (changed : List ℕ) (blocks : ℕ → Block) (b : ℕ) → is_in b changed ≡ false → renewed_in changed blocks b ≡ blocks b
stays_so changed blocks b e = ap (λ (t : Bool). if t then renewed (blocks b) else blocks b) e

-- a block of another file stays
pub other_stays : (shape : Shape) (names : Names) (places : Places) (blocks : ℕ → Block) → HavePlaces shape names places → (id from to n other p b : ℕ) → places other p ≡ Some b → other ≢ id →
    renewed_in (blocks_between places id to from ++ take n (free_blocks shape names.files places)) blocks b ≡ blocks b
other_stays shape names places blocks h id from to n other p b e d =
    stays_so _ blocks b (out_of_both b (blocks_between places id to from) (take n (free_blocks shape names.files places)) (not_gone shape names places h id from to other p b e d) (not_fresh shape names places h n other p b e))

-- no flash page changes
pub renewed_flashes : (changed : List ℕ) (blocks : ℕ → Block) → flashes (renewed_in changed blocks) ≡ flashes blocks
renewed_flashes changed blocks = fun_ext (λ b. go b (is_in b changed))
  where
    go : (b : ℕ) (t : Bool) → (if t then renewed (blocks b) else blocks b).flash ≡ (blocks b).flash
    go b true = refl
    go b false = refl
