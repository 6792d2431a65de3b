-- The free blocks: each stands once, is below the number of blocks and has no place, and there are enough where all pages fit.
use Rattle.std.proofs.Common.{◌≡◌, ℕ, zero, suc, ◌+◌, ◌<◌, ◌≤◌, Bool, true, false, List, [], ◌∷◌, length, take, Option, Some, None, refl, ap, ◌∙◌, ⊎_elim, arith}
use Rattle.std.specs.Prelude.{◌≢◌, ◌==◌, ◌||◌, nat_lt, not, is_some, if◌then◌else◌, sum_by}
use Rattle.std.specs.List.{filter, slice_get, range_with_len}
use Rattle.std.proofs.lemmas.Bool.Decides.{nat_tests}
use Rattle.std.proofs.lemmas.List.FromFn.{length-range_with_len}
use Rattle.std.proofs.lemmas.List.Filters.{length-filter_both}
use Rattle.std.proofs.lemmas.List.Sums.{sum_by-cons}
use Rattle.page_base.specs.Bytes.{Pages}
use Rattle.index_lists.specs.Words.{one_if, count}
use Rattle.index_lists.proofs.Counts.{same_or_not, count-nil, count-here, count-there, count-tail}
use Rattle.core_hold.specs.Words.{is_at, any_to}
use Rattle.core_hold.specs.State.{Shape, File, Names, Places}
use Rattle.core_hold.specs.Resizing.{is_placed, free_blocks}

-- ---- numbers in a row stand once

none_below : (a n b : ℕ) → b < a → count b (range_with_len a n) ≡ 0
none_below a zero b l = count-nil b
none_below a (suc n) b l = count-there b a (range_with_len (a + 1) n) (omega arith) ∙ none_below (a + 1) n b (omega arith)

once : (a n b : ℕ) → count b (range_with_len a n) ≤ 1
once a zero b = let z = count-nil b in omega arith
once a (suc n) b = ⊎_elim
    (λ (s : b ≡ a).
    let z = none_below (a + 1) n b (omega arith) in
    let k : count b (b ∷ range_with_len (a + 1) n) ≡ 1 = omega (arith, count-here b (range_with_len (a + 1) n)) in
    let e = ap (λ (x : ℕ). count b (x ∷ range_with_len (a + 1) n)) s in
    omega arith)
    (λ (d : b ≢ a). let k = once (a + 1) n b in let e = count-there b a (range_with_len (a + 1) n) d in omega arith) (same_or_not b a)

none_above : (a n b : ℕ) → a + n ≤ b → count b (range_with_len a n) ≡ 0
none_above a zero b l = count-nil b
none_above a (suc n) b l = count-there b a (range_with_len (a + 1) n) (omega arith) ∙ none_above (a + 1) n b (omega arith)

-- ---- parts of a list

part_filter : (test : ℕ → Bool) (xs : List ℕ) (b : ℕ) → count b (filter test xs) ≤ count b xs
part_filter test [] b = omega arith
part_filter test (x ∷ xs) b = go (test x) (part_filter test xs b)
  where
    go : (t : Bool) → count b (filter test xs) ≤ count b xs → count b (if t then x ∷ filter test xs else filter test xs) ≤ count b (x ∷ xs)
    go false ih = let k = count-tail b x xs in omega arith
    go true ih = ⊎_elim
        (λ (s : b ≡ x).
        let p : count b (b ∷ filter test xs) ≤ count b (b ∷ xs) = omega (arith, count-here b xs, count-here b (filter test xs)) in
        let e = ap (λ (y : ℕ). count b (y ∷ filter test xs)) s in
        let f = ap (λ (y : ℕ). count b (y ∷ xs)) s in
        omega arith)
        (λ (d : b ≢ x). let e = count-there b x xs d in let f = count-there b x (filter test xs) d in omega arith) (same_or_not b x)

part_take : (n : ℕ) (xs : List ℕ) (b : ℕ) → count b (take n xs) ≤ count b xs
part_take zero xs b = let z = count-nil b in omega arith
part_take (suc n) [] b = omega arith
part_take (suc n) (x ∷ xs) b = ⊎_elim
    (λ (s : b ≡ x).
    let k = part_take n xs b in
    let p : count b (b ∷ take n xs) ≤ count b (b ∷ xs) = omega (arith, count-here b xs, count-here b (take n xs)) in
    let e = ap (λ (y : ℕ). count b (y ∷ take n xs)) s in
    let f = ap (λ (y : ℕ). count b (y ∷ xs)) s in
    omega arith)
    (λ (d : b ≢ x). let k = part_take n xs b in let e = count-there b x xs d in let f = count-there b x (take n xs) d in omega arith) (same_or_not b x)

pub listed_there : (xs : List ℕ) (k b : ℕ) → slice_get xs k ≡ Some b → 0 < count b xs
listed_there [] k b e = absurd (cc)
listed_there (x ∷ xs) zero b e = let s : x ≡ b = cc in let g = ap (λ (y : ℕ). count b (y ∷ xs)) s in omega (arith, count-here b xs)
listed_there (x ∷ xs) (suc k) b e = let l = listed_there xs k b e in omega (arith, count-tail b x xs)

not_twice : (x : ℕ) (xs : List ℕ) (j b : ℕ) → count b (x ∷ xs) ≤ 1 → x ≡ b → slice_get xs j ≡ Some b → ⊥
not_twice x xs j b l s f = let k = listed_there xs j b f in let g = ap (λ (y : ℕ). count b (y ∷ xs)) s in omega (arith, count-here b xs)

-- what is listed once stands at one place
pub one_place : (xs : List ℕ) (i j b : ℕ) → count b xs ≤ 1 → slice_get xs i ≡ Some b → slice_get xs j ≡ Some b → i ≡ j
one_place [] i j b l e f = absurd (cc)
one_place (x ∷ xs) zero zero b l e f = refl
one_place (x ∷ xs) zero (suc j) b l e f = absurd (let s : x ≡ b = cc in not_twice x xs j b l s f)
one_place (x ∷ xs) (suc i) zero b l e f = absurd (let s : x ≡ b = cc in not_twice x xs i b l s e)
one_place (x ∷ xs) (suc i) (suc j) b l e f = let k = one_place xs i j b (omega (arith, count-tail b x xs)) e f in ap suc k

-- ---- how many there are

either : (t u : ℕ → Bool) (xs : List ℕ) → length (filter (λ b. t b || u b) xs) ≤ length (filter t xs) + length (filter u xs)
either t u [] = omega arith
either t u (x ∷ xs) = go (t x) (u x) (either t u xs)
  where
    go : (p q : Bool) → length (filter (λ b. t b || u b) xs) ≤ length (filter t xs) + length (filter u xs) →
        length (if p || q then x ∷ filter (λ b. t b || u b) xs else filter (λ b. t b || u b) xs) ≤ length (if p then x ∷ filter t xs else filter t xs) + length (if q then x ∷ filter u xs else filter u xs)
    go true true ih = omega arith
    go true false ih = omega arith
    go false true ih = omega arith
    go false false ih = omega arith

none_of : (xs : List ℕ) → length (filter (λ b. false) xs) ≡ 0
none_of [] = refl
none_of (x ∷ xs) = none_of xs

at_one : (o : Option ℕ) (a n : ℕ) → length (filter (λ b. is_at o b) (range_with_len a n)) ≤ 1
unfolding count
at_one None a n = let k = none_of (range_with_len a n) in omega arith
at_one (Some i) a n = let k = counts (range_with_len a n) in let l = once a n i in omega arith
  where
    counts : (xs : List ℕ) → length (filter (λ b. i == b) xs) ≡ count i xs
    counts [] = refl
    counts (x ∷ xs) = go (i == x) (counts xs)
      where
        go : (t : Bool) → length (filter (λ b. i == b) xs) ≡ count i xs → length (if t then x ∷ filter (λ b. i == b) xs else filter (λ b. i == b) xs) ≡ one_if t + count i xs
        go true ih = omega arith
        go false ih = omega arith

row_most : (row : ℕ → Option ℕ) (n a m : ℕ) → length (filter (λ b. any_to n (λ p. is_at (row p) b)) (range_with_len a m)) ≤ n
unfolding any_to
row_most row zero a m = let k = none_of (range_with_len a m) in omega arith
row_most row (suc n) a m =
    let k = row_most row n a m in
    let l = at_one (row n) a m in
    let e = either (λ b. any_to n (λ p. is_at (row p) b)) (λ b. is_at (row n) b) (range_with_len a m) in
    omega arith

placed_most : (files : List File) (places : Places) (a m : ℕ) → length (filter (λ b. is_placed files places b) (range_with_len a m)) ≤ sum_by (λ (f : File). Pages f.len) files
placed_most [] places a m = let k = none_of (range_with_len a m) in omega arith
placed_most (f ∷ files) places a m =
    let k = placed_most files places a m in
    let l = row_most (places f.id) (Pages f.len) a m in
    let e = either (λ b. any_to (Pages f.len) (λ p. is_at (places f.id p) b)) (λ b. is_placed files places b) (range_with_len a m) in
    let s = sum_by-cons (λ (f : File). Pages f.len) f files in
    omega arith

-- as many blocks are free as pages are left
pub free_enough : (shape : Shape) (names : Names) (places : Places) → shape.blocks ≤ sum_by (λ (f : File). Pages f.len) names.files + length (free_blocks shape names.files places)
free_enough shape names places =
    let a = placed_most names.files places 0 shape.blocks in
    let b = length-filter_both (λ b. is_placed names.files places b) (λ b. not (is_placed names.files places b)) (λ b. refl) (range_with_len 0 shape.blocks) in
    let l = length-range_with_len 0 shape.blocks in
    omega arith

pub free_once : (shape : Shape) (names : Names) (places : Places) (n b : ℕ) → count b (take n (free_blocks shape names.files places)) ≤ 1
free_once shape names places n b =
    let a = part_take n (free_blocks shape names.files places) b in
    let c = part_filter (λ b. not (is_placed names.files places b)) (range_with_len 0 shape.blocks) b in
    let o = once 0 shape.blocks b in
    omega arith

pub free_low : (shape : Shape) (names : Names) (places : Places) (n b : ℕ) → 0 < count b (take n (free_blocks shape names.files places)) → b < shape.blocks
free_low shape names places n b h = go (nat_lt b shape.blocks) refl
  where
    go : (t : Bool) → nat_lt b shape.blocks ≡ t → b < shape.blocks
    go true e = grind (arith, nat_tests)
    go false e =
        let out : shape.blocks ≤ b = grind (arith, nat_tests) in
        let a = part_take n (free_blocks shape names.files places) b in
        let c = part_filter (λ b. not (is_placed names.files places b)) (range_with_len 0 shape.blocks) b in
        let z = none_above 0 shape.blocks b (omega arith) in
        absurd (omega arith)

-- a list has an element at each place within it
pub has_at : (xs : List ℕ) (k : ℕ) → k < length xs → is_some (slice_get xs k) ≡ true
has_at [] k l = absurd (omega arith)
has_at (x ∷ xs) zero l = refl
has_at (x ∷ xs) (suc k) l = has_at xs k (omega arith)
