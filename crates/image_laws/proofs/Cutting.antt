-- Bytes that are cut into pages, and pages that are joined.
use Rattle.std.proofs.Common.{◌≡◌, ℕ, zero, suc, ◌+◌, ◌*◌, ◌<◌, ◌≤◌, List, [], ◌∷◌, ◌++◌, length, take, drop, map, get_or, ap, ◌∙◌, sym, refl, arith, append_assoc, length-drop}
use Rattle.std.specs.List.{flat_map, range_with_len, AllByRecursion}
use Rattle.std.proofs.lemmas.List.{length-map, take_all, drop-drop}
use Rattle.std.proofs.lemmas.List.FromFn.{get_or-map-range_with_len}
use Rattle.image_format.specs.Numbers.{part}
use Rattle.image_format.specs.Tails.{data_page}
use Rattle.image_format.specs.Tables.{pages_from}
use Rattle.image_format.proofs.Areas.{part_more, part_length, length_range}
use Rattle.image_laws.specs.Pages.{bytes_of}

flat_range : (bytes : List ℕ) (a n : ℕ) → flat_map (data_page bytes) (range_with_len a n) ≡ part bytes (4096 * a) (4096 * n)
flat_range xs a zero = refl
flat_range xs a (suc n) =
    let more : 4096 + 4096 * n ≡ 4096 * suc n = omega arith in
    let next : 4096 * (a + 1) ≡ 4096 * a + 4096 = omega arith in
    ap (λ ys. data_page xs a ++ ys) (flat_range xs (a + 1) n) ∙ ap (λ k. data_page xs a ++ part xs k (4096 * n)) next ∙ sym (part_more xs (4096 * a) 4096 (4096 * n)) ∙ ap (part xs (4096 * a)) more

flat_id : (f : ℕ → List ℕ) (xs : List ℕ) → flat_map (λ (page : List ℕ). page) (map f xs) ≡ flat_map f xs
flat_id f [] = refl
flat_id f (x ∷ xs) = ap (λ ys. f x ++ ys) (flat_id f xs)

-- the first pages of some bytes, joined
pub front_joined : (xs : List ℕ) (n : ℕ) → bytes_of (pages_from xs n) ≡ take (4096 * n) xs
front_joined xs n = flat_id (data_page xs) (range_with_len 0 n) ∙ flat_range xs 0 n

pub pages_joined : (xs : List ℕ) (n : ℕ) → length xs ≡ 4096 * n → bytes_of (pages_from xs n) ≡ xs
pages_joined xs n len = front_joined xs n ∙ take_all (4096 * n) xs (omega (arith, len))

pub bytes_of-append : (xs ys : List (List ℕ)) → bytes_of (xs ++ ys) ≡ bytes_of xs ++ bytes_of ys
bytes_of-append [] ys = refl
bytes_of-append (x ∷ xs) ys = ap (λ b. x ++ b) (bytes_of-append xs ys) ∙ sym (append_assoc x (bytes_of xs) (bytes_of ys))

pub pages_whole : (xs : List ℕ) (n : ℕ) → length xs ≡ 4096 * n → AllByRecursion (λ (page : List ℕ). length page ≡ 4096) (pages_from xs n)
pages_whole xs n len = each 0 n (omega arith)
  where
    each : (a k : ℕ) → a + k ≤ n → AllByRecursion (λ (page : List ℕ). length page ≡ 4096) (map (data_page xs) (range_with_len a k))
    each a zero le = tt
    each a (suc k) le = (part_length xs (4096 * a) 4096 (omega (arith, len, le)), each (a + 1) k (omega (arith, le)))

pub pages_count : (xs : List ℕ) (n : ℕ) → length (pages_from xs n) ≡ n
pages_count xs n = length-map (range_with_len 0 n) (data_page xs) ∙ length_range 0 n

pub block_is : (xs : List ℕ) (n b : ℕ) → b < n → get_or (pages_from xs n) b [] ≡ data_page xs b
block_is xs n b lt = let e : 0 + b ≡ b = omega arith in get_or-map-range_with_len (data_page xs) 0 n b b [] lt e

-- pages of a range of numbers that are the same
pub same_pages : (f g : ℕ → List ℕ) (a n : ℕ) → ((k : ℕ) → k < a + n → f k ≡ g k) → map f (range_with_len a n) ≡ map g (range_with_len a n)
same_pages f g a zero same = refl
same_pages f g a (suc n) same =
    ap (λ x. x ∷ map f (range_with_len (a + 1) n)) (same a (omega arith)) ∙ ap (λ xs. g a ∷ xs) (same_pages f g (a + 1) n (λ k lt. same k (omega (arith, lt))))

-- what is left behind four parts
pub behind : (xs : List ℕ) (r e b : ℕ) → drop (4096 * b) (drop (4096 * e) (drop (4096 * r) (drop 4096 xs))) ≡ drop (4096 * (1 + r + e + b)) xs
behind xs r e b =
    let one : 4096 + 4096 * r ≡ 4096 * (1 + r) = omega arith in
    let two : 4096 * (1 + r) + 4096 * e ≡ 4096 * (1 + r + e) = omega arith in
    let all : 4096 * (1 + r + e) + 4096 * b ≡ 4096 * (1 + r + e + b) = omega arith in
    ap (λ ys. drop (4096 * b) (drop (4096 * e) ys)) (drop-drop (4096 * r) 4096 xs ∙ ap (λ n. drop n xs) one)
    ∙ ap (drop (4096 * b)) (drop-drop (4096 * e) (4096 * (1 + r)) xs ∙ ap (λ n. drop n xs) two)
    ∙ drop-drop (4096 * b) (4096 * (1 + r + e)) xs ∙ ap (λ n. drop n xs) all

pub behind_length : (xs : List ℕ) (r e b n : ℕ) → length xs ≡ 4096 * (1 + r + e + b + n) → length (drop (4096 * (1 + r + e + b)) xs) ≡ 4096 * n
behind_length xs r e b n len = omega (arith, length-drop (4096 * (1 + r + e + b)) xs, len)
