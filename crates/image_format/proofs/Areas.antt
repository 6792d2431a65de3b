-- Bytes cut into places of one size, and pages that are filled place by place.
use Rattle.std.proofs.Common.{◌≡◌, ℕ, zero, suc, ◌+◌, ◌-◌, ◌*◌, ◌<◌, ◌≤◌, List, [], ◌∷◌, ◌++◌, length, take, drop, replicate, map, Option, Some, None, ap, ◌∙◌, sym, refl, arith, append_assoc, length-append, take-append-drop}
use Rattle.std.specs.Prelude.{slice_get}
use Rattle.std.specs.List.{flat_map, range_with_len, AllByRecursion}
use Rattle.std.proofs.Math.Nat.{suc-mul}
use Rattle.std.proofs.lemmas.List.{append-nil, take_at, drop_at, drop-drop, take-append-le, drop-append-le, drop-replicate, take-replicate, length-replicate, replicate-append-replicate, length-take, length-drop}
use Rattle.page_base.specs.Bytes.{patched}
use Rattle.image_format.specs.Numbers.{part}
use Rattle.image_format.specs.Encoding.{fill}

-- ---- parts of bytes

pub part_left : (xs ys : List ℕ) (a n : ℕ) → a + n ≤ length xs → part (xs ++ ys) a n ≡ part xs a n
part_left xs ys a n le = ap (take n) (drop-append-le a xs ys (omega arith)) ∙ take-append-le n (drop a xs) ys (omega (arith, length-drop a xs))

pub part_right : (xs ys : List ℕ) (a b n : ℕ) → a ≡ length xs + b → part (xs ++ ys) a n ≡ part ys b n
part_right xs ys a b n is =
    ap (λ k. take n (drop k (xs ++ ys))) is ∙ ap (take n) (sym (drop-drop b (length xs) (xs ++ ys))) ∙ ap (λ zs. take n (drop b zs)) (drop_at xs ys (length xs) refl)

abbrev nil : List ℕ
nil = []

take_nil : (m : ℕ) → nil ≡ take m nil
take_nil zero = refl
take_nil (suc m) = refl

take_more_part : (n m : ℕ) (xs : List ℕ) → take (n + m) xs ≡ take n xs ++ take m (drop n xs)
take_more_part zero m xs = let e : 0 + m ≡ m = omega arith in ap (λ k. take k xs) e
take_more_part (suc n) m [] = let e : suc n + m ≡ suc (n + m) = omega arith in ap (λ k. take k nil) e ∙ take_nil m
take_more_part (suc n) m (x ∷ xs) = let e : suc n + m ≡ suc (n + m) = omega arith in ap (λ k. take k (x ∷ xs)) e ∙ ap (λ ys. x ∷ ys) (take_more_part n m xs)

-- a part and the one behind it
pub part_more : (xs : List ℕ) (a n m : ℕ) → part xs a (n + m) ≡ part xs a n ++ part xs (a + n) m
part_more xs a n m = take_more_part n m (drop a xs) ∙ ap (λ ys. part xs a n ++ take m ys) (drop-drop n a xs)

pub part_length : (xs : List ℕ) (a n : ℕ) → a + n ≤ length xs → length (part xs a n) ≡ n
part_length xs a n le = omega (arith, length-take n (drop a xs), length-drop a xs)

-- ---- a page that is filled from the front

pub filled_step : (xs page fields : List ℕ) (a n s : ℕ) → page ≡ part xs a n ++ replicate (4096 - n) 0 → a + n ≤ length xs → n + s ≤ 4096 → length fields ≤ s → part xs (a + n) s ≡ fill s fields
    → patched page n fields ≡ part xs a (n + s) ++ replicate (4096 - (n + s)) 0
filled_step xs page fields a n s is le room short next =
    let front = part xs a n in
    let len : length front ≡ n = part_length xs a n le in
    let behind : n + length fields ≡ length front + length fields = omega arith in
    let left : 4096 - n - length fields ≡ (s - length fields) + (4096 - (n + s)) = omega arith in
    ap (λ p. take n p ++ fields ++ drop (n + length fields) p) is
    ∙ ap (λ t. t ++ fields ++ drop (n + length fields) (front ++ replicate (4096 - n) 0)) (take_at front (replicate (4096 - n) 0) n len)
    ∙ ap (λ d. front ++ fields ++ d) (
    ap (λ k. drop k (front ++ replicate (4096 - n) 0)) behind ∙ sym (drop-drop (length fields) (length front) (front ++ replicate (4096 - n) 0))
    ∙ ap (drop (length fields)) (drop_at front (replicate (4096 - n) 0) (length front) refl) ∙ drop-replicate (length fields) (4096 - n) 0
    ∙ ap (λ k. replicate k 0) left ∙ sym (replicate-append-replicate (s - length fields) (4096 - (n + s)) 0))
    ∙ sym (append_assoc (front ++ fields) (replicate (s - length fields) 0) (replicate (4096 - (n + s)) 0))
    ∙ ap (λ t. t ++ replicate (4096 - (n + s)) 0) (append_assoc front fields (replicate (s - length fields) 0) ∙ ap (λ t. front ++ t) (sym next) ∙ sym (part_more xs a n s))

pub filled_none : (xs page old : List ℕ) (a n : ℕ) → n ≡ 0 → page ≡ take 0 old ++ replicate 4096 0 → page ≡ part xs a n ++ replicate (4096 - n) 0
filled_none xs page old a n none is = is ∙ ap (λ k. part xs a k ++ replicate (4096 - k) 0) (sym none)

pub filled_all : (xs page : List ℕ) (a n : ℕ) → n ≡ 4096 → page ≡ part xs a n ++ replicate (4096 - n) 0 → page ≡ part xs a 4096
filled_all xs page a n full is = is ∙ ap (λ k. part xs a k ++ replicate (4096 - k) 0) full ∙ append-nil (part xs a 4096)

-- fields put into a page of zeros
pub put_front : (total : ℕ) (page bytes : List ℕ) → page ≡ replicate total 0 → patched page 0 bytes ≡ bytes ++ replicate (total - length bytes) 0
put_front total page bytes is =
    let e : 0 + length bytes ≡ length bytes = omega arith in
    ap (λ k. bytes ++ drop k page) e ∙ ap (λ p. bytes ++ drop (length bytes) p) is ∙ ap (λ t. bytes ++ t) (drop-replicate (length bytes) total 0)

-- nothing put changes nothing
pub put_nothing : (page : List ℕ) (n : ℕ) → page ≡ patched page n []
put_nothing page n =
    let e : n + 0 ≡ n = omega arith in
    sym (ap (λ t. t ++ drop (n + 0) page) (append-nil (take n page)) ∙ ap (λ k. take n page ++ drop k page) e ∙ take-append-drop n page)

-- two pieces put one behind the other
pub put_both : (page xs ys : List ℕ) (n m : ℕ) → length xs ≡ m → n + m + length ys ≤ length page → patched (patched page n xs) (n + m) ys ≡ patched page n (xs ++ ys)
put_both page xs ys n m len fits =
    let front : length (take n page ++ xs) ≡ n + m = omega (arith, length-append (take n page) xs, length-take n page) in
    let behind : n + m + length ys ≡ length (take n page ++ xs) + length ys = omega arith in
    let all : n + length xs + length ys ≡ n + length (xs ++ ys) = omega (arith, length-append xs ys) in
    ap (λ t. t ++ ys ++ drop (n + m + length ys) (take n page ++ xs ++ drop (n + length xs) page)) (take_at (take n page ++ xs) (drop (n + length xs) page) (n + m) front)
    ∙ ap (λ d. take n page ++ xs ++ ys ++ d) (
    ap (λ k. drop k (take n page ++ xs ++ drop (n + length xs) page)) behind ∙ sym (drop-drop (length ys) (length (take n page ++ xs)) (take n page ++ xs ++ drop (n + length xs) page))
    ∙ ap (drop (length ys)) (drop_at (take n page ++ xs) (drop (n + length xs) page) (length (take n page ++ xs)) refl) ∙ drop-drop (length ys) (n + length xs) page ∙ ap (λ k. drop k page) all)
    ∙ ap (λ t. t ++ drop (n + length (xs ++ ys)) page) (append_assoc (take n page) xs ys)

-- ---- places of one size

-- what stands in a place
abbrev pub placed_at : {X : Type 0} → (X → List ℕ) → ℕ → Option X → List ℕ
placed_at enc s None = replicate s 0
placed_at enc s (Some x) = enc x

pub length_flat : {X : Type 0} (enc : X → List ℕ) (s : ℕ) (xs : List X) → AllByRecursion (λ x. length (enc x) ≡ s) xs → length (flat_map enc xs) ≡ length xs * s
length_flat enc s [] each = omega arith
length_flat enc s (x ∷ xs) each =
    let more : suc (length xs) * s ≡ length xs * s + s = suc-mul (length xs) s in
    omega (arith, length-append (enc x) (flat_map enc xs), each.0, length_flat enc s xs each.1, more)

pub place_is : {X : Type 0} (enc : X → List ℕ) (s left n : ℕ) (xs : List X) (j : ℕ) → AllByRecursion (λ x. length (enc x) ≡ s) xs → n ≡ j * s → n + s ≤ length xs * s + left → part (flat_map enc xs ++ replicate left 0) n s ≡ placed_at enc s (slice_get xs j)
place_is enc s left n [] j each at fits =
    ap (take s) (drop-replicate n left 0) ∙ take-replicate s (left - n) 0 (omega arith)
place_is enc s left n (x ∷ xs) zero each at fits =
    let none : n ≡ 0 = omega arith in
    ap (λ k. part (flat_map enc (x ∷ xs) ++ replicate left 0) k s) none ∙ ap (take s) (append_assoc (enc x) (flat_map enc xs) (replicate left 0)) ∙ take_at (enc x) (flat_map enc xs ++ replicate left 0) s each.0
place_is enc s left n (x ∷ xs) (suc j) each at fits =
    let less : suc j * s ≡ j * s + s = suc-mul j s in
    let more : suc (length xs) * s ≡ length xs * s + s = suc-mul (length xs) s in
    let later : n ≡ length (enc x) + j * s = omega (arith, each.0, less) in
    ap (λ zs. part zs n s) (append_assoc (enc x) (flat_map enc xs) (replicate left 0)) ∙ part_right (enc x) (flat_map enc xs ++ replicate left 0) n (j * s) s later
    ∙ place_is enc s left (j * s) xs j each.1 refl (omega (arith, later, more, each.0))

pub length_fill : (total : ℕ) (xs : List ℕ) → length xs ≤ total → length (fill total xs) ≡ total
length_fill total xs le = omega (arith, length-append xs (replicate (total - length xs) 0), length-replicate {A = ℕ} (total - length xs) 0)

-- ---- a list by its places

pub value_at : (f : ℕ → ℕ) (a n j : ℕ) → j < n → part (map f (range_with_len a n)) j 1 ≡ f (a + j) ∷ []
value_at f a zero j lt = absurd (omega arith)
value_at f a (suc n) zero lt = let e : a ≡ a + 0 = omega arith in ap (λ k. f k ∷ []) e
value_at f a (suc n) (suc j) lt = let e : a + 1 + j ≡ a + suc j = omega arith in value_at f (a + 1) n j (omega arith) ∙ ap (λ k. f k ∷ []) e

pub length_range : (a n : ℕ) → length (range_with_len a n) ≡ n
length_range a zero = refl
length_range a (suc n) = ap suc (length_range (a + 1) n)

pub get_behind : {X : Type 0} (xs : List X) (j : ℕ) → slice_get (drop j xs) 0 ≡ slice_get xs j
get_behind [] zero = refl
get_behind [] (suc j) = refl
get_behind (x ∷ xs) zero = refl
get_behind (x ∷ xs) (suc j) = get_behind xs j
