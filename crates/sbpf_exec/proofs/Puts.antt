-- Bytes written one after the other.
use Rattle.std.proofs.Common.{◌≡◌, ℕ, suc, ◌+◌, ◌-◌, ◌<◌, ◌≤◌, List, [], ◌∷◌, ◌++◌, length, take, drop, refl, sym, ap, ◌∙◌, arith, add-one}
use Rattle.std.specs.Prelude.{slice_set}
use Rattle.std.proofs.lemmas.List.Edits.{sets, sets-eq}
use Rattle.std.proofs.lemmas.List.{length-append, drop_all, append-nil, length-set, set-append_left, set-append_right, take-set-le, drop-set-lt}
use Rattle.sbpf_insn.specs.Machine.{put}

pub put-sets : (b xs : List ℕ) (i : ℕ) → put b i xs ≡ sets b i xs
put-sets b [] i = refl
put-sets b (x ∷ xs) i = put-sets (slice_set b i x) xs (i + 1) ∙ ap (λ (k : ℕ). sets (slice_set b i x) k xs) (add-one i)

pub length-put : (b xs : List ℕ) (i : ℕ) → length (put b i xs) ≡ length b
length-put b [] i = refl
length-put b (x ∷ xs) i = length-put (slice_set b i x) xs (i + 1) ∙ length-set b i x

-- one list after another
pub put-append : (b xs ys : List ℕ) (i : ℕ) → put b i (xs ++ ys) ≡ put (put b i xs) (i + length xs) ys
put-append b [] ys i = let z : i + 0 ≡ i = omega arith in rw z refl
put-append b (x ∷ xs) ys i =
    let e : i + 1 + length xs ≡ i + suc (length xs) = omega arith in
    put-append (slice_set b i x) xs ys (i + 1) ∙ ap (λ (k : ℕ). put (put (slice_set b i x) (i + 1) xs) k ys) e

-- within the first of two lists, and within the second
pub put-append_left : (p q xs : List ℕ) (i : ℕ) → i + length xs ≤ length p → put (p ++ q) i xs ≡ put p i xs ++ q
put-append_left p q [] i fits = refl
put-append_left p q (x ∷ xs) i fits =
    let lt : i < length p = omega arith in
    let le : i + 1 + length xs ≤ length (slice_set p i x) = omega (arith, length-set p i x) in
    ap (λ (b : List ℕ). put b (i + 1) xs) (set-append_left p q i x lt) ∙ put-append_left (slice_set p i x) q xs (i + 1) le

pub put-append_right : (p q xs : List ℕ) (i n : ℕ) → length p ≡ n → put (p ++ q) (n + i) xs ≡ p ++ put q i xs
put-append_right p q [] i n len = refl
put-append_right p q (x ∷ xs) i n len =
    let le : n ≤ n + i = omega arith in
    let back : n + i - n ≡ i = omega arith in
    let e : n + i + 1 ≡ n + (i + 1) = omega arith in
    ap (λ (b : List ℕ). put b (n + i + 1) xs) (set-append_right p q n (n + i) x len le ∙ ap (λ (k : ℕ). p ++ slice_set q k x) back)
    ∙ ap (λ (k : ℕ). put (p ++ slice_set q i x) k xs) e
    ∙ put-append_right p (slice_set q i x) xs (i + 1) n len

-- what lies before, and what lies behind, stays
pub take-put : (b xs : List ℕ) (i n : ℕ) → n ≤ i → take n (put b i xs) ≡ take n b
take-put b [] i n le = refl
take-put b (x ∷ xs) i n le = take-put (slice_set b i x) xs (i + 1) n (omega arith) ∙ take-set-le n b i x le

pub drop-put : (b xs : List ℕ) (i n : ℕ) → i + length xs ≤ n → drop n (put b i xs) ≡ drop n b
drop-put b [] i n le = refl
drop-put b (x ∷ xs) i n le = drop-put (slice_set b i x) xs (i + 1) n (omega arith) ∙ drop-set-lt n b i x (omega arith)

-- a list in two parts, one after the other
pub put_twice : (b c d xs front back : List ℕ) (i j : ℕ) → c ≡ put b i front → d ≡ put c j back → j ≡ i + length front → xs ≡ front ++ back → d ≡ put b i xs
put_twice b c d xs front back i j first second at parts =
    second ∙ ap (λ (x : List ℕ). put x j back) first ∙ ap (λ (k : ℕ). put (put b i front) k back) at ∙ sym (put-append b front back i) ∙ ap (put b i) (sym parts)

-- as many bytes as there are
all_put : (b xs : List ℕ) → length xs ≡ length b → put b 0 xs ≡ xs
all_put b xs e =
    let gone : drop (0 + length xs) b ≡ [] = drop_all (0 + length xs) b (omega arith) in
    put-sets b xs 0 ∙ sets-eq xs b 0 (omega arith) ∙ ap (λ (t : List ℕ). xs ++ t) gone ∙ append-nil xs

-- six words fill 48 bytes
pub six_words : (c0 c1 c2 c3 c4 c5 c6 u v w x y z : List ℕ) → length c0 ≡ 48 → length u ≡ 8 → length v ≡ 8 → length w ≡ 8 → length x ≡ 8 → length y ≡ 8 → length z ≡ 8 → c1 ≡ put c0 0 u → c2 ≡ put c1 8 v → c3 ≡ put c2 16 w → c4 ≡ put c3 24 x → c5 ≡ put c4 32 y → c6 ≡ put c5 40 z → c6 ≡ u ++ v ++ w ++ x ++ y ++ z
six_words c0 c1 c2 c3 c4 c5 c6 u v w x y z long lu lv lw lx ly lz e1 e2 e3 e4 e5 e6 =
    let n2 = length-append u v in
    let n3 = length-append (u ++ v) w in
    let n4 = length-append (u ++ v ++ w) x in
    let n5 = length-append (u ++ v ++ w ++ x) y in
    let n6 = length-append (u ++ v ++ w ++ x ++ y) z in
    let s2 : c2 ≡ put c0 0 (u ++ v) = put_twice c0 c1 c2 (u ++ v) u v 0 8 e1 e2 (omega arith) refl in
    let s3 : c3 ≡ put c0 0 (u ++ v ++ w) = put_twice c0 c2 c3 (u ++ v ++ w) (u ++ v) w 0 16 s2 e3 (omega (arith, n2)) refl in
    let s4 : c4 ≡ put c0 0 (u ++ v ++ w ++ x) = put_twice c0 c3 c4 (u ++ v ++ w ++ x) (u ++ v ++ w) x 0 24 s3 e4 (omega (arith, n2, n3)) refl in
    let s5 : c5 ≡ put c0 0 (u ++ v ++ w ++ x ++ y) = put_twice c0 c4 c5 (u ++ v ++ w ++ x ++ y) (u ++ v ++ w ++ x) y 0 32 s4 e5 (omega (arith, n2, n3, n4)) refl in
    let s6 : c6 ≡ put c0 0 (u ++ v ++ w ++ x ++ y ++ z) = put_twice c0 c5 c6 (u ++ v ++ w ++ x ++ y ++ z) (u ++ v ++ w ++ x ++ y) z 0 40 s5 e6 (omega (arith, n2, n3, n4, n5)) refl in
    s6 ∙ all_put c0 (u ++ v ++ w ++ x ++ y ++ z) (omega (arith, n2, n3, n4, n5, n6))
