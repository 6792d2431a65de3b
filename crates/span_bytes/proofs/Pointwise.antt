-- Bytes after a part was copied or written over, one by one.
use Rattle.std.proofs.Common.{◌≡◌, ℕ, ◌+◌, ◌-◌, ◌*◌, ◌<◌, ◌≤◌, Bool, true, false, List, ◌++◌, length, take, drop, get_or, refl, sym, ap, ◌∙◌, ⊎_elim, arith}
use Rattle.std.specs.Prelude.{◌⊎◌, ◌≢◌, ◌==◌, ◌&&◌, ◌/◌, ◌%◌, min, max, nat_le, nat_lt, if◌then◌else◌}
use Rattle.std.proofs.lemmas.Bool.Decides.{nat_tests}
use Rattle.std.proofs.lemmas.List.{get_or-take, get_or-drop, get_or_append_left, get_or-append_right, length-take, append_assoc}
use borrow.Rule.Slice.PartMut.{put_mid}
use Rattle.page_base.specs.Bytes.{patched}
use Rattle.span_bytes.specs.Spans.{over}

pub less_or_not : (m n : ℕ) → (m < n) ⊎ (n ≤ m)
less_or_not m n = grind arith

-- ---- a list with others in the place of a part

before : (xs ys zs : List ℕ) (a k : ℕ) → a ≤ length xs → k < a → get_or (take a xs ++ (ys ++ zs)) k 0 ≡ get_or xs k 0
before xs ys zs a k l h = get_or_append_left (take a xs) (ys ++ zs) 0 k (let t = length-take a xs in omega arith) ∙ get_or-take a xs k 0 h

inside : (xs ys zs : List ℕ) (a k : ℕ) → a ≤ length xs → a ≤ k → k < a + length ys → get_or (take a xs ++ (ys ++ zs)) k 0 ≡ get_or ys (k - a) 0
inside xs ys zs a k l h m =
    get_or-append_right (take a xs) (ys ++ zs) a k 0 (let t = length-take a xs in omega arith) h ∙ get_or_append_left ys zs 0 (k - a) (omega arith)

behind : (xs ys zs : List ℕ) (a k : ℕ) → a ≤ length xs → a + length ys ≤ k → get_or (take a xs ++ (ys ++ zs)) k 0 ≡ get_or zs (k - a - length ys) 0
behind xs ys zs a k l h =
    get_or-append_right (take a xs) (ys ++ zs) a k 0 (let t = length-take a xs in omega arith) (omega arith) ∙ get_or-append_right ys zs (length ys) (k - a) 0 refl (omega arith)

-- ---- what a page has of bytes that are read

eq_false : (m n : ℕ) → m ≢ n → (m == n) ≡ false
eq_false m n d = grind (arith, nat_tests)

eq_true : (m n : ℕ) → m ≡ n → (m == n) ≡ true
eq_true m n e = grind (arith, nat_tests)

pub read_at : (xs part page : List ℕ) (i start from to n k : ℕ) → from ≡ max (i * 4096) start → to ≡ min (i * 4096 + 4096) (start + length xs) → from < to → n ≡ to - start - (from - start) → length part ≡ n →
    ((j : ℕ) → j < n → get_or part j 0 ≡ get_or page ((from - i * 4096) + j) 0) → k < length xs →
    get_or (put_mid (from - start) n xs part) k 0 ≡ (if (start + k) / 4096 == i then get_or page ((start + k) % 4096) 0 else get_or xs k 0)
read_at xs part page i start from to n k f t l m long same w = ⊎_elim low (λ (h : from - start ≤ k). ⊎_elim (at h) high (less_or_not k (from - start + n))) (less_or_not k (from - start))
  where
    out : (start + k) / 4096 ≢ i → get_or xs k 0 ≡ (if (start + k) / 4096 == i then get_or page ((start + k) % 4096) 0 else get_or xs k 0)
    out d = sym (ap (λ (b : Bool). if b then get_or page ((start + k) % 4096) 0 else get_or xs k 0) (eq_false ((start + k) / 4096) i d))

    low : k < from - start → get_or (put_mid (from - start) n xs part) k 0 ≡ (if (start + k) / 4096 == i then get_or page ((start + k) % 4096) 0 else get_or xs k 0)
    low h = before xs part (drop n (drop (from - start) xs)) (from - start) k (omega arith) h ∙ out (omega arith)

    at : from - start ≤ k → k < from - start + n → get_or (put_mid (from - start) n xs part) k 0 ≡ (if (start + k) / 4096 == i then get_or page ((start + k) % 4096) 0 else get_or xs k 0)
    at h g =
        let e : (from - i * 4096) + (k - (from - start)) ≡ (start + k) % 4096 = omega arith in
        let p : (start + k) / 4096 ≡ i = omega arith in
        inside xs part (drop n (drop (from - start) xs)) (from - start) k (omega arith) h (omega arith)
        ∙ (same (k - (from - start)) (omega arith)
        ∙ (ap (λ (j : ℕ). get_or page j 0) e
        ∙ sym (ap (λ (b : Bool). if b then get_or page ((start + k) % 4096) 0 else get_or xs k 0) (eq_true ((start + k) / 4096) i p))))

    high : from - start + n ≤ k → get_or (put_mid (from - start) n xs part) k 0 ≡ (if (start + k) / 4096 == i then get_or page ((start + k) % 4096) 0 else get_or xs k 0)
    high h =
        let e : from - start + (n + (k - (from - start) - length part)) ≡ k = omega arith in
        behind xs part (drop n (drop (from - start) xs)) (from - start) k (omega arith) (omega arith)
        ∙ (get_or-drop n (drop (from - start) xs) (k - (from - start) - length part) 0
        ∙ (get_or-drop (from - start) xs (n + (k - (from - start) - length part)) 0
        ∙ (ap (λ (j : ℕ). get_or xs j 0) e ∙ out (omega arith))))

-- bytes taken out of a page, one by one
pub taken_at : (page part : List ℕ) (at n : ℕ) → part ≡ take n (drop at page) → (j : ℕ) → j < n → get_or part j 0 ≡ get_or page (at + j) 0
taken_at page part at n e j l = ap (λ (xs : List ℕ). get_or xs j 0) e ∙ (get_or-take n (drop at page) j 0 l ∙ get_or-drop at page j 0)

-- ---- what falls into a page of bytes that are written

pub in_over : (start q was : ℕ) (bytes : List ℕ) → start ≤ q → q < start + length bytes → over start bytes q was ≡ get_or bytes (q - start) 0
in_over start q was bytes l h = go (nat_le start q) (nat_lt q (start + length bytes)) (grind (arith, nat_tests)) (grind (arith, nat_tests))
  where
    go : (a b : Bool) → a ≡ true → b ≡ true → (if a && b then get_or bytes (q - start) 0 else was) ≡ get_or bytes (q - start) 0
    go true true e f = refl
    go true false e f = absurd (cc)
    go false b e f = absurd (cc)

pub low_over : (start q was : ℕ) (bytes : List ℕ) → q < start → over start bytes q was ≡ was
low_over start q was bytes l = go (nat_le start q) (nat_lt q (start + length bytes)) (grind (arith, nat_tests))
  where
    go : (a b : Bool) → a ≡ false → (if a && b then get_or bytes (q - start) 0 else was) ≡ was
    go true b e = absurd (cc)
    go false b e = refl

pub high_over : (start q was : ℕ) (bytes : List ℕ) → start + length bytes ≤ q → over start bytes q was ≡ was
high_over start q was bytes l = go (nat_le start q) (nat_lt q (start + length bytes)) (grind (arith, nat_tests))
  where
    go : (a b : Bool) → b ≡ false → (if a && b then get_or bytes (q - start) 0 else was) ≡ was
    go true true e = absurd (cc)
    go true false e = refl
    go false b e = refl

pub patch_at : (page bytes part new : List ℕ) (i start from to j : ℕ) → length page ≡ 4096 → from ≡ max (i * 4096) start → to ≡ min (i * 4096 + 4096) (start + length bytes) → from < to → length part ≡ to - from →
    ((k : ℕ) → k < to - from → get_or part k 0 ≡ get_or bytes (from - start + k) 0) → new ≡ patched page (from - i * 4096) part → j < 4096 →
    get_or new j 0 ≡ over start bytes (4096 * i + j) (get_or page j 0)
patch_at page bytes part new i start from to j whole f t l long same is w =
    ap (λ (xs : List ℕ). get_or xs j 0) (is ∙ append_assoc (take (from - i * 4096) page) part (drop (from - i * 4096 + length part) page))
    ∙ ⊎_elim low (λ (h : from - i * 4096 ≤ j). ⊎_elim (at h) high (less_or_not j (from - i * 4096 + length part))) (less_or_not j (from - i * 4096))
  where
    rest : List ℕ
    rest = drop (from - i * 4096 + length part) page

    low : j < from - i * 4096 → get_or (take (from - i * 4096) page ++ (part ++ rest)) j 0 ≡ over start bytes (4096 * i + j) (get_or page j 0)
    low h = before page part rest (from - i * 4096) j (omega arith) h ∙ sym (low_over start (4096 * i + j) (get_or page j 0) bytes (omega arith))

    at : from - i * 4096 ≤ j → j < from - i * 4096 + length part → get_or (take (from - i * 4096) page ++ (part ++ rest)) j 0 ≡ over start bytes (4096 * i + j) (get_or page j 0)
    at h g =
        let e : from - start + (j - (from - i * 4096)) ≡ 4096 * i + j - start = omega arith in
        inside page part rest (from - i * 4096) j (omega arith) h g
        ∙ (same (j - (from - i * 4096)) (omega arith)
        ∙ (ap (λ (k : ℕ). get_or bytes k 0) e ∙ sym (in_over start (4096 * i + j) (get_or page j 0) bytes (omega arith) (omega arith))))

    high : from - i * 4096 + length part ≤ j → get_or (take (from - i * 4096) page ++ (part ++ rest)) j 0 ≡ over start bytes (4096 * i + j) (get_or page j 0)
    high h =
        let e : from - i * 4096 + length part + (j - (from - i * 4096) - length part) ≡ j = omega arith in
        behind page part rest (from - i * 4096) j (omega arith) h
        ∙ (get_or-drop (from - i * 4096 + length part) page (j - (from - i * 4096) - length part) 0
        ∙ (ap (λ (k : ℕ). get_or page k 0) e ∙ sym (high_over start (4096 * i + j) (get_or page j 0) bytes (omega arith))))
