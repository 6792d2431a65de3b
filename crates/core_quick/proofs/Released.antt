-- The pages of a file from one number on lose their blocks, which are in the span of no call in flight.
use Rattle.std.proofs.Common.{◌≡◌, ℕ, zero, suc, ◌-◌, ◌<◌, ◌≤◌, Bool, true, false, List, [], ◌∷◌, length, Option, Some, None, refl, sym, ap, ◌∙◌, subst, inl, inr, ⊎_elim, arith}
use Rattle.std.specs.Prelude.{◌≢◌, ◌⊎◌, ◌==◌, nat_lt, if◌then◌else◌, option_to_list}
use Rattle.std.specs.List.{slice_get}
use Rattle.std.proofs.lemmas.List.{length-replicate}
use Rattle.std.proofs.lemmas.Bool.Decides.{nat_tests}
use Rattle.page_base.specs.Bytes.{zero_page}
use Rattle.index_lists.specs.Words.{count, one_if, without}
use Rattle.index_lists.proofs.Counts.{same_or_not, count-nil, count-here, count-there, count-append, count-without_same, count-without_other, count-without, length-without}
use Rattle.core_lanes.specs.Words.{listed_to, is_in, without_all, Lists}
use Rattle.core_lanes.specs.State.{Page, Block, Places}
use Rattle.core_lanes.specs.Contents.{IsBlank, content}
use Rattle.core_lanes.specs.Sound.{HasCopies, IsKept, IsInHand}
use Rattle.core_lanes.specs.Dies.{IsFlush}
use Rattle.core_lanes.specs.Resizing.{page_between, new_places, renewed, renewed_in}
use Rattle.core_lanes.proofs.Words.{nothing}
use Rattle.core_lanes.proofs.Spans.{same_option}

-- ---- the list of the blocks that go

count_option : (b : ℕ) (o : Option ℕ) → o ≢ Some b → count b (option_to_list o) ≡ 0
count_option b None n = count-nil b
count_option b (Some x) n = count-there b x [] (λ e. n (ap Some (sym e))) ∙ count-nil b

-- what is listed stands at one of the places
pub listed_at : (b n : ℕ) (row : ℕ → Option ℕ) → 0 < count b (listed_to n row) → (p : ℕ) × (p < n) × (row p ≡ Some b)
unfolding listed_to
listed_at b zero row h = absurd (let z = count-nil b in omega arith)
listed_at b (suc n) row h = ⊎_elim
    (λ (e : row n ≡ Some b). (n, omega arith, e))
    (λ (d : row n ≢ Some b).
    let z = count_option b (row n) d in
    let k = listed_at b n row (omega (arith, count-append b (listed_to n row) (option_to_list (row n)))) in
    let l = k.1 in
    (k.0, omega arith, k.2)) (same_option (row n) b)

pub in_of : (n : ℕ) → nat_lt 0 n ≡ true → 0 < n
in_of n e = grind (arith, nat_tests)

pub out_of : (n : ℕ) → nat_lt 0 n ≡ false → n ≡ 0
out_of n e = grind (arith, nat_tests)

-- ---- orders

pub count-without_all_in : (bs xs : List ℕ) (b : ℕ) → 0 < count b bs → count b (without_all bs xs) ≡ 0
unfolding without_all
count-without_all_in [] xs b h = absurd (let z = count-nil b in omega arith)
count-without_all_in (a ∷ bs) xs b h = ⊎_elim
    (λ (e : b ≡ a). none bs (without a xs) (subst (λ (k : ℕ). count b (without k xs) ≡ 0) e (count-without_same b xs)))
    (λ (d : b ≢ a). count-without_all_in bs (without a xs) b (omega (arith, count-there b a bs d))) (same_or_not b a)
  where
    none : (bs xs : List ℕ) → count b xs ≡ 0 → count b (without_all bs xs) ≡ 0
    none [] xs e = e
    none (x ∷ bs) xs e = none bs (without x xs) (omega (arith, count-without b x xs))

pub count-without_all_out : (bs xs : List ℕ) (b : ℕ) → count b bs ≡ 0 → count b (without_all bs xs) ≡ count b xs
unfolding without_all
count-without_all_out [] xs b h = refl
count-without_all_out (a ∷ bs) xs b h = ⊎_elim
    (λ (e : b ≡ a). absurd (let k = ap (λ (z : ℕ). count b (z ∷ bs)) e in omega (arith, count-here b bs)))
    (λ (d : b ≢ a). count-without_all_out bs (without a xs) b (omega (arith, count-there b a bs d)) ∙ count-without_other b a xs d) (same_or_not b a)

pub length-without_all : (bs xs : List ℕ) → length (without_all bs xs) ≤ length xs
unfolding without_all
length-without_all [] xs = omega arith
length-without_all (a ∷ bs) xs = let k = length-without_all bs (without a xs) in omega (arith, length-without a xs)

-- ---- renewed blocks

-- what holds of each renewed block, and of each other one
pub each_renewed : (P : ℕ → Block → Type 0) (gone : List ℕ) (blocks : ℕ → Block) → ((b : ℕ) → is_in b gone ≡ true → P b (renewed (blocks b))) → ((b : ℕ) → is_in b gone ≡ false → P b (blocks b)) → (b : ℕ) → P b (renewed_in gone blocks b)
each_renewed P gone blocks here rest b = go (is_in b gone) refl
  where
    go : (t : Bool) → is_in b gone ≡ t → P b (if t then renewed (blocks b) else blocks b)
    go true e = here b e
    go false e = rest b e

pub stays_out : (gone : List ℕ) (blocks : ℕ → Block) (b : ℕ) → is_in b gone ≡ false → renewed_in gone blocks b ≡ blocks b
stays_out gone blocks b e = go (is_in b gone) e
  where
    go : (t : Bool) → t ≡ false → (if t then renewed (blocks b) else blocks b) ≡ blocks b
    go true e = absurd (cc)
    go false e = refl

zero_whole : length zero_page ≡ 4096
unfolding zero_page
zero_whole = length-replicate {A = ℕ} 4096 0

renewed_content : (x : Block) → x.lent ≡ None → content (renewed x) ≡ zero_page
renewed_content x e = grind arith

pub renewed_copies : (x : Block) → x.lent ≡ None → HasCopies x → HasCopies (renewed x)
renewed_copies x e h = record { host = λ p f. absurd (cc); drive = λ p f. absurd (cc); lent = λ loan f. absurd (nothing x.lent loan e f); whole = ap length (renewed_content x e) ∙ zero_whole; flash = h.flash }

pub renewed_kept : (x : Block) → x.lent ≡ None → IsKept (renewed x)
renewed_kept x e = record { written = λ a b. absurd (cc); unwritten = λ a b. renewed_content x e }

pub renewed_hand : (x : Block) → IsInHand (renewed x)
renewed_hand x e = absurd (cc)

pub renewed_blank : (x : Block) → x.lent ≡ None → IsBlank (renewed x)
renewed_blank x e = record { away = record { host = refl; drive = refl; lent = e }; clean = refl; written = refl }

pub renewed_flush : (x : Block) (v : ℕ) (p : Page) → IsFlush x v p → IsFlush (renewed x) v p
renewed_flush x v p h = record { whole = h.whole; older = let o = h.older in omega arith; same = λ e. let o = h.older in absurd (omega arith); newer = λ n c. refl }

-- an order without the blocks that go
pub released_order : (gone order : List ℕ) (blocks : ℕ → Block) (test : Block → Bool) → ((x : Block) → test (renewed x) ≡ false) → Lists order (λ b. test (blocks b)) → Lists (without_all gone order) (λ b. test (renewed_in gone blocks b))
released_order gone order blocks test none h b = go (is_in b gone) refl
  where
    go : (t : Bool) → is_in b gone ≡ t → count b (without_all gone order) ≡ one_if (test (if t then renewed (blocks b) else blocks b))
    go true e = count-without_all_in gone order b (in_of (count b gone) e) ∙ sym (ap one_if (none (blocks b)))
    go false e = count-without_all_out gone order b (out_of (count b gone) e) ∙ h b

-- ---- places

-- a page below the new end, or of another file, stays where it is
page_below : (row : ℕ → Option ℕ) (from to p : ℕ) → to ≤ from → p < to → page_between row [] from to p ≡ row p
page_below row from to p l k = go (nat_lt p to) (nat_lt p from) (test p to k) (test p from (omega arith))
  where
    test : (a b : ℕ) → a < b → nat_lt a b ≡ true
    test a b l = grind (arith, nat_tests)

    go : (t u : Bool) → t ≡ true → u ≡ true → (if t then (if u then row p else slice_get [] (p - from)) else None) ≡ row p
    go true true e f = refl
    go true false e f = absurd (cc)
    go false u e f = absurd (cc)

page_past : (row : ℕ → Option ℕ) (from to p : ℕ) → to ≤ p → page_between row [] from to p ≡ None
page_past row from to p l = go (nat_lt p to) (test p to l)
  where
    test : (a b : ℕ) → b ≤ a → nat_lt a b ≡ false
    test a b l = grind (arith, nat_tests)

    go : (t : Bool) → t ≡ false → (if t then (if nat_lt p from then row p else slice_get [] (p - from)) else None) ≡ None
    go true e = absurd (cc)
    go false e = refl

-- a page of another file, or below the new end
abbrev pub IsKeptPage : ℕ → ℕ → ℕ → ℕ → Type 0
IsKeptPage id to f p = (f ≢ id) ⊎ (p < to)

pub place_kept : (places : Places) (id from to f p : ℕ) → to ≤ from → IsKeptPage id to f p → new_places places id [] from to f p ≡ places f p
place_kept places id from to f p l k = go (f == id) refl
  where
    go : (t : Bool) → (f == id) ≡ t → (if t then page_between (places id) [] from to p else places f p) ≡ places f p
    go true e =
        let s : f ≡ id = grind (arith, nat_tests) in
        ⊎_elim (λ (d : f ≢ id). absurd (d s)) (λ (m : p < to). page_below (places id) from to p l m ∙ ap (λ (g : ℕ). places g p) (sym s)) k
    go false e = refl

-- and a place that is there after it, is one of those
pub place_was : (places : Places) (id from to f p b : ℕ) → to ≤ from → new_places places id [] from to f p ≡ Some b → (IsKeptPage id to f p) × (places f p ≡ Some b)
place_was places id from to f p b l e = go (f == id) refl e
  where
    below : (p < to) ⊎ (to ≤ p)
    below = grind arith

    go : (t : Bool) → (f == id) ≡ t → (if t then page_between (places id) [] from to p else places f p) ≡ Some b → (IsKeptPage id to f p) × (places f p ≡ Some b)
    go true q g =
        let s : f ≡ id = grind (arith, nat_tests) in
        ⊎_elim (λ (m : p < to). (inr m, ap (λ (h : ℕ). places h p) s ∙ (sym (page_below (places id) from to p l m) ∙ g))) (λ (m : to ≤ p). absurd (nothing (page_between (places id) [] from to p) b (page_past (places id) from to p m) g)) below
    go false q g = let d : f ≢ id = grind (arith, nat_tests) in (inl d, g)

-- a block at one of the places is listed
pub listed_in : (b n p : ℕ) (row : ℕ → Option ℕ) → p < n → row p ≡ Some b → 0 < count b (listed_to n row)
unfolding listed_to
listed_in b zero p row l e = absurd (omega arith)
listed_in b (suc n) p row l e = ⊎_elim
    (λ (s : p ≡ n).
    let k : count b (option_to_list (row n)) ≡ 1 = ap (λ (o : Option ℕ). count b (option_to_list o)) (ap row (sym s) ∙ e) ∙ (let z = count-nil b in omega (arith, count-here b [])) in
    omega (arith, count-append b (listed_to n row) (option_to_list (row n))))
    (λ (d : p ≢ n). let k = listed_in b n p row (omega arith) e in omega (arith, count-append b (listed_to n row) (option_to_list (row n)))) (same_or_not p n)

pub in_is : (n : ℕ) → 0 < n → nat_lt 0 n ≡ true
in_is n e = grind (arith, nat_tests)
