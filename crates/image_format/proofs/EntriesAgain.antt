-- The maximal runs that are written as entries are read again.
use Rattle.std.proofs.Common.{◌≡◌, ℕ, zero, suc, ◌+◌, ◌-◌, ◌*◌, ◌<◌, ◌≤◌, ◌^◌, List, [], ◌∷◌, ◌++◌, length, take, drop, get_or, replicate, map, Bool, true, false, cond, eqb, ltb, leb, Some, None, Result, Ok, ap, ◌∙◌, sym, refl, subst, arith, inl, inr, add-one, ◌||◌, append_assoc, length-append}
use Rattle.std.specs.Prelude.{◌&&◌, is_some}
use Rattle.std.specs.List.{list_any, range_with_len, find, flat_map, AllByRecursion}
use Rattle.std.proofs.Math.Nat.{suc-mul}
use Rattle.std.proofs.lemmas.Bool.{cond-true, cond-false, cases_lt}
use Rattle.std.proofs.lemmas.Bool.Decides.{nat_tests}
use Rattle.std.proofs.lemmas.Nat.{from_le_bytes-to_le_bytes_4}
use Rattle.std.proofs.lemmas.List.{append-nil, take_at, drop_at, take-replicate, drop-replicate, map-append, length-map, length-take, length-drop, drop-append-le, get_or_append_left, get_or-append-add}
use Rattle.page_base.specs.Bytes.{Pages}
use Rattle.extent_map.specs.declared.places.Place.{Place}
use Rattle.extent_map.specs.declared.places.Extent.{Extent}
use Rattle.extent_map.specs.Places.{runs, in_front, single, goes_on, pages_on, is_used, AreApart}
use Rattle.image_format.specs.declared.faults.ImageFault.{ImageFault}
use Rattle.image_format.specs.declared.entries.Awaited.{Awaited}
use Rattle.image_format.specs.Numbers.{u32_at}
use Rattle.image_format.specs.Records.{Stored}
use Rattle.image_format.specs.Entries.{Cover, page_after, is_at, is_in, entry_in, unused_entry, used_entry, one_entry, entries}
use Rattle.image_format.specs.Encoding.{entry_bytes}
use Rattle.image_format.specs.Tables.{placed_of, pages_of}
use Rattle.image_format.proofs.Areas.{length_range}
use Rattle.image_format.proofs.Covers.{Rise, any_inside, blocks_of_pages}
use Rattle.image_format.proofs.Entered.{is_next_entry, entered}

-- ---- runs and their places

abbrev pub run_of : Extent → List Place
run_of e = pages_on e.file e.page (range_with_len e.block e.count)

abbrev pub places_of : List Extent → List Place
places_of es = flat_map run_of es

front : (p : Place) (es : List Extent) → places_of (in_front p es) ≡ p ∷ places_of es
front p [] = refl
front p (e ∷ es) = by_test (goes_on p e) refl
  where
    joined : goes_on p e ≡ true → (p.file ≡ e.file) × (p.page + 1 ≡ e.page) × (p.block + 1 ≡ e.block)
    joined t = (grind (arith, nat_tests), grind (arith, nat_tests), grind (arith, nat_tests))

    by_test : (t : Bool) → goes_on p e ≡ t → places_of (cond t (record { file = p.file; page = p.page; block = p.block; count = e.count + 1 } ∷ es) (single p ∷ e ∷ es)) ≡ p ∷ (run_of e ++ places_of es)
    by_test false t = refl
    by_test true t =
        let j = joined t in
        ap (λ n. pages_on p.file p.page (range_with_len p.block n) ++ places_of es) (add-one e.count)
        ∙ ap (λ f. p ∷ (pages_on f (p.page + 1) (range_with_len (p.block + 1) e.count) ++ places_of es)) j.0
        ∙ ap (λ g. p ∷ (pages_on e.file g (range_with_len (p.block + 1) e.count) ++ places_of es)) j.1
        ∙ ap (λ b. p ∷ (pages_on e.file e.page (range_with_len b e.count) ++ places_of es)) j.2

pub places_of-runs : (ps : List Place) → places_of (runs ps) ≡ ps
places_of-runs [] = refl
places_of-runs (p ∷ ps) = front p (runs ps) ∙ ap (λ xs. p ∷ xs) (places_of-runs ps)

pub some_pages : (ps : List Place) → AllByRecursion (λ e. 1 ≤ e.count) (runs ps)
some_pages [] = tt
some_pages (p ∷ ps) = in_front_some p (runs ps) (some_pages ps)
  where
    in_front_some : (p : Place) (es : List Extent) → AllByRecursion (λ e. 1 ≤ e.count) es → AllByRecursion (λ e. 1 ≤ e.count) (in_front p es)
    in_front_some p [] all = (omega arith, tt)
    in_front_some p (e ∷ es) all =
        elim (goes_on p e) as (λ (t : Bool). AllByRecursion (λ e. 1 ≤ e.count) (cond t (record { file = p.file; page = p.page; block = p.block; count = e.count + 1 } ∷ es) (single p ∷ e ∷ es))) [
          | true ↦ (omega arith, all.1)
          | false ↦ (omega arith, all)
        ]

-- ---- one entry's numbers

pub record Fits (e : Extent) : Type 0 where
  pub file : e.file < 2 ^ 32
  pub page : e.page < 2 ^ 32
  pub block : e.block < 2 ^ 32
  pub count : e.count < 2 ^ 32

abbrev extent : ℕ → ℕ → ℕ → ℕ → Extent
extent file page block count = record { file = file; page = page; block = block; count = count }

entry_again : (e : Extent) → Fits e → entry_in (entry_bytes e) ≡ e
entry_again e fits =
    ap (λ n. extent n (u32_at (entry_bytes e) 4) (u32_at (entry_bytes e) 8) (u32_at (entry_bytes e) 12)) (from_le_bytes-to_le_bytes_4 e.file fits.file)
    ∙ ap (λ n. extent e.file n (u32_at (entry_bytes e) 8) (u32_at (entry_bytes e) 12)) (from_le_bytes-to_le_bytes_4 e.page fits.page)
    ∙ ap (λ n. extent e.file e.page n (u32_at (entry_bytes e) 12)) (from_le_bytes-to_le_bytes_4 e.block fits.block)
    ∙ ap (λ n. extent e.file e.page e.block n) (from_le_bytes-to_le_bytes_4 e.count fits.count)

one_used : (blocks : ℕ) (files : List Stored) (at : ℕ) (c : Cover) (e : Extent) → Fits e → 1 ≤ e.count → one_entry blocks files at c (entry_bytes e) ≡ used_entry blocks files at c e
unfolding one_entry
one_used blocks files at c e fits some =
    cond-false (eqb (u32_at (entry_bytes e) 12) 0) _ _ (ap (λ n. eqb n 0) (from_le_bytes-to_le_bytes_4 e.count fits.count) ∙ not_zero e.count some) ∙ ap (used_entry blocks files at c) (entry_again e fits)
  where
    not_zero : (n : ℕ) → 1 ≤ n → eqb n 0 ≡ false
    not_zero n some = grind (arith, nat_tests)

unused_ok : (blocks : ℕ) (files : List Stored) (at : ℕ) (c : Cover) → one_entry blocks files at c (replicate 16 0) ≡ Ok (record c { ended = true })
unfolding one_entry unused_entry
unused_ok blocks files at c = refl

next_one : (blocks : ℕ) (files : List Stored) (n at : ℕ) (c now : Cover) (bytes : List ℕ) → one_entry blocks files at c (take 16 bytes) ≡ Ok now → entries blocks files (suc n) at c bytes ≡ entries blocks files n (at + 16) now (drop 16 bytes)
unfolding entries
next_one blocks files n at c now bytes one = rw one refl

no_more : (blocks : ℕ) (files : List Stored) (at : ℕ) (c : Cover) (bytes : List ℕ) → entries blocks files 0 at c bytes ≡ Ok c
unfolding entries
no_more blocks files at c bytes = refl

pub record Covers (blocks : ℕ) (files : List Stored) (n at : ℕ) (c : Cover) (bytes : List ℕ) (all : List ℕ) : Type 0 where
  pub cover : Cover
  pub read : entries blocks files n at c bytes ≡ Ok cover
  pub blocks_are : cover.blocks ≡ all

zeros_again : (blocks : ℕ) (files : List Stored) (n at z : ℕ) (c : Cover) → z ≡ n * 16 → Covers blocks files n at c (replicate z 0) c.blocks
zeros_again blocks files zero at z c is = record { cover = c; read = no_more blocks files at c (replicate z 0); blocks_are = refl }
zeros_again blocks files (suc n) at z c is =
    let size : z ≡ n * 16 + 16 = omega (arith, suc-mul n 16) in
    let rest = zeros_again blocks files n (at + 16) (z - 16) (record c { ended = true }) (omega arith) in
    record {
      cover = rest.cover;
      read = next_one blocks files n at c (record c { ended = true }) (replicate z 0) (ap (one_entry blocks files at c) (take-replicate 16 z 0 (omega arith)) ∙ unused_ok blocks files at c) ∙ ap (entries blocks files n (at + 16) (record c { ended = true })) (drop-replicate 16 z 0) ∙ rest.read;
      blocks_are = rest.blocks_are;
    }

-- ---- the entry is the next one

abbrev nowhere : Place
nowhere = record { file = 0; page = 0; block = 0 }

page_at : (file q : ℕ) (bs : List ℕ) (n : ℕ) (d : Place) → n < length bs → ((get_or (pages_on file q bs) n d).file ≡ file) × ((get_or (pages_on file q bs) n d).page ≡ q + n)
page_at file q [] n d lt = absurd (omega arith)
page_at file q (b ∷ bs) zero d lt = (refl, omega arith)
page_at file q (b ∷ bs) (suc n) d lt = let h = page_at file (q + 1) bs n d (omega arith) in (h.0, omega (arith, h.1))

length_on : (file q : ℕ) (bs : List ℕ) → length (pages_on file q bs) ≡ length bs
length_on file q [] = refl
length_on file q (b ∷ bs) = ap suc (length_on file (q + 1) bs)

pub length_run : (e : Extent) → length (run_of e) ≡ e.count
length_run e = length_on e.file e.page (range_with_len e.block e.count) ∙ length_range e.block e.count

-- the places of later files
all_above : (k : ℕ) (fs : List Stored) (bs : List ℕ) → Rise k fs → AllByRecursion (λ p. k ≤ p.file) (placed_of fs bs)
all_above k [] bs rise = tt
all_above k (f ∷ fs) bs rise = both (pages_on f.id 0 (take (Pages f.len) bs)) (placed_of fs (drop (Pages f.len) bs)) (own f.id 0 (take (Pages f.len) bs) rise.0) (weaker (placed_of fs (drop (Pages f.len) bs)) (all_above (f.id + 1) fs (drop (Pages f.len) bs) rise.1))
  where
    own : (g q : ℕ) (bs : List ℕ) → k ≤ g → AllByRecursion (λ p. k ≤ p.file) (pages_on g q bs)
    own g q [] le = tt
    own g q (b ∷ bs) le = (le, own g (q + 1) bs le)

    weaker : (ps : List Place) → AllByRecursion (λ p. f.id + 1 ≤ p.file) ps → AllByRecursion (λ p. k ≤ p.file) ps
    weaker [] all = tt
    weaker (p ∷ ps) all = (omega (arith, all.0, rise.0), weaker ps all.1)

    both : (xs ys : List Place) → AllByRecursion (λ p. k ≤ p.file) xs → AllByRecursion (λ p. k ≤ p.file) ys → AllByRecursion (λ p. k ≤ p.file) (xs ++ ys)
    both [] ys a b = b
    both (x ∷ xs) ys a b = (a.0, both xs ys a.1 b)

above_at : (k : ℕ) (ps : List Place) (i : ℕ) (d : Place) → AllByRecursion (λ p. k ≤ p.file) ps → i < length ps → k ≤ (get_or ps i d).file
above_at k [] i d all lt = absurd (omega arith)
above_at k (p ∷ ps) zero d all lt = all.0
above_at k (p ∷ ps) (suc i) d all lt = above_at k ps i d all.1 (omega arith)

-- a page of the run, among all places
run_at : (done : List Place) (e : Extent) (rest all : List Place) (n i : ℕ) (d : Place) → all ≡ done ++ (run_of e ++ rest) → n ≡ length done + i → i < e.count → ((get_or all n d).file ≡ e.file) × ((get_or all n d).page ≡ e.page + i)
run_at done e rest all n i d is at lt =
    let inside : i < length (run_of e) = omega (arith, length_run e) in
    let here : get_or all n d ≡ get_or (run_of e) i d =
    ap (λ xs. get_or xs n d) is ∙ ap (λ k. get_or (done ++ (run_of e ++ rest)) k d) at ∙ get_or-append-add done (run_of e ++ rest) i d ∙ get_or_append_left (run_of e) rest d i inside in
    let h = page_at e.file e.page (range_with_len e.block e.count) i d (omega (arith, length_range e.block e.count)) in
    (ap (λ (p : Place). p.file) here ∙ h.0, ap (λ (p : Place). p.page) here ∙ h.1)

all_test : (e : Extent) (w : Awaited) → e.file ≡ w.file → e.page ≡ w.page → e.count ≤ w.left → (eqb e.file w.file && (eqb e.page w.page && leb e.count w.left)) ≡ true
all_test e w f p c = grind (arith, nat_tests)

next_here : (f : Stored) (fs : List Stored) (k : ℕ) (bs : List ℕ) (done : List Place) (e : Extent) (rest : List Place) → Rise k (f ∷ fs) → length bs ≡ pages_of (f ∷ fs) → placed_of (f ∷ fs) bs ≡ done ++ (run_of e ++ rest) → 1 ≤ e.count
    → length done < Pages f.len → is_at e (page_after (length done) (f ∷ fs)) ≡ true
next_here f fs k bs done e rest rise len is some lt =
    let n = length done in
    let own = pages_on f.id 0 (take (Pages f.len) bs) in
    let later = placed_of fs (drop (Pages f.len) bs) in
    let took : length (take (Pages f.len) bs) ≡ Pages f.len = omega (arith, length-take (Pages f.len) bs) in
    let size : length own ≡ Pages f.len = length_on f.id 0 (take (Pages f.len) bs) ∙ took in
    let first = run_at done e rest (own ++ later) n 0 nowhere is (omega arith) some in
    let own-page = page_at f.id 0 (take (Pages f.len) bs) n nowhere (omega (arith, took)) in
    let left : get_or (own ++ later) n nowhere ≡ get_or own n nowhere = get_or_append_left own later nowhere n (omega (arith, size)) in
    let file : e.file ≡ f.id = sym first.0 ∙ ap (λ (p : Place). p.file) left ∙ own-page.0 in
    let page : e.page ≡ n = omega (arith, first.1, ap (λ (p : Place). p.page) left, own-page.1) in
    let total : length own + length later ≡ n + (e.count + length rest) = omega (arith, ap length is, length-append own later, length-append done (run_of e ++ rest), length-append (run_of e) rest, length_run e) in
    let fits : e.count ≤ Pages f.len - n = elim (cases_lt (Pages f.len - n) e.count) [
      | inr le ↦ le
      | inl more ↦
          let over = run_at done e rest (own ++ later) (Pages f.len) (Pages f.len - n) nowhere is (omega arith) more in
          let at : Pages f.len ≡ length own + 0 = omega (arith, size) in
          let behind : get_or (own ++ later) (Pages f.len) nowhere ≡ get_or later 0 nowhere = ap (λ i. get_or (own ++ later) i nowhere) at ∙ get_or-append-add own later 0 nowhere in
          let above = above_at (f.id + 1) later 0 nowhere (all_above (f.id + 1) fs (drop (Pages f.len) bs) rise.1) (omega (arith, total, size)) in
          absurd (omega (arith, above, over.0, ap (λ (p : Place). p.file) behind, file))
    ] in
    ap (is_at e) (cond-true (ltb n (Pages f.len)) (Some (record { file = f.id; page = n; left = Pages f.len - n })) (page_after (n - Pages f.len) fs) (below n (Pages f.len) lt))
    ∙ all_test e (record { file = f.id; page = n; left = Pages f.len - n }) file page fits
  where
    below : (a b : ℕ) → a < b → ltb a b ≡ true
    below a b lt = grind (arith, nat_tests)

next_past : (f : Stored) (fs : List Stored) (done : List Place) → Pages f.len ≤ length done → page_after (length done) (f ∷ fs) ≡ page_after (length (drop (Pages f.len) done)) fs
next_past f fs done le =
    cond-false (ltb (length done) (Pages f.len)) (Some (record { file = f.id; page = length done; left = Pages f.len - length done })) (page_after (length done - Pages f.len) fs) (not_below (length done) (Pages f.len) le)
    ∙ ap (λ n. page_after n fs) (sym (length-drop (Pages f.len) done))
  where
    not_below : (a b : ℕ) → b ≤ a → ltb a b ≡ false
    not_below a b le = grind (arith, nat_tests)

behind_first : (own later done tail : List Place) (n : ℕ) → length own ≡ n → n ≤ length done → own ++ later ≡ done ++ tail → later ≡ drop n done ++ tail
behind_first own later done tail n size le is = sym (drop_at own later n size) ∙ ap (drop n) is ∙ drop-append-le n done tail le

pub next_is : (files : List Stored) (k : ℕ) (bs : List ℕ) (done : List Place) (e : Extent) (rest : List Place) → Rise k files → length bs ≡ pages_of files → placed_of files bs ≡ done ++ (run_of e ++ rest) → 1 ≤ e.count → is_at e (page_after (length done) files) ≡ true
next_is [] k bs done e rest rise len is some = absurd (omega (arith, ap length is, length-append done (run_of e ++ rest), length-append (run_of e) rest, length_run e))
next_is (f ∷ fs) k bs done e rest rise len is some =
    elim (cases_lt (length done) (Pages f.len)) [
      | inl lt ↦ next_here f fs k bs done e rest rise len is some lt
      | inr le ↦
          let size : length (pages_on f.id 0 (take (Pages f.len) bs)) ≡ Pages f.len = length_on f.id 0 (take (Pages f.len) bs) ∙ omega (arith, length-take (Pages f.len) bs) in
          ap (is_at e) (next_past f fs done le)
          ∙ next_is fs (f.id + 1) (drop (Pages f.len) bs) (drop (Pages f.len) done) e rest rise.1 (omega (arith, length-drop (Pages f.len) bs)) (behind_first (pages_on f.id 0 (take (Pages f.len) bs)) (placed_of fs (drop (Pages f.len) bs)) done (run_of e ++ rest) (Pages f.len) size le is) some
    ]

-- ---- its blocks are there, and no earlier entry has one of them

used_append : (b : ℕ) (xs ys : List Place) → is_used b (xs ++ ys) ≡ (is_used b xs || is_used b ys)
used_append b [] ys = refl
used_append b (x ∷ xs) ys =
    elim (eqb x.block b) as (λ (t : Bool). (t || is_used b (xs ++ ys)) ≡ ((t || is_used b xs) || is_used b ys)) [
      | true ↦ refl
      | false ↦ used_append b xs ys
    ]

apart_left : (b : ℕ) (xs ys : List Place) → AreApart (xs ++ ys) → is_used b ys ≡ true → is_used b xs ≡ false
apart_left b [] ys apart used = refl
apart_left b (x ∷ xs) ys apart used = by_test (eqb x.block b) refl (apart_left b xs ys apart.1 used)
  where
    or_right : (t : Bool) → (t || true) ≡ true
    or_right true = refl
    or_right false = refl

    by_test : (t : Bool) → eqb x.block b ≡ t → is_used b xs ≡ false → (t || is_used b xs) ≡ false
    by_test true e rest =
        let is : x.block ≡ b = grind (arith, nat_tests) in
        let there : is_used b (xs ++ ys) ≡ true = used_append b xs ys ∙ ap (λ t. is_used b xs || t) used ∙ or_right (is_used b xs) in
        let none : is_used b (xs ++ ys) ≡ false = ap (λ k. is_used k (xs ++ ys)) (sym is) ∙ apart.0 in
        absurd cc
    by_test false e rest = rest

used_in_run : (file q block n k : ℕ) (rest : List Place) → block ≤ k → k < block + n → is_used k (pages_on file q (range_with_len block n) ++ rest) ≡ true
used_in_run file q block zero k rest le lt = absurd (omega arith)
used_in_run file q block (suc n) k rest le lt =
    (elim (eqb block k) as (λ (t : Bool). eqb block k ≡ t → (t || is_used k (pages_on file (q + 1) (range_with_len (block + 1) n) ++ rest)) ≡ true) [
      | true ↦ λ t. refl
      | false ↦ λ t. used_in_run file (q + 1) (block + 1) n k rest (later block k le t) (omega arith)
    ]) refl
  where
    later : (a b : ℕ) → a ≤ b → eqb a b ≡ false → a + 1 ≤ b
    later a b le t = grind (arith, nat_tests)

find_none : (p : ℕ → Bool) (a n : ℕ) → ((k : ℕ) → a ≤ k → k < a + n → p k ≡ false) → find p (range_with_len a n) ≡ None
find_none p a zero none = refl
find_none p a (suc n) none = cond-false (p a) (Some a) (find p (range_with_len (a + 1) n)) (none a (omega arith) (omega arith)) ∙ find_none p (a + 1) n (λ k le lt. none k (omega arith) (omega arith))

pub no_overlap : (done : List Place) (e : Extent) (rest : List Place) → AreApart (done ++ (run_of e ++ rest)) → list_any (is_in e) (map (λ (p : Place). p.block) done) ≡ false
no_overlap done e rest apart =
    sym (any_inside done e.block e.count) ∙ ap is_some (find_none (λ b. is_used b done) e.block e.count (λ k le lt. apart_left k done (run_of e ++ rest) apart (used_in_run e.file e.page e.block e.count k rest le lt)))

all_right : (P : Place → Type 0) (xs ys : List Place) → AllByRecursion P (xs ++ ys) → AllByRecursion P ys
all_right P [] ys all = all
all_right P (x ∷ xs) ys all = all_right P xs ys all.1

run_within : (bound file q block n : ℕ) (rest : List Place) → AllByRecursion (λ p. p.block < bound) (pages_on file q (range_with_len block n) ++ rest) → 1 ≤ n → block + n ≤ bound
run_within bound file q block zero rest all some = absurd (omega arith)
run_within bound file q block (suc zero) rest all some = omega (arith, all.0)
run_within bound file q block (suc (suc n)) rest all some = omega (arith, run_within bound file (q + 1) (block + 1) (suc n) rest all.1 (omega arith))

first_small : (file q block n : ℕ) (rest : List Place) → AllByRecursion (λ p. (p.file < 2 ^ 32) × (p.page < 2 ^ 32)) (pages_on file q (range_with_len block n) ++ rest) → 1 ≤ n → (file < 2 ^ 32) × (q < 2 ^ 32)
first_small file q block zero rest all some = absurd (omega arith)
first_small file q block (suc n) rest all some = all.0

-- ---- all entries

pub record IsPlan (blocks : ℕ) (files : List Stored) (bs : List ℕ) (all : List Place) : Type 0 where
  pub rise : Rise 1 files
  pub count : length bs ≡ pages_of files
  pub places : placed_of files bs ≡ all
  pub apart : AreApart all
  pub within : AllByRecursion (λ p. p.block < blocks) all
  pub small : AllByRecursion (λ p. (p.file < 2 ^ 32) × (p.page < 2 ^ 32)) all
  pub limit : blocks < 2 ^ 32

abbrev found : List ℕ → Result Cover ImageFault
found xs = Ok (record { blocks = xs; ended = false })

pub entries_again : (es : List Extent) (blocks : ℕ) (files : List Stored) (bs : List ℕ) (all done : List Place) (n at left z : ℕ) → IsPlan blocks files bs all → AllByRecursion (λ e. 1 ≤ e.count) es → all ≡ done ++ places_of es → n ≡ length es + left → z ≡ left * 16
    → Covers blocks files n at (record { blocks = map (λ (p : Place). p.block) done; ended = false }) (flat_map entry_bytes es ++ replicate z 0) (map (λ (p : Place). p.block) all)
entries_again [] blocks files bs all done n at left z plan some is n-is z-is =
    let count : n ≡ left = omega arith in
    let rest = zeros_again blocks files n at z (record { blocks = map (λ (p : Place). p.block) done; ended = false }) (z-is ∙ ap (λ k. k * 16) (sym count)) in
    record { cover = rest.cover; read = rest.read; blocks_are = rest.blocks_are ∙ sym (ap (map (λ (p : Place). p.block)) (is ∙ append-nil done)) }
entries_again (e ∷ es) blocks files bs all done n at left z plan some is n-is z-is =
    let run = run_of e in
    let rest = places_of es in
    let more : n ≡ suc (n - 1) = omega arith in
    let bytes = flat_map entry_bytes es ++ replicate z 0 in
    let here = map (λ (p : Place). p.block) done in
    let now : Cover = record { blocks = here ++ range_with_len e.block e.count; ended = false } in
    let behind : Cover = record { blocks = map (λ (p : Place). p.block) (done ++ run); ended = false } in
    let joined : here ++ range_with_len e.block e.count ≡ map (λ (p : Place). p.block) (done ++ run) = sym (map-append (λ (p : Place). p.block) done run ∙ ap (λ xs. here ++ xs) (blocks_of_pages e.file e.page (range_with_len e.block e.count))) in
    let within : e.block + e.count ≤ blocks = run_within blocks e.file e.page e.block e.count rest (all_right (λ p. p.block < blocks) done (run ++ rest) (subst (AllByRecursion (λ p. p.block < blocks)) is plan.within)) some.0 in
    let small = first_small e.file e.page e.block e.count rest (all_right (λ p. (p.file < 2 ^ 32) × (p.page < 2 ^ 32)) done (run ++ rest) (subst (AllByRecursion (λ p. (p.file < 2 ^ 32) × (p.page < 2 ^ 32))) is plan.small)) some.0 in
    let fits : Fits e = record { file = small.0; page = small.1; block = omega (arith, within, some.0, plan.limit); count = omega (arith, within, plan.limit) } in
    let next : is_at e (page_after (length here) files) ≡ true = ap (λ m. is_at e (page_after m files)) (length-map done (λ (p : Place). p.block)) ∙ next_is files 1 bs done e rest plan.rise plan.count (plan.places ∙ is) some.0 in
    let test : is_next_entry blocks files (record { blocks = here; ended = false }) e ≡ true = both (is_at e (page_after (length here) files)) (leb (e.block + e.count) blocks) next (at_most (e.block + e.count) blocks within) in
    let one : one_entry blocks files at (record { blocks = here; ended = false }) (take 16 (entry_bytes e ++ bytes)) ≡ Ok behind =
    ap (one_entry blocks files at (record { blocks = here; ended = false })) (take_at (entry_bytes e) bytes 16 refl) ∙ one_used blocks files at (record { blocks = here; ended = false }) e fits some.0
    ∙ entered blocks files at (record { blocks = here; ended = false }) e test (no_overlap done e rest (subst AreApart is plan.apart)) ∙ ap (λ xs. found xs) joined in
    let tail = entries_again es blocks files bs all (done ++ run) (n - 1) (at + 16) left z plan some.1 (is ∙ sym (append_assoc done run rest)) (omega arith) z-is in
    record {
      cover = tail.cover;
      read =
          ap (λ k. entries blocks files k at (record { blocks = here; ended = false }) (flat_map entry_bytes (e ∷ es) ++ replicate z 0)) more
          ∙ ap (entries blocks files (suc (n - 1)) at (record { blocks = here; ended = false })) (append_assoc (entry_bytes e) (flat_map entry_bytes es) (replicate z 0))
          ∙ next_one blocks files (n - 1) at (record { blocks = here; ended = false }) behind (entry_bytes e ++ bytes) one ∙ ap (entries blocks files (n - 1) (at + 16) behind) (drop_at (entry_bytes e) bytes 16 refl) ∙ tail.read;
      blocks_are = tail.blocks_are;
    }
  where
    both : (a b : Bool) → a ≡ true → b ≡ true → (true && (a && b)) ≡ true
    both a b p q = grind arith

    at_most : (a b : ℕ) → a ≤ b → leb a b ≡ true
    at_most a b le = grind (arith, nat_tests)
