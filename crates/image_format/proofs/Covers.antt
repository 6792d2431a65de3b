-- Extents at the end of what is covered so far.
use Rattle.std.proofs.Common.{◌≡◌, ℕ, zero, suc, ◌+◌, ◌<◌, ◌≤◌, ◌^◌, List, [], ◌∷◌, ◌++◌, length, take, drop, map, Bool, true, false, cond, eqb, leb, ltb, Option, Some, None, ap, ◌∙◌, sym, refl, subst, arith, ◌||◌, append_assoc, length-append}
use Rattle.std.specs.Prelude.{slice_get, not, ◌&&◌, is_some, IfSome}
use Rattle.std.specs.List.{list_any, range_with_len, find, AllByRecursion}
use Rattle.std.proofs.lemmas.Bool.{cond-true, cond-false}
use Rattle.std.proofs.lemmas.Bool.Decides.{nat_tests}
use Rattle.std.proofs.lemmas.List.{append-nil, take_all, drop_all, take-append-le, drop-append-le, length-drop}
use Rattle.page_base.specs.Bytes.{Pages}
use Rattle.name_table.specs.declared.files.FileRec.{FileRec}
use Rattle.name_table.specs.Files.{Table, RiseFrom, IsFile}
use Rattle.extent_map.specs.declared.places.Place.{Place}
use Rattle.extent_map.specs.declared.places.Extent.{Extent}
use Rattle.extent_map.specs.Places.{Places, count_of, put_in, pages_on, is_used}
use Rattle.image_format.specs.declared.entries.Awaited.{Awaited}
use Rattle.image_format.specs.Records.{Stored}
use Rattle.image_format.specs.Entries.{is_at}
use Rattle.image_format.specs.Tables.{stored_of, stored_files, placed_of, pages_of}
use Rattle.image_format.specs.Reading.{IsLast, IsPlaced}

-- ---- files by rising id

abbrev pub Rise : ℕ → List Stored → Type 0
Rise k [] = Unit {0}
Rise k (f ∷ fs) = (k ≤ f.id) × Rise (f.id + 1) fs

pub rise_stored : (k : ℕ) (files : List FileRec) → RiseFrom k files → Rise k (map stored_of files)
rise_stored k [] rise = tt
rise_stored k (f ∷ fs) rise = (rise.0, rise_stored (f.id + 1) fs rise.1)

rise_at : (k : ℕ) (files : List Stored) (i : ℕ) (f : Stored) → Rise k files → slice_get files i ≡ Some f → k ≤ f.id
rise_at k [] i f rise here = absurd cc
rise_at k (g ∷ gs) zero f rise here = let same : g ≡ f = cc in subst (λ (h : Stored). k ≤ h.id) same rise.0
rise_at k (g ∷ gs) (suc i) f rise here = omega (arith, rise.0, rise_at (g.id + 1) gs i f rise.1 here)

-- ---- pages of files

abbrev nil : List ℕ
nil = []

take_nil : (m : ℕ) → take m nil ≡ nil
take_nil zero = refl
take_nil (suc m) = refl

drop_nil : (m : ℕ) → drop m nil ≡ nil
drop_nil zero = refl
drop_nil (suc m) = refl

pub placed_none : (fs : List Stored) → placed_of fs [] ≡ []
placed_none [] = refl
placed_none (f ∷ fs) =
    ap (λ xs. pages_on f.id 0 xs ++ placed_of fs (drop (Pages f.len) nil)) (take_nil (Pages f.len)) ∙ ap (λ xs. placed_of fs xs) (drop_nil (Pages f.len)) ∙ placed_none fs

count_pages : (file q : ℕ) (bs : List ℕ) → count_of file (pages_on file q bs) ≡ length bs
count_pages file q [] = refl
count_pages file q (b ∷ bs) = cond-true (eqb file file) (count_of file (pages_on file (q + 1) bs) + 1) (count_of file (pages_on file (q + 1) bs)) (grind (arith, nat_tests)) ∙ omega (arith, count_pages file (q + 1) bs)

count_other : (file g q : ℕ) (bs : List ℕ) (rest : List Place) → g < file → count_of file (pages_on g q bs ++ rest) ≡ count_of file rest
count_other file g q [] rest lt = refl
count_other file g q (b ∷ bs) rest lt = cond-false (eqb g file) (count_of file (pages_on g (q + 1) bs ++ rest) + 1) (count_of file (pages_on g (q + 1) bs ++ rest)) (grind (arith, nat_tests)) ∙ count_other file g (q + 1) bs rest lt

put_end : (file q : ℕ) (bs : List ℕ) (new : List Place) → put_in file new (pages_on file q bs) ≡ pages_on file q bs ++ new
put_end file q [] new = refl
put_end file q (b ∷ bs) new =
    cond-true (leb file file) (record { file = file; page = q; block = b } ∷ put_in file new (pages_on file (q + 1) bs)) (new ++ record { file = file; page = q; block = b } ∷ pages_on file (q + 1) bs) (grind (arith, nat_tests))
    ∙ ap (λ ps. record { file = file; page = q; block = b } ∷ ps) (put_end file (q + 1) bs new)

put_behind : (file g q : ℕ) (bs : List ℕ) (new rest : List Place) → g < file → put_in file new (pages_on g q bs ++ rest) ≡ pages_on g q bs ++ put_in file new rest
put_behind file g q [] new rest lt = refl
put_behind file g q (b ∷ bs) new rest lt =
    cond-true (leb g file) (record { file = g; page = q; block = b } ∷ put_in file new (pages_on g (q + 1) bs ++ rest)) (new ++ record { file = g; page = q; block = b } ∷ (pages_on g (q + 1) bs ++ rest)) (grind (arith, nat_tests))
    ∙ ap (λ ps. record { file = g; page = q; block = b } ∷ ps) (put_behind file g (q + 1) bs new rest lt)

pub pages_append : (file q p : ℕ) (xs ys : List ℕ) → p ≡ q + length xs → pages_on file q (xs ++ ys) ≡ pages_on file q xs ++ pages_on file p ys
pages_append file q p [] ys is = let e : q ≡ p = omega arith in ap (λ k. pages_on file k ys) e
pages_append file q p (x ∷ xs) ys is = ap (λ ps. record { file = file; page = q; block = x } ∷ ps) (pages_append file (q + 1) p xs ys (omega arith))

pub blocks_of_pages : (file q : ℕ) (bs : List ℕ) → map (λ (p : Place). p.block) (pages_on file q bs) ≡ bs
blocks_of_pages file q [] = refl
blocks_of_pages file q (b ∷ bs) = ap (λ xs. b ∷ xs) (blocks_of_pages file (q + 1) bs)

-- the first file alone has all of them
only : (g : Stored) (gs : List Stored) (bs : List ℕ) → length bs ≤ Pages g.len → placed_of (g ∷ gs) bs ≡ pages_on g.id 0 bs
only g gs bs le =
    ap (λ xs. pages_on g.id 0 xs ++ placed_of gs (drop (Pages g.len) bs)) (take_all (Pages g.len) bs le) ∙ ap (λ xs. pages_on g.id 0 bs ++ placed_of gs xs) (drop_all (Pages g.len) bs le)
    ∙ ap (λ ps. pages_on g.id 0 bs ++ ps) (placed_none gs) ∙ append-nil (pages_on g.id 0 bs)

-- ---- more blocks for the file whose page comes next

pub record Next (f : Stored) (page : ℕ) (files : List Stored) (blocks more : List ℕ) : Type 0 where
  pub count : count_of f.id (placed_of files blocks) ≡ page
  pub put : put_in f.id (pages_on f.id page more) (placed_of files blocks) ≡ placed_of files blocks ++ pages_on f.id page more
  pub placed : placed_of files (blocks ++ more) ≡ placed_of files blocks ++ pages_on f.id page more

first_file : (g : Stored) (gs : List Stored) (page : ℕ) (blocks more : List ℕ) → length blocks ≡ page → page + length more ≤ Pages g.len → Next g page (g ∷ gs) blocks more
first_file g gs page blocks more len fits =
    let now : placed_of (g ∷ gs) blocks ≡ pages_on g.id 0 blocks = only g gs blocks (omega arith) in
    let then : placed_of (g ∷ gs) (blocks ++ more) ≡ pages_on g.id 0 (blocks ++ more) = only g gs (blocks ++ more) (omega (arith, length-append blocks more)) in
    record {
      count = ap (count_of g.id) now ∙ count_pages g.id 0 blocks ∙ len;
      put = ap (put_in g.id (pages_on g.id page more)) now ∙ put_end g.id 0 blocks (pages_on g.id page more) ∙ ap (λ ps. ps ++ pages_on g.id page more) (sym now);
      placed = then ∙ pages_append g.id 0 page blocks more (omega arith) ∙ ap (λ ps. ps ++ pages_on g.id page more) (sym now);
    }

later_file : (f g : Stored) (gs : List Stored) (page : ℕ) (blocks more : List ℕ) → g.id < f.id → Pages g.len ≤ length blocks → Next f page gs (drop (Pages g.len) blocks) more → Next f page (g ∷ gs) blocks more
later_file f g gs page blocks more lt le rest =
    let front = take (Pages g.len) blocks in
    let behind = placed_of gs (drop (Pages g.len) blocks) in
    let new = pages_on f.id page more in
    record {
      count = count_other f.id g.id 0 front behind lt ∙ rest.count;
      put = put_behind f.id g.id 0 front new behind lt ∙ ap (λ ps. pages_on g.id 0 front ++ ps) rest.put ∙ sym (append_assoc (pages_on g.id 0 front) behind new);
      placed =
          ap (λ xs. pages_on g.id 0 xs ++ placed_of gs (drop (Pages g.len) (blocks ++ more))) (take-append-le (Pages g.len) blocks more le)
          ∙ ap (λ xs. pages_on g.id 0 front ++ placed_of gs xs) (drop-append-le (Pages g.len) blocks more le)
          ∙ ap (λ ps. pages_on g.id 0 front ++ ps) rest.placed ∙ sym (append_assoc (pages_on g.id 0 front) behind new);
    }

pub next_placed : (files : List Stored) (k index page : ℕ) (f : Stored) (blocks more : List ℕ) → Rise k files → slice_get files index ≡ Some f → length blocks ≡ pages_of (take index files) + page → page + length more ≤ Pages f.len → Next f page files blocks more
next_placed [] k index page f blocks more rise here len fits = absurd cc
next_placed (g ∷ gs) k zero page f blocks more rise here len fits =
    let same : g ≡ f = cc in
    subst (λ (h : Stored). Next h page (g ∷ gs) blocks more) same (first_file g gs page blocks more (omega arith) (subst (λ (h : Stored). page + length more ≤ Pages h.len) (sym same) fits))
next_placed (g ∷ gs) k (suc index) page f blocks more rise here len fits =
    later_file f g gs page blocks more (omega (arith, rise_at (g.id + 1) gs index f rise.1 here)) (omega arith)
    (next_placed gs (g.id + 1) index page f (drop (Pages g.len) blocks) more rise.1 here (omega (arith, length-drop (Pages g.len) blocks)) fits)

-- ---- what the tests of an entry say

pub record AtFile (e : Extent) (index page : ℕ) (files : List Stored) : Type 0 where
  pub file : Stored
  pub here : slice_get files index ≡ Some file
  pub id : e.file ≡ file.id
  pub begins : e.page ≡ page
  pub fits : page + e.count ≤ Pages file.len

pub at_file : (o : Option Awaited) (e : Extent) (index page : ℕ) (files : List Stored) → IfSome o (λ w. (w.page ≡ page) × IsLast w index files) → is_at e o ≡ true → AtFile e index page files
at_file None e index page files last is = absurd cc
at_file (Some w) e index page files last is =
    let h = tests e w is in
    record { file = last.1.file; here = last.1.here; id = h.0 ∙ last.1.id; begins = h.1 ∙ last.0; fits = omega (arith, h.2, last.1.left, last.0) }
  where
    tests : (e : Extent) (w : Awaited) → (eqb e.file w.file && (eqb e.page w.page && leb e.count w.left)) ≡ true → (e.file ≡ w.file) × (e.page ≡ w.page) × (e.count ≤ w.left)
    tests e w is = (grind (arith, nat_tests), grind (arith, nat_tests), grind (arith, nat_tests))

pub three_tests : (a b c : Bool) → (not a && (b && c)) ≡ true → (a ≡ false) × (b ≡ true) × (c ≡ true)
three_tests false true true e = (refl, refl, refl)
three_tests false true false e = absurd cc
three_tests false false c e = absurd cc
three_tests true b c e = absurd cc

-- ---- an entry's blocks among those that are covered

abbrev blocks_list : List Place → List ℕ
blocks_list ps = map (λ (p : Place). p.block) ps

abbrev inside : ℕ → ℕ → ℕ → Bool
inside block count b = leb block b && ltb b (block + count)

none_inside : (block : ℕ) (xs : List ℕ) → list_any (inside block 0) xs ≡ false
none_inside block [] = refl
none_inside block (x ∷ xs) = ap (λ t. t || list_any (inside block 0) xs) (outside x) ∙ none_inside block xs
  where
    outside : (x : ℕ) → inside block 0 x ≡ false
    outside x = grind (arith, nat_tests)

used_any : (b : ℕ) (ps : List Place) → is_used b ps ≡ list_any (λ x. eqb x b) (blocks_list ps)
used_any b [] = refl
used_any b (p ∷ ps) = ap (λ t. eqb p.block b || t) (used_any b ps)

split_any : (block n : ℕ) (xs : List ℕ) → list_any (inside block (suc n)) xs ≡ (list_any (λ x. eqb x block) xs || list_any (inside (block + 1) n) xs)
split_any block n [] = refl
split_any block n (x ∷ xs) =
    ap (λ t. t || list_any (inside block (suc n)) xs) (one x) ∙ ap (λ t. (eqb x block || inside (block + 1) n x) || t) (split_any block n xs)
    ∙ regroup (eqb x block) (inside (block + 1) n x) (list_any (λ y. eqb y block) xs) (list_any (inside (block + 1) n) xs)
  where
    one : (x : ℕ) → inside block (suc n) x ≡ (eqb x block || inside (block + 1) n x)
    one x = grind (arith, nat_tests)

    regroup : (a b c d : Bool) → ((a || b) || (c || d)) ≡ ((a || c) || (b || d))
    regroup true b c d = refl
    regroup false true true d = refl
    regroup false true false d = refl
    regroup false false c d = refl

pub any_inside : (ps : List Place) (block n : ℕ) → is_some (find (λ b. is_used b ps) (range_with_len block n)) ≡ list_any (inside block n) (blocks_list ps)
any_inside ps block zero = sym (none_inside block (blocks_list ps))
any_inside ps block (suc n) =
    first (is_used block ps) ∙ ap (λ t. t || is_some (find (λ b. is_used b ps) (range_with_len (block + 1) n))) (used_any block ps)
    ∙ ap (λ t. list_any (λ x. eqb x block) (blocks_list ps) || t) (any_inside ps (block + 1) n) ∙ sym (split_any block n (blocks_list ps))
  where
    first : (t : Bool) → is_some (cond t (Some block) (find (λ b. is_used b ps) (range_with_len (block + 1) n))) ≡ (t || is_some (find (λ b. is_used b ps) (range_with_len (block + 1) n)))
    first true = refl
    first false = refl

-- a file's length keeps its limit
pub stored_small : (next : ℕ) (files : List FileRec) (i : ℕ) (f : Stored) → AllByRecursion (IsFile next) files → slice_get (map stored_of files) i ≡ Some f → f.len ≤ 2 ^ 28
stored_small next [] i f each here = absurd cc
stored_small next (g ∷ gs) zero f each here = let same : stored_of g ≡ f = cc in subst (λ (h : Stored). h.len ≤ 2 ^ 28) same each.0.2
stored_small next (g ∷ gs) (suc i) f each here = stored_small next gs i f each.1 here

-- nothing is placed at first
pub none_placed : (t : Table) (s : Places) (ended : Bool) → s.placed ≡ [] → IsPlaced t (record { map = s; index = 0; page = 0; ended = ended })
none_placed t s ended none =
    record {
      places = none ∙ sym (placed_none (stored_files t)) ∙ ap (λ ps. placed_of (stored_files t) (map (λ (p : Place). p.block) ps)) (sym none);
      cursor = record { before = ap length none; inside = λ f e. omega arith; past = λ e. refl };
    }
