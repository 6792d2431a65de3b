-- The page that comes next.
use Rattle.std.proofs.Common.{◌≡◌, ℕ, zero, suc, ◌+◌, ◌-◌, ◌<◌, ◌≤◌, List, [], ◌∷◌, take, drop, true, false, ltb, Some, None, ap, ◌∙◌, sym, refl, subst, arith, add-one}
use Rattle.std.specs.Prelude.{slice_get, map, option_map}
use Rattle.std.proofs.lemmas.Option.{slice_get-map}
use Rattle.name_table.specs.declared.files.FileRec.{FileRec}
use Rattle.std.proofs.lemmas.Bool.{cond-true, cond-false}
use Rattle.std.proofs.lemmas.Bool.Decides.{nat_tests}
use Rattle.page_base.specs.Bytes.{Pages}
use Rattle.image_format.specs.Records.{Stored}
use Rattle.image_format.specs.Entries.{page_after}
use Rattle.image_format.specs.Tables.{stored_of, pages_of}
use Rattle.image_format.specs.Reading.{IsAt}

-- the search goes on from the cursor
pub from_cursor : (n index page : ℕ) (files : List Stored) → n ≡ pages_of (take index files) + page → page_after n files ≡ page_after page (drop index files)
from_cursor n zero page files is = ap (λ m. page_after m files) (let e : n ≡ page = omega (arith, is) in e)
from_cursor n (suc index) page [] is = refl
from_cursor n (suc index) page (f ∷ fs) is =
    let le : Pages f.len ≤ n = omega (arith, is) in
    let past : ltb n (Pages f.len) ≡ false = later n (Pages f.len) le in
    cond-false (ltb n (Pages f.len)) (Some (record { file = f.id; page = n; left = Pages f.len - n })) (page_after (n - Pages f.len) fs) past
    ∙ from_cursor (n - Pages f.len) index page fs (omega (arith, is))
  where
    later : (a b : ℕ) → b ≤ a → ltb a b ≡ false
    later a b le = grind (arith, nat_tests)

drop_here : {A : Type 0} (xs : List A) (i : ℕ) (x : A) → slice_get xs i ≡ Some x → drop i xs ≡ x ∷ drop (suc i) xs
drop_here [] i x e = absurd cc
drop_here (y ∷ ys) zero x e = let same : y ≡ x = cc in ap (λ z. z ∷ ys) same
drop_here (y ∷ ys) (suc i) x e = drop_here ys i x e

take_here : (files : List Stored) (i : ℕ) (f : Stored) → slice_get files i ≡ Some f → pages_of (take (suc i) files) ≡ pages_of (take i files) + Pages f.len
take_here [] i f e = absurd cc
take_here (g ∷ gs) zero f e = let same : g ≡ f = cc in ap (λ (h : Stored). Pages h.len + 0) same ∙ (let k : Pages f.len + 0 ≡ 0 + Pages f.len = omega arith in k)
take_here (g ∷ gs) (suc i) f e = omega (arith, take_here gs i f e)

-- the cursor stands on a page of the file
pub found_page : (n index page : ℕ) (files : List Stored) (f : Stored) → IsAt n index page files → slice_get files index ≡ Some f → page < Pages f.len → page_after n files ≡ Some (record { file = f.id; page = page; left = Pages f.len - page })
found_page n index page files f at here lt =
    from_cursor n index page files at.before ∙ ap (page_after page) (drop_here files index f here)
    ∙ cond-true (ltb page (Pages f.len)) (Some (record { file = f.id; page = page; left = Pages f.len - page })) (page_after (page - Pages f.len) (drop (suc index) files)) (below page (Pages f.len) lt)
  where
    below : (a b : ℕ) → a < b → ltb a b ≡ true
    below a b lt = grind (arith, nat_tests)

-- past the file's last page it moves to the next file
pub moves_on : (n index page : ℕ) (files : List Stored) (f : Stored) → IsAt n index page files → slice_get files index ≡ Some f → Pages f.len ≤ page → IsAt n (index + 1) 0 files
moves_on n index page files f at here le =
    let full : page ≡ Pages f.len = omega (arith, at.inside f here) in
    record { before = rw (add-one index) (omega (arith, at.before, take_here files index f here)); inside = λ g e. omega arith; past = λ e. refl }

-- past the last file no page is left
pub none_left : (n index page : ℕ) (files : List Stored) → IsAt n index page files → slice_get files index ≡ None → page_after n files ≡ None
none_left n index page files at past = from_cursor n index page files at.before ∙ ap (page_after page) (drop_past files index past)
  where
    drop_past : (files : List Stored) (i : ℕ) → slice_get files i ≡ None → drop i files ≡ []
    drop_past [] zero e = refl
    drop_past [] (suc i) e = refl
    drop_past (f ∷ fs) zero e = absurd cc
    drop_past (f ∷ fs) (suc i) e = drop_past fs i e

-- an entry that is taken moves it
pub moves_by : (n index page count : ℕ) (files : List Stored) (f : Stored) → IsAt n index page files → slice_get files index ≡ Some f → page + count ≤ Pages f.len → IsAt (n + count) index (page + count) files
moves_by n index page count files f at here le =
    record { before = omega (arith, at.before); inside = λ g e. subst (λ (h : Stored). page + count ≤ Pages h.len) (same f g (sym here ∙ e)) le; past = λ e. absurd (none f (sym here ∙ e)) }
  where
    same : (f g : Stored) → Some f ≡ Some g → f ≡ g
    same f g e = cc

    none : (f : Stored) → Some f ≡ None → ⊥
    none f e = cc

pub stored_at : (files : List FileRec) (i : ℕ) (f : FileRec) → slice_get files i ≡ Some f → slice_get (map stored_of files) i ≡ Some (stored_of f)
stored_at files i f here = slice_get-map stored_of files i ∙ ap (option_map stored_of) here

-- where no page is left, the files have as many pages as there are
pub all_pages : (n index page : ℕ) (files : List Stored) → IsAt n index page files → slice_get files index ≡ None → n ≡ pages_of files
all_pages n index page files at past = omega (arith, at.before, at.past past, whole files index past)
  where
    whole : (files : List Stored) (i : ℕ) → slice_get files i ≡ None → pages_of (take i files) ≡ pages_of files
    whole [] zero e = refl
    whole [] (suc i) e = refl
    whole (f ∷ fs) zero e = absurd cc
    whole (f ∷ fs) (suc i) e = ap (λ n. Pages f.len + n) (whole fs i e)
