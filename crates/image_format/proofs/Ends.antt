-- The ends of the files.
use Rattle.std.proofs.Common.{◌≡◌, ℕ, zero, suc, ◌+◌, ◌/◌, ◌%◌, ◌<◌, List, [], ◌∷◌, length, take, drop, get_or, map, Bool, true, false, eqb, Option, Some, None, Ok, ap, ◌∙◌, sym, refl, subst, arith}
use Rattle.std.specs.Prelude.{not, ◌&&◌, slice_get, slice_index, option_map}
use Rattle.std.specs.List.{find, AllByRecursion}
use Rattle.std.proofs.lemmas.Bool.{cond-true, cond-false}
use Rattle.std.proofs.lemmas.List.{drop-drop, get_or-take, get_or-drop}
use Rattle.std.proofs.lemmas.Option.{slice_get-map, get_or_from_slice_get}
use Rattle.page_base.specs.Bytes.{Pages}
use Rattle.extent_map.specs.declared.places.Place.{Place}
use Rattle.image_format.specs.declared.faults.ImageKind.TheVariants.{Tail}
use Rattle.image_format.specs.Faults.{fault}
use Rattle.image_format.specs.Numbers.{are_zero}
use Rattle.image_format.specs.Records.{Stored}
use Rattle.image_format.specs.Bitmap.{is_set}
use Rattle.image_format.specs.Tails.{Share, shares, data_page, has_tail, tails}
use Rattle.image_format.specs.Tables.{pages_of}

-- ---- one file

abbrev pub blocks_list : List Place → List ℕ
blocks_list ps = map (λ (p : Place). p.block) ps

-- what the test of a share comes to
abbrev pub tail_at : List ℕ → List ℕ → ℕ → ℕ → Bool
tail_at bits body len block = not (eqb (len % 4096) 0) && (is_set bits block && not (are_zero (drop (len % 4096) (data_page body block))))

pub tail_is : (bits body : List ℕ) (s : Share) (len block : ℕ) → s.file.len ≡ len → slice_index s.blocks (len / 4096) ≡ block → has_tail bits body s ≡ tail_at bits body len block
tail_is bits body s len block len-is block-is =
    ap (λ n. tail_at bits body n (slice_index s.blocks (n / 4096))) len-is ∙ ap (tail_at bits body len) block-is

pub last_block : (ps : List Place) (bs : List ℕ) (n start i : ℕ) (p : Place) → bs ≡ take n (drop start (blocks_list ps)) → i < n → slice_get ps (start + i) ≡ Some p → slice_index bs i ≡ p.block
last_block ps bs n start i p is lt here =
    ap (λ xs. get_or xs i 0) is ∙ get_or-take n (drop start (blocks_list ps)) i 0 lt ∙ get_or-drop start (blocks_list ps) i 0
    ∙ get_or_from_slice_get (blocks_list ps) (start + i) p.block 0 (slice_get-map (λ (q : Place). q.block) ps (start + i) ∙ ap (option_map (λ (q : Place). q.block)) here)

pub place_below : (bound : ℕ) (ps : List Place) (i : ℕ) (p : Place) → AllByRecursion (λ q. q.block < bound) ps → slice_get ps i ≡ Some p → p.block < bound
place_below bound [] i p within here = absurd cc
place_below bound (q ∷ qs) zero p within here = let same : q ≡ p = cc in subst (λ (r : Place). r.block < bound) same within.0
place_below bound (q ∷ qs) (suc i) p within here = place_below bound qs i p within.1 here

pub no_place : (ps : List Place) (i : ℕ) → None ≡ slice_get ps i → i < length ps → ⊥
no_place [] i none lt = absurd (omega arith)
no_place (p ∷ ps) zero none lt = absurd cc
no_place (p ∷ ps) (suc i) none lt = no_place ps i none (omega arith)

-- ---- all files

drop_here : (xs : List Stored) (i : ℕ) (x : Stored) → slice_get xs i ≡ Some x → drop i xs ≡ x ∷ drop (i + 1) xs
drop_here [] i x e = absurd cc
drop_here (y ∷ ys) zero x e = let same : y ≡ x = cc in ap (λ z. z ∷ ys) same
drop_here (y ∷ ys) (suc i) x e = let at : suc (i + 1) ≡ suc i + 1 = omega arith in drop_here ys i x e ∙ ap (λ k. x ∷ drop k (y ∷ ys)) at

drop_end : (xs : List Stored) (i : ℕ) → slice_get xs i ≡ None → drop i xs ≡ []
drop_end [] zero e = refl
drop_end [] (suc i) e = refl
drop_end (x ∷ xs) zero e = absurd cc
drop_end (x ∷ xs) (suc i) e = drop_end xs i e

-- the pages of the files from one on
pub pages_left : (files : List Stored) (i : ℕ) (f : Stored) → slice_get files i ≡ Some f → pages_of (drop i files) ≡ Pages f.len + pages_of (drop (i + 1) files)
pages_left files i f here = ap pages_of (drop_here files i f here)

abbrev pub share_at : Stored → ℕ → List ℕ → Share
share_at f start bs = record { file = f; blocks = take (Pages f.len) (drop start bs) }

shares_left : (files : List Stored) (bs : List ℕ) (i start next : ℕ) (f : Stored) → slice_get files i ≡ Some f → next ≡ start + Pages f.len → shares (drop i files) (drop start bs) ≡ share_at f start bs ∷ shares (drop (i + 1) files) (drop next bs)
shares_left files bs i start next f here is =
    ap (λ fs. shares fs (drop start bs)) (drop_here files i f here)
    ∙ ap (λ xs. share_at f start bs ∷ shares (drop (i + 1) files) xs) (drop-drop (Pages f.len) start bs ∙ ap (λ n. drop n bs) (sym is))

pub tail_here : (p : Share → Bool) (files : List Stored) (bs : List ℕ) (i start : ℕ) (f : Stored) (r : Option Share) → slice_get files i ≡ Some f → p (share_at f start bs) ≡ true → find p (shares (drop i files) (drop start bs)) ≡ r → r ≡ Some (share_at f start bs)
tail_here p files bs i start f r here is before =
    sym before ∙ ap (find p) (shares_left files bs i start (start + Pages f.len) f here refl) ∙ cond-true (p (share_at f start bs)) (Some (share_at f start bs)) (find p (shares (drop (i + 1) files) (drop (start + Pages f.len) bs))) is

pub tail_later : (p : Share → Bool) (files : List Stored) (bs : List ℕ) (i start next : ℕ) (f : Stored) (r : Option Share) → slice_get files i ≡ Some f → next ≡ start + Pages f.len → p (share_at f start bs) ≡ false → find p (shares (drop i files) (drop start bs)) ≡ r → find p (shares (drop (i + 1) files) (drop next bs)) ≡ r
tail_later p files bs i start next f r here next-is is before =
    sym (ap (find p) (shares_left files bs i start next f here next-is) ∙ cond-false (p (share_at f start bs)) (Some (share_at f start bs)) (find p (shares (drop (i + 1) files) (drop next bs))) is) ∙ before

pub tail_none : (p : Share → Bool) (files : List Stored) (bs : List ℕ) (i start : ℕ) (r : Option Share) → slice_get files i ≡ None → find p (shares (drop i files) (drop start bs)) ≡ r → r ≡ None
tail_none p files bs i start r here before = sym before ∙ ap (λ fs. find p (shares fs (drop start bs))) (drop_end files i here)

pub no_tail : (bits body : List ℕ) (ss : List Share) → find (has_tail bits body) ss ≡ None → tails bits body ss ≡ Ok tt
unfolding tails
no_tail bits body ss is = rw is refl

pub some_tail : (bits body : List ℕ) (ss : List Share) (s : Share) → find (has_tail bits body) ss ≡ Some s → tails bits body ss ≡ fault Tail s.file.id
unfolding tails
some_tail bits body ss s is = rw is refl
