-- One file more, and one block more: what the loops of loading keep.
use Rattle.std.proofs.Common.{◌≡◌, ℕ, zero, suc, ◌+◌, ◌-◌, ◌<◌, ◌≤◌, List, [], ◌∷◌, ◌++◌, length, take, drop, get_or, replicate, map, Bool, true, false, cond, None, Some, refl, sym, ap, ◌∙◌, arith, append_assoc}
use Rattle.std.specs.Prelude.{slice_get}
use Rattle.std.specs.List.{flat_map}
use Rattle.std.proofs.lemmas.Bool.{cond-true}
use Rattle.std.proofs.lemmas.List.{append-nil, drop-drop, take_all, length-replicate}
use Rattle.page_base.specs.Bytes.{Pages}
use Rattle.name_table.specs.declared.files.FileRec.{FileRec}
use Rattle.extent_map.specs.declared.places.Place.{Place}
use Rattle.image_format.specs.declared.meta.Meta.{Meta}
use Rattle.image_format.specs.Records.{Stored}
use Rattle.image_format.specs.Tails.{Share, shares}
use Rattle.image_format.specs.Tables.{stored_of, stored_files, blocks_in}
use Rattle.image_format.specs.Whole.{file_with}
use Rattle.plain_files.specs.declared.calls.PlainFile.{PlainFile}
use Rattle.plain_files.specs.Plain.{State, Function}
use Rattle.plain_image.specs.Drives.{plain_file}
use Rattle.plain_image.specs.Tables.{stored_file, files_left}
use Rattle.plain_image.proofs.Listing.{take_next, stored_push}

-- ---- files

drop_next : (files : List Stored) (i : ℕ) (f : Stored) → slice_get files i ≡ Some f → drop i files ≡ f ∷ drop (i + 1) files
drop_next [] i f here = absurd cc
drop_next (g ∷ gs) zero f here = let same : g ≡ f = cc in ap (λ h. h ∷ gs) same
drop_next (g ∷ gs) (suc i) f here = let e : suc (i + 1) ≡ suc i + 1 = omega arith in drop_next gs i f here ∙ ap (λ k. f ∷ drop k (g ∷ gs)) e

drop_past : (files : List Stored) (i : ℕ) → slice_get files i ≡ None → drop i files ≡ []
drop_past [] zero past = refl
drop_past [] (suc i) past = refl
drop_past (g ∷ gs) zero past = absurd cc
drop_past (g ∷ gs) (suc i) past = drop_past gs i past

abbrev pub share_at : Stored → ℕ → List ℕ → Share
share_at f before bs = record { file = f; blocks = take (Pages f.len) (drop before bs) }

-- the file that comes next is the first one that is left
pub file_pushed : (m : Meta) (body : List (List ℕ)) (i before next : ℕ) (f : Stored) (files whole : List PlainFile) (new : PlainFile) → slice_get (stored_files m.names) i ≡ Some f → next ≡ before + Pages f.len → new ≡ plain_file (file_with m body (share_at f before (blocks_in m.extents)))
    → files ++ files_left m body i before ≡ whole → (files ++ new ∷ []) ++ files_left m body (i + 1) next ≡ whole
file_pushed m body i before next f files whole new here next-is new-is is =
    let bs = blocks_in m.extents in
    let later = drop (i + 1) (stored_files m.names) in
    let left : files_left m body i before ≡ new ∷ files_left m body (i + 1) next =
    ap (λ fs. map plain_file (map (file_with m body) (shares fs (drop before bs)))) (drop_next (stored_files m.names) i f here)
    ∙ ap (λ xs. plain_file (file_with m body (share_at f before bs)) ∷ map plain_file (map (file_with m body) (shares later xs))) (drop-drop (Pages f.len) before bs ∙ ap (λ n. drop n bs) (sym next-is))
    ∙ ap (λ x. x ∷ files_left m body (i + 1) next) (sym new-is) in
    append_assoc files (new ∷ []) (files_left m body (i + 1) next) ∙ ap (λ xs. files ++ xs) (sym left) ∙ is

-- where no file is left, all are there
pub files_done : (m : Meta) (body : List (List ℕ)) (i before : ℕ) (files whole : List PlainFile) → slice_get (stored_files m.names) i ≡ None → files ++ files_left m body i before ≡ whole → files ≡ whole
files_done m body i before files whole past is =
    sym (append-nil files) ∙ ap (λ fs. files ++ map plain_file (map (file_with m body) (shares fs (drop before (blocks_in m.extents))))) (sym (drop_past (stored_files m.names) i past)) ∙ is

abbrev machine : List PlainFile → ℕ → List Function → ℕ → State
machine files next functions capacity = record { files = files; next = next; functions = functions; capacity = capacity }

pub machine_is : {files files' : List PlainFile} {next next' : ℕ} {functions functions' : List Function} {capacity capacity' : ℕ} → files ≡ files' → next ≡ next' → functions ≡ functions' → capacity ≡ capacity'
    → machine files next functions capacity ≡ machine files' next' functions' capacity'
machine_is p q r s = λ i. record { files = p i; next = q i; functions = r i; capacity = s i }

-- a file's record, with the bytes that were read
pub file_listed : (files : List Stored) (i : ℕ) (f : FileRec) (bytes : List ℕ) (old new : List PlainFile) → slice_get files i ≡ Some (stored_of f) → length bytes ≡ f.len → map stored_file old ≡ take i files → new ≡ old ++ record { id = f.id; name = f.name; bytes = bytes; sealed = f.sealed } ∷ []
    → map stored_file new ≡ take (i + 1) files
file_listed files i f bytes old new here len is new-is =
    let file : PlainFile = record { id = f.id; name = f.name; bytes = bytes; sealed = f.sealed } in
    ap (map stored_file) new-is ∙ stored_push old file ∙ ap (λ xs. xs ++ stored_file file ∷ []) is
    ∙ ap (λ n. take i files ++ record { id = f.id; name = f.name; len = n; sealed = f.sealed } ∷ []) len ∙ sym (take_next files i (stored_of f) here)

-- ---- blocks of a file

pub block_more : (content : ℕ → List ℕ) (ps : List Place) (before k : ℕ) (p : Place) → slice_get ps (before + k) ≡ Some p
    → flat_map content (take (k + 1) (drop before (map (λ (q : Place). q.block) ps))) ≡ flat_map content (take k (drop before (map (λ (q : Place). q.block) ps))) ++ content p.block
block_more content [] before k p here = absurd (none (before + k) here)
  where
    none : (j : ℕ) → slice_get {X = Place} [] j ≡ Some p → ⊥
    none j e = cc
block_more content (q ∷ qs) zero zero p here = let same : q ≡ p = cc in ap (λ (r : Place). content r.block ++ []) same ∙ append-nil (content p.block)
block_more content (q ∷ qs) zero (suc k) p here =
    let e : suc k + 1 ≡ suc (k + 1) = omega arith in
    let at : 0 + suc k ≡ suc (0 + k) = omega arith in
    let blocks = map (λ (r : Place). r.block) qs in
    ap (λ n. flat_map content (take n (q.block ∷ blocks))) e ∙ ap (λ ys. content q.block ++ ys) (block_more content qs zero k p (sym (ap (slice_get (q ∷ qs)) at) ∙ here)) ∙ sym (append_assoc (content q.block) (flat_map content (take k blocks)) (content p.block))
block_more content (q ∷ qs) (suc before) k p here =
    let at : suc before + k ≡ suc (before + k) = omega arith in
    block_more content qs before k p (sym (ap (slice_get (q ∷ qs)) at) ∙ here)

-- ---- what a block stands for

pub block_read : (written : List Bool) (body : List (List ℕ)) (b : ℕ) (test : Bool) (page piece : List ℕ) → test ≡ get_or written b false → test ≡ true → page ≡ get_or body b page → b < length body → length page ≡ 4096 → piece ≡ take (length (replicate {A = ℕ} 4096 0)) (drop 0 page)
    → piece ≡ cond (get_or written b false) (get_or body b []) (replicate 4096 0)
block_read written body b test page piece is set-so there lt len got =
    let all : length page ≤ length (replicate {A = ℕ} 4096 0) = omega (arith, len, length-replicate {A = ℕ} 4096 0) in
    got ∙ take_all (length (replicate {A = ℕ} 4096 0)) page all ∙ there ∙ same_at body b page [] lt ∙ sym (cond-true (get_or written b false) (get_or body b []) (replicate 4096 0) (sym is ∙ set-so))
  where
    same_at : (xs : List (List ℕ)) (i : ℕ) (d e : List ℕ) → i < length xs → get_or xs i d ≡ get_or xs i e
    same_at [] i d e lt = absurd (omega arith)
    same_at (x ∷ xs) zero d e lt = refl
    same_at (x ∷ xs) (suc i) d e lt = same_at xs i d e (omega arith)
