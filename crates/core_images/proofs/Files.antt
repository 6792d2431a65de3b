-- The files of a core are those that its tables and blocks stand for.
use Rattle.std.proofs.Common.{◌≡◌, ℕ, zero, suc, ◌+◌, ◌-◌, ◌*◌, ◌<◌, ◌≤◌, List, [], ◌∷◌, length, take, drop, map, get_or, refl, sym, ap, ◌∙◌, arith, ⊎_elim}
use Rattle.std.specs.Prelude.{◌≢◌, ◌/◌, ◌%◌, slice_get}
use Rattle.std.specs.List.{flat_map, AllByRecursion}
use Rattle.std.proofs.Math.Seq.{get_or-append_right}
use Rattle.std.proofs.lemmas.List.{ext_get_or, get_or-take, get_or_append_left, length-take, length-drop}
use Rattle.std.proofs.lemmas.List.FromFn.{get_or-map-range_with_len}
use Rattle.std.proofs.lemmas.Option.{slice_get-get_or}
use Rattle.page_base.specs.Bytes.{Pages}
use Rattle.name_table.specs.declared.files.FileRec.{FileRec}
use Rattle.name_table.specs.Files.{RiseFrom}
use Rattle.extent_map.specs.Places.{block_of}
use Rattle.image_format.specs.Tails.{Share, shares}
use Rattle.image_format.specs.Image as image_format
use Rattle.image_format.specs.Tables.{stored_of, pages_of, placed_of}
use Rattle.image_format.proofs.Areas.{length_flat}
use Rattle.core_state.specs.State.{Page, Places}
use Rattle.core_state.specs.Contents.{page_of}
use Rattle.core_state.specs.PlainOf.{file_bytes, file_page, plain_file}
use Rattle.core_state.specs.Words.{from_fn}
use Rattle.core_lemmas.proofs.Words.{less_or_not}
use Rattle.core_quick.proofs.Seen.{length_bytes}
use Rattle.system_state.specs.Cores.{file_of}
use Rattle.system_state.specs.Settled.{mounted_file}
use Rattle.system_start.proofs.Opened.{file_block, later_block}

-- ---- elements of lists

pub all_take : {A : Type 0} (P : A → Type 0) (n : ℕ) (xs : List A) → AllByRecursion P xs → AllByRecursion P (take n xs)
all_take P zero xs all = tt
all_take P (suc n) [] all = tt
all_take P (suc n) (x ∷ xs) all = (all.0, all_take P n xs all.1)

pub all_drop : {A : Type 0} (P : A → Type 0) (n : ℕ) (xs : List A) → AllByRecursion P xs → AllByRecursion P (drop n xs)
all_drop P zero xs all = all
all_drop P (suc n) [] all = tt
all_drop P (suc n) (x ∷ xs) all = all_drop P n xs all.1

pub all_at : {A : Type 0} (P : A → Type 0) (xs : List A) (i : ℕ) (d : A) → AllByRecursion P xs → i < length xs → P (get_or xs i d)
all_at P [] i d all l = absurd (omega arith)
all_at P (x ∷ xs) zero d all l = all.0
all_at P (x ∷ xs) (suc i) d all l = all_at P xs i d all.1 (omega arith)

-- ---- blocks joined

abbrev IsPage : (ℕ → Page) → ℕ → Type 0
IsPage content b = length (content b) ≡ 4096

get_joined : (content : ℕ → Page) (ks : List ℕ) (i : ℕ) → AllByRecursion (IsPage content) ks → i < 4096 * length ks → get_or (flat_map content ks) i 0 ≡ get_or (content (get_or ks (i / 4096) 0)) (i % 4096) 0
get_joined content [] i all l = absurd (omega arith)
get_joined content (k ∷ ks) i all l = ⊎_elim
    (λ (s : i < 4096).
    let a = all.0 in
    let q : 0 ≡ i / 4096 = omega arith in
    let r : i ≡ i % 4096 = omega arith in
    get_or_append_left (content k) (flat_map content ks) 0 i (omega arith)
    ∙ (ap (λ (j : ℕ). get_or (content k) j 0) r ∙ ap (λ (j : ℕ). get_or (content (get_or (k ∷ ks) j 0)) (i % 4096) 0) q))
    (λ (s : 4096 ≤ i).
    let a = all.0 in
    let e : i - length (content k) ≡ i - 4096 = omega arith in
    let q : suc ((i - 4096) / 4096) ≡ i / 4096 = omega arith in
    let r : (i - 4096) % 4096 ≡ i % 4096 = omega arith in
    get_or-append_right (content k) (flat_map content ks) i 0 (omega arith)
    ∙ (ap (λ (j : ℕ). get_or (flat_map content ks) j 0) e
    ∙ (get_joined content ks (i - 4096) all.1 (omega arith)
    ∙ (ap (λ (j : ℕ). get_or (content (get_or (k ∷ ks) j 0)) ((i - 4096) % 4096) 0) q ∙ ap (λ (j : ℕ). get_or (content (get_or (k ∷ ks) (i / 4096) 0)) j 0) r))))
    (less_or_not i 4096)

file_byte : (len : ℕ) (page : ℕ → Page) (i : ℕ) → i < len → get_or (file_bytes len page) i 0 ≡ get_or (page (i / 4096)) (i % 4096) 0
unfolding from_fn
file_byte len page i l = get_or-map-range_with_len (λ (k : ℕ). get_or (page (k / 4096)) (k % 4096) 0) 0 len i i 0 l (omega arith)

-- a file's bytes are its blocks joined and cut
bytes_joined : (content page : ℕ → Page) (ks : List ℕ) (len : ℕ) → length ks ≡ Pages len → AllByRecursion (IsPage content) ks → ((p : ℕ) → p < length ks → page p ≡ content (get_or ks p 0)) → file_bytes len page ≡ take len (flat_map content ks)
bytes_joined content page ks len count all same =
    ext_get_or 0 (file_bytes len page) (take len (flat_map content ks)) (length_bytes len page ∙ sym long)
    (λ i l. at i (let a = length_bytes len page in omega arith))
  where
    whole : length (flat_map content ks) ≡ length ks * 4096
    whole = length_flat content 4096 ks all

    long : length (take len (flat_map content ks)) ≡ len
    long = let a = whole in length-take len (flat_map content ks) ∙ omega arith

    at : (i : ℕ) → i < len → get_or (file_bytes len page) i 0 ≡ get_or (take len (flat_map content ks)) i 0
    at i l =
        file_byte len page i l
        ∙ (ap (λ (x : Page). get_or x (i % 4096) 0) (same (i / 4096) (omega arith))
        ∙ (sym (get_joined content ks i all (omega arith)) ∙ sym (get_or-take len (flat_map content ks) i 0 l)))

-- ---- all files

abbrev pub stored_by : (ℕ → Page) → Share → image_format.File
stored_by content s = record { id = s.file.id; name = s.file.name; bytes = take s.file.len (flat_map content s.blocks); sealed = s.file.sealed }

abbrev with_bytes : FileRec → List ℕ → image_format.File
with_bytes f bytes = record { id = f.id; name = f.name; bytes = bytes; sealed = f.sealed }

-- the block's content in the core is that in the image
pub record IsSame (pages content : ℕ → Page) (b : ℕ) : Type 0 where
  pub same : pages b ≡ content b
  pub whole : length (content b) ≡ 4096

wholes : (pages content : ℕ → Page) (ks : List ℕ) → AllByRecursion (IsSame pages content) ks → AllByRecursion (IsPage content) ks
wholes pages content [] all = tt
wholes pages content (k ∷ ks) all = (all.0.whole, wholes pages content ks all.1)

-- places are those of the files from an id on
abbrev pub Tell : Places → ℕ → List FileRec → List ℕ → Type 0
Tell places k ts bs = (id p : ℕ) → k ≤ id → places id p ≡ block_of id p (placed_of (map stored_of ts) bs)

pub tell_head : (places : Places) (k : ℕ) (t : FileRec) (ts : List FileRec) (bs : List ℕ) (p : ℕ) → RiseFrom k (t ∷ ts) → Tell places k (t ∷ ts) bs → places t.id p ≡ slice_get (take (Pages t.len) bs) p
tell_head places k t ts bs p rise tell = tell t.id p rise.0 ∙ file_block k ts bs t p rise

pub tell_rest : (places : Places) (k : ℕ) (t : FileRec) (ts : List FileRec) (bs : List ℕ) → RiseFrom k (t ∷ ts) → Tell places k (t ∷ ts) bs → Tell places (t.id + 1) ts (drop (Pages t.len) bs)
tell_rest places k t ts bs rise tell id p l = tell id p (let a = rise.0 in omega arith) ∙ later_block k ts bs t id p (apart l)
  where
    apart : t.id + 1 ≤ id → t.id ≢ id
    apart l e = omega arith

pub head_count : (t : FileRec) (ts : List FileRec) (bs : List ℕ) → length bs ≡ pages_of (map stored_of (t ∷ ts)) → length (take (Pages t.len) bs) ≡ Pages t.len
head_count t ts bs n = length-take (Pages t.len) bs ∙ omega arith

pub rest_count : (t : FileRec) (ts : List FileRec) (bs : List ℕ) → length bs ≡ pages_of (map stored_of (t ∷ ts)) → length (drop (Pages t.len) bs) ≡ pages_of (map stored_of ts)
rest_count t ts bs n = length-drop (Pages t.len) bs ∙ omega arith

pub files_are : (places : Places) (pages content : ℕ → Page) (k : ℕ) (ts : List FileRec) (bs : List ℕ) → RiseFrom k ts → length bs ≡ pages_of (map stored_of ts) → AllByRecursion (IsSame pages content) bs → Tell places k ts bs
    → map mounted_file (map (plain_file places pages) (map file_of ts)) ≡ map (stored_by content) (shares (map stored_of ts) bs)
files_are places pages content k [] bs rise n all tell = refl
files_are places pages content k (t ∷ ts) bs rise n all tell =
    ap (λ (bytes : List ℕ). with_bytes t bytes ∷ map mounted_file (map (plain_file places pages) (map file_of ts))) first
    ∙ ap (λ (fs : List image_format.File). with_bytes t (take t.len (flat_map content ks)) ∷ fs)
    (files_are places pages content (t.id + 1) ts (drop (Pages t.len) bs) rise.1 (rest_count t ts bs n) (all_drop (IsSame pages content) (Pages t.len) bs all) (tell_rest places k t ts bs rise tell))
  where
    ks : List ℕ
    ks = take (Pages t.len) bs

    own : AllByRecursion (IsSame pages content) ks
    own = all_take (IsSame pages content) (Pages t.len) bs all

    page : (p : ℕ) → p < length ks → file_page places pages t.id p ≡ content (get_or ks p 0)
    page p l =
        ap (page_of pages) (tell_head places k t ts bs p rise tell ∙ slice_get-get_or ks p 0 l)
        ∙ (all_at (IsSame pages content) ks p 0 own l).same

    first : file_bytes t.len (file_page places pages t.id) ≡ take t.len (flat_map content ks)
    first = bytes_joined content (file_page places pages t.id) ks t.len (head_count t ts bs n) (wholes pages content ks own) page
