-- Meta data and pages that were mounted are whole, and stand for what the image says.
use Rattle.std.proofs.Common.{◌≡◌, ℕ, zero, suc, ◌+◌, ◌*◌, ◌/◌, ◌%◌, ◌^◌, ◌<◌, ◌≤◌, List, [], ◌∷◌, ◌++◌, length, take, drop, get_or, replicate, map, Bool, true, false, cond, eqb, None, Result, Ok, Err, inl, inr, refl, sym, subst, ap, ◌∙◌, arith, length-append}
use Rattle.std.specs.Prelude.{not, ◌&&◌, slice_index}
use Rattle.std.specs.List.{range_with_len, flat_map, find, list_any, AllByRecursion}
use Rattle.std.proofs.lemmas.Bool.{cases_lt}
use Rattle.std.proofs.Math.Nat.{zero-div}
use Rattle.std.proofs.lemmas.List.{drop_at, length-map, length-take, get_or_past}
use Rattle.std.proofs.lemmas.List.FromFn.{get_or-map-range_with_len}
use Rattle.page_base.specs.Bytes.{Pages}
use Rattle.page_base.specs.Drive.{IsDrive, meta_pages, total_pages}
use Rattle.name_table.specs.Files.{IsTable}
use Rattle.extent_map.specs.declared.places.Place.{Place}
use Rattle.extent_map.specs.Places.{IsSound, pages_on, is_used}
use Rattle.image_format.specs.declared.faults.ImageFault.{ImageFault}
use Rattle.image_format.specs.declared.meta.Meta.{Meta}
use Rattle.image_format.specs.Numbers.{are_zero}
use Rattle.image_format.specs.Records.{Stored}
use Rattle.image_format.specs.Bitmap.{is_set, is_stray, written_in}
use Rattle.image_format.specs.Tails.{Share, shares, data_page, has_tail}
use Rattle.image_format.specs.Image.{File, Image, Mounted, mounted, mounts_to, read_image}
use Rattle.image_format.specs.Encoding.{meta_page}
use Rattle.image_format.specs.Tables.{stored_files, blocks_in, placed_of, pages_of, pages_from, own_pages, IsOneSize, IsMounted, Mounts}
use Rattle.image_format.specs.Whole.{content_of, stands_for, goes_on, IsWhole, IsValid}
use Rattle.image_format.proofs.Areas.{length_range}
use Rattle.image_format.proofs.Marks.{written_length}
use Rattle.image_format.proofs.Steps.{ok_bind}
use Rattle.image_format.proofs.BitsAgain.{used_any}
use Rattle.image_laws.specs.Pages.{data_blocks}
use Rattle.image_laws.proofs.Steps.{none_in_range, none_at_all}
use Rattle.image_laws.proofs.Cutting.{pages_whole, pages_count, block_is}
use Rattle.image_laws.proofs.Readings.{read_so, body_length, all_pages, no_stray, no_tails}

-- ---- the image that was mounted

pub record Found (bytes : List ℕ) (m : Meta) (all : List (List ℕ)) : Type 0 where
  pub image : Image
  pub read : read_image bytes ≡ Ok image
  pub is : IsMounted bytes image m all

pub found : (bytes : List ℕ) (m : Meta) (all : List (List ℕ)) → Mounts bytes m all (read_image bytes) → Found bytes m all
found bytes m all is = by_read (read_image bytes) refl is
  where
    by_read : (r : Result Image ImageFault) → read_image bytes ≡ r → Mounts bytes m all r → Found bytes m all
    by_read (Ok i) e is = record { image = i; read = e; is = is }
    by_read (Err f) e is = absurd is

own_count : (version blocks : ℕ) (bytes : List ℕ) (m : Meta) → length (own_pages version blocks bytes m) ≡ meta_pages blocks
own_count version blocks bytes m =
    elim (eqb version 2) as (λ (b : Bool). length (cond b (pages_from bytes (meta_pages blocks)) (map (meta_page m) (range_with_len 0 (meta_pages blocks)))) ≡ meta_pages blocks) [
      | true ↦ pages_count bytes (meta_pages blocks)
      | false ↦ length-map (range_with_len 0 (meta_pages blocks)) (meta_page m) ∙ length_range 0 (meta_pages blocks)
    ]

-- the pages behind those of meta data
pub data_are : (bytes : List ℕ) (m : Meta) (all : List (List ℕ)) (f : Found bytes m all) → data_blocks m all ≡ pages_from f.image.body f.image.header.blocks
data_are bytes m all f =
    let h = f.image.header in
    ap (drop (meta_pages m.geometry.blocks)) f.is.pages
    ∙ drop_at (own_pages h.version h.blocks bytes m) (pages_from f.image.body h.blocks) (meta_pages m.geometry.blocks) (own_count h.version h.blocks bytes m ∙ ap meta_pages (sym f.is.blocks))

pub total : (bytes : List ℕ) (m : Meta) (all : List (List ℕ)) (f : Found bytes m all) → length all ≡ total_pages m.geometry.blocks
total bytes m all f =
    let h = f.image.header in
    ap length f.is.pages
    ∙ length-append (own_pages h.version h.blocks bytes m) (pages_from f.image.body h.blocks)
    ∙ ap (λ n. n + length (pages_from f.image.body h.blocks)) (own_count h.version h.blocks bytes m)
    ∙ ap (λ n. meta_pages h.blocks + n) (pages_count f.image.body h.blocks)
    ∙ ap total_pages (sym f.is.blocks)

pub one_size : (bytes : List ℕ) (m : Meta) (all : List (List ℕ)) (f : Found bytes m all) → IsOneSize m
one_size bytes m all f =
    record { extents = f.is.sizes ∙ sym f.is.blocks; written = ap length f.is.written ∙ written_length f.image.header.blocks f.image.bits ∙ sym f.is.blocks }

-- ---- the pages of the files

most_places : (files : List Stored) (bs : List ℕ) → length (placed_of files bs) ≤ pages_of files
most_places [] bs = omega arith
most_places (f ∷ fs) bs =
    omega (
      arith,
      length-append (pages_on f.id 0 (take (Pages f.len) bs)) (placed_of fs (drop (Pages f.len) bs)),
      pages_length f.id 0 (take (Pages f.len) bs),
      length-take (Pages f.len) bs,
      most_places fs (drop (Pages f.len) bs),
    )
  where
    pages_length : (file page : ℕ) (bs : List ℕ) → length (pages_on file page bs) ≡ length bs
    pages_length file page [] = refl
    pages_length file page (b ∷ bs) = ap suc (pages_length file (page + 1) bs)

counted : (bytes : List ℕ) (m : Meta) (all : List (List ℕ)) (f : Found bytes m all) → length m.extents.placed ≡ pages_of (stored_files m.names)
counted bytes m all f =
    let i = f.image in
    let count : length m.extents.placed ≡ length i.blocks = sym (length-map m.extents.placed (λ (p : Place). p.block)) ∙ ap length f.is.order in
    let most : length m.extents.placed ≤ pages_of i.files = omega (arith, ap length f.is.extents, most_places i.files i.blocks) in
    let least : pages_of i.files ≤ length i.blocks = all_pages i.files i.blocks (read_so bytes i f.read).covered in
    omega (arith, count, least, most, ap pages_of f.is.files)

places : (bytes : List ℕ) (m : Meta) (all : List (List ℕ)) (f : Found bytes m all) → m.extents.placed ≡ placed_of (stored_files m.names) (blocks_in m.extents)
places bytes m all f =
    f.is.extents ∙ ap (λ fs. placed_of fs f.image.blocks) (sym f.is.files) ∙ ap (placed_of (stored_files m.names)) (sym f.is.order)

-- ---- which blocks are written

pub written_is : (blocks : ℕ) (bits : List ℕ) (b : ℕ) → b < blocks → get_or (written_in blocks bits) b false ≡ is_set bits b
unfolding written_in
written_is blocks bits b lt = let e : 0 + b ≡ b = omega arith in get_or-map-range_with_len (is_set bits) 0 blocks b b false lt e

-- a bit that is set is one of the bitmap's
set_within : (bits : List ℕ) (b : ℕ) → is_set bits b ≡ true → b < 8 * length bits
set_within bits b is = elim (cases_lt b (8 * length bits)) [
  | inl lt ↦ lt
  | inr le ↦ absurd (clash (sym (none le) ∙ is))
]
  where
    none : 8 * length bits ≤ b → is_set bits b ≡ false
    none le =
        let past : length bits ≤ b / 8 = omega (arith, le) in
        ap (λ byte. eqb (byte / 2 ^ (b % 8) % 2) 1) (get_or_past bits (b / 8) 0 past) ∙ ap (λ n. eqb (n % 2) 1) (zero-div (2 ^ (b % 8)))

    clash : false ≡ true → ⊥
    clash e = cc

both : (s u : Bool) → (s && not u) ≡ false → s ≡ true → u ≡ true
both true true is set = refl
both true false is set = absurd cc
both false u is set = absurd cc

bit_used : (used bits : List ℕ) (b : ℕ) → find (is_stray bits used) (range_with_len 0 (8 * length bits)) ≡ None → is_set bits b ≡ true → list_any (λ u. eqb u b) used ≡ true
bit_used used bits b none set =
    both (is_set bits b) (list_any (λ u. eqb u b) used) (none_in_range (is_stray bits used) 0 (8 * length bits) b none (omega arith) (omega (arith, set_within bits b set))) set

written_used : (bytes : List ℕ) (m : Meta) (all : List (List ℕ)) (f : Found bytes m all) (b : ℕ) → get_or m.written b false ≡ true → is_used b m.extents.placed ≡ true
written_used bytes m all f b is = elim (cases_lt b f.image.header.blocks) [
  | inl lt ↦
      let i = f.image in
      let set : is_set i.bits b ≡ true = sym (written_is i.header.blocks i.bits b lt) ∙ ap (λ w. get_or w b false) (sym f.is.written) ∙ is in
      used_any b m.extents.placed ∙ ap (list_any (λ u. eqb u b)) f.is.order ∙ bit_used i.blocks i.bits b (no_stray i.blocks i.bits (read_so bytes i f.read).bitmap) set
  | inr le ↦
      absurd (clash (sym (get_or_past m.written b false (omega (arith, le, (one_size bytes m all f).written, f.is.blocks))) ∙ is))
]
  where
    clash : false ≡ true → ⊥
    clash e = cc

-- ---- the ends of the files

apart : (a b c d e : Bool) → (not a && (b && not c)) ≡ false → d ≡ b → e ≡ c → (not a && (d && not e)) ≡ false
apart a b c d e is same_d same_e = ap (λ t. not a && (t && not e)) same_d ∙ ap (λ t. not a && (b && not t)) same_e ∙ is

unwritten : (a e : Bool) → (not a && (false && not e)) ≡ false
unwritten true e = refl
unwritten false e = refl

ends_one : (m : Meta) (i : Image) (s : Share) → m.written ≡ written_in i.header.blocks i.bits → has_tail i.bits i.body s ≡ false → goes_on m (pages_from i.body i.header.blocks) s ≡ false
ends_one m i s written is = elim (cases_lt last i.header.blocks) [
  | inl lt ↦
      apart (eqb over 0) (is_set i.bits last) (are_zero (drop over (data_page i.body last))) (get_or m.written last false) (are_zero (drop over (get_or (pages_from i.body i.header.blocks) last []))) is
      (ap (λ w. get_or w last false) written ∙ written_is i.header.blocks i.bits last lt)
      (ap (λ page. are_zero (drop over page)) (block_is i.body i.header.blocks last lt))
  | inr le ↦
      let none : get_or m.written last false ≡ false = get_or_past m.written last false (omega (arith, le, ap length written, written_length i.header.blocks i.bits)) in
      ap (λ t. not (eqb over 0) && (t && not (are_zero (drop over (get_or (pages_from i.body i.header.blocks) last []))))) none
      ∙ unwritten (eqb over 0) (are_zero (drop over (get_or (pages_from i.body i.header.blocks) last [])))
]
  where
    over : ℕ
    over = s.file.len % 4096

    last : ℕ
    last = slice_index s.blocks (s.file.len / 4096)

ends_all : (m : Meta) (i : Image) (ss : List Share) → m.written ≡ written_in i.header.blocks i.bits → AllByRecursion (λ s. has_tail i.bits i.body s ≡ false) ss → AllByRecursion (λ s. goes_on m (pages_from i.body i.header.blocks) s ≡ false) ss
ends_all m i [] written all = tt
ends_all m i (s ∷ ss) written all = (ends_one m i s written all.0, ends_all m i ss written all.1)

ends : (bytes : List ℕ) (m : Meta) (all : List (List ℕ)) (f : Found bytes m all) → AllByRecursion (λ s. goes_on m (data_blocks m all) s ≡ false) (shares (stored_files m.names) (blocks_in m.extents))
ends bytes m all f =
    let i = f.image in
    let none = none_at_all (has_tail i.bits i.body) (shares i.files i.blocks) (no_tails i.bits i.body (shares i.files i.blocks) (read_so bytes i f.read).tails) in
    let shared : shares i.files i.blocks ≡ shares (stored_files m.names) (blocks_in m.extents) = ap (λ fs. shares fs i.blocks) (sym f.is.files) ∙ ap (shares (stored_files m.names)) (sym f.is.order) in
    subst (λ (body : List (List ℕ)). AllByRecursion (λ s. goes_on m body s ≡ false) (shares (stored_files m.names) (blocks_in m.extents))) (sym (data_are bytes m all f))
    (subst (AllByRecursion (λ s. goes_on m (pages_from i.body i.header.blocks) s ≡ false)) shared (ends_all m i (shares i.files i.blocks) f.is.written none))

-- ---- all of it

pub whole : (bytes : List ℕ) (m : Meta) (all : List (List ℕ)) (f : Found bytes m all) → IsWhole m (data_blocks m all)
whole bytes m all f =
    record {
      size = one_size bytes m all f;
      pages = ap length (data_are bytes m all f) ∙ pages_count f.image.body f.image.header.blocks ∙ sym f.is.blocks;
      places = places bytes m all f;
      count = counted bytes m all f;
      written = written_used bytes m all f;
      ends = ends bytes m all f;
    }

pub valid : (bytes : List ℕ) (m : Meta) (all : List (List ℕ)) (f : Found bytes m all) → IsDrive m.geometry.blocks m.geometry.dies → IsTable m.names → IsSound m.extents → IsValid m (data_blocks m all)
valid bytes m all f drive table sound =
    record {
      drive = drive;
      table = table;
      sound = sound;
      whole = subst (AllByRecursion (λ (page : List ℕ). length page ≡ 4096)) (sym (data_are bytes m all f)) (pages_whole f.image.body f.image.header.blocks (body_length bytes f.image (read_so bytes f.image f.read)));
    }

-- ---- what it stands for

blocks_low : (ps : List Place) (bound : ℕ) → AllByRecursion (λ (p : Place). p.block < bound) ps → AllByRecursion (λ b. b < bound) (map (λ (p : Place). p.block) ps)
blocks_low [] bound all = tt
blocks_low (p ∷ ps) bound all = (all.0, blocks_low ps bound all.1)

all_take : (n : ℕ) (bs : List ℕ) (bound : ℕ) → AllByRecursion (λ b. b < bound) bs → AllByRecursion (λ b. b < bound) (take n bs)
all_take zero bs bound all = tt
all_take (suc n) [] bound all = tt
all_take (suc n) (b ∷ bs) bound all = (all.0, all_take n bs bound all.1)

all_drop : (n : ℕ) (bs : List ℕ) (bound : ℕ) → AllByRecursion (λ b. b < bound) bs → AllByRecursion (λ b. b < bound) (drop n bs)
all_drop zero bs bound all = all
all_drop (suc n) [] bound all = tt
all_drop (suc n) (b ∷ bs) bound all = all_drop n bs bound all.1

flat_same : (f g : ℕ → List ℕ) (bound : ℕ) (bs : List ℕ) → ((b : ℕ) → b < bound → f b ≡ g b) → AllByRecursion (λ b. b < bound) bs → flat_map f bs ≡ flat_map g bs
flat_same f g bound [] same low = refl
flat_same f g bound (b ∷ bs) same low = ap (λ xs. xs ++ flat_map f bs) (same b low.0) ∙ ap (λ xs. g b ++ xs) (flat_same f g bound bs same low.1)

abbrev file_by : (ℕ → List ℕ) → Share → File
file_by content s = record { id = s.file.id; name = s.file.name; bytes = take s.file.len (flat_map content s.blocks); sealed = s.file.sealed }

abbrev with_bytes : Stored → List ℕ → File
with_bytes f bytes = record { id = f.id; name = f.name; bytes = bytes; sealed = f.sealed }

files_same : (f g : ℕ → List ℕ) (bound : ℕ) (files : List Stored) (bs : List ℕ) → ((b : ℕ) → b < bound → f b ≡ g b) → AllByRecursion (λ b. b < bound) bs → map (file_by f) (shares files bs) ≡ map (file_by g) (shares files bs)
files_same f g bound [] bs same low = refl
files_same f g bound (x ∷ xs) bs same low =
    ap (λ ys. with_bytes x (take x.len ys) ∷ map (file_by f) (shares xs (drop (Pages x.len) bs))) (flat_same f g bound (take (Pages x.len) bs) same (all_take (Pages x.len) bs bound low))
    ∙ ap (λ ys. file_by g (record { file = x; blocks = take (Pages x.len) bs }) ∷ ys) (files_same f g bound xs (drop (Pages x.len) bs) same (all_drop (Pages x.len) bs bound low))

content_same : (m : Meta) (i : Image) (blocks b : ℕ) → m.written ≡ written_in blocks i.bits → b < blocks → content_of m (pages_from i.body blocks) b ≡ cond (is_set i.bits b) (data_page i.body b) (replicate 4096 0)
content_same m i blocks b written lt =
    ap (λ w. cond (get_or w b false) (get_or (pages_from i.body blocks) b []) (replicate 4096 0)) written
    ∙ ap (λ t. cond t (get_or (pages_from i.body blocks) b []) (replicate 4096 0)) (written_is blocks i.bits b lt)
    ∙ ap (λ page. cond (is_set i.bits b) page (replicate 4096 0)) (block_is i.body blocks b lt)

stands_so : (bytes : List ℕ) (m : Meta) (all : List (List ℕ)) (f : Found bytes m all) → IsSound m.extents → stands_for m (data_blocks m all) ≡ mounted f.image
stands_so bytes m all f sound =
    let i = f.image in
    let blocks = i.header.blocks in
    let low : AllByRecursion (λ b. b < blocks) i.blocks = subst (AllByRecursion (λ b. b < blocks)) f.is.order (blocks_low m.extents.placed blocks (subst (λ n. AllByRecursion (λ (p : Place). p.block < n) m.extents.placed) f.is.sizes sound.within)) in
    let same = λ (b : ℕ) (lt : b < blocks). content_same m i blocks b f.is.written lt in
    ap (λ xs. of (map (file_by (content_of m xs)) (shares (stored_files m.names) (blocks_in m.extents))) m.names.next) (data_are bytes m all f)
    ∙ ap (λ fs. of (map (file_by (content_of m (pages_from i.body blocks))) (shares fs (blocks_in m.extents))) m.names.next) f.is.files
    ∙ ap (λ bs. of (map (file_by (content_of m (pages_from i.body blocks))) (shares i.files bs)) m.names.next) f.is.order
    ∙ ap (λ fs. of fs m.names.next) (files_same (content_of m (pages_from i.body blocks)) (λ b. cond (is_set i.bits b) (data_page i.body b) (replicate 4096 0)) blocks i.files i.blocks same low)
    ∙ ap (of (mounted i).files) f.is.next
  where
    of : List File → ℕ → Mounted
    of files next = record { files = files; next = next }

pub stands : (bytes : List ℕ) (m : Meta) (all : List (List ℕ)) (f : Found bytes m all) → IsSound m.extents → mounts_to bytes ≡ Ok (stands_for m (data_blocks m all))
unfolding mounts_to
stands bytes m all f sound = ok_bind (read_image bytes) f.image _ f.read ∙ ap (λ x. Ok x) (sym (stands_so bytes m all f sound))
