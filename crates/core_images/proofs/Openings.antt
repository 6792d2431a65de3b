-- The opening core of an image whose tables and data blocks are whole, and of an image that was mounted.
use Rattle.std.proofs.Common.{◌≡◌, ℕ, zero, suc, ◌+◌, ◌*◌, ◌<◌, List, [], ◌∷◌, ◌++◌, length, map, replicate, Bool, true, false, cond, eqb, ltb, Ok, refl, sym, ap, ◌∙◌, subst, arith, mod-lt}
use Rattle.std.specs.Prelude.{◌/◌, ◌%◌, slice_index_or}
use Rattle.std.specs.List.{AllByRecursion, range_with_len}
use Rattle.std.proofs.lemmas.Bool.{cond-true, cond-false}
use Rattle.std.proofs.lemmas.Bool.Decides.{nat_tests}
use Rattle.std.proofs.lemmas.List.{get_or-drop, length-drop, length-replicate}
use Rattle.std.proofs.lemmas.List.FromFn.{get_or-map-range_with_len, fill_by_all}
use Rattle.page_base.specs.Bytes.{zero_page}
use Rattle.page_base.specs.Drive.{IsDrive, meta_pages, total_pages}
use Rattle.page_base.proofs.Shares.{place_inside}
use Rattle.name_table.specs.Files.{IsTable}
use Rattle.extent_map.specs.Places.{IsSound}
use Rattle.image_format.specs.declared.header.Header.{Header}
use Rattle.image_format.specs.declared.meta.Meta.{Meta}
use Rattle.image_format.specs.Header.{image_length}
use Rattle.image_format.specs.Encoding.{meta_page}
use Rattle.image_format.specs.Image as image_format
use Rattle.image_format.specs.Image.{mounts_to}
use Rattle.image_format.specs.Tables.{own_pages, pages_from}
use Rattle.image_format.specs.Tails.{data_page}
use Rattle.image_format.specs.Whole.{block_at, content_of, stands_for, IsWhole}
use Rattle.image_format.proofs.Areas.{part_length}
use Rattle.image_laws.specs.Pages.{data_blocks}
use Rattle.image_laws.proofs.Cutting.{pages_whole}
use Rattle.image_laws.proofs.Readings.{read_so, body_length}
use Rattle.image_laws.proofs.Whole.{Found, total, whole, stands}
use Rattle.flash_die.specs.Dies.{DieView}
use Rattle.dispatcher.specs.declared.side.Place.{Place}
use Rattle.core_state.specs.State.{Page, Core}
use Rattle.core_state.specs.Words.{from_fn}
use Rattle.core_state.specs.Contents.{contents}
use Rattle.core_state.specs.Coherent.{Coherent}
use Rattle.core_state.specs.Opening.{opening_core}
use Rattle.core_state.specs.PlainOf.{plain}
use Rattle.core_state.proofs.Openings.{opening_coherent}
use Rattle.system_state.specs.Settled.{mounted_of}
use Rattle.system_start.specs.Started.{image_in, data_in, pages_of, MayStart, opening_on}
use Rattle.system_start.proofs.Whole.{opened_whole}
use Rattle.core_images.specs.Tables.{HasTables}
use Rattle.core_images.proofs.Encodes.{page_whole}
use Rattle.core_images.proofs.Files.{IsSame, all_at}
use Rattle.core_images.proofs.Mounts.{plain_stands, zero_is}

-- ---- tables and data blocks that are whole

abbrev pub AreWhole : Meta → (ℕ → Page) → Type 0
AreWhole m pages = (p : ℕ) → p < total_pages m.geometry.blocks → length (pages p) ≡ 4096

module _ (m : Meta) (pages : ℕ → Page) (lanes : ℕ) (place : Place) (w : IsWhole m (data_in m pages)) where
  abbrev core : Core
  core = opening_core (image_in m pages) lanes place

  pub has_tables : HasTables m core
  has_tables = record {
    blocks = refl;
    dies = refl;
    files = refl;
    next = refl;
    extents = w.size.extents;
    places = refl;
    count = w.size.written;
    written = λ b l. refl;
  }

  data_is : (b : ℕ) → b < m.geometry.blocks → block_at (data_in m pages) b ≡ pages (meta_pages m.geometry.blocks + b)
  unfolding from_fn
  data_is b l = get_or-map-range_with_len (λ (x : ℕ). pages (meta_pages m.geometry.blocks + x)) 0 m.geometry.blocks b b [] l (omega arith)

  -- the page of a data block
  flash_is : (b : ℕ) → b < m.geometry.blocks → (core.blocks b).flash ≡ block_at (data_in m pages) b
  flash_is b l =
      let n = meta_pages m.geometry.blocks in
      let low : n + b < total_pages m.geometry.blocks = omega arith in
      cond-true (ltb (n + b) (total_pages m.geometry.blocks)) (pages (n + b)) zero_page (grind (arith, nat_tests)) ∙ sym (data_is b l)

  blocks_are : AreWhole m pages → (b : ℕ) → b < m.geometry.blocks → IsSame (contents core.blocks) (content_of m (data_in m pages)) b
  blocks_are long b l = by_flag (slice_index_or m.written b false) refl
    where
      page : Page
      page = block_at (data_in m pages) b

      by_flag : (marked : Bool) → slice_index_or m.written b false ≡ marked → IsSame (contents core.blocks) (content_of m (data_in m pages)) b
      by_flag true e = record {
        same = cond-true (slice_index_or m.written b false) (core.blocks b).flash zero_page e ∙ (flash_is b l ∙ sym (cond-true (slice_index_or m.written b false) page (replicate 4096 0) e));
        whole = ap length (cond-true (slice_index_or m.written b false) page (replicate 4096 0) e ∙ data_is b l) ∙ long (meta_pages m.geometry.blocks + b) (omega arith);
      }
      by_flag false e = record {
        same = cond-false (slice_index_or m.written b false) (core.blocks b).flash zero_page e ∙ (zero_is ∙ sym (cond-false (slice_index_or m.written b false) page (replicate 4096 0) e));
        whole = ap length (cond-false (slice_index_or m.written b false) page (replicate 4096 0) e) ∙ length-replicate {A = ℕ} 4096 0;
      }

  pub opened : IsTable m.names → IsSound m.extents → AreWhole m pages → mounted_of (plain core) ≡ stands_for m (data_in m pages)
  opened table sound long = plain_stands m core (data_in m pages) has_tables table sound w (blocks_are long)

  pub coherent : IsDrive m.geometry.blocks m.geometry.dies → IsTable m.names → IsSound m.extents → AreWhole m pages → Coherent core
  coherent drive table sound long = opening_coherent (image_in m pages) lanes place (opened_whole m pages table sound w drive long)

-- ---- an image that was mounted

abbrev IsLong : Page → Type 0
IsLong page = length page ≡ 4096

range_long : (f : ℕ → Page) (a n : ℕ) → ((i : ℕ) → i < a + n → length (f i) ≡ 4096) → AllByRecursion IsLong (map f (range_with_len a n))
range_long f a zero each = tt
range_long f a (suc n) each = (each a (omega arith), range_long f (a + 1) n (λ i l. each i (omega arith)))

both_long : (xs ys : List Page) → AllByRecursion IsLong xs → AllByRecursion IsLong ys → AllByRecursion IsLong (xs ++ ys)
both_long [] ys a b = b
both_long (x ∷ xs) ys a b = (a.0, both_long xs ys a.1 b)

module _ (bytes : List ℕ) (m : Meta) (all : List Page) (f : Found bytes m all) where
  abbrev head : Header
  head = f.image.header

  own_long : (is_second : Bool) → eqb head.version 2 ≡ is_second → AllByRecursion IsLong (cond is_second (pages_from bytes (meta_pages head.blocks)) (map (meta_page m) (range_with_len 0 (meta_pages head.blocks))))
  own_long true e =
      let version : head.version ≡ 2 = grind (arith, nat_tests) in
      let size : length bytes ≡ image_length 2 head.blocks = (read_so bytes f.image f.read).size ∙ ap (λ (v : ℕ). image_length v head.blocks) version in
      range_long (data_page bytes) 0 (meta_pages head.blocks) (λ i l. part_length bytes (4096 * i) 4096 (omega arith))
  own_long false e = range_long (meta_page m) 0 (meta_pages head.blocks) (λ i l. page_whole m i (let k = f.is.blocks in subst (λ (n : ℕ). i < meta_pages n) (sym k) (omega arith)))

  all_long : AllByRecursion IsLong all
  all_long = subst (AllByRecursion IsLong) (sym f.is.pages)
      (both_long (own_pages head.version head.blocks bytes m) (pages_from f.image.body head.blocks) (own_long (eqb head.version 2) refl)
      (pages_whole f.image.body head.blocks (body_length bytes f.image (read_so bytes f.image f.read))))

  module _ (pages : ℕ → Page) (same : (p : ℕ) → p < total_pages m.geometry.blocks → pages p ≡ slice_index_or all p []) where
    pub are_long : AreWhole m pages
    are_long p l = ap length (same p l) ∙ all_at IsLong all p [] all_long (let n = total bytes m all f in omega arith)

    same_data : data_blocks m all ≡ data_in m pages
    unfolding from_fn
    same_data =
        fill_by_all (λ (b : ℕ). pages (meta_pages m.geometry.blocks + b)) (data_blocks m all) m.geometry.blocks []
        (let n = total bytes m all f in let d = length-drop (meta_pages m.geometry.blocks) all in omega arith)
        (λ b l. get_or-drop (meta_pages m.geometry.blocks) all b [] ∙ sym (same (meta_pages m.geometry.blocks + b) (omega arith)))

    pub is_whole : IsWhole m (data_in m pages)
    is_whole = subst (IsWhole m) same_data (whole bytes m all f)

    pub mounted : (lanes : ℕ) (place : Place) → IsTable m.names → IsSound m.extents → mounts_to bytes ≡ Ok (mounted_of (plain (opening_core (image_in m pages) lanes place)))
    mounted lanes place table sound =
        stands bytes m all f sound
        ∙ ap (λ (x : image_format.Mounted). Ok x) (ap (stands_for m) same_data ∙ sym (opened m pages lanes place is_whole table sound are_long))

-- ---- dies that may start

module _ {D : Type 0} (seen : D → DieView) (dies : List D) (m : Meta) (may : MayStart seen dies m) where
  pages_long : IsDrive m.geometry.blocks m.geometry.dies → AreWhole m (pages_of seen dies)
  pages_long drive p l =
      let c = may.count in
      let one = drive.some_dies in
      let some : 0 < length dies = omega arith in
      let d : p % length dies < length dies = mod-lt p some in
      (may.told (p % length dies) d).whole (p / length dies) (let i = place_inside p (total_pages m.geometry.blocks) (length dies) some l in let e = may.size (p % length dies) d in omega arith)

  pub started : (lanes : ℕ) (place : Place) → IsDrive m.geometry.blocks m.geometry.dies → IsTable m.names → IsSound m.extents → mounted_of (plain (opening_on seen dies m lanes place)) ≡ stands_for m (data_in m (pages_of seen dies))
  started lanes place drive table sound = opened m (pages_of seen dies) lanes place may.whole table sound (pages_long drive)
