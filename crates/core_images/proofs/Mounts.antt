-- What a core's plain state and its tables have in common, and what the pages of flash mount to once all is stored.
use Rattle.std.proofs.Common.{◌≡◌, ℕ, zero, suc, ◌+◌, ◌-◌, ◌<◌, List, [], ◌∷◌, ◌++◌, length, map, replicate, Bool, true, false, ltb, None, Ok, refl, sym, ap, ◌∙◌, subst, arith}
use Rattle.std.specs.Prelude.{slice_index_or}
use Rattle.std.specs.List.{AllByRecursion, flat_map, range_with_len}
use Rattle.std.proofs.lemmas.Bool.{cond-true, cond-false}
use Rattle.std.proofs.lemmas.Bool.Decides.{nat_tests}
use Rattle.std.proofs.lemmas.List.{length-map}
use Rattle.page_base.specs.Bytes.{zero_page}
use Rattle.page_base.specs.Drive.{meta_pages, total_pages}
use Rattle.name_table.specs.Files.{IsTable}
use Rattle.extent_map.specs.declared.places.Place.{Place}
use Rattle.extent_map.specs.Places.{block_of, IsSound}
use Rattle.image_format.specs.declared.meta.Meta.{Meta}
use Rattle.image_format.specs.Image as image_format
use Rattle.image_format.specs.Image.{mounts_to, read_image}
use Rattle.image_format.specs.Encoding.{bits_part, meta_page, image_bytes}
use Rattle.image_format.specs.Tails.{shares}
use Rattle.image_format.specs.Tables.{stored_files, blocks_in}
use Rattle.image_format.specs.Whole.{content_of, stands_for, IsWhole}
use Rattle.image_format.proofs.Remounting.{read_again, remounted}
use Rattle.image_format.proofs.Steps.{ok_bind}
use Rattle.image_laws.specs.Pages.{bytes_of, encoded}
use Rattle.image_laws.proofs.Steps.{same_ok}
use Rattle.image_laws.proofs.Again.{joined}
use Rattle.core_state.specs.State.{Page, File, Places, Core}
use Rattle.core_state.specs.Words.{from_fn}
use Rattle.core_state.specs.Contents.{contents, image_page, flashes}
use Rattle.core_state.specs.PlainOf.{plain_file, plain}
use Rattle.core_state.specs.Coherent.{Coherent}
use Rattle.core_solo.specs.Stored.{IsAllStored}
use Rattle.system_state.specs.Settled.{mounted_file, mounted_of, flash_bytes, IsSettled}
use Rattle.system_metas.specs.Encode.{encode}
use Rattle.core_images.specs.Images.{IsImageOfCore}
use Rattle.core_images.specs.Tables.{HasTables}
use Rattle.core_images.proofs.Encodes.{tables_encode}
use Rattle.core_images.proofs.Files.{IsSame, Tell, files_are, stored_by}
use Rattle.core_images.proofs.Wholes.{body, is_content, whole, valid}

-- ---- the plain state

blocks_same : (pages by : ℕ → Page) (n : ℕ) (ps : List Place) → AllByRecursion (λ (p : Place). p.block < n) ps → ((b : ℕ) → b < n → IsSame pages by b) → AllByRecursion (IsSame pages by) (map (λ (p : Place). p.block) ps)
blocks_same pages by n [] all same = tt
blocks_same pages by n (p ∷ ps) all same = (same p.block all.0, blocks_same pages by n ps all.1 same)

abbrev of : List image_format.File → ℕ → image_format.Mounted
of files next = record { files = files; next = next }

-- a core whose blocks have the contents that tables and data blocks stand for
pub plain_stands : (m : Meta) (c : Core) (data_pages : List Page) → HasTables m c → IsTable m.names → IsSound m.extents → IsWhole m data_pages → ((b : ℕ) → b < m.geometry.blocks → IsSame (contents c.blocks) (content_of m data_pages) b) → mounted_of (plain c) ≡ stands_for m data_pages
plain_stands m c data_pages h table sound w same =
    let tells : Tell c.places 1 m.names.files (blocks_in m.extents) = λ id p l. ap (λ (f : Places). f id p) h.places ∙ ap (block_of id p) w.places in
    let all = blocks_same (contents c.blocks) (content_of m data_pages) m.extents.blocks m.extents.placed sound.within (λ b l. same b (let e = h.extents in omega arith)) in
    let files = files_are c.places (contents c.blocks) (content_of m data_pages) 1 m.names.files (blocks_in m.extents) table.rise (length-map m.extents.placed (λ (p : Place). p.block) ∙ w.count) all tells in
    ap (λ (fs : List File). of (map mounted_file (map (plain_file c.places (contents c.blocks)) fs)) c.names.next) h.files
    ∙ (ap (λ (fs : List image_format.File). of fs c.names.next) files ∙ ap (of (map (stored_by (content_of m data_pages)) (shares (stored_files m.names) (blocks_in m.extents)))) h.next)

abbrev image_again : Meta → List Page → image_format.Image
image_again m blocks =
    record {
      header = record { version = 2; blocks = m.geometry.blocks; dies = m.geometry.dies; next = m.names.next };
      files = stored_files m.names;
      blocks = blocks_in m.extents;
      bits = bits_part m.geometry.blocks m.written;
      body = flat_map (λ page. page) blocks;
    }

-- ---- the pages of flash

pub zero_is : zero_page ≡ replicate 4096 0
unfolding zero_page
zero_is = refl

range_more : (f : ℕ → Page) (a n k : ℕ) → map f (range_with_len a (n + k)) ≡ map f (range_with_len a n) ++ map f (range_with_len (a + n) k)
range_more f a zero k = (let e : 0 + k ≡ k = omega arith in ap (λ (j : ℕ). map f (range_with_len a j)) e) ∙ (let e : a ≡ a + 0 = omega arith in ap (λ (j : ℕ). map f (range_with_len j k)) e)
range_more f a (suc n) k =
    (let e : suc n + k ≡ suc (n + k) = omega arith in ap (λ (j : ℕ). map f (range_with_len a j)) e)
    ∙ (ap (λ (xs : List Page). f a ∷ xs) (range_more f (a + 1) n k)
    ∙ (let e : a + 1 + n ≡ a + suc n = omega arith in ap (λ (j : ℕ). (f a ∷ map f (range_with_len (a + 1) n)) ++ map f (range_with_len j k)) e))

same_range : (f g : ℕ → Page) (a b n : ℕ) → ((i : ℕ) → i < n → f (a + i) ≡ g (b + i)) → map f (range_with_len a n) ≡ map g (range_with_len b n)
same_range f g a b zero same = refl
same_range f g a b (suc n) same =
    let p : a ≡ a + 0 = omega arith in
    let q : b + 0 ≡ b = omega arith in
    ap (λ (x : Page). x ∷ map f (range_with_len (a + 1) n)) (ap f p ∙ (same 0 (omega arith) ∙ ap g q))
    ∙ ap (λ (xs : List Page). g b ∷ xs) (same_range f g (a + 1) (b + 1) n (λ i l.
    let r : a + 1 + i ≡ a + suc i = omega arith in
    let s : b + suc i ≡ b + 1 + i = omega arith in
    ap f r ∙ (same (suc i) (omega arith) ∙ ap g s)))

module _ (m : Meta) (c : Core) (h : HasTables m c) (table : IsTable m.names) (sound : IsSound m.extents) (k : Coherent c) (stored : IsAllStored encode c) where
  abbrev page : ℕ → Page
  page = image_page c.shape c.meta (flashes c.blocks)

  front : (i : ℕ) → i < meta_pages m.geometry.blocks → page (0 + i) ≡ meta_page m (0 + i)
  front i l =
      let z : 0 + i ≡ i = omega arith in
      let low : i < meta_pages c.shape.blocks = subst (λ (n : ℕ). i < meta_pages n) (sym h.blocks) l in
      ap page z
      ∙ (cond-true (ltb i (meta_pages c.shape.blocks)) (c.meta i) ((c.blocks (i - meta_pages c.shape.blocks)).flash) (grind (arith, nat_tests))
      ∙ (stored.meta i low ∙ (tables_encode m c i h k sound ∙ ap (meta_page m) (sym z))))

  behind : (i : ℕ) → i < m.geometry.blocks → page (0 + meta_pages m.geometry.blocks + i) ≡ flashes c.blocks (0 + i)
  behind i l =
      let n = meta_pages m.geometry.blocks in
      let e : meta_pages c.shape.blocks ≡ n = ap meta_pages h.blocks in
      let z : 0 + n + i - meta_pages c.shape.blocks ≡ 0 + i = omega arith in
      cond-false (ltb (0 + n + i) (meta_pages c.shape.blocks)) (c.meta (0 + n + i)) ((c.blocks (0 + n + i - meta_pages c.shape.blocks)).flash) (grind (arith, nat_tests))
      ∙ ap (λ (b : ℕ). (c.blocks b).flash) z

  pages_are : from_fn (total_pages c.shape.blocks) page ≡ encoded m ++ body m c h k
  unfolding from_fn
  pages_are =
      ap (λ (n : ℕ). map page (range_with_len 0 (total_pages n))) h.blocks
      ∙ (range_more page 0 (meta_pages m.geometry.blocks) m.geometry.blocks
      ∙ (ap (λ (xs : List Page). xs ++ map page (range_with_len (0 + meta_pages m.geometry.blocks) m.geometry.blocks)) (same_range page (meta_page m) 0 0 (meta_pages m.geometry.blocks) front)
      ∙ ap (λ (xs : List Page). encoded m ++ xs) (same_range page (flashes c.blocks) (0 + meta_pages m.geometry.blocks) 0 m.geometry.blocks behind)))

  pub flash_is : flash_bytes c ≡ image_bytes m (from_fn m.geometry.blocks (flashes c.blocks))
  flash_is = ap bytes_of pages_are ∙ joined m (body m c h k) table sound (record { extents = h.extents; written = h.count })

  blocks_are : (b : ℕ) → b < m.geometry.blocks → IsSame (contents c.blocks) (content_of m (body m c h k)) b
  blocks_are b l = record { same = same; whole = sym (ap length same) ∙ (k.copies b).whole }
    where
      by_flag : (w : Bool) → slice_index_or m.written b false ≡ w → contents c.blocks b ≡ content_of m (body m c h k) b
      by_flag true e = sym (cond-true (slice_index_or m.written b false) _ (replicate 4096 0) e ∙ is_content m c h k stored.clean b l e)
      by_flag false e = (k.clean b).unwritten (stored.clean b) (h.written b l ∙ e) ∙ (zero_is ∙ sym (cond-false (slice_index_or m.written b false) _ (replicate 4096 0) e))

      same : contents c.blocks b ≡ content_of m (body m c h k) b
      same = by_flag (slice_index_or m.written b false) refl

  pub mounts : mounts_to (flash_bytes c) ≡ Ok (mounted_of (plain c))
  mounts =
      let w = whole m c h k stored.clean table sound in
      ap mounts_to flash_is
      ∙ (remounted m (body m c h k) (valid m c h k stored.clean table sound) w
      ∙ ap (λ (x : image_format.Mounted). Ok x) (sym (plain_stands m c (body m c h k) h table sound w blocks_are)))

  pub settled : ((lane : ℕ) → c.calls lane ≡ None) → ((d : ℕ) → (c.dies d).out ≡ None) → IsSettled c
  settled calls home = record { calls = calls; home = home; clean = λ b l. stored.clean b; mounts = mounts }

  -- the bytes are read as an image of this drive
  pub image_is : IsImageOfCore c (flash_bytes c)
  unfolding mounts_to
  image_is =
      let read = ap read_image flash_is ∙ read_again m (body m c h k) (valid m c h k stored.clean table sound) (whole m c h k stored.clean table sound) in
      let i = image_again m (body m c h k) in
      record {
        image = i;
        read = read;
        blocks = sym h.blocks;
        dies = sym h.dies;
        mounts = same_ok (image_format.mounted i) (mounted_of (plain c)) (sym (ok_bind (read_image (flash_bytes c)) i (λ (j : image_format.Image). Ok (image_format.mounted j)) read) ∙ mounts);
      }
