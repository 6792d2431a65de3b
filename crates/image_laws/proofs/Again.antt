-- The pages that an image mounts to are an image again.
use Rattle.std.proofs.Common.{◌≡◌, ℕ, ◌+◌, ◌*◌, ◌<◌, ◌≤◌, List, ◌++◌, length, take, drop, map, false, Ok, refl, sym, subst, ap, ◌∙◌, arith, ⊎_elim}
use Rattle.std.specs.List.{range_with_len, flat_map}
use Rattle.std.proofs.lemmas.List.{take-append-drop, ext_get_or}
use Rattle.page_base.specs.Drive.{IsDrive, meta_pages}
use Rattle.name_table.specs.Files.{IsTable}
use Rattle.extent_map.specs.Places.{IsSound}
use Rattle.image_format.specs.declared.meta.Meta.{Meta}
use Rattle.image_format.specs.Layout.{layout, record_pages, entry_pages, bit_pages}
use Rattle.image_format.specs.Bitmap.{written_in}
use Rattle.image_format.specs.Tails.{data_page}
use Rattle.image_format.specs.Image.{Image, mounts_to, read_image}
use Rattle.image_format.specs.Encoding.{bits_part, meta_bytes, meta_page, image_bytes}
use Rattle.image_format.specs.Tables.{stored_files, blocks_in, own_pages, pages_from, IsOneSize, IsMounted, Mounts}
use Rattle.image_format.proofs.Areas.{part_left}
use Rattle.image_format.proofs.Marks.{written_length}
use Rattle.image_format.proofs.Imaged.{meta_length}
use Rattle.image_format.proofs.BitsAgain.{is_set_again}
use Rattle.image_format.proofs.Remounting.{read_again, remounted}
use Rattle.image_laws.specs.Pages.{bytes_of, encoded, data_blocks}
use Rattle.image_laws.proofs.Cutting.{front_joined, pages_joined, bytes_of-append, same_pages}
use Rattle.image_laws.proofs.Readings.{read_so, body_is, body_length}
use Rattle.image_laws.proofs.Whole.{Found, data_are, one_size, written_is, whole, valid, stands}

-- ---- the pages of a drive, joined

pub joined : (m : Meta) (blocks : List (List ℕ)) → IsTable m.names → IsSound m.extents → IsOneSize m → bytes_of (encoded m ++ blocks) ≡ image_bytes m blocks
unfolding image_bytes
joined m blocks table sound size =
    bytes_of-append (encoded m) blocks ∙ ap (λ xs. xs ++ bytes_of blocks) (pages_joined (meta_bytes m) (meta_pages m.geometry.blocks) (meta_length m table sound size))

-- ---- an image of version 1: its pages are those that are written

first_pages : (bytes : List ℕ) (m : Meta) (all : List (List ℕ)) (f : Found bytes m all) → f.image.header.version ≡ 1 → all ≡ encoded m ++ data_blocks m all
first_pages bytes m all f version =
    let h = f.image.header in
    f.is.pages
    ∙ ap (λ v. own_pages v h.blocks bytes m ++ pages_from f.image.body h.blocks) version
    ∙ ap (λ n. map (meta_page m) (range_with_len 0 (meta_pages n)) ++ pages_from f.image.body h.blocks) (sym f.is.blocks)
    ∙ ap (λ xs. encoded m ++ xs) (sym (data_are bytes m all f))

first_bytes : (bytes : List ℕ) (m : Meta) (all : List (List ℕ)) (f : Found bytes m all) → IsTable m.names → IsSound m.extents → f.image.header.version ≡ 1 → bytes_of all ≡ image_bytes m (data_blocks m all)
first_bytes bytes m all f table sound version =
    ap bytes_of (first_pages bytes m all f version) ∙ joined m (data_blocks m all) table sound (one_size bytes m all f)

-- ---- an image of version 2: its pages are itself

second_bytes : (bytes : List ℕ) (m : Meta) (all : List (List ℕ)) (f : Found bytes m all) → f.image.header.version ≡ 2 → bytes_of all ≡ bytes
second_bytes bytes m all f version =
    let i = f.image in
    let h = i.header in
    let read = read_so bytes i f.read in
    let n = meta_pages h.blocks in
    let lead : 1 + record_pages (layout h.version) + entry_pages h.blocks + bit_pages h.blocks ≡ n = ap (λ v. 1 + record_pages (layout v) + entry_pages h.blocks + bit_pages h.blocks) version ∙ omega arith in
    let behind : i.body ≡ drop (4096 * n) bytes = body_is bytes i read ∙ ap (λ k. drop (4096 * k) bytes) lead in
    ap bytes_of (f.is.pages ∙ ap (λ v. own_pages v h.blocks bytes m ++ pages_from i.body h.blocks) version)
    ∙ bytes_of-append (pages_from bytes n) (pages_from i.body h.blocks)
    ∙ ap (λ xs. xs ++ bytes_of (pages_from i.body h.blocks)) (front_joined bytes n)
    ∙ ap (λ xs. take (4096 * n) bytes ++ xs) (pages_joined i.body h.blocks (body_length bytes i read) ∙ behind)
    ∙ take-append-drop (4096 * n) bytes

-- ---- they mount to the same

pub same : (bytes : List ℕ) (m : Meta) (all : List (List ℕ)) (f : Found bytes m all) → IsDrive m.geometry.blocks m.geometry.dies → IsTable m.names → IsSound m.extents → mounts_to (bytes_of all) ≡ mounts_to bytes
same bytes m all f drive table sound = ⊎_elim first (λ version. ap mounts_to (second_bytes bytes m all f version)) (read_so bytes f.image f.read).version
  where
    first : f.image.header.version ≡ 1 → mounts_to (bytes_of all) ≡ mounts_to bytes
    first version =
        ap mounts_to (first_bytes bytes m all f table sound version)
        ∙ remounted m (data_blocks m all) (valid bytes m all f drive table sound) (whole bytes m all f)
        ∙ sym (stands bytes m all f sound)

-- ---- and to the same meta data and pages

written_again : (m : Meta) → IsOneSize m → m.written ≡ written_in m.geometry.blocks (bits_part m.geometry.blocks m.written)
written_again m size =
    let n = m.geometry.blocks in
    let bits = bits_part n m.written in
    ext_get_or false m.written (written_in n bits) (size.written ∙ sym (written_length n bits))
    (λ b lt.
    let low : b < n = omega (arith, lt, size.written) in
    let few : length m.written ≤ n = omega (arith, size.written) in
    sym (is_set_again n m.written b few) ∙ sym (written_is n bits b low))

abbrev image_again : Meta → List (List ℕ) → Image
image_again m blocks =
    record {
      header = record { version = 2; blocks = m.geometry.blocks; dies = m.geometry.dies; next = m.names.next };
      files = stored_files m.names;
      blocks = blocks_in m.extents;
      bits = bits_part m.geometry.blocks m.written;
      body = flat_map (λ page. page) blocks;
    }

-- the first pages of an image are those of its meta data
own_again : (m : Meta) (blocks : List (List ℕ)) → IsTable m.names → IsSound m.extents → IsOneSize m → pages_from (image_bytes m blocks) (meta_pages m.geometry.blocks) ≡ encoded m
unfolding image_bytes
own_again m blocks table sound size =
    let n = meta_pages m.geometry.blocks in
    same_pages (data_page (meta_bytes m ++ bytes_of blocks)) (meta_page m) 0 n
    (λ k lt. part_left (meta_bytes m) (bytes_of blocks) (4096 * k) 4096 (omega (arith, lt, meta_length m table sound size)))

again_first : (bytes : List ℕ) (m : Meta) (all : List (List ℕ)) (f : Found bytes m all) → IsTable m.names → IsSound m.extents → f.image.header.version ≡ 1 → IsMounted (image_bytes m (data_blocks m all)) (image_again m (data_blocks m all)) m all
again_first bytes m all f table sound version =
    let i = f.image in
    let n = m.geometry.blocks in
    let size = one_size bytes m all f in
    let is = whole bytes m all f in
    let body : bytes_of (data_blocks m all) ≡ i.body = ap bytes_of (data_are bytes m all f) ∙ pages_joined i.body i.header.blocks (body_length bytes i (read_so bytes i f.read)) in
    let kept : pages_from (bytes_of (data_blocks m all)) n ≡ data_blocks m all = ap (λ xs. pages_from xs n) body ∙ ap (pages_from i.body) f.is.blocks ∙ sym (data_are bytes m all f) in
    record {
      blocks = refl;
      dies = refl;
      files = refl;
      next = refl;
      sizes = size.extents;
      extents = is.places;
      order = refl;
      written = written_again m size;
      pages =
          first_pages bytes m all f version
          ∙ ap (λ xs. xs ++ data_blocks m all) (sym (own_again m (data_blocks m all) table sound size))
          ∙ ap (λ xs. pages_from (image_bytes m (data_blocks m all)) (meta_pages n) ++ xs) (sym kept);
    }

pub again : (bytes : List ℕ) (m : Meta) (all : List (List ℕ)) (f : Found bytes m all) → IsDrive m.geometry.blocks m.geometry.dies → IsTable m.names → IsSound m.extents → Mounts bytes m all (read_image bytes) → Mounts (bytes_of all) m all (read_image (bytes_of all))
again bytes m all f drive table sound is = ⊎_elim first (λ version. subst (λ (b : List ℕ). Mounts b m all (read_image b)) (sym (second_bytes bytes m all f version)) is) (read_so bytes f.image f.read).version
  where
    first : f.image.header.version ≡ 1 → Mounts (bytes_of all) m all (read_image (bytes_of all))
    first version =
        let blocks = data_blocks m all in
        let read : read_image (image_bytes m blocks) ≡ Ok (image_again m blocks) = read_again m blocks (valid bytes m all f drive table sound) (whole bytes m all f) in
        subst (λ (b : List ℕ). Mounts b m all (read_image b)) (sym (first_bytes bytes m all f table sound version))
        (subst (Mounts (image_bytes m blocks) m all) (sym read) (again_first bytes m all f table sound version))
