-- Mounting the image gives the files that meta data and data blocks stand for.
use Rattle.std.proofs.Common.{◌≡◌, ℕ, zero, suc, ◌+◌, ◌-◌, ◌*◌, ◌%◌, ◌/◌, ◌<◌, ◌≤◌, ◌^◌, List, [], ◌∷◌, ◌++◌, length, take, drop, get_or, replicate, map, Bool, false, cond, eqb, ltb, Some, None, Result, Ok, ap, ◌∙◌, sym, refl, subst, arith, append_assoc, length-append}
use Rattle.std.specs.Prelude.{not, ◌&&◌, nat_lt, slice_index}
use Rattle.std.specs.List.{flat_map, position_or_len, AllByRecursion}
use Rattle.std.proofs.Math.Path.{fun_ext}
use Rattle.std.proofs.lemmas.Bool.{cond-false}
use Rattle.std.proofs.lemmas.Bool.Decides.{nat_tests}
use Rattle.std.proofs.lemmas.List.{take_at, drop_at, length-map, length-take, length-replicate}
use Rattle.page_base.specs.Bytes.{Pages}
use Rattle.page_base.specs.Drive.{Drive, IsDrive}
use Rattle.name_table.specs.declared.files.FileRec.{FileRec}
use Rattle.name_table.specs.Files.{Table, IsTable, IsFile}
use Rattle.extent_map.specs.declared.places.Place.{Place}
use Rattle.extent_map.specs.Places.{runs, pages_on}
use Rattle.image_format.specs.declared.faults.ImageFault.{ImageFault}
use Rattle.image_format.specs.declared.header.Header.{Header}
use Rattle.image_format.specs.declared.meta.Meta.{Meta}
use Rattle.image_format.specs.Numbers.{is_zero, are_zero, first_set}
use Rattle.image_format.specs.Layout.{layout, record_pages, entry_pages, bit_pages}
use Rattle.image_format.specs.Header.{header, image_length}
use Rattle.image_format.specs.Records.{Stored, none_yet, records}
use Rattle.image_format.specs.Entries.{page_after, nothing_yet, covered, entries}
use Rattle.image_format.specs.Bitmap.{is_set}
use Rattle.image_format.specs.Tails.{Share, shares, data_page, has_tail, tails}
use Rattle.image_format.specs.Image.{Parts, parts, meant, files_in, blocks_of, read_image, File, Mounted, mounts_to}
use Rattle.image_format.specs.Encoding.{header_bytes, record_bytes, entry_bytes, header_part, record_part, entry_part, bits_part, meta_bytes, image_bytes}
use Rattle.image_format.specs.Tables.{stored_of, stored_files, blocks_in, placed_of, pages_of}
use Rattle.image_format.specs.Whole.{content_of, goes_on, IsWhole, IsValid, Remounts}
use Rattle.image_format.proofs.Areas.{length_flat}
use Rattle.image_format.proofs.Written.{all_records, all_entries, record_length, entry_length, bits_length, fewer_runs}
use Rattle.image_format.proofs.Regions.{header_length}
use Rattle.image_format.proofs.Steps.{ok_bind}
use Rattle.image_format.proofs.Covers.{rise_stored}
use Rattle.image_format.proofs.Entered.{all_covered}
use Rattle.image_format.proofs.Ends.{no_tail}
use Rattle.image_format.proofs.Parts.{listed, files_ok, entered, blocks_ok, all_meant, image_ok}
use Rattle.image_format.proofs.HeaderAgain.{header_again}
use Rattle.image_format.proofs.RecordAgain.{AreNew, records_again}
use Rattle.image_format.proofs.BitsAgain.{is_set_again, bitmap_again, block_again, find_all}
use Rattle.image_format.proofs.EntriesAgain.{IsPlan, entries_again, places_of-runs, some_pages}

-- ---- the parts in a row

abbrev behind_header : Meta → List (List ℕ) → List ℕ
behind_header m body =
    record_part m.names.files ++ (entry_part m.geometry.blocks (runs m.extents.placed) ++ (bits_part m.geometry.blocks m.written ++ flat_map (λ page. page) body))

in_row : (h r e b f : List ℕ) → (h ++ (r ++ (e ++ b))) ++ f ≡ h ++ (r ++ (e ++ (b ++ f)))
in_row h r e b f =
    append_assoc h (r ++ (e ++ b)) f ∙ ap (λ x. h ++ x) (append_assoc r (e ++ b) f) ∙ ap (λ x. h ++ (r ++ x)) (append_assoc e b f)

image_is : (m : Meta) (body : List (List ℕ)) → image_bytes m body ≡ header_part m.geometry m.names.next ++ behind_header m body
unfolding image_bytes meta_bytes
image_is m body = in_row (header_part m.geometry m.names.next) (record_part m.names.files) (entry_part m.geometry.blocks (runs m.extents.placed)) (bits_part m.geometry.blocks m.written) (flat_map (λ page. page) body)

abbrev pieces : ℕ → ℕ → ℕ → List ℕ → Parts
pieces r e b y = record { records = take r y; entries = take e (drop r y); bits = take b (drop e (drop r y)); body = drop b (drop e (drop r y)) }

abbrev made : List ℕ → List ℕ → List ℕ → List ℕ → Parts
made r e b f = record { records = r; entries = e; bits = b; body = f }

pieces_are : (r e b f : List ℕ) (n k l : ℕ) → length r ≡ n → length e ≡ k → length b ≡ l → pieces n k l (r ++ (e ++ (b ++ f))) ≡ made r e b f
pieces_are r e b f n k l r-is e-is b-is =
    let y1 = e ++ (b ++ f) in
    let y2 = b ++ f in
    ap (λ x. made x (take k (drop n (r ++ y1))) (take l (drop k (drop n (r ++ y1)))) (drop l (drop k (drop n (r ++ y1))))) (take_at r y1 n r-is)
    ∙ ap (λ y. made r (take k y) (take l (drop k y)) (drop l (drop k y))) (drop_at r y1 n r-is)
    ∙ ap (λ x. made r x (take l (drop k y1)) (drop l (drop k y1))) (take_at e y2 k e-is)
    ∙ ap (λ y. made r e (take l y) (drop l y)) (drop_at e y2 k e-is)
    ∙ ap (λ x. made r e x (drop l y2)) (take_at b f l b-is)
    ∙ ap (made r e b) (drop_at b f l b-is)

parts_are : (h : Header) (front r e b f : List ℕ) → length front ≡ 4096 → length r ≡ 4096 * record_pages (layout h.version) → length e ≡ 4096 * entry_pages h.blocks → length b ≡ 4096 * bit_pages h.blocks → parts h (front ++ (r ++ (e ++ (b ++ f)))) ≡ made r e b f
unfolding parts
parts_are h front r e b f front-is r-is e-is b-is =
    ap (pieces (4096 * record_pages (layout h.version)) (4096 * entry_pages h.blocks) (4096 * bit_pages h.blocks)) (drop_at front (r ++ (e ++ (b ++ f))) 4096 front-is)
    ∙ pieces_are r e b f (4096 * record_pages (layout h.version)) (4096 * entry_pages h.blocks) (4096 * bit_pages h.blocks) r-is e-is b-is

-- ---- page 0

zeros_len : (n : ℕ) → position_or_len (λ b. not (is_zero b)) (replicate n 0) ≡ n
zeros_len zero = refl
zeros_len (suc n) = ap (λ k. 1 + k) (zeros_len n) ∙ (let e : 1 + n ≡ suc n = omega arith in e)

none_set : (n : ℕ) → first_set (replicate n 0) ≡ None
none_set n = cond-false (nat_lt (position_or_len (λ b. not (is_zero b)) (replicate n 0)) (length (replicate n 0))) (Some (position_or_len (λ b. not (is_zero b)) (replicate n 0))) None (not_less _ _ (zeros_len n) (length-replicate n 0))
  where
    not_less : (a b : ℕ) → a ≡ n → b ≡ n → nat_lt a b ≡ false
    not_less a b p q = grind (arith, nat_tests)

none_behind : (z n : ℕ) (ys : List ℕ) → z ≡ n → first_set (take n (replicate z 0 ++ ys)) ≡ None
none_behind z n ys is = ap first_set (take_at (replicate z 0) ys n (length-replicate z 0 ∙ is)) ∙ none_set z

page_zero : (d : Drive) (next : ℕ) (ys : List ℕ) → IsDrive d.blocks d.dies → 1 ≤ next → next < 2 ^ 32 → length (header_part d next ++ ys) ≡ image_length 2 d.blocks → header (header_part d next ++ ys) ≡ Ok (record { version = 2; blocks = d.blocks; dies = d.dies; next = next })
unfolding header_part
page_zero d next ys limits low high len =
    let front = header_bytes d next in
    let zeros = replicate (4096 - length front) 0 in
    let row : (front ++ zeros) ++ ys ≡ front ++ (zeros ++ ys) = append_assoc front zeros ys in
    ap header row ∙ header_again d next (zeros ++ ys) limits low high (ap length (sym row) ∙ len) (none_behind (4096 - length front) 4076 ys refl)

-- ---- records

none_told : (files : List FileRec) → AreNew [] files
none_told [] = tt
none_told (f ∷ fs) = (refl, none_told fs)

files_again : (h : Header) (t : Table) → h.version ≡ 2 → h.next ≡ t.next → IsTable t → files_in h (record_part t.files) ≡ Ok (stored_files t)
unfolding record_part
files_again h t version next sound =
    let flat = flat_map record_bytes t.files in
    let len : length flat ≡ length t.files * 128 = length_flat record_bytes 128 t.files (all_records t.next t.files sound.each) in
    let told = records_again t.files t.next 4096 4096 (4096 - length t.files) (524288 - length flat) none_yet (omega (arith, sound.count)) (omega (arith, len, sound.count)) sound.next.1 refl sound.rise sound.each sound.apart (none_told t.files) in
    let read : listed h (flat ++ replicate (524288 - length flat) 0) ≡ Ok told.listing =
    ap (λ v. records (layout v) h.next (layout v).records 4096 none_yet (flat ++ replicate (524288 - length flat) 0)) version
    ∙ ap (λ n. records (layout 2) n 4096 4096 none_yet (flat ++ replicate (524288 - length flat) 0)) next ∙ told.read in
    files_ok h (flat ++ replicate (524288 - length flat) 0) told.listing read ∙ ap (λ fs. Ok fs) told.files_are

-- ---- entries

past_all : (files : List Stored) → page_after (pages_of files) files ≡ None
past_all [] = refl
past_all (f ∷ fs) =
    let left : Pages f.len + pages_of fs - Pages f.len ≡ pages_of fs = omega arith in
    cond-false (ltb (Pages f.len + pages_of fs) (Pages f.len)) (Some (record { file = f.id; page = Pages f.len + pages_of fs; left = Pages f.len - (Pages f.len + pages_of fs) })) (page_after (Pages f.len + pages_of fs - Pages f.len) fs) (not_below (Pages f.len) (pages_of fs))
    ∙ ap (λ n. page_after n fs) left ∙ past_all fs
  where
    not_below : (a b : ℕ) → ltb (a + b) a ≡ false
    not_below a b = grind (arith, nat_tests)

abbrev IsSmall : Place → Type 0
IsSmall p = (p.file < 2 ^ 32) × (p.page < 2 ^ 32)

own_small : (file q : ℕ) (bs : List ℕ) → file < 2 ^ 32 → q + length bs < 2 ^ 32 → AllByRecursion IsSmall (pages_on file q bs)
own_small file q [] lt le = tt
own_small file q (b ∷ bs) lt le = ((lt, omega arith), own_small file (q + 1) bs lt (omega arith))

both_small : (xs ys : List Place) → AllByRecursion IsSmall xs → AllByRecursion IsSmall ys → AllByRecursion IsSmall (xs ++ ys)
both_small [] ys a b = b
both_small (x ∷ xs) ys a b = (a.0, both_small xs ys a.1 b)

all_small : (next : ℕ) (files : List FileRec) (bs : List ℕ) → next < 2 ^ 32 → AllByRecursion (IsFile next) files → AllByRecursion IsSmall (placed_of (map stored_of files) bs)
all_small next [] bs lt each = tt
all_small next (f ∷ fs) bs lt each =
    both_small (pages_on f.id 0 (take (Pages f.len) bs)) (placed_of (map stored_of fs) (drop (Pages f.len) bs))
    (own_small f.id 0 (take (Pages f.len) bs) (omega (arith, each.0.0)) (omega (arith, length-take (Pages f.len) bs, each.0.2)))
    (all_small next fs (drop (Pages f.len) bs) lt each.1)

blocks_again : (h : Header) (m : Meta) (body : List (List ℕ)) → h.version ≡ 2 → h.blocks ≡ m.geometry.blocks → IsValid m body → IsWhole m body → blocks_of h (stored_files m.names) (entry_part m.geometry.blocks (runs m.extents.placed)) ≡ Ok (blocks_in m.extents)
unfolding entry_part
blocks_again h m body version blocks valid whole =
    let files = stored_files m.names in
    let placed = m.extents.placed in
    let es = runs placed in
    let flat = flat_map entry_bytes es in
    let n = 256 * entry_pages m.geometry.blocks in
    let z = 4096 * entry_pages m.geometry.blocks - length flat in
    let len : length flat ≡ length es * 16 = length_flat entry_bytes 16 es (all_entries es) in
    let few : length es ≤ m.geometry.blocks = omega (arith, fewer_runs placed, valid.sound.count, whole.size.extents) in
    let count : length (blocks_in m.extents) ≡ pages_of files = length-map placed (λ (p : Place). p.block) ∙ whole.count in
    let plan : IsPlan m.geometry.blocks files (blocks_in m.extents) placed = record {
      rise = rise_stored 1 m.names.files valid.table.rise;
      count = count;
      places = sym whole.places;
      apart = valid.sound.apart;
      within = subst (λ b. AllByRecursion (λ p. p.block < b) placed) whole.size.extents valid.sound.within;
      small = subst (AllByRecursion IsSmall) (sym whole.places) (all_small m.names.next m.names.files (blocks_in m.extents) valid.table.next.1 valid.table.each);
      limit = omega (arith, valid.drive.most_blocks);
    } in
    let covers = entries_again es m.geometry.blocks files (blocks_in m.extents) placed [] n (4096 * (1 + record_pages (layout 2))) (n - length es) z plan (some_pages placed) (sym (places_of-runs placed)) (omega (arith, few)) (omega (arith, len, few)) in
    let read : entered h files (flat ++ replicate z 0) ≡ Ok covers.cover =
    ap (λ b. entries b files (256 * entry_pages b) (4096 * (1 + record_pages (layout h.version))) nothing_yet (flat ++ replicate z 0)) blocks
    ∙ ap (λ v. entries m.geometry.blocks files n (4096 * (1 + record_pages (layout v))) nothing_yet (flat ++ replicate z 0)) version ∙ covers.read in
    let all : covered files covers.cover.blocks ≡ Ok tt = all_covered files covers.cover.blocks (ap (λ xs. page_after (length xs) files) covers.blocks_are ∙ ap (λ k. page_after k files) count ∙ past_all files) in
    blocks_ok h files (flat ++ replicate z 0) covers.cover read all ∙ ap (λ xs. Ok xs) covers.blocks_are

-- ---- the ends

tail_again : (m : Meta) (body : List (List ℕ)) → length m.written ≤ m.geometry.blocks → AllByRecursion (λ (page : List ℕ). length page ≡ 4096) body → (s : Share) → has_tail (bits_part m.geometry.blocks m.written) (flat_map (λ page. page) body) s ≡ goes_on m body s
tail_again m body len whole s =
    let last = slice_index s.blocks (s.file.len / 4096) in
    let over = s.file.len % 4096 in
    ap (λ t. not (eqb over 0) && (t && not (are_zero (drop over (data_page (flat_map (λ page. page) body) last))))) (is_set_again m.geometry.blocks m.written last len)
    ∙ ap (λ page. not (eqb over 0) && (get_or m.written last false && not (are_zero (drop over page)))) (block_again body last whole)

all_as : (p q : Share → Bool) (ss : List Share) → ((s : Share) → p s ≡ q s) → AllByRecursion (λ s. q s ≡ false) ss → AllByRecursion (λ s. p s ≡ false) ss
all_as p q [] same all = tt
all_as p q (s ∷ ss) same all = (same s ∙ all.0, all_as p q ss same all.1)

-- ---- the files

abbrev mounts : List File → ℕ → Result Mounted ImageFault
mounts files next = Ok (record { files = files; next = next })

abbrev files_by : (ℕ → List ℕ) → List Share → List File
files_by content ss = map (λ (s : Share). record { id = s.file.id; name = s.file.name; bytes = take s.file.len (flat_map content s.blocks); sealed = s.file.sealed }) ss

content_again : (m : Meta) (body : List (List ℕ)) → length m.written ≤ m.geometry.blocks → AllByRecursion (λ (page : List ℕ). length page ≡ 4096) body → (b : ℕ)
    → cond (is_set (bits_part m.geometry.blocks m.written) b) (data_page (flat_map (λ page. page) body) b) (replicate 4096 0) ≡ content_of m body b
content_again m body len whole b =
    ap (λ t. cond t (data_page (flat_map (λ page. page) body) b) (replicate 4096 0)) (is_set_again m.geometry.blocks m.written b len)
    ∙ ap (λ page. cond (get_or m.written b false) page (replicate 4096 0)) (block_again body b whole)

image_size : (m : Meta) (body : List (List ℕ)) → IsValid m body → IsWhole m body → length (header_part m.geometry m.names.next ++ behind_header m body) ≡ image_length 2 m.geometry.blocks
image_size m body valid whole =
    let h = header_part m.geometry m.names.next in
    let r = record_part m.names.files in
    let e = entry_part m.geometry.blocks (runs m.extents.placed) in
    let b = bits_part m.geometry.blocks m.written in
    let f = flat_map (λ (page : List ℕ). page) body in
    let few : length (runs m.extents.placed) ≤ m.geometry.blocks = omega (arith, fewer_runs m.extents.placed, valid.sound.count, whole.size.extents) in
    omega (
      arith,
      length-append h (r ++ (e ++ (b ++ f))),
      length-append r (e ++ (b ++ f)),
      length-append e (b ++ f),
      length-append b f,
      header_length m.geometry m.names.next,
      record_length m.names valid.table,
      entry_length m.geometry.blocks (runs m.extents.placed) few,
      bits_length m.geometry.blocks m.written,
      length_flat (λ (page : List ℕ). page) 4096 body valid.whole,
      whole.pages,
    )

pub read_again : (m : Meta) (body : List (List ℕ)) → IsValid m body → IsWhole m body
    → read_image (image_bytes m body) ≡ Ok (record { header = record { version = 2; blocks = m.geometry.blocks; dies = m.geometry.dies; next = m.names.next }; files = stored_files m.names; blocks = blocks_in m.extents; bits = bits_part m.geometry.blocks m.written; body = flat_map (λ page. page) body })
read_again m body valid whole =
    let h : Header = record { version = 2; blocks = m.geometry.blocks; dies = m.geometry.dies; next = m.names.next } in
    let front = header_part m.geometry m.names.next in
    let r = record_part m.names.files in
    let e = entry_part m.geometry.blocks (runs m.extents.placed) in
    let b = bits_part m.geometry.blocks m.written in
    let f = flat_map (λ (page : List ℕ). page) body in
    let p : Parts = record { records = r; entries = e; bits = b; body = f } in
    let few : length (runs m.extents.placed) ≤ m.geometry.blocks = omega (arith, fewer_runs m.extents.placed, valid.sound.count, whole.size.extents) in
    let limit : length m.written ≤ m.geometry.blocks = omega (arith, whole.size.written) in
    let head : header (front ++ behind_header m body) ≡ Ok h = page_zero m.geometry m.names.next (behind_header m body) valid.drive valid.table.next.0 valid.table.next.1 (image_size m body valid whole) in
    let cut : parts h (front ++ behind_header m body) ≡ p = parts_are h front r e b f (header_length m.geometry m.names.next) (record_length m.names valid.table) (entry_length m.geometry.blocks (runs m.extents.placed) few) (bits_length m.geometry.blocks m.written) in
    let ends : tails b f (shares (stored_files m.names) (blocks_in m.extents)) ≡ Ok tt = no_tail b f (shares (stored_files m.names) (blocks_in m.extents)) (find_all (has_tail b f) (shares (stored_files m.names) (blocks_in m.extents)) (all_as (has_tail b f) (goes_on m body) (shares (stored_files m.names) (blocks_in m.extents)) (tail_again m body limit valid.whole) whole.ends)) in
    ap read_image (image_is m body)
    ∙ image_ok (front ++ behind_header m body) h _ head (ap (meant h) cut ∙ all_meant h p (stored_files m.names) (blocks_in m.extents) (files_again h m.names refl refl valid.table) (blocks_again h m body refl refl valid whole) (bitmap_again m.geometry.blocks m.written m.extents.placed limit whole.written) ends)

pub remounted : Remounts
unfolding mounts_to
remounted m body valid whole =
    let limit : length m.written ≤ m.geometry.blocks = omega (arith, whole.size.written) in
    ok_bind (read_image (image_bytes m body)) _ _ (read_again m body valid whole)
    ∙ ap (λ content. mounts (files_by content (shares (stored_files m.names) (blocks_in m.extents))) m.names.next) (fun_ext (content_again m body limit valid.whole))
