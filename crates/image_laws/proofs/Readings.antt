-- What a reading of an image that succeeds says of the image.
use Rattle.std.proofs.Common.{◌≡◌, ℕ, ◌+◌, ◌-◌, ◌*◌, ◌<◌, ◌≤◌, List, [], ◌∷◌, length, take, drop, true, Option, Some, None, Result, Ok, inl, inr, refl, sym, subst, ap, ◌∙◌, arith}
use Rattle.std.specs.Prelude.{⊤, ◌⊎◌, ◌==◌, ◌&&◌, ◌||◌, nat_le, bytes_eq}
use Rattle.std.specs.List.{find, range_with_len}
use Rattle.std.proofs.lemmas.Bool.{cases_lt}
use Rattle.std.proofs.lemmas.Bool.Decides.{nat_tests}
use Rattle.page_base.specs.Bytes.{Pages}
use Rattle.image_format.specs.declared.faults.ImageKind.TheVariants as kinds
use Rattle.image_format.specs.declared.faults.ImageFault.{ImageFault}
use Rattle.image_format.specs.declared.header.Header.{Header}
use Rattle.image_format.specs.declared.entries.Awaited.{Awaited}
use Rattle.image_format.specs.Faults.{◌>>=◌, demand, fault}
use Rattle.image_format.specs.Numbers.{u32_at}
use Rattle.image_format.specs.Layout.{layout, record_pages, entry_pages, bit_pages}
use Rattle.image_format.specs.Header.{magic, image_length, reserved, header}
use Rattle.image_format.specs.Records.{Stored}
use Rattle.image_format.specs.Entries.{Cover, entries, nothing_yet, page_after, covered}
use Rattle.image_format.specs.Bitmap.{is_stray, bitmap}
use Rattle.image_format.specs.Tails.{Share, shares, has_tail, tails}
use Rattle.image_format.specs.Image.{Parts, parts, Image, meant, files_in, blocks_of, read_image}
use Rattle.image_format.specs.Tables.{pages_of}
use Rattle.image_format.proofs.Marks.{stray_some}
use Rattle.image_format.proofs.Ends.{some_tail}
use Rattle.image_format.proofs.Entered.{not_covered}
use Rattle.image_laws.proofs.Steps.{went, passed, same_ok}
use Rattle.image_laws.proofs.Cutting.{behind, behind_length}

-- ---- page 0, test by test

abbrev told : List ℕ → Header
told bytes = record { version = u32_at bytes 4; blocks = u32_at bytes 8; dies = u32_at bytes 12; next = u32_at bytes 16 }

abbrev from_reserved : List ℕ → Result Header ImageFault
from_reserved bytes = reserved bytes >>= λ _. Ok (told bytes)

abbrev from_next : List ℕ → Result Header ImageFault
from_next bytes = demand (nat_le 1 (u32_at bytes 16)) kinds.NextId 16 >>= λ _. from_reserved bytes

abbrev from_length : List ℕ → Result Header ImageFault
from_length bytes = demand (length bytes == image_length (u32_at bytes 4) (u32_at bytes 8)) kinds.Length (length bytes) >>= λ _. from_next bytes

abbrev from_dies : List ℕ → Result Header ImageFault
from_dies bytes = demand (nat_le 1 (u32_at bytes 12) && nat_le (u32_at bytes 12) 16) kinds.Geometry 12 >>= λ _. from_length bytes

abbrev from_blocks : List ℕ → Result Header ImageFault
from_blocks bytes = demand (nat_le 1 (u32_at bytes 8) && nat_le (u32_at bytes 8) 65536) kinds.Geometry 8 >>= λ _. from_dies bytes

abbrev from_version : List ℕ → Result Header ImageFault
from_version bytes = demand (u32_at bytes 4 == 1 || u32_at bytes 4 == 2) kinds.Version 4 >>= λ _. from_blocks bytes

abbrev from_magic : List ℕ → Result Header ImageFault
from_magic bytes = demand (bytes_eq (take 4 bytes) magic) kinds.Magic 0 >>= λ _. from_version bytes

one_or_two : (v : ℕ) → (v == 1 || v == 2) ≡ true → (v ≡ 1) ⊎ (v ≡ 2)
one_or_two v is = grind (arith, nat_tests)

equal : (a b : ℕ) → (a == b) ≡ true → a ≡ b
equal a b is = grind (arith, nat_tests)

record IsFront (bytes : List ℕ) (h : Header) : Type 0 where
  pub version : (h.version ≡ 1) ⊎ (h.version ≡ 2)
  pub size : length bytes ≡ image_length h.version h.blocks

front : (bytes : List ℕ) (h : Header) → header bytes ≡ Ok h → IsFront bytes h
unfolding header
front bytes h is =
    let a = passed (nat_le 4096 (length bytes)) kinds.Short (length bytes) (λ _. from_magic bytes) h is in
    let b = passed (bytes_eq (take 4 bytes) magic) kinds.Magic 0 (λ _. from_version bytes) h a.1 in
    let c = passed (u32_at bytes 4 == 1 || u32_at bytes 4 == 2) kinds.Version 4 (λ _. from_blocks bytes) h b.1 in
    let d = passed (nat_le 1 (u32_at bytes 8) && nat_le (u32_at bytes 8) 65536) kinds.Geometry 8 (λ _. from_dies bytes) h c.1 in
    let e = passed (nat_le 1 (u32_at bytes 12) && nat_le (u32_at bytes 12) 16) kinds.Geometry 12 (λ _. from_length bytes) h d.1 in
    let f = passed (length bytes == image_length (u32_at bytes 4) (u32_at bytes 8)) kinds.Length (length bytes) (λ _. from_next bytes) h e.1 in
    let g = passed (nat_le 1 (u32_at bytes 16)) kinds.NextId 16 (λ _. from_reserved bytes) h f.1 in
    let r = went (reserved bytes) (λ _. Ok (told bytes)) h g.1 in
    let same : told bytes ≡ h = same_ok (told bytes) h r.rest in
    subst (IsFront bytes) same (record { version = one_or_two (u32_at bytes 4) c.0; size = equal (length bytes) (image_length (u32_at bytes 4) (u32_at bytes 8)) f.0 })

-- ---- the steps behind it

record IsMeant (h : Header) (p : Parts) (i : Image) : Type 0 where
  pub header : i.header ≡ h
  pub blocks : blocks_of h i.files p.entries ≡ Ok i.blocks
  pub body : i.body ≡ p.body
  pub bitmap : bitmap i.blocks i.bits ≡ Ok tt
  pub tails : tails i.bits i.body (shares i.files i.blocks) ≡ Ok tt

abbrev image_from : Header → List Stored → List ℕ → Parts → Image
image_from h files blocks p = record { header = h; files = files; blocks = blocks; bits = p.bits; body = p.body }

meant_so : (h : Header) (p : Parts) (i : Image) → meant h p ≡ Ok i → IsMeant h p i
unfolding meant
meant_so h p i is =
    let a = went (files_in h p.records) (λ files. blocks_of h files p.entries >>= λ blocks. bitmap blocks p.bits >>= λ _. tails p.bits p.body (shares files blocks) >>= λ _. Ok (image_from h files blocks p)) i is in
    let b = went (blocks_of h a.value p.entries) (λ blocks. bitmap blocks p.bits >>= λ _. tails p.bits p.body (shares a.value blocks) >>= λ _. Ok (image_from h a.value blocks p)) i a.rest in
    let c = went (bitmap b.value p.bits) (λ _. tails p.bits p.body (shares a.value b.value) >>= λ _. Ok (image_from h a.value b.value p)) i b.rest in
    let d = went (tails p.bits p.body (shares a.value b.value)) (λ _. Ok (image_from h a.value b.value p)) i c.rest in
    subst (IsMeant h p) (same_ok (image_from h a.value b.value p) i d.rest) (record { header = refl; blocks = b.first; body = refl; bitmap = c.first; tails = d.first })

blocks_covered : (h : Header) (files : List Stored) (bytes blocks : List ℕ) → blocks_of h files bytes ≡ Ok blocks → covered files blocks ≡ Ok tt
unfolding blocks_of
blocks_covered h files bytes blocks is =
    let a = went (entries h.blocks files (256 * entry_pages h.blocks) (4096 * (1 + record_pages (layout h.version))) nothing_yet bytes) (λ (c : Cover). covered files c.blocks >>= λ _. Ok c.blocks) blocks is in
    let b = went (covered files a.value.blocks) (λ _. Ok a.value.blocks) blocks a.rest in
    ap (covered files) (sym (same_ok a.value.blocks blocks b.rest)) ∙ b.first

-- ---- a whole reading

pub record IsRead (bytes : List ℕ) (i : Image) : Type 0 where
  pub version : (i.header.version ≡ 1) ⊎ (i.header.version ≡ 2)
  pub size : length bytes ≡ image_length i.header.version i.header.blocks
  pub body : i.body ≡ (parts i.header bytes).body
  pub covered : covered i.files i.blocks ≡ Ok tt
  pub bitmap : bitmap i.blocks i.bits ≡ Ok tt
  pub tails : tails i.bits i.body (shares i.files i.blocks) ≡ Ok tt

pub read_so : (bytes : List ℕ) (i : Image) → read_image bytes ≡ Ok i → IsRead bytes i
unfolding read_image
read_so bytes i is =
    let a = went (header bytes) (λ h. meant h (parts h bytes)) i is in
    let m = meant_so a.value (parts a.value bytes) i a.rest in
    let f : IsFront bytes i.header = subst (IsFront bytes) (sym m.header) (front bytes a.value a.first) in
    record {
      version = f.version;
      size = f.size;
      body = m.body ∙ ap (λ (h : Header). (parts h bytes).body) (sym m.header);
      covered = blocks_covered a.value i.files (parts a.value bytes).entries i.blocks m.blocks;
      bitmap = m.bitmap;
      tails = m.tails;
    }

-- the bytes of the data blocks are those behind the other parts
body_at : (h : Header) (bytes : List ℕ) → (parts h bytes).body ≡ drop (4096 * (1 + record_pages (layout h.version) + entry_pages h.blocks + bit_pages h.blocks)) bytes
unfolding parts
body_at h bytes = behind bytes (record_pages (layout h.version)) (entry_pages h.blocks) (bit_pages h.blocks)

pub body_is : (bytes : List ℕ) (i : Image) → IsRead bytes i → i.body ≡ drop (4096 * (1 + record_pages (layout i.header.version) + entry_pages i.header.blocks + bit_pages i.header.blocks)) bytes
body_is bytes i is = is.body ∙ body_at i.header bytes

pub body_length : (bytes : List ℕ) (i : Image) → IsRead bytes i → length i.body ≡ 4096 * i.header.blocks
body_length bytes i is =
    ap length (body_is bytes i is) ∙ behind_length bytes (record_pages (layout i.header.version)) (entry_pages i.header.blocks) (bit_pages i.header.blocks) i.header.blocks is.size

-- ---- what the tests of the parts say

abbrev awaited : Stored → ℕ → Awaited
awaited f n = record { file = f.id; page = n; left = Pages f.len - n }

-- where all pages are covered there are as many blocks
pub all_pages : (files : List Stored) (blocks : List ℕ) → covered files blocks ≡ Ok tt → pages_of files ≤ length blocks
all_pages files blocks is = none_left files (length blocks) (none (page_after (length blocks) files) refl)
  where
    faulty : (k : ℕ) → fault {A = ⊤} kinds.Cover k ≡ Ok tt → ⊥
    faulty k e = cc

    none : (o : Option Awaited) → page_after (length blocks) files ≡ o → page_after (length blocks) files ≡ None
    none None e = e
    none (Some w) e = absurd (faulty w.file (sym (not_covered files blocks w e) ∙ is))

    none_left : (files : List Stored) (n : ℕ) → page_after n files ≡ None → pages_of files ≤ n
    none_left [] n is = omega arith
    none_left (f ∷ fs) n is =
        (elim (cases_lt n (Pages f.len)) [
          | inl lt ↦ absurd (some (sym (first lt) ∙ is))
          | inr le ↦ omega (arith, none_left fs (n - Pages f.len) (sym (later le) ∙ is), le)
        ])
      where
        first : n < Pages f.len → page_after n (f ∷ fs) ≡ Some (awaited f n)
        first lt = grind (arith, nat_tests)

        later : Pages f.len ≤ n → page_after n (f ∷ fs) ≡ page_after (n - Pages f.len) fs
        later le = grind (arith, nat_tests)

        some : Some (awaited f n) ≡ None → ⊥
        some e = cc

pub no_stray : (used bits : List ℕ) → bitmap used bits ≡ Ok tt → find (is_stray bits used) (range_with_len 0 (8 * length bits)) ≡ None
no_stray used bits is = none (find (is_stray bits used) (range_with_len 0 (8 * length bits))) refl
  where
    faulty : (k : ℕ) → fault {A = ⊤} kinds.Bitmap k ≡ Ok tt → ⊥
    faulty k e = cc

    none : (o : Option ℕ) → find (is_stray bits used) (range_with_len 0 (8 * length bits)) ≡ o → find (is_stray bits used) (range_with_len 0 (8 * length bits)) ≡ None
    none None e = e
    none (Some b) e = absurd (faulty b (sym (stray_some used bits b e) ∙ is))

pub no_tails : (bits body : List ℕ) (ss : List Share) → tails bits body ss ≡ Ok tt → find (has_tail bits body) ss ≡ None
no_tails bits body ss is = none (find (has_tail bits body) ss) refl
  where
    faulty : (k : ℕ) → fault {A = ⊤} kinds.Tail k ≡ Ok tt → ⊥
    faulty k e = cc

    none : (o : Option Share) → find (has_tail bits body) ss ≡ o → find (has_tail bits body) ss ≡ None
    none None e = e
    none (Some s) e = absurd (faulty s.file.id (sym (some_tail bits body ss s e) ∙ is))
