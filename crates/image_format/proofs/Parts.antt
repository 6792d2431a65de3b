-- The parts of an image, in the order in which their faults answer.
use Rattle.std.proofs.Common.{◌≡◌, ℕ, ◌+◌, ◌*◌, List, [], false, Result, Ok, ap, ◌∙◌}
use Rattle.extent_map.specs.Places.{Places}
use Rattle.image_format.specs.Tables.{blocks_in}
use Rattle.image_format.specs.declared.faults.ImageFault.{ImageFault}
use Rattle.image_format.specs.declared.faults.MountErr.{MountErr}
use Rattle.image_format.specs.declared.header.Header.{Header}
use Rattle.image_format.specs.Faults.{Fails}
use Rattle.image_format.specs.Layout.{layout, record_pages, entry_pages}
use Rattle.image_format.specs.Header.{header}
use Rattle.image_format.specs.Records.{Stored, Listing, records, none_yet}
use Rattle.image_format.specs.Entries.{Cover, entries, nothing_yet, covered}
use Rattle.image_format.specs.Bitmap.{bitmap}
use Rattle.image_format.specs.Tails.{shares, tails}
use Rattle.image_format.specs.Image.{Parts, Image, files_in, blocks_of, meant, parts, read_image}
use Rattle.image_format.proofs.Steps.{fails_bind, fails_later, ok_bind}

abbrev pub listed : Header → List ℕ → Result Listing ImageFault
listed h bytes = records (layout h.version) h.next (layout h.version).records 4096 none_yet bytes

pub files_ok : (h : Header) (bytes : List ℕ) (l : Listing) → listed h bytes ≡ Ok l → files_in h bytes ≡ Ok l.files
unfolding files_in
files_ok h bytes l is = ok_bind _ l _ is

pub files_fail : (e : MountErr) (h : Header) (bytes : List ℕ) → Fails e (listed h bytes) → Fails e (files_in h bytes)
unfolding files_in
files_fail e h bytes fails = fails_bind e _ _ fails

abbrev pub entered : Header → List Stored → List ℕ → Result Cover ImageFault
entered h files bytes = entries h.blocks files (256 * entry_pages h.blocks) (4096 * (1 + record_pages (layout h.version))) nothing_yet bytes

pub blocks_ok : (h : Header) (files : List Stored) (bytes : List ℕ) (c : Cover) → entered h files bytes ≡ Ok c → covered files c.blocks ≡ Ok tt → blocks_of h files bytes ≡ Ok c.blocks
unfolding blocks_of
blocks_ok h files bytes c is all = ok_bind _ c _ is ∙ ok_bind _ tt _ all

pub blocks_fail : (e : MountErr) (h : Header) (files : List Stored) (bytes : List ℕ) → Fails e (entered h files bytes) → Fails e (blocks_of h files bytes)
unfolding blocks_of
blocks_fail e h files bytes fails = fails_bind e _ _ fails

pub cover_fails : (e : MountErr) (h : Header) (files : List Stored) (bytes : List ℕ) (c : Cover) → entered h files bytes ≡ Ok c → Fails e (covered files c.blocks) → Fails e (blocks_of h files bytes)
unfolding blocks_of
cover_fails e h files bytes c is fails = fails_later e _ c _ is (fails_bind e _ _ fails)

pub records_fail : (e : MountErr) (h : Header) (p : Parts) → Fails e (files_in h p.records) → Fails e (meant h p)
unfolding meant
records_fail e h p fails = fails_bind e _ _ fails

pub entries_fail : (e : MountErr) (h : Header) (p : Parts) (files : List Stored) → files_in h p.records ≡ Ok files → Fails e (blocks_of h files p.entries) → Fails e (meant h p)
unfolding meant
entries_fail e h p files is fails = fails_later e _ files _ is (fails_bind e _ _ fails)

pub bitmap_fails : (e : MountErr) (h : Header) (p : Parts) (files : List Stored) (blocks : List ℕ) → files_in h p.records ≡ Ok files → blocks_of h files p.entries ≡ Ok blocks → Fails e (bitmap blocks p.bits) → Fails e (meant h p)
unfolding meant
bitmap_fails e h p files blocks is next fails = fails_later e _ files _ is (fails_later e _ blocks _ next (fails_bind e _ _ fails))

pub tails_fail : (e : MountErr) (h : Header) (p : Parts) (files : List Stored) (blocks : List ℕ) → files_in h p.records ≡ Ok files → blocks_of h files p.entries ≡ Ok blocks → bitmap blocks p.bits ≡ Ok tt → Fails e (tails p.bits p.body (shares files blocks)) → Fails e (meant h p)
unfolding meant
tails_fail e h p files blocks is next marks fails = fails_later e _ files _ is (fails_later e _ blocks _ next (fails_later e _ tt _ marks (fails_bind e _ _ fails)))

pub all_meant : (h : Header) (p : Parts) (files : List Stored) (blocks : List ℕ) → files_in h p.records ≡ Ok files → blocks_of h files p.entries ≡ Ok blocks → bitmap blocks p.bits ≡ Ok tt → tails p.bits p.body (shares files blocks) ≡ Ok tt → meant h p ≡ Ok (record { header = h; files = files; blocks = blocks; bits = p.bits; body = p.body })
unfolding meant
all_meant h p files blocks is next marks ends = ok_bind _ files _ is ∙ ok_bind _ blocks _ next ∙ ok_bind _ tt _ marks ∙ ok_bind _ tt _ ends

pub header_fails : (e : MountErr) (bytes : List ℕ) → Fails e (header bytes) → Fails e (read_image bytes)
unfolding read_image
header_fails e bytes fails = fails_bind e _ _ fails

pub parts_fail : (e : MountErr) (bytes : List ℕ) (h : Header) → header bytes ≡ Ok h → Fails e (meant h (parts h bytes)) → Fails e (read_image bytes)
unfolding read_image
parts_fail e bytes h is fails = fails_later e _ h _ is fails

pub image_ok : (bytes : List ℕ) (h : Header) (i : Image) → header bytes ≡ Ok h → meant h (parts h bytes) ≡ Ok i → read_image bytes ≡ Ok i
unfolding read_image
image_ok bytes h i is means = ok_bind _ h _ is ∙ means

-- the entries as the reader reads them
pub entered_as : (h : Header) (files : List Stored) (bytes : List ℕ) (s : Places) (pages records : ℕ) → s ≡ record { blocks = h.blocks; placed = [] } → pages ≡ entry_pages h.blocks → records ≡ record_pages (layout h.version)
    → entries s.blocks files (256 * pages) (4096 * (1 + records)) (record { blocks = blocks_in s; ended = false }) bytes ≡ entered h files bytes
entered_as h files bytes s pages records s-is pages-is records-is =
    ap (λ (x : Places). entries x.blocks files (256 * pages) (4096 * (1 + records)) (record { blocks = blocks_in x; ended = false }) bytes) s-is
    ∙ ap (λ n. entries h.blocks files (256 * n) (4096 * (1 + records)) nothing_yet bytes) pages-is ∙ ap (λ n. entries h.blocks files (256 * entry_pages h.blocks) (4096 * (1 + n)) nothing_yet bytes) records-is
