-- An entry whose blocks are taken.
use Rattle.std.proofs.Common.{◌≡◌, ℕ, ◌+◌, List, ◌++◌, length, map, Bool, leb, Option, ap, ◌∙◌, sym, subst, arith, length-append}
use Rattle.std.specs.Prelude.{not, ◌&&◌}
use Rattle.std.specs.List.{range_with_len}
use Rattle.std.proofs.lemmas.List.{length-map, map-append}
use Rattle.name_table.specs.Files.{Table, IsTable}
use Rattle.extent_map.specs.declared.places.Place.{Place}
use Rattle.extent_map.specs.declared.places.Extent.{Extent}
use Rattle.extent_map.specs.Places.{Places, count_of, put_in, pages_on, with_blocks, blocks_in as blocks_of_extent}
use Rattle.image_format.specs.declared.entries.Covered.{Covered}
use Rattle.image_format.specs.declared.entries.Awaited.{Awaited}
use Rattle.image_format.specs.Records.{Stored}
use Rattle.image_format.specs.Entries.{page_after, is_at}
use Rattle.image_format.specs.Tables.{stored_files, blocks_in, placed_of}
use Rattle.image_format.specs.Reading.{IsAt, IsPlaced}
use Rattle.image_format.proofs.Areas.{length_range}
use Rattle.image_format.proofs.Cursors.{moves_by}
use Rattle.image_format.proofs.Covers.{AtFile, Next, next_placed, rise_stored, blocks_of_pages}
use Rattle.image_format.proofs.Entered.{is_next_entry}

pub test_is : (files : List Stored) (e : Extent) (t ended old_ended : Bool) (o : Option Awaited) (blocks old_blocks n : ℕ) (bs : List ℕ) → t ≡ (not ended && (is_at e o && leb (e.block + e.count) blocks)) → ended ≡ old_ended → o ≡ page_after n files → n ≡ length bs → blocks ≡ old_blocks → t ≡ is_next_entry old_blocks files (record { blocks = bs; ended = old_ended }) e
test_is files e t ended old_ended o blocks old_blocks n bs is ended-is o-is n-is blocks-is =
    is ∙ ap (λ x. not x && (is_at e o && leb (e.block + e.count) blocks)) ended-is
    ∙ ap (λ x. not old_ended && (is_at e x && leb (e.block + e.count) blocks)) (o-is ∙ ap (λ m. page_after m files) n-is)
    ∙ ap (λ x. not old_ended && (is_at e (page_after (length bs) files) && leb (e.block + e.count) x)) blocks-is

next_of : (t : Table) (c : Covered) (e : Extent) (at : AtFile e c.index c.page (stored_files t)) → IsTable t → IsPlaced t c → Next at.file c.page (stored_files t) (blocks_in c.map) (range_with_len e.block e.count)
next_of t c e at sound placed =
    next_placed (stored_files t) 1 c.index c.page at.file (blocks_in c.map) (range_with_len e.block e.count) (rise_stored 1 t.files sound.rise) at.here
    (length-map c.map.placed (λ (p : Place). p.block) ∙ placed.cursor.before) (omega (arith, at.fits, length_range e.block e.count))

pub entry_next : (t : Table) (c : Covered) (e : Extent) → AtFile e c.index c.page (stored_files t) → IsTable t → IsPlaced t c → e.page ≡ count_of e.file c.map.placed
entry_next t c e at sound placed =
    at.begins ∙ sym (next_of t c e at sound placed).count ∙ ap (count_of at.file.id) (sym placed.places) ∙ ap (λ i. count_of i c.map.placed) (sym at.id)

pub record IsTaken (t : Table) (c : Covered) (e : Extent) (new : Places) : Type 0 where
  pub blocks : blocks_in new ≡ blocks_in c.map ++ range_with_len e.block e.count
  pub placed : IsPlaced t (record { map = new; index = c.index; page = c.page + e.count; ended = c.ended })

pub entry_taken : (t : Table) (c : Covered) (e : Extent) (new : Places) → AtFile e c.index c.page (stored_files t) → IsTable t → IsPlaced t c → new ≡ with_blocks c.map e.file (blocks_of_extent e) → IsTaken t c e new
entry_taken t c e new at sound placed is =
    let next = next_of t c e at sound placed in
    let run = range_with_len e.block e.count in
    let pages = pages_on at.file.id c.page run in
    let count : count_of e.file c.map.placed ≡ c.page = sym (entry_next t c e at sound placed) ∙ at.begins in
    let added : new.placed ≡ c.map.placed ++ pages =
    ap (λ (s : Places). s.placed) is ∙ ap (λ n. put_in e.file (pages_on e.file n run) c.map.placed) count ∙ ap (λ i. put_in i (pages_on i c.page run) c.map.placed) at.id
    ∙ ap (put_in at.file.id pages) placed.places ∙ next.put ∙ ap (λ ps. ps ++ pages) (sym placed.places) in
    let blocks : blocks_in new ≡ blocks_in c.map ++ run =
    ap (map (λ (p : Place). p.block)) added ∙ map-append (λ (p : Place). p.block) c.map.placed pages ∙ ap (λ xs. blocks_in c.map ++ xs) (blocks_of_pages at.file.id c.page run) in
    let len : length pages ≡ e.count = sym (length-map pages (λ (p : Place). p.block)) ∙ ap length (blocks_of_pages at.file.id c.page run) ∙ length_range e.block e.count in
    let more : length c.map.placed + e.count ≡ length new.placed = omega (arith, ap length added, length-append c.map.placed pages, len) in
    record {
      blocks = blocks;
      placed = record {
        places = added ∙ ap (λ ps. ps ++ pages) placed.places ∙ sym next.placed ∙ ap (placed_of (stored_files t)) (sym blocks);
        cursor = subst (λ n. IsAt n c.index (c.page + e.count) (stored_files t)) more (moves_by (length c.map.placed) c.index c.page e.count (stored_files t) at.file placed.cursor at.here at.fits);
      };
    }
