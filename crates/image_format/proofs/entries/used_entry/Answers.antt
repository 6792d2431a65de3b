use Rattle.std.proofs.Common.{◌≡◌, ◌+◌, ◌≤◌, ◌++◌, ℕ, List, Bool, true, length, leb, Ok, Some, None, ap, sym, subst, ◌∙◌, arith}
use Rattle.std.specs.Prelude.{Result}
use Rattle.std.specs.List.{range_with_len}
use Rattle.std.proofs.lemmas.Bool.Decides.{nat_tests}
use Rattle.std.proofs.lemmas.List.{length-map}
use Rattle.extent_map.specs.declared.places.Place.{Place}
use Rattle.extent_map.specs.Places.{Places, first_used}
use Rattle.image_format.specs.declared.faults.ImageFault.{ImageFault}
use Rattle.image_format.specs.Entries.{Cover, is_at}
use Rattle.image_format.specs.Tables.{stored_files, blocks_in}
use Rattle.image_format.specs.Reading.{cover, IsPlaced}
use Rattle.image_format.proofs.Covers.{at_file, three_tests, stored_small}
use Rattle.image_format.proofs.Entered.{is_next_entry, not_next, overlaps, entered, any_taken, none_taken}
use Rattle.image_format.proofs.Taken.{test_is, entry_next, entry_taken}
use Rattle.image_format.proofs.entries.used_entry.Goals as goal

abbrev found : List ℕ → Bool → Result Cover ImageFault
found blocks ended = Ok (record { blocks = blocks; ended = ended })

fits : (a b n : ℕ) → leb (a + b) n ≡ true → a + b ≤ n
fits a b n is = grind (arith, nat_tests)

pub returns-then-not-is_next-clause-value : goal.returns-then-not-is_next-clause-value
returns-then-not-is_next-clause-value c =
    let old = c.args.so_far.now in
    let files = stored_files c.args.names.now in
    let e = c.args.e in
    let test : c.is_next.result ≡ is_next_entry old.map.blocks files (cover old) e =
    test_is files e c.is_next.result c.next_page-next.new.cover.ended old.ended c.next_page-next.result c.blocks-blocks.result old.map.blocks (length old.map.placed) (blocks_in old.map) c.is_next.ensures c.next_page-next.ensures.ended c.next_page-next.ensures.value (sym (length-map old.map.placed (λ (p : Place). p.block))) (c.blocks-blocks.ensures.value ∙ ap (λ (s : Places). s.blocks) c.next_page-next.ensures.map) in
    not_next old.map.blocks files c.args.at (cover old) e (sym test ∙ c.if-not-is_next.true)

pub place-requires : goal.place-requires
place-requires c =
    let v = c.next_page-next.new.cover in
    let e = c.args.e in
    let h = three_tests v.ended (is_at e c.next_page-next.result) (leb (e.block + e.count) c.blocks-blocks.result) (sym c.is_next.ensures ∙ c.if-not-is_next.false) in
    let at = at_file c.next_page-next.result e v.index v.page (stored_files c.args.names.now) c.next_page-next.ensures.page h.1 in
    record {
      within = omega (arith, fits e.block e.count c.blocks-blocks.result h.2, c.blocks-blocks.ensures.value);
      next = entry_next c.args.names.now v e at c.len-files.ensures.sound c.next_page-next.ensures.placed;
    }

pub returns-in-Err : goal.returns-in-Err
returns-in-Err c =
    let old = c.args.so_far.now in
    let v = c.next_page-next.new.cover in
    let files = stored_files c.args.names.now in
    let e = c.args.e in
    let test : c.is_next.result ≡ is_next_entry old.map.blocks files (cover old) e =
    test_is files e c.is_next.result v.ended old.ended c.next_page-next.result c.blocks-blocks.result old.map.blocks (length old.map.placed) (blocks_in old.map) c.is_next.ensures c.next_page-next.ensures.ended c.next_page-next.ensures.value (sym (length-map old.map.placed (λ (p : Place). p.block))) (c.blocks-blocks.ensures.value ∙ ap (λ (s : Places). s.blocks) c.next_page-next.ensures.map) in
    let used = subst (λ (s : Places). first_used e s.placed ≡ Some c.in-Err.field-0.block) c.next_page-next.ensures.map c.in-Err.ensures.err.0 in
    record {
      value = overlaps old.map.blocks files c.args.at (cover old) e (sym test ∙ c.if-not-is_next.false) (any_taken old.map.placed e c.in-Err.field-0.block used);
      placed = subst (λ (s : Places). IsPlaced c.args.names.now (record { map = s; index = v.index; page = v.page; ended = v.ended })) (sym c.in-Err.ensures.err.1) c.next_page-next.ensures.placed;
      blocks = ap (λ (s : Places). s.blocks) (c.in-Err.ensures.err.1 ∙ c.next_page-next.ensures.map);
    }

pub returns-in-Ok : goal.returns-in-Ok
returns-in-Ok c =
    let old = c.args.so_far.now in
    let v = c.next_page-next.new.cover in
    let files = stored_files c.args.names.now in
    let e = c.args.e in
    let test : c.is_next.result ≡ is_next_entry old.map.blocks files (cover old) e =
    test_is files e c.is_next.result v.ended old.ended c.next_page-next.result c.blocks-blocks.result old.map.blocks (length old.map.placed) (blocks_in old.map) c.is_next.ensures c.next_page-next.ensures.ended c.next_page-next.ensures.value (sym (length-map old.map.placed (λ (p : Place). p.block))) (c.blocks-blocks.ensures.value ∙ ap (λ (s : Places). s.blocks) c.next_page-next.ensures.map) in
    let h = three_tests v.ended (is_at e c.next_page-next.result) (leb (e.block + e.count) c.blocks-blocks.result) (sym c.is_next.ensures ∙ c.if-not-is_next.false) in
    let at = at_file c.next_page-next.result e v.index v.page files c.next_page-next.ensures.page h.1 in
    let taken = entry_taken c.args.names.now v e c.place.new.self at c.len-files.ensures.sound c.next_page-next.ensures.placed c.in-Ok.ensures.ok.1 in
    let none = subst (λ (s : Places). first_used e s.placed ≡ None) c.next_page-next.ensures.map c.in-Ok.ensures.ok.0 in
    let run = range_with_len e.block e.count in
    record {
      value =
          entered old.map.blocks files c.args.at (cover old) e (sym test ∙ c.if-not-is_next.false) (none_taken old.map.placed e none)
          ∙ ap (λ (s : Places). found (blocks_in s ++ run) old.ended) (sym c.next_page-next.ensures.map) ∙ ap (λ bs. found bs old.ended) (sym taken.blocks) ∙ ap (found (blocks_in c.place.new.self)) (sym c.next_page-next.ensures.ended);
      placed = taken.placed;
      blocks = ap (λ (s : Places). s.blocks) (c.in-Ok.ensures.ok.1) ∙ ap (λ (s : Places). s.blocks) c.next_page-next.ensures.map;
    }

pub overflow_add-so_far : goal.overflow_add-so_far
overflow_add-so_far c =
    let v = c.next_page-next.new.cover in
    let e = c.args.e in
    let h = three_tests v.ended (is_at e c.next_page-next.result) (leb (e.block + e.count) c.blocks-blocks.result) (sym c.is_next.ensures ∙ c.if-not-is_next.false) in
    let at = at_file c.next_page-next.result e v.index v.page (stored_files c.args.names.now) c.next_page-next.ensures.page h.1 in
    omega (arith, at.fits, stored_small c.args.names.now.next c.args.names.now.files v.index at.file c.len-files.ensures.sound.each at.here)
