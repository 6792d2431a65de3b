use Rattle.std.proofs.Common.{ap, sym, ◌∙◌}
use Rattle.std.proofs.lemmas.List.{length-map}
use Rattle.extent_map.specs.declared.places.Place.{Place}
use Rattle.image_format.specs.declared.faults.ImageKind.TheVariants.{Cover}
use Rattle.image_format.specs.Faults.{fault}
use Rattle.image_format.specs.Entries.{page_after}
use Rattle.image_format.specs.Tables.{stored_files, blocks_in}
use Rattle.image_format.proofs.Entered.{all_covered, not_covered}
use Rattle.image_format.proofs.entries.all_covered.Goals as goal

pub returns-in-None-clause-value : goal.returns-in-None-clause-value
returns-in-None-clause-value c =
    let s = c.args.so_far.now.map in
    all_covered (stored_files c.args.names.now) (blocks_in s) (ap (λ n. page_after n (stored_files c.args.names.now)) (length-map s.placed (λ (p : Place). p.block)) ∙ sym c.next_page.ensures.value ∙ c.in-None.is)

pub returns-in-Some-clause-value : goal.returns-in-Some-clause-value
returns-in-Some-clause-value c =
    let s = c.args.so_far.now.map in
    not_covered (stored_files c.args.names.now) (blocks_in s) c.in-Some.w (ap (λ n. page_after n (stored_files c.args.names.now)) (length-map s.placed (λ (p : Place). p.block)) ∙ sym c.next_page.ensures.value ∙ c.in-Some.is)
    ∙ ap (λ k. fault Cover k) (sym c.from.ensures)
