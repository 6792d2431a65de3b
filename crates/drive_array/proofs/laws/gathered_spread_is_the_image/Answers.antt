use Rattle.std.proofs.Common.{◌≡◌, ℕ, List, ap, subst, ◌∙◌, sym}
use Rattle.std.specs.Prelude.{map, IfSome}
use Rattle.std.specs.List.{concat}
use Rattle.page_base.specs.Drive.{total_pages}
use Rattle.flash_die.specs.Dies.{DieView}
use Rattle.flash_die.specs.Memory.{view_of}
use Rattle.drive_array.specs.Cut.{cuts, joined}
use Rattle.drive_array.specs.Reads.{TellsPages, FailsWithin, die_at, share_of}
use Rattle.drive_array.proofs.Cutting.{joined_cuts}
use Rattle.drive_array.proofs.Told.{if_ok}
use Rattle.drive_array.proofs.laws.gathered_spread_is_the_image.Goals as goal

pub returns-clause-whole : goal.returns-clause-whole
returns-clause-whole c =
    let pages = c.args.pages.items in
    let dies = c.args.geometry.dies in
    let total = total_pages c.args.geometry.blocks in
    if_ok c.gather.result
    (λ v. (lists : List (List (List ℕ))) → TellsPages (map (λ d. view_of d) c.in_ok-dies.dies.items) dies lists → v.items ≡ concat (joined lists dies total))
    (λ v. v.items ≡ concat pages)
    (λ v bytes. bytes (cuts pages dies) c.in_ok-dies.ensures.told ∙ ap (λ (n : ℕ). concat (joined (cuts pages dies) dies n)) (sym c.requires.pages) ∙ ap concat (joined_cuts pages dies c.gather.ensures.some))
    c.gather.ensures.bytes

pub returns-clause-listed : goal.returns-clause-listed
returns-clause-listed c = λ die failed.
    subst (λ (views : List DieView). IfSome (die_at views die).plan (FailsWithin (share_of c.args.geometry die))) c.in_ok-dies.ensures.dies (c.gather.ensures.listed die failed)
