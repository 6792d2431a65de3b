use Rattle.std.proofs.Common.{◌∙◌, refl, ap, sym, length}
use Rattle.flash_die.specs.Failures.{spoilt_page}
use Rattle.flash_die.proofs.Went.{patched-whole}
use Rattle.flash_die.proofs.steps.spoil.Goals as goal

pub returns-clause-bytes : goal.returns-clause-bytes
unfolding spoilt_page
returns-clause-bytes c =
    c.patch.ensures.value ∙ patched-whole c.args.page.now spoilt_page refl (ap length (sym c.patch.ensures.value) ∙ c.patch.ensures.whole)
