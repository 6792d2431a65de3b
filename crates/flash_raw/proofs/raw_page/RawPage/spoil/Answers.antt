use Rattle.std.proofs.Common.{◌∙◌, refl, ap, sym, length, Some}
use Rattle.flash_die.specs.Failures.{spoilt_page}
use Rattle.flash_die.proofs.Went.{patched-whole}
use Rattle.flash_raw.proofs.raw_page.RawPage.spoil.Goals as goal

pub returns : goal.returns
unfolding spoilt_page
returns c =
    ap Some (c.patch.ensures.value ∙ patched-whole c.args.self.now.bytes spoilt_page refl (ap length (sym c.patch.ensures.value) ∙ c.patch.ensures.whole))
