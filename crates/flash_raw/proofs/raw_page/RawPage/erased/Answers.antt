use Rattle.std.proofs.Common.{length, ap}
use Rattle.page_base.specs.Bytes.{zero_page}
use Rattle.flash_raw.proofs.raw_page.RawPage.erased.Goals as goal

pub invariant_of-result : goal.invariant_of-result
unfolding zero_page
invariant_of-result c = record { whole = ap length c.in_ok-zero.ensures }
