use Rattle.core_pages.proofs.Plains.{plain_stays}
use Rattle.core_pages.proofs.laws.plain_kept.Goals as goal

pub returns : goal.returns
returns k = plain_stays
