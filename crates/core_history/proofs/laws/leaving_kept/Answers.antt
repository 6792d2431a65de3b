use Rattle.core_history.proofs.Leaving.{gone_stays}
use Rattle.core_history.proofs.laws.leaving_kept.Goals as goal

pub returns : goal.returns
returns k = gone_stays
