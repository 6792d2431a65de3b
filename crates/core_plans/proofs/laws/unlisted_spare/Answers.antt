use Rattle.core_plans.proofs.Faultless.{spared}
use Rattle.core_plans.proofs.laws.unlisted_spare.Goals as goal

pub returns : goal.returns
returns c = spared
