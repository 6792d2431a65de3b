use Rattle.core_hold.proofs.Phases.{submit_holds}
use Rattle.core_hold.proofs.laws.submit_holds.Goals as goal

pub returns : goal.returns
returns k = λ lane. submit_holds lane
