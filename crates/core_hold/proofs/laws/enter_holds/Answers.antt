use Rattle.core_hold.proofs.Lanes.{enter_holds}
use Rattle.core_hold.proofs.laws.enter_holds.Goals as goal

pub returns : goal.returns
returns k = λ lane. enter_holds lane
