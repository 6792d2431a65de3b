use Rattle.core_hold.proofs.Lanes.{leave_holds}
use Rattle.core_hold.proofs.laws.leave_holds.Goals as goal

pub returns : goal.returns
returns k = λ lane. leave_holds lane
