use Rattle.core_hold.proofs.Lanes.{begin_holds}
use Rattle.core_hold.proofs.laws.begin_holds.Goals as goal

pub returns : goal.returns
returns k = λ lane request side. begin_holds lane request side
