use Rattle.core_hold.proofs.Lanes.{skip_holds}
use Rattle.core_hold.proofs.laws.skip_holds.Goals as goal

pub returns : goal.returns
returns k = λ lane request fault. skip_holds lane request fault
