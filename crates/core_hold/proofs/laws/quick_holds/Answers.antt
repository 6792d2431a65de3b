use Rattle.core_hold.proofs.Quicks.{quick_holds}
use Rattle.core_hold.proofs.laws.quick_holds.Goals as goal

pub returns : goal.returns
returns k = λ lane request reply. quick_holds lane request reply
