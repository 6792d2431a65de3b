use Rattle.core_hold.proofs.Homeward.{flush_in_holds}
use Rattle.core_hold.proofs.laws.flush_in_holds.Goals as goal

pub returns : goal.returns
returns k = λ actor die good left. flush_in_holds actor die good left
