use Rattle.core_hold.proofs.Homeward.{meta_in_holds}
use Rattle.core_hold.proofs.laws.meta_in_holds.Goals as goal

pub returns : goal.returns
returns k = λ actor die good left. meta_in_holds actor die good left
