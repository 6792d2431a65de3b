use Rattle.core_hold.proofs.Homeward.{fill_in_holds}
use Rattle.core_hold.proofs.laws.fill_in_holds.Goals as goal

pub returns : goal.returns
returns k = λ actor die good. fill_in_holds actor die good
