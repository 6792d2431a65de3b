use Rattle.core_hold.proofs.Copies.{copy_holds}
use Rattle.core_hold.proofs.laws.copy_holds.Goals as goal

pub returns : goal.returns
returns k = λ actor lane i. copy_holds actor lane i
