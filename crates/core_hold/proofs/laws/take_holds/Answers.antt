use Rattle.core_hold.proofs.Copies.{take_holds}
use Rattle.core_hold.proofs.laws.take_holds.Goals as goal

pub returns : goal.returns
returns k = λ actor lane i. take_holds actor lane i
