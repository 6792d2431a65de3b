use Rattle.core_hold.proofs.Copies.{evict_holds}
use Rattle.core_hold.proofs.laws.evict_holds.Goals as goal

pub returns : goal.returns
returns k = λ actor side block. evict_holds actor side block
