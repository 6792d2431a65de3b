use Rattle.core_hold.proofs.Outward.{die_out_holds}
use Rattle.core_hold.proofs.laws.die_out_holds.Goals as goal

pub returns : goal.returns
returns k = λ actor die purpose. die_out_holds actor die purpose
