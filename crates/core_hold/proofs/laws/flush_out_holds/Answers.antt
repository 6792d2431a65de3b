use Rattle.core_hold.proofs.Outward.{flush_out_holds}
use Rattle.core_hold.proofs.laws.flush_out_holds.Goals as goal

pub returns : goal.returns
returns k = λ actor die block. flush_out_holds actor die block
