use Rattle.core_hold.proofs.Copies.{demote_holds}
use Rattle.core_hold.proofs.laws.demote_holds.Goals as goal

pub returns : goal.returns
returns k = λ actor block. demote_holds actor block
