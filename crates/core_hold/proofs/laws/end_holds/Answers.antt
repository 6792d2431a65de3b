use Rattle.core_hold.proofs.Ends.{end_holds}
use Rattle.core_hold.proofs.laws.end_holds.Goals as goal

pub returns : goal.returns
returns k = λ lane request reply. end_holds lane request reply
