use Rattle.core_hold.proofs.Phases.{fetch_holds}
use Rattle.core_hold.proofs.laws.fetch_holds.Goals as goal

pub returns : goal.returns
returns k = λ worker lane. fetch_holds worker lane
