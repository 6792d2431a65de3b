use Rattle.crew_history.proofs.Begins.{crew_begins}
use Rattle.crew_history.proofs.laws.crew_begun.Goals as goal

pub returns : goal.returns
returns g k = λ seen turn lanes posts v h. crew_begins seen turn lanes posts v h
