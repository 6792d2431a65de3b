use Rattle.coherence.proofs.Agreeing.{agrees_copied_there}
use Rattle.coherence.proofs.laws.copy_there_agrees.Goals as goal

pub returns : goal.returns
returns c = agrees_copied_there
