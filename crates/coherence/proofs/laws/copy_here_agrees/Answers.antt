use Rattle.coherence.proofs.Agreeing.{agrees_copied_here}
use Rattle.coherence.proofs.laws.copy_here_agrees.Goals as goal

pub returns : goal.returns
returns c = agrees_copied_here
