use Rattle.coherence.proofs.Agreeing.{agrees_taken}
use Rattle.coherence.proofs.laws.take_agrees.Goals as goal

pub returns : goal.returns
returns c = agrees_taken
