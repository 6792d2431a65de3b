use Rattle.coherence.proofs.Agreeing.{agrees_put_back}
use Rattle.coherence.proofs.laws.put_back_agrees.Goals as goal

pub returns : goal.returns
returns c = agrees_put_back
