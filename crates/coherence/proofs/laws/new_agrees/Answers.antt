use Rattle.coherence.proofs.Agreeing.{agrees_new}
use Rattle.coherence.proofs.laws.new_agrees.Goals as goal

pub returns : goal.returns
returns c = agrees_new
