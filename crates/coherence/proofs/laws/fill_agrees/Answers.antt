use Rattle.coherence.proofs.Agreeing.{agrees_filled}
use Rattle.coherence.proofs.laws.fill_agrees.Goals as goal

pub returns : goal.returns
returns c = agrees_filled
