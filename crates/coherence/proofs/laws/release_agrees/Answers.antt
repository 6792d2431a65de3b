use Rattle.coherence.proofs.Agreeing.{agrees_released}
use Rattle.coherence.proofs.laws.release_agrees.Goals as goal

pub returns : goal.returns
returns c = agrees_released
