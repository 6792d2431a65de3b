use Rattle.coherence.proofs.Agreeing.{agrees_evicted}
use Rattle.coherence.proofs.laws.evict_agrees.Goals as goal

pub returns : goal.returns
returns c = agrees_evicted
