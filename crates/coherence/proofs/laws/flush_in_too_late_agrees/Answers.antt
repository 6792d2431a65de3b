use Rattle.coherence.proofs.Agreeing.{agrees_flush_lost}
use Rattle.coherence.proofs.laws.flush_in_too_late_agrees.Goals as goal

pub returns : goal.returns
returns c = agrees_flush_lost
