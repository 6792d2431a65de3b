use Rattle.coherence.proofs.Agreeing.{agrees_flushed}
use Rattle.coherence.proofs.laws.flush_in_agrees.Goals as goal

pub returns : goal.returns
returns c = agrees_flushed
