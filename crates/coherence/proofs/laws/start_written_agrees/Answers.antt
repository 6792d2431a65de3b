use Rattle.coherence.proofs.Agreeing.{agrees_started}
use Rattle.coherence.proofs.laws.start_written_agrees.Goals as goal

pub returns : goal.returns
returns c = agrees_started
