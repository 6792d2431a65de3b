use Rattle.coherence.proofs.Agreeing.{agrees_demoted}
use Rattle.coherence.proofs.laws.demote_agrees.Goals as goal

pub returns : goal.returns
returns c = agrees_demoted
