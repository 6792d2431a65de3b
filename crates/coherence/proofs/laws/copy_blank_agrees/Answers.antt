use Rattle.coherence.proofs.Agreeing.{agrees_copied_blank}
use Rattle.coherence.proofs.laws.copy_blank_agrees.Goals as goal

pub returns : goal.returns
returns c = agrees_copied_blank
