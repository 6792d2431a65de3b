use Rattle.coherence.proofs.Agreeing.{agrees_installed}
use Rattle.coherence.proofs.laws.install_agrees.Goals as goal

pub returns : goal.returns
returns c = agrees_installed
