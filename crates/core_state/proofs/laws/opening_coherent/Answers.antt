use Rattle.core_state.proofs.Openings.{opening_coherent}
use Rattle.core_state.proofs.laws.opening_coherent.Goals as goal

pub returns : goal.returns
returns c = opening_coherent
