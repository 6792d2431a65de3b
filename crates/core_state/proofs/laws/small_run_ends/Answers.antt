use Rattle.core_state.proofs.SmallRuns.{small_coherent, small_run}
use Rattle.core_state.proofs.laws.small_run_ends.Goals as goal

pub returns : goal.returns
returns c = record { coherent = small_coherent; run = small_run }
