use Rattle.core_stores.proofs.Folds.{run_keeps}
use Rattle.core_stores.proofs.laws.coherent_kept.Goals as goal

pub returns : goal.returns
returns k = run_keeps
