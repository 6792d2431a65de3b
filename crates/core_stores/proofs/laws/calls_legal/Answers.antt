use Rattle.core_stores.proofs.Folds.{run_legal}
use Rattle.core_stores.proofs.laws.calls_legal.Goals as goal

pub returns : goal.returns
returns k = run_legal
