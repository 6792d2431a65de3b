use Rattle.core_history.proofs.Faults.{run_faults}
use Rattle.core_history.proofs.laws.faults_counted.Goals as goal

pub returns : goal.returns
returns k = run_faults
