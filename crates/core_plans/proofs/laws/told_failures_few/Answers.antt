use Rattle.core_plans.proofs.Counted.{told_few, faults_few}
use Rattle.core_plans.proofs.laws.told_failures_few.Goals as goal

pub returns : goal.returns
returns c = record { failures = told_few; faults = faults_few }
