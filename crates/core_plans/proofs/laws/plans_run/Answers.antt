use Rattle.core_plans.proofs.Runs.{run_ends}
use Rattle.core_plans.proofs.laws.plans_run.Goals as goal

pub returns : goal.returns
returns c = λ encode plans left c0 script last paged. run_ends plans left paged encode c0 script last
