use Rattle.core_plans.proofs.Plans.{same_by_plan}
use Rattle.core_plans.proofs.Spared.{same_by_reads}
use Rattle.core_plans.proofs.Faultless.{same_faultless}
use Rattle.core_plans.proofs.laws.plans_determine.Goals as goal

pub returns : goal.returns
returns c = record { planned = λ encode plans left. same_by_plan plans left encode; reads = same_by_reads; faultless = same_faultless }
