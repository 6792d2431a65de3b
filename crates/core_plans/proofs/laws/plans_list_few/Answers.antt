use Rattle.core_plans.proofs.Lines.{sum_lines}
use Rattle.core_plans.proofs.laws.plans_list_few.Goals as goal

pub returns : goal.returns
returns c = sum_lines
