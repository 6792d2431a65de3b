use Rattle.core_plans.proofs.Unfaulted.{same_by_lines}
use Rattle.core_plans.proofs.laws.lines_determine.Goals as goal

pub returns : goal.returns
returns c = same_by_lines
