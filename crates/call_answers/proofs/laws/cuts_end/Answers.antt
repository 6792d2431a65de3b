use Rattle.call_answers.proofs.Cutting.{cuts_end}
use Rattle.call_answers.proofs.laws.cuts_end.Goals as goal

pub returns : goal.returns
returns k = cuts_end
