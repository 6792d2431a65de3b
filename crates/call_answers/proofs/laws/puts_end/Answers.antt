use Rattle.call_answers.proofs.Stored.{puts_end}
use Rattle.call_answers.proofs.laws.puts_end.Goals as goal

pub returns : goal.returns
returns k = puts_end
