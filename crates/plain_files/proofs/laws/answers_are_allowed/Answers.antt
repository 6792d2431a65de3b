use Rattle.plain_files.proofs.AllowedAnswers.{answer_allowed}
use Rattle.plain_files.proofs.laws.answers_are_allowed.Goals as goal

pub returns : goal.returns
returns c = answer_allowed
