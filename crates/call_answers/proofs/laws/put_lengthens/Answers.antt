use Rattle.call_answers.proofs.Wholes.{put_long}
use Rattle.call_answers.proofs.laws.put_lengthens.Goals as goal

pub returns : goal.returns
returns k = put_long
