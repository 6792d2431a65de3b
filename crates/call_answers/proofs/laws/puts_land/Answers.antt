use Rattle.call_answers.proofs.Stored.{put_pages}
use Rattle.call_answers.proofs.laws.puts_land.Goals as goal

pub returns : goal.returns
returns k = put_pages
