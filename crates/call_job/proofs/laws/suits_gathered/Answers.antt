use Rattle.call_job.proofs.Kept.{suits_free, suits_one_more}
use Rattle.call_job.proofs.laws.suits_gathered.Goals as goal

pub returns : goal.returns
returns k = record { written = suits_free; gathered = suits_one_more }
