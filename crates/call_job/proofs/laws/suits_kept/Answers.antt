use Rattle.call_job.proofs.Kept.{suits_kept}
use Rattle.call_job.proofs.laws.suits_kept.Goals as goal

pub returns : goal.returns
returns k = suits_kept
