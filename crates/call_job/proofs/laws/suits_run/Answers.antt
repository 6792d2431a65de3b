use Rattle.call_job.proofs.Kept.{suits_in_phase, suits_run}
use Rattle.call_job.proofs.laws.suits_run.Goals as goal

pub returns : goal.returns
returns k = record { in_phase = suits_in_phase; executed = suits_run }
