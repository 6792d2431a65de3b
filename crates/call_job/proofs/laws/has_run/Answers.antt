use Rattle.call_job.proofs.Ended.{executed_run, reported_run}
use Rattle.call_job.proofs.laws.has_run.Goals as goal

pub returns : goal.returns
returns k = record { executed = executed_run; reported = reported_run }
