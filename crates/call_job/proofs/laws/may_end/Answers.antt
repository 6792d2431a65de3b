use Rattle.call_job.proofs.Ended.{may_end, may_end_marked}
use Rattle.call_job.proofs.laws.may_end.Goals as goal

pub returns : goal.returns
returns k = record { unmarked = may_end; marked = may_end_marked }
