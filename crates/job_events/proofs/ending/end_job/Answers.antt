use Rattle.std.proofs.Common.{sym, subst}
use Rattle.system_state.specs.Stands.{Stands}
use Rattle.call_job.specs.Suits.{Suits}
use Rattle.job_events.proofs.ending.end_job.Goals as goal

pub returns-clause-stands : goal.returns-clause-stands
returns-clause-stands g c = λ o h n k. c.end_with.ensures.stands o h n (subst (λ z. Stands g.D.Die.seen Suits (record c.args.state.now { jobs = z }) o h) (sym c.jobs_held-jobs.ensures.jobs) k)
