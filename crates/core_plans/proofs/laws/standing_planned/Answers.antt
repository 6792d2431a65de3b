use Rattle.core_plans.proofs.Dies.{stands_planned, stands_bounded}
use Rattle.core_plans.proofs.laws.standing_planned.Goals as goal

pub returns-clause-planned : goal.returns-clause-planned
returns-clause-planned g c = λ s o h plans k tell. stands_planned g.D.Die.seen g.J.CallJob.suits s o h plans k tell

pub returns-clause-bounded : goal.returns-clause-bounded
returns-clause-bounded g c = λ s o h calls k bound. stands_bounded g.D.Die.seen g.J.CallJob.suits s o h calls k bound
