use Rattle.core_plans.proofs.Told.{stands_told, stands_few}
use Rattle.core_plans.proofs.laws.standing_told.Goals as goal

pub returns-clause-told : goal.returns-clause-told
returns-clause-told g c = λ s o h kind lines k made. stands_told g.D.Die.seen g.J.CallJob.suits s o h kind lines k made

pub returns-clause-few : goal.returns-clause-few
returns-clause-few g c = λ s o h kind lines k made. stands_few g.D.Die.seen g.J.CallJob.suits s o h kind lines k made
