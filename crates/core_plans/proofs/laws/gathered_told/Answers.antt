use Rattle.core_plans.proofs.Gathers.{gathered_whole, gathered_lost}
use Rattle.core_plans.proofs.laws.gathered_told.Goals as goal

pub returns-clause-whole : goal.returns-clause-whole
returns-clause-whole g c = λ s o h kind lines drive dies k made same count gives.
    gathered_whole g.D.Die.seen g.J.CallJob.suits g.met.D.Die.sound s o h kind lines drive dies k made same count gives

pub returns-clause-lost : goal.returns-clause-lost
returns-clause-lost g c = λ s o h kind lines drive dies left d k made same count some stops rises fails.
    gathered_lost g.D.Die.seen g.J.CallJob.suits g.met.D.Die.sound s o h kind lines drive dies left d k made same count some stops rises fails
