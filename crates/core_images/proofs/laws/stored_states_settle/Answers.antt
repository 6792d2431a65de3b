use Rattle.core_images.proofs.States.{state_has, state_settles}
use Rattle.core_images.proofs.laws.stored_states_settle.Goals as goal

pub returns-clause-tables : goal.returns-clause-tables
returns-clause-tables g c = λ s k. state_has g.D.Die.seen g.J.CallJob.suits s k

pub returns-clause-settled : goal.returns-clause-settled
returns-clause-settled g c = λ s k table sound stored calls home. state_settles g.D.Die.seen g.J.CallJob.suits s k table sound stored calls home
