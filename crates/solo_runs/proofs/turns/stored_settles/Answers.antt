use Rattle.core_images.proofs.States.{state_settles}
use Rattle.solo_runs.proofs.turns.stored_settles.Goals as goal

pub returns : goal.returns
returns g c = λ stored idle home. state_settles g.D.Die.seen g.J.CallJob.suits c.args.system.now.state c.requires c.look.ensures.table c.look.ensures.sound stored idle home
