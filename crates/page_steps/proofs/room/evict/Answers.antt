use Rattle.core_state.specs.declared.event.Event.TheVariants.{Evict}
use Rattle.system_state.specs.Cores.{core_of}
use Rattle.page_steps.proofs.Moves.{gave_one, gave_none, evict_some, evict_none}
use Rattle.page_steps.proofs.room.evict.Goals as goal

pub returns-in-Ok-clause-next : goal.returns-in-Ok-clause-next
returns-in-Ok-clause-next g c = evict_some (core_of g.D.Die.seen c.args.system.now.state) c.args.actor c.args.side c.in-Ok.block c.in-Ok.ensures.first

pub returns-in-Ok-clause-gave : goal.returns-in-Ok-clause-gave
returns-in-Ok-clause-gave g c = gave_one g.D.Die.seen g.J.CallJob.suits c.args.system.now.state c.try_evict.new.self.state (Evict c.args.actor c.args.side c.in-Ok.block) c.in-Ok.ensures.stands

pub returns-in-Err-clause-next : goal.returns-in-Err-clause-next
returns-in-Err-clause-next g c = evict_none (core_of g.D.Die.seen c.args.system.now.state) c.args.actor c.args.side c.in-Err.ensures.not_yet.0

pub returns-in-Err-clause-gave : goal.returns-in-Err-clause-gave
returns-in-Err-clause-gave g c = gave_none g.D.Die.seen g.J.CallJob.suits c.args.system.now.state c.try_evict.new.self.state c.in-Err.ensures.same
