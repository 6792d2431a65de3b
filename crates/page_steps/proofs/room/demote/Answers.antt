use Rattle.core_state.specs.declared.event.Event.TheVariants.{Demote}
use Rattle.system_state.specs.Cores.{core_of}
use Rattle.page_steps.proofs.Moves.{gave_one, gave_none, demote_some, demote_none}
use Rattle.page_steps.proofs.room.demote.Goals as goal

pub returns-in-Ok-clause-next : goal.returns-in-Ok-clause-next
returns-in-Ok-clause-next g c = demote_some (core_of g.D.Die.seen c.args.system.now.state) c.args.actor c.in-Ok.block c.in-Ok.ensures.first c.in-Ok.ensures.room

pub returns-in-Ok-clause-gave : goal.returns-in-Ok-clause-gave
returns-in-Ok-clause-gave g c = gave_one g.D.Die.seen g.J.CallJob.suits c.args.system.now.state c.try_demote.new.self.state (Demote c.args.actor c.in-Ok.block) c.in-Ok.ensures.stands

pub returns-in-Err-clause-next : goal.returns-in-Err-clause-next
returns-in-Err-clause-next g c = demote_none (core_of g.D.Die.seen c.args.system.now.state) c.args.actor c.in-Err.ensures.none

pub returns-in-Err-clause-gave : goal.returns-in-Err-clause-gave
returns-in-Err-clause-gave g c = gave_none g.D.Die.seen g.J.CallJob.suits c.args.system.now.state c.try_demote.new.self.state c.in-Err.ensures.same
