use Rattle.std.proofs.Common.{◌≡◌, subst}
use Rattle.core_state.specs.declared.event.Event.TheVariants.{FlushOut}
use Rattle.system_state.specs.Cores.{core_of}
use Rattle.page_steps.specs.Room.{IsSent}
use Rattle.page_steps.proofs.Moves.{gave_one, gave_none, flush_some, flush_none}
use Rattle.page_steps.proofs.room.send.Goals as goal

pub returns-in-Ok-clause-next : goal.returns-in-Ok-clause-next
returns-in-Ok-clause-next g c = flush_some (core_of g.D.Die.seen c.args.system.now.state) c.args.actor c.in-Ok.errand.number c.in-Ok.errand.subject c.in-Ok.ensures.first c.in-Ok.ensures.made.happens.may.on_die

pub returns-in-Ok-clause-gave : goal.returns-in-Ok-clause-gave
returns-in-Ok-clause-gave g c = gave_one g.D.Die.seen g.J.CallJob.suits c.args.system.now.state c.try_flush_out.new.self.state (FlushOut c.args.actor c.in-Ok.errand.number c.in-Ok.errand.subject) (λ o h n k. (c.in-Ok.ensures.stands o h n k).0)

pub returns-in-Ok-clause-sent : goal.returns-in-Ok-clause-sent
returns-in-Ok-clause-sent g c = λ e is. let z : c.in-Ok.errand ≡ e = cc in subst (λ e. IsSent g.D.Die.seen g.J.CallJob.suits c.args.system.now.state c.args.actor c.try_flush_out.new.into e c.try_flush_out.new.self.state) z (record { first = c.in-Ok.ensures.first; out = c.in-Ok.ensures.out; page_is = c.in-Ok.ensures.page; stands = c.in-Ok.ensures.stands })

pub returns-in-Err-clause-next : goal.returns-in-Err-clause-next
returns-in-Err-clause-next g c = flush_none (core_of g.D.Die.seen c.args.system.now.state) c.args.actor c.in-Err.ensures.not_yet.0

pub returns-in-Err-clause-gave : goal.returns-in-Err-clause-gave
returns-in-Err-clause-gave g c = gave_none g.D.Die.seen g.J.CallJob.suits c.args.system.now.state c.try_flush_out.new.self.state c.in-Err.ensures.same.0

pub returns-in-Err-clause-sent : goal.returns-in-Err-clause-sent
returns-in-Err-clause-sent g c = λ e is. absurd (cc)
