use Rattle.std.proofs.Common.{◌≡◌, ap, sym, subst}
use Rattle.core_solo.specs.Solo.{evict_event, demote_event}
use Rattle.dispatcher.specs.declared.side.Side.TheVariants.{Host}
use Rattle.system_state.specs.Cores.{core_of}
use Rattle.page_steps.specs.Room.{MayMove, Gave, event_of, move_event}
use Rattle.page_steps.proofs.Moves.{first_some, first_none}
use Rattle.page_steps.proofs.room.move_host.Goals as goal

pub returns-in-Some-clause-next : goal.returns-in-Some-clause-next
returns-in-Some-clause-next g c = first_some (evict_event (core_of g.D.Die.seen c.args.system.now.state) c.args.actor Host) (demote_event (core_of g.D.Die.seen c.args.system.now.state) c.args.actor) (event_of c.args.actor c.in-Some.step) (subst (λ r. move_event c.args.actor r ≡ (evict_event (core_of g.D.Die.seen c.args.system.now.state) c.args.actor Host)) c.in-Some.is c.evict-first.ensures.next)

pub returns-in-Some-clause-gave : goal.returns-in-Some-clause-gave
returns-in-Some-clause-gave g c = subst (λ r. Gave g.D.Die.seen g.J.CallJob.suits c.args.system.now.state (move_event c.args.actor r) c.evict-first.new.system.state) c.in-Some.is c.evict-first.ensures.gave

pub demote-requires : goal.demote-requires
demote-requires g c = subst (λ s. MayMove g.D.Die.seen g.J.CallJob.suits s c.args.actor) (sym (c.evict-first.ensures.gave.same (ap (move_event c.args.actor) c.in-None.is))) c.requires

pub returns-in-None-clause-next : goal.returns-in-None-clause-next
returns-in-None-clause-next g c = first_none (evict_event (core_of g.D.Die.seen c.args.system.now.state) c.args.actor Host) (demote_event (core_of g.D.Die.seen c.args.system.now.state) c.args.actor) (move_event c.args.actor c.demote.result) (subst (λ r. move_event c.args.actor r ≡ (evict_event (core_of g.D.Die.seen c.args.system.now.state) c.args.actor Host)) c.in-None.is c.evict-first.ensures.next) (subst (λ s. move_event c.args.actor c.demote.result ≡ demote_event (core_of g.D.Die.seen s) c.args.actor) (c.evict-first.ensures.gave.same (ap (move_event c.args.actor) c.in-None.is)) c.demote.ensures.next)

pub returns-in-None-clause-gave : goal.returns-in-None-clause-gave
returns-in-None-clause-gave g c = subst (λ s. Gave g.D.Die.seen g.J.CallJob.suits s (move_event c.args.actor c.demote.result) c.demote.new.system.state) (c.evict-first.ensures.gave.same (ap (move_event c.args.actor) c.in-None.is)) c.demote.ensures.gave
