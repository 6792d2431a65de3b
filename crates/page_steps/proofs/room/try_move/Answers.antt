use Rattle.std.proofs.Common.{◌≡◌, None, ap, sym, subst}
use Rattle.core_state.specs.Words.{or_else}
use Rattle.coherence.specs.Paired.{by_side}
use Rattle.core_solo.specs.Solo.{evict_event, demote_event}
use Rattle.dispatcher.specs.declared.side.Side.TheVariants.{Host, Drive}
use Rattle.system_state.specs.Cores.{core_of}
use Rattle.page_steps.specs.Room.{MayMove, Gave, event_of, move_event}
use Rattle.page_steps.proofs.Moves.{first_some, first_none}
use Rattle.page_steps.proofs.room.try_move.Goals as goal

pub returns-in-Some-clause-next : goal.returns-in-Some-clause-next
returns-in-Some-clause-next g c = first_some (by_side c.args.side (or_else (evict_event (core_of g.D.Die.seen c.args.system.now.state) c.args.actor Host) (demote_event (core_of g.D.Die.seen c.args.system.now.state) c.args.actor)) None) (evict_event (core_of g.D.Die.seen c.args.system.now.state) c.args.actor Drive) (event_of c.args.actor c.in-Some.step) (subst (λ r. move_event c.args.actor r ≡ (by_side c.args.side (or_else (evict_event (core_of g.D.Die.seen c.args.system.now.state) c.args.actor Host) (demote_event (core_of g.D.Die.seen c.args.system.now.state) c.args.actor)) None)) c.in-Some.is c.move_at-first.ensures.next)

pub returns-in-Some-clause-gave : goal.returns-in-Some-clause-gave
returns-in-Some-clause-gave g c = subst (λ r. Gave g.D.Die.seen g.J.CallJob.suits c.args.system.now.state (move_event c.args.actor r) c.move_at-first.new.system.state) c.in-Some.is c.move_at-first.ensures.gave

pub evict-requires : goal.evict-requires
evict-requires g c = subst (λ s. MayMove g.D.Die.seen g.J.CallJob.suits s c.args.actor) (sym (c.move_at-first.ensures.gave.same (ap (move_event c.args.actor) c.in-None.is))) c.requires

pub returns-in-None-clause-next : goal.returns-in-None-clause-next
returns-in-None-clause-next g c = first_none (by_side c.args.side (or_else (evict_event (core_of g.D.Die.seen c.args.system.now.state) c.args.actor Host) (demote_event (core_of g.D.Die.seen c.args.system.now.state) c.args.actor)) None) (evict_event (core_of g.D.Die.seen c.args.system.now.state) c.args.actor Drive) (move_event c.args.actor c.evict.result) (subst (λ r. move_event c.args.actor r ≡ (by_side c.args.side (or_else (evict_event (core_of g.D.Die.seen c.args.system.now.state) c.args.actor Host) (demote_event (core_of g.D.Die.seen c.args.system.now.state) c.args.actor)) None)) c.in-None.is c.move_at-first.ensures.next) (subst (λ s. move_event c.args.actor c.evict.result ≡ evict_event (core_of g.D.Die.seen s) c.args.actor Drive) (c.move_at-first.ensures.gave.same (ap (move_event c.args.actor) c.in-None.is)) c.evict.ensures.next)

pub returns-in-None-clause-gave : goal.returns-in-None-clause-gave
returns-in-None-clause-gave g c = subst (λ s. Gave g.D.Die.seen g.J.CallJob.suits s (move_event c.args.actor c.evict.result) c.evict.new.system.state) (c.move_at-first.ensures.gave.same (ap (move_event c.args.actor) c.in-None.is)) c.evict.ensures.gave
