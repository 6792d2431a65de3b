use Rattle.std.proofs.Common.{◌≡◌, ◌∙◌, None, ap, sym, subst}
use Rattle.core_state.specs.Words.{or_else}
use Rattle.core_state.specs.DieEvents.{FlushesFor}
use Rattle.coherence.specs.Paired.{by_side}
use Rattle.core_solo.specs.Solo.{evict_event, demote_event, flush_event}
use Rattle.dispatcher.specs.declared.side.Side.TheVariants.{Host, Drive}
use Rattle.system_state.specs.Cores.{core_of}
use Rattle.page_steps.specs.Room.{MayMove, Gave, IsSent, event_of, move_event, given_event}
use Rattle.page_steps.proofs.Moves.{first_some, first_none, or_apart}
use Rattle.page_steps.proofs.room.try_room.Goals as goal

pub returns-in-Some-clause-next : goal.returns-in-Some-clause-next
returns-in-Some-clause-next g c = first_some (or_else (by_side c.args.side (or_else (evict_event (core_of g.D.Die.seen c.args.system.now.state) c.args.actor Host) (demote_event (core_of g.D.Die.seen c.args.system.now.state) c.args.actor)) None) (evict_event (core_of g.D.Die.seen c.args.system.now.state) c.args.actor Drive)) (flush_event (core_of g.D.Die.seen c.args.system.now.state) c.args.actor) (event_of c.args.actor c.in-Some.step) (subst (λ r. move_event c.args.actor r ≡ (or_else (by_side c.args.side (or_else (evict_event (core_of g.D.Die.seen c.args.system.now.state) c.args.actor Host) (demote_event (core_of g.D.Die.seen c.args.system.now.state) c.args.actor)) None) (evict_event (core_of g.D.Die.seen c.args.system.now.state) c.args.actor Drive))) c.in-Some.is c.try_move-first.ensures.next) ∙ or_apart (by_side c.args.side (or_else (evict_event (core_of g.D.Die.seen c.args.system.now.state) c.args.actor Host) (demote_event (core_of g.D.Die.seen c.args.system.now.state) c.args.actor)) None) (evict_event (core_of g.D.Die.seen c.args.system.now.state) c.args.actor Drive) (flush_event (core_of g.D.Die.seen c.args.system.now.state) c.args.actor)

pub returns-in-Some-clause-gave : goal.returns-in-Some-clause-gave
returns-in-Some-clause-gave g c = subst (λ r. Gave g.D.Die.seen g.J.CallJob.suits c.args.system.now.state (move_event c.args.actor r) c.try_move-first.new.system.state) c.in-Some.is c.try_move-first.ensures.gave

pub returns-in-Some-clause-sent : goal.returns-in-Some-clause-sent
returns-in-Some-clause-sent g c = λ e is. absurd (cc)

pub send-requires-clause-may : goal.send-requires-clause-may
send-requires-clause-may g c = subst (λ s. MayMove g.D.Die.seen g.J.CallJob.suits s c.args.actor) (sym (c.try_move-first.ensures.gave.same (ap (move_event c.args.actor) c.in-None.is))) c.requires.may

pub send-requires-clause-acts : goal.send-requires-clause-acts
send-requires-clause-acts g c = subst (λ s. FlushesFor (core_of g.D.Die.seen s) c.args.actor) (sym (c.try_move-first.ensures.gave.same (ap (move_event c.args.actor) c.in-None.is))) c.requires.acts

pub returns-in-None-clause-next : goal.returns-in-None-clause-next
returns-in-None-clause-next g c = first_none (or_else (by_side c.args.side (or_else (evict_event (core_of g.D.Die.seen c.args.system.now.state) c.args.actor Host) (demote_event (core_of g.D.Die.seen c.args.system.now.state) c.args.actor)) None) (evict_event (core_of g.D.Die.seen c.args.system.now.state) c.args.actor Drive)) (flush_event (core_of g.D.Die.seen c.args.system.now.state) c.args.actor) (given_event c.args.actor c.send.result) (subst (λ r. move_event c.args.actor r ≡ (or_else (by_side c.args.side (or_else (evict_event (core_of g.D.Die.seen c.args.system.now.state) c.args.actor Host) (demote_event (core_of g.D.Die.seen c.args.system.now.state) c.args.actor)) None) (evict_event (core_of g.D.Die.seen c.args.system.now.state) c.args.actor Drive))) c.in-None.is c.try_move-first.ensures.next) (subst (λ s. given_event c.args.actor c.send.result ≡ flush_event (core_of g.D.Die.seen s) c.args.actor) (c.try_move-first.ensures.gave.same (ap (move_event c.args.actor) c.in-None.is)) c.send.ensures.next) ∙ or_apart (by_side c.args.side (or_else (evict_event (core_of g.D.Die.seen c.args.system.now.state) c.args.actor Host) (demote_event (core_of g.D.Die.seen c.args.system.now.state) c.args.actor)) None) (evict_event (core_of g.D.Die.seen c.args.system.now.state) c.args.actor Drive) (flush_event (core_of g.D.Die.seen c.args.system.now.state) c.args.actor)

pub returns-in-None-clause-gave : goal.returns-in-None-clause-gave
returns-in-None-clause-gave g c = subst (λ s. Gave g.D.Die.seen g.J.CallJob.suits s (given_event c.args.actor c.send.result) c.send.new.system.state) (c.try_move-first.ensures.gave.same (ap (move_event c.args.actor) c.in-None.is)) c.send.ensures.gave

pub returns-in-None-clause-sent : goal.returns-in-None-clause-sent
returns-in-None-clause-sent g c = λ e is. subst (λ s. IsSent g.D.Die.seen g.J.CallJob.suits s c.args.actor c.send.new.into e c.send.new.system.state) (c.try_move-first.ensures.gave.same (ap (move_event c.args.actor) c.in-None.is)) (c.send.ensures.sent e is)
