use Rattle.std.proofs.Common.{◌≡◌, None, ap, refl, sym, subst}
use Rattle.core_state.specs.Words.{or_else}
use Rattle.coherence.specs.Paired.{by_side}
use Rattle.core_solo.specs.Solo.{evict_event, demote_event}
use Rattle.dispatcher.specs.declared.side.Side.TheVariants.{Host}
use Rattle.system_state.specs.Cores.{core_of}
use Rattle.page_steps.specs.Room.{move_event}
use Rattle.page_steps.proofs.Moves.{gave_none}
use Rattle.page_steps.proofs.room.move_at.Goals as goal

pub returns-in-Host-clause-next : goal.returns-in-Host-clause-next
returns-in-Host-clause-next g c = subst (λ z. move_event c.args.actor c.move_host.result ≡ by_side z (or_else (evict_event (core_of g.D.Die.seen c.args.system.now.state) c.args.actor Host) (demote_event (core_of g.D.Die.seen c.args.system.now.state) c.args.actor)) None) (sym c.in-Host.is) c.move_host.ensures.next

pub returns-in-Drive-clause-next : goal.returns-in-Drive-clause-next
returns-in-Drive-clause-next g c = ap (λ z. by_side z (or_else (evict_event (core_of g.D.Die.seen c.args.system.now.state) c.args.actor Host) (demote_event (core_of g.D.Die.seen c.args.system.now.state) c.args.actor)) None) (sym c.in-Drive.is)

pub returns-in-Drive-clause-gave : goal.returns-in-Drive-clause-gave
returns-in-Drive-clause-gave g c = gave_none g.D.Die.seen g.J.CallJob.suits c.args.system.now.state c.args.system.now.state refl
