use Rattle.std.proofs.Common.{◌≤◌, ◌^◌, ◌∙◌, refl, sym, subst}
use Rattle.core_state.specs.declared.actor.Actor.TheVariants.{Flusher}
use Rattle.core_state.specs.Happens.{HoldsNone}
use Rattle.system_state.specs.Cores.{core_of}
use Rattle.desk_turns.specs.Passing.{ActsFor, core_seen}
use Rattle.flusher.proofs.Stepping.{Going, going_none, acts_then, on_step, waits_step, closing_on, worn_on}
use Rattle.flusher.proofs.work.flusher_loop.Goals as goal

pub loop-init : goal.loop-init
loop-init g c = ((tt, tt), c.requires.free, (refl, refl), going_none g.D.Die.seen (g.K.Desk.opening c.args.desk.now) (g.K.Desk.view c.args.desk.now) c.args.flusher c.requires.none)

pub flusher_step-requires-clause-acts : goal.flusher_step-requires-clause-acts
flusher_step-requires-clause-acts g c =
    let i = c.loop.invariant in
    let o = g.K.Desk.opening c.args.desk.now in
    let v = g.K.Desk.view c.args.desk.now in
    let u = g.K.Desk.view c.loop.desk in
    subst (λ z. ActsFor (core_of g.D.Die.seen) z u (Flusher c.args.flusher)) (sym i.2.1) (acts_then g.D.Die.seen o v u c.args.flusher i.3.events i.3.went c.requires.acts)

pub flusher_step-requires-clause-none : goal.flusher_step-requires-clause-none
flusher_step-requires-clause-none g c =
    let i = c.loop.invariant in
    subst (λ z. HoldsNone (core_seen (core_of g.D.Die.seen) z (g.K.Desk.view c.loop.desk)) (Flusher c.args.flusher)) (sym i.2.1) i.3.says.none

pub returns-in_err-step-clause-did : goal.returns-in_err-step-clause-did
returns-in_err-step-clause-did g c =
    let i = c.loop.invariant in
    worn_on g.D.Die.seen (g.K.Desk.opening c.args.desk.now) (g.K.Desk.opening c.loop.desk) (g.K.Desk.view c.args.desk.now) (g.K.Desk.view c.loop.desk) (g.K.Desk.view c.flusher_step.new.desk) c.args.flusher c.in_err-step.field-0.0 c.from_residual.result c.from_residual.ensures.0 i.3 c.in_err-step.ensures.did

pub returns-in-Closing-clause-did : goal.returns-in-Closing-clause-did
returns-in-Closing-clause-did g c =
    let i = c.loop.invariant in
    closing_on g.D.Die.seen (g.K.Desk.opening c.args.desk.now) (g.K.Desk.opening c.loop.desk) (g.K.Desk.view c.args.desk.now) (g.K.Desk.view c.loop.desk) (g.K.Desk.view c.flusher_step.new.desk) c.args.flusher c.in_ok-step.step i.2.1 c.in-Closing.is i.3 c.in_ok-step.ensures.did

pub loop-preserved-in-On : goal.loop-preserved-in-On
loop-preserved-in-On g c =
    let i = c.loop.invariant in
    let e = c.flusher_step.ensures in (
      (tt, tt),
      e.free,
      (e.turn.0 ∙ i.2.0, e.turn.1 ∙ i.2.1),
      on_step g.D.Die.seen (g.K.Desk.opening c.args.desk.now) (g.K.Desk.opening c.loop.desk) (g.K.Desk.view c.args.desk.now) (g.K.Desk.view c.loop.desk) (g.K.Desk.view c.flusher_step.new.desk) c.args.flusher c.in_ok-step.step i.2.1 c.in-On.is i.3 c.in_ok-step.ensures.did,
    )

pub loop-preserved : goal.loop-preserved
loop-preserved g c =
    let i = c.loop.invariant in
    let e = c.flusher_step.ensures in
    let p = c.pause.ensures in
    let o = g.K.Desk.opening c.args.desk.now in
    let v = g.K.Desk.view c.args.desk.now in (
      (tt, tt),
      p.free e.free,
      (p.turn.0 ∙ (e.turn.0 ∙ i.2.0), p.turn.1 ∙ (e.turn.1 ∙ i.2.1)),
      subst (λ z. Going g.D.Die.seen o v z c.args.flusher) (sym p.view)
          (waits_step g.D.Die.seen o (g.K.Desk.opening c.loop.desk) v (g.K.Desk.view c.loop.desk) (g.K.Desk.view c.flusher_step.new.desk) c.args.flusher c.in_ok-step.step i.2.1 c.in-Waits.is i.3 c.in_ok-step.ensures.did),
    )

pub flusher_step-requires-clause-small : goal.flusher_step-requires-clause-small
flusher_step-requires-clause-small g c = subst (λ z. z.value.places.writes ≤ 2 ^ 62) (sym c.loop.invariant.2.1) c.requires.small
