use Rattle.std.proofs.Common.{◌≤◌, ◌^◌, ◌∙◌, refl, sym, subst}
use Rattle.std.specs.declared.snapshot.Snapshot.{Snapshot}
use Rattle.turn_cell.specs.Passes.{opening_of, view}
use Rattle.turn_cell.specs.declared.view.View.{View}
use Rattle.core_state.specs.declared.actor.Actor.TheVariants.{Closer}
use Rattle.core_state.specs.declared.event.Event.{Event}
use Rattle.core_closing.specs.Kept.{MaySettle}
use Rattle.system_state.specs.Cores.{core_of}
use Rattle.system_state.specs.declared.state.State.{State}
use Rattle.desk_turns.specs.Passing.{ActsFor, core_seen, Does}
use Rattle.page_steps.specs.Books.{opening_in}
use Rattle.settling.proofs.Looping.{Going, going_none, on_step, waits_on, done_on, failed_on, worn_on}
use Rattle.settling.proofs.last_sync.settle.Goals as goal

pub loop-init : goal.loop-init
loop-init g c = ((tt, tt), c.requires.free, (refl, refl), going_none g.D.Die.seen (opening_of opening_in c.args.desk.now.turn.now) (view c.args.desk.now.pass) c.requires.may)

pub settle_step-requires-clause-acts : goal.settle_step-requires-clause-acts
settle_step-requires-clause-acts g c =
    let i = c.loop.invariant in
    subst (λ z. ActsFor (core_of g.D.Die.seen) z (view c.loop.desk.pass) Closer) (sym i.2.1)
    (subst (λ (z : View (Snapshot (State g.row.D.Denot g.row.J.Denot)) Event). ActsFor (core_of g.D.Die.seen) (opening_of opening_in c.args.desk.now.turn.now) z Closer) (sym i.3.went.pass) c.requires.acts)

pub settle_step-requires-clause-may : goal.settle_step-requires-clause-may
settle_step-requires-clause-may g c =
    let i = c.loop.invariant in
    subst (λ z. MaySettle (core_seen (core_of g.D.Die.seen) z (view c.loop.desk.pass))) (sym i.2.1) i.3.says.ready

pub returns-in_err-step-clause-did : goal.returns-in_err-step-clause-did
returns-in_err-step-clause-did g c =
    let i = c.loop.invariant in
    worn_on g.D.Die.seen (opening_of opening_in c.args.desk.now.turn.now) (opening_of opening_in c.loop.desk.turn.now) (view c.args.desk.now.pass) (view c.loop.desk.pass) (view c.settle_step.new.desk.pass) c.in_err-step.field-0.0 c.from_residual.result i.2.1 c.from_residual.ensures.0 i.3 c.in_err-step.ensures.did

pub returns-in-Done-clause-did : goal.returns-in-Done-clause-did
returns-in-Done-clause-did g c =
    let i = c.loop.invariant in
    done_on g.D.Die.seen (opening_of opening_in c.args.desk.now.turn.now) (opening_of opening_in c.loop.desk.turn.now) (view c.args.desk.now.pass) (view c.loop.desk.pass) (view c.settle_step.new.desk.pass) c.in_ok-step.step i.2.1 c.in-Done.is i.3 c.in_ok-step.ensures.did

pub returns-in-Failed-clause-did : goal.returns-in-Failed-clause-did
returns-in-Failed-clause-did g c =
    let i = c.loop.invariant in
    failed_on g.D.Die.seen (opening_of opening_in c.args.desk.now.turn.now) (opening_of opening_in c.loop.desk.turn.now) (view c.args.desk.now.pass) (view c.loop.desk.pass) (view c.settle_step.new.desk.pass) c.in_ok-step.step i.2.1 c.in-Failed.is i.3 c.in_ok-step.ensures.did

pub loop-preserved-in-On : goal.loop-preserved-in-On
loop-preserved-in-On g c =
    let i = c.loop.invariant in
    let e = c.settle_step.ensures in (
      (tt, tt),
      e.free,
      (e.turn.0 ∙ i.2.0, e.turn.1 ∙ i.2.1),
      on_step g.D.Die.seen (opening_of opening_in c.args.desk.now.turn.now) (opening_of opening_in c.loop.desk.turn.now) (view c.args.desk.now.pass) (view c.loop.desk.pass) (view c.settle_step.new.desk.pass) c.in_ok-step.step i.2.1 c.in-On.is i.3 c.in_ok-step.ensures.did,
    )

pub loop-preserved : goal.loop-preserved
loop-preserved g c =
    let i = c.loop.invariant in
    let e = c.settle_step.ensures in
    let p = c.pause.ensures in
    let o = opening_of opening_in c.args.desk.now.turn.now in (
      (tt, tt),
      p.free e.free,
      (p.turn.0 ∙ (e.turn.0 ∙ i.2.0), p.turn.1 ∙ (e.turn.1 ∙ i.2.1)),
      subst (λ (z : View (Snapshot (State g.row.D.Denot g.row.J.Denot)) Event). Does (view c.args.desk.now.pass) z (Going g.D.Die.seen o (view c.args.desk.now.pass) z)) (sym p.view)
          (waits_on g.D.Die.seen o (opening_of opening_in c.loop.desk.turn.now) (view c.args.desk.now.pass) (view c.loop.desk.pass) (view c.settle_step.new.desk.pass) c.in_ok-step.step i.2.1 c.in-Waits.is i.3 c.in_ok-step.ensures.did),
    )

pub settle_step-requires-clause-small : goal.settle_step-requires-clause-small
settle_step-requires-clause-small g c = subst (λ z. z.value.places.writes ≤ 2 ^ 62) (sym c.loop.invariant.2.1) c.requires.small
