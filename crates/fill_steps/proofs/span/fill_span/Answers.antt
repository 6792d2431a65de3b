use Rattle.std.proofs.Common.{ℕ, ◌≤◌, ◌^◌, ◌∙◌, refl, sym, subst}
use Rattle.turn_cell.specs.Passes.{opening_of, view}
use Rattle.system_state.specs.Cores.{core_of}
use Rattle.std.specs.declared.snapshot.Snapshot.{Snapshot}
use Rattle.turn_cell.specs.declared.view.View.{View}
use Rattle.core_state.specs.declared.event.Event.{Event}
use Rattle.system_state.specs.declared.state.State.{State}
use Rattle.call_job.specs.declared.job.Job.{Job}
use Rattle.desk_turns.specs.Passing.{ActsFor, core_seen}
use Rattle.event_turns.specs.Books.{opening_in}
use Rattle.call_job.specs.Suits.{Suits}
use Rattle.fill_steps.specs.Gathering.{told_at, IsGathering}
use Rattle.fill_steps.proofs.Looping.{Going, going_none, on_next, on_again, on_waits, on_failed, on_done, on_worn, same_on}
use Rattle.fill_steps.proofs.span.fill_span.Goals as goal

pub loop-init : goal.loop-init
loop-init g c = ((tt, tt), c.requires.free, (refl, refl), going_none g.D.Die.seen (opening_of opening_in c.args.desk.now.turn.now) (view c.args.desk.now.pass) c.args.actor c.args.lane c.args.job.now c.requires.gathering, refl)

pub fill_step-requires-clause-acts : goal.fill_step-requires-clause-acts
fill_step-requires-clause-acts g c =
    let i = c.loop.invariant in
    subst (λ z. ActsFor (core_of g.D.Die.seen) z (view c.loop.desk.pass) c.args.actor) (sym i.2.1)
    (subst (λ (z : View (Snapshot (State g.row.D.Denot Job)) Event). ActsFor (core_of g.D.Die.seen) (opening_of opening_in c.args.desk.now.turn.now) z c.args.actor) (sym i.3.went.pass) c.requires.acts)

pub fill_step-requires-clause-gathering : goal.fill_step-requires-clause-gathering
fill_step-requires-clause-gathering g c =
    let i = c.loop.invariant in
    subst (λ z. IsGathering (core_seen (core_of g.D.Die.seen) z (view c.loop.desk.pass)) c.args.actor c.args.lane c.loop.i c.loop.job) (sym i.2.1) i.3.says.says

pub fill_step-requires-clause-small : goal.fill_step-requires-clause-small
fill_step-requires-clause-small g c = subst (λ z. z.value.places.reads ≤ 2 ^ 62) (sym c.loop.invariant.2.1) c.requires.small

pub returns-in_err-step-clause-did : goal.returns-in_err-step-clause-did
returns-in_err-step-clause-did g c =
    let i = c.loop.invariant in
    on_worn g.D.Die.seen (opening_of opening_in c.args.desk.now.turn.now) (opening_of opening_in c.loop.desk.turn.now) (view c.args.desk.now.pass) (view c.loop.desk.pass) (view c.fill_step.new.desk.pass) c.args.actor c.args.lane c.loop.i c.loop.job c.fill_step.new.job c.in_err-step.field-0.0 c.from_residual.result c.from_residual.ensures.0 i.3 c.in_err-step.ensures.did

pub returns-in-Failed-clause-did : goal.returns-in-Failed-clause-did
returns-in-Failed-clause-did g c =
    let i = c.loop.invariant in
    on_failed g.D.Die.seen (opening_of opening_in c.args.desk.now.turn.now) (opening_of opening_in c.loop.desk.turn.now) (view c.args.desk.now.pass) (view c.loop.desk.pass) (view c.fill_step.new.desk.pass) c.args.actor c.args.lane c.loop.i c.loop.job c.fill_step.new.job c.in_ok-step.step i.2.1 c.in-Failed.is i.3 c.in_ok-step.ensures.did

pub returns-in-Failed-clause-same : goal.returns-in-Failed-clause-same
returns-in-Failed-clause-same g c = same_on c.args.job.now c.loop.job c.fill_step.new.job c.loop.invariant.4 c.fill_step.ensures.same

pub returns-in_err-step-clause-same : goal.returns-in_err-step-clause-same
returns-in_err-step-clause-same g c = same_on c.args.job.now c.loop.job c.fill_step.new.job c.loop.invariant.4 c.fill_step.ensures.same

pub loop-preserved-in-Next : goal.loop-preserved-in-Next
loop-preserved-in-Next g c =
    let i = c.loop.invariant in
    let e = c.fill_step.ensures in (
      (tt, tt),
      e.free,
      (e.turn.0 ∙ i.2.0, e.turn.1 ∙ i.2.1),
      on_next g.D.Die.seen (opening_of opening_in c.args.desk.now.turn.now) (opening_of opening_in c.loop.desk.turn.now) (view c.args.desk.now.pass) (view c.loop.desk.pass) (view c.fill_step.new.desk.pass) c.args.actor c.args.lane c.loop.i c.loop.job c.fill_step.new.job c.in_ok-step.step i.2.1 c.in-Next.is i.3 c.in_ok-step.ensures.did,
      same_on c.args.job.now c.loop.job c.fill_step.new.job i.4 e.same,
    )

pub loop-preserved-in-Again : goal.loop-preserved-in-Again
loop-preserved-in-Again g c =
    let i = c.loop.invariant in
    let e = c.fill_step.ensures in (
      (tt, tt),
      e.free,
      (e.turn.0 ∙ i.2.0, e.turn.1 ∙ i.2.1),
      on_again g.D.Die.seen (opening_of opening_in c.args.desk.now.turn.now) (opening_of opening_in c.loop.desk.turn.now) (view c.args.desk.now.pass) (view c.loop.desk.pass) (view c.fill_step.new.desk.pass) c.args.actor c.args.lane c.loop.i c.loop.job c.fill_step.new.job c.in_ok-step.step i.2.1 c.in-Again.is i.3 c.in_ok-step.ensures.did,
      same_on c.args.job.now c.loop.job c.fill_step.new.job i.4 e.same,
    )

pub loop-preserved : goal.loop-preserved
loop-preserved g c =
    let i = c.loop.invariant in
    let e = c.fill_step.ensures in
    let p = c.pause.ensures in (
      (tt, tt),
      p.free e.free,
      (p.turn.0 ∙ (e.turn.0 ∙ i.2.0), p.turn.1 ∙ (e.turn.1 ∙ i.2.1)),
      subst (λ (z : View (Snapshot (State g.row.D.Denot Job)) Event). Going g.D.Die.seen (opening_of opening_in c.args.desk.now.turn.now) (view c.args.desk.now.pass) z c.args.actor c.args.lane c.loop.i c.fill_step.new.job) (sym p.view) (on_waits g.D.Die.seen (opening_of opening_in c.args.desk.now.turn.now) (opening_of opening_in c.loop.desk.turn.now) (view c.args.desk.now.pass) (view c.loop.desk.pass) (view c.fill_step.new.desk.pass) c.args.actor c.args.lane c.loop.i c.loop.job c.fill_step.new.job c.in_ok-step.step i.2.1 c.in-Waits.is i.3 c.in_ok-step.ensures.did),
      same_on c.args.job.now c.loop.job c.fill_step.new.job i.4 e.same,
    )

pub returns-then-i-span-clause-did : goal.returns-then-i-span-clause-did
returns-then-i-span-clause-did g c = on_done g.D.Die.seen (opening_of opening_in c.args.desk.now.turn.now) (view c.args.desk.now.pass) (view c.loop.desk.pass) c.args.actor c.args.lane c.loop.i c.loop.job c.loop.invariant.3 (subst (λ (n : ℕ). n ≤ c.loop.i) c.span.ensures c.if-i-span.true)

pub returns-in-Failed-clause-left : goal.returns-in-Failed-clause-left
returns-in-Failed-clause-left g c = λ e. subst (λ z. Suits c.fill_step.new.job (told_at (core_seen (core_of g.D.Die.seen) z (view c.fill_step.new.desk.pass)) c.args.lane)) c.loop.invariant.2.1 (c.in_ok-step.ensures.left c.in-Failed.is)
