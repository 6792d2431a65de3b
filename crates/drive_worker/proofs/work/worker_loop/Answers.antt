use Rattle.std.proofs.Common.{◌≡◌, ◌≤◌, ◌^◌, ◌∙◌, true, refl, sym, subst}
use Rattle.std.specs.declared.snapshot.Snapshot.{Snapshot}
use Rattle.turn_cell.specs.Passes.{opening_of, view}
use Rattle.turn_cell.specs.declared.view.View.{View}
use Rattle.core_state.specs.declared.actor.Actor.TheVariants.{Worker}
use Rattle.core_state.specs.declared.event.Event.{Event}
use Rattle.system_state.specs.Cores.{core_of}
use Rattle.system_state.specs.declared.state.State.{State}
use Rattle.call_job.specs.declared.job.Job.{Job}
use Rattle.desk_turns.specs.Passing.{ActsFor, core_seen}
use Rattle.fill_steps.specs.Books.{opening_in}
use Rattle.drive_worker.specs.Serving.{IsFreeWorker}
use Rattle.drive_worker.specs.declared.serve.Served.TheVariants.{Empty}
use Rattle.drive_worker.proofs.Serving.{Going, going_none, on_served, on_closing, on_worn}
use Rattle.drive_worker.proofs.work.worker_loop.Goals as goal

pub loop-init : goal.loop-init
loop-init g c = ((tt, tt), c.requires.free, (refl, refl), going_none g.D.Die.seen (opening_of opening_in c.args.desk.now.turn.now) (view c.args.desk.now.pass) c.args.worker c.requires.worker)

pub serve_one-requires-clause-acts : goal.serve_one-requires-clause-acts
serve_one-requires-clause-acts g c =
    let i = c.loop.invariant in
    subst (λ z. ActsFor (core_of g.D.Die.seen) z (view c.loop.desk.pass) (Worker c.args.worker)) (sym i.2.1)
    (subst (λ (z : View (Snapshot (State g.row.D.Denot Job)) Event). ActsFor (core_of g.D.Die.seen) (opening_of opening_in c.args.desk.now.turn.now) z (Worker c.args.worker)) (sym i.3.went.pass) c.requires.acts)

pub serve_one-requires-clause-worker : goal.serve_one-requires-clause-worker
serve_one-requires-clause-worker g c =
    let i = c.loop.invariant in
    subst (λ z. IsFreeWorker (core_seen (core_of g.D.Die.seen) z (view c.loop.desk.pass)) c.args.worker) (sym i.2.1) i.3.says.after

pub serve_one-requires-clause-small : goal.serve_one-requires-clause-small
serve_one-requires-clause-small g c = subst (λ z. z.value.places.reads ≤ 2 ^ 62) (sym c.loop.invariant.2.1) c.requires.small

pub returns-in_err-served-clause-did : goal.returns-in_err-served-clause-did
returns-in_err-served-clause-did g c =
    let i = c.loop.invariant in
    on_worn g.D.Die.seen (opening_of opening_in c.args.desk.now.turn.now) (opening_of opening_in c.loop.desk.turn.now) (view c.args.desk.now.pass) (view c.loop.desk.pass) (view c.serve_one.new.desk.pass) c.args.worker c.in_err-served.field-0.0 c.from_residual.result c.from_residual.ensures.0 i.3 c.in_err-served.ensures.did

pub returns-then-closing-clause-did : goal.returns-then-closing-clause-did
returns-then-closing-clause-did g c =
    let i = c.loop.invariant in
    let is : c.in_ok-served.served ≡ Empty true = cc in
    on_closing g.D.Die.seen (opening_of opening_in c.args.desk.now.turn.now) (opening_of opening_in c.loop.desk.turn.now) (view c.args.desk.now.pass) (view c.loop.desk.pass) (view c.serve_one.new.desk.pass) c.args.worker c.in_ok-served.served i.2.1 is i.3 c.in_ok-served.ensures.did

pub loop-preserved-in-One : goal.loop-preserved-in-One
loop-preserved-in-One g c =
    let i = c.loop.invariant in
    let e = c.serve_one.ensures in (
      (tt, tt),
      e.free,
      (e.turn.0 ∙ i.2.0, e.turn.1 ∙ i.2.1),
      on_served g.D.Die.seen (opening_of opening_in c.args.desk.now.turn.now) (opening_of opening_in c.loop.desk.turn.now) (view c.args.desk.now.pass) (view c.loop.desk.pass) (view c.serve_one.new.desk.pass) c.args.worker c.in_ok-served.served i.2.1 i.3 c.in_ok-served.ensures.did,
    )

pub loop-preserved : goal.loop-preserved
loop-preserved g c =
    let i = c.loop.invariant in
    let e = c.serve_one.ensures in
    let p = c.pause.ensures in (
      (tt, tt),
      p.free e.free,
      (p.turn.0 ∙ (e.turn.0 ∙ i.2.0), p.turn.1 ∙ (e.turn.1 ∙ i.2.1)),
      subst (λ (z : View (Snapshot (State g.row.D.Denot Job)) Event). Going g.D.Die.seen (opening_of opening_in c.args.desk.now.turn.now) (view c.args.desk.now.pass) z c.args.worker) (sym p.view)
          (on_served g.D.Die.seen (opening_of opening_in c.args.desk.now.turn.now) (opening_of opening_in c.loop.desk.turn.now) (view c.args.desk.now.pass) (view c.loop.desk.pass) (view c.serve_one.new.desk.pass) c.args.worker c.in_ok-served.served i.2.1 i.3 c.in_ok-served.ensures.did),
    )
