use Rattle.std.proofs.Common.{◌≡◌, ◌<◌, true, Ok, Err, refl, sym, ap, ◌∙◌, subst, inl}
use Rattle.std.specs.Prelude.{◌⊎◌}
use Rattle.std.specs.declared.snapshot.Snapshot.{Snapshot}
use Rattle.turn_cell.specs.declared.view.View.{View}
use Rattle.turn_cell.specs.Passes.{opening_of, view}
use Rattle.core_state.specs.declared.actor.Actor.TheVariants.{Lane}
use Rattle.core_state.specs.declared.event.Event.{Event}
use Rattle.core_state.specs.Reach.{is_data, is_sync}
use Rattle.core_solo.specs.Left.{call_left}
use Rattle.system_state.specs.Cores.{core_of}
use Rattle.system_state.specs.declared.state.State.{State}
use Rattle.call_job.specs.declared.job.Job.{Job}
use Rattle.call_job.specs.Prepares.{IsPrepared}
use Rattle.desk_turns.specs.Passing.{ActsFor, core_seen, Does}
use Rattle.call_begins.specs.Books.{opening_in}
use Rattle.call_begins.specs.Words.{IsSmall}
use Rattle.call_begins.specs.Making.{IsIdleWith}
use Rattle.call_begins.specs.Steps.{is_marked, JobSays}
use Rattle.call_begins.proofs.Ending.{acts_after}
use Rattle.call_starts.proofs.Looping.{Going, asked_as, going_none, come_of, on_of, waits_of, ended_told, job_come, job_worn, job_on, job_waits, on_step, waits_on, come_on, worn_on, numbered_as, on_falls, never_waits, home_then, still_alone}
use Rattle.call_starts.proofs.start.begin_call.Goals as goal

pub loop-init : goal.loop-init
loop-init g c = ((tt, tt), c.requires.free, (refl, refl), refl, going_none g.D.Die.seen (opening_of opening_in c.args.desk.now.turn.now) (view c.args.desk.now.pass) c.args.lane c.args.prepared.now.job.request c.requires.lane)

pub begin_step-requires-clause-acts : goal.begin_step-requires-clause-acts
begin_step-requires-clause-acts g c =
    let i = c.loop.invariant in
    subst (λ z. ActsFor (core_of g.D.Die.seen) z (view c.loop.desk.pass) (Lane c.args.lane)) (sym i.2.1) (acts_after g.D.Die.seen (opening_of opening_in c.args.desk.now.turn.now) (view c.args.desk.now.pass) (view c.loop.desk.pass) (Lane c.args.lane) i.4.events i.4.went c.requires.acts)

pub begin_step-requires-clause-lane : goal.begin_step-requires-clause-lane
begin_step-requires-clause-lane g c =
    let i = c.loop.invariant in
    subst (λ z. IsIdleWith (is_marked c.loop.stage) (core_seen (core_of g.D.Die.seen) z (view c.loop.desk.pass)) c.args.lane) (sym i.2.1) i.4.says.at

pub begin_step-requires-clause-prepared : goal.begin_step-requires-clause-prepared
begin_step-requires-clause-prepared g c =
    let i = c.loop.invariant in
    subst (λ (j : Job). IsPrepared j.request j) (sym i.3) c.requires.prepared

pub begin_step-requires-clause-kind : goal.begin_step-requires-clause-kind
begin_step-requires-clause-kind g c =
    let i = c.loop.invariant in
    subst (λ (j : Job). (is_data j.request.call ≡ true) ⊎ (is_sync j.request.call ≡ true)) (sym i.3) c.requires.kind

pub begin_step-requires-clause-small : goal.begin_step-requires-clause-small
begin_step-requires-clause-small g c =
    let i = c.loop.invariant in
    subst (λ z. IsSmall z.value) (sym i.2.1) c.requires.small

pub returns-in_err-step-clause-did : goal.returns-in_err-step-clause-did
returns-in_err-step-clause-did g c =
    let i = c.loop.invariant in
    let o = opening_of opening_in c.args.desk.now.turn.now in
    let v = view c.args.desk.now.pass in
    let q = opening_of opening_in c.loop.desk.turn.now in
    let u = view c.loop.desk.pass in
    let w = view c.begin_step.new.desk.pass in
    let first = c.args.prepared.now.job in
    let old = c.loop.prepared.job in
    let n = asked_as g.D.Die.seen q u w c.args.lane old.request first.request c.loop.stage (Err c.in_err-step.field-0.0) (ap (λ (j : Job). j.request) i.3) c.in_err-step.ensures.did in
    worn_on g.D.Die.seen o q v u w c.args.lane first.request c.loop.stage c.in_err-step.field-0.0 c.from_residual.result i.2.1 c.from_residual.ensures.0 i.4 n

pub returns-in_err-step-clause-job : goal.returns-in_err-step-clause-job
returns-in_err-step-clause-job g c =
    let i = c.loop.invariant in
    let o = opening_of opening_in c.args.desk.now.turn.now in
    let v = view c.args.desk.now.pass in
    let q = opening_of opening_in c.loop.desk.turn.now in
    let u = view c.loop.desk.pass in
    let w = view c.begin_step.new.desk.pass in
    let first = c.args.prepared.now.job in
    let old = c.loop.prepared.job in
    job_worn (core_seen (core_of g.D.Die.seen) o w) c.args.lane first old c.begin_step.new.prepared.job c.in_err-step.field-0.0 c.from_residual.result c.from_residual.ensures.0 i.3 c.in_err-step.ensures.job

pub returns-in-Come-clause-did : goal.returns-in-Come-clause-did
returns-in-Come-clause-did g c =
    let i = c.loop.invariant in
    let o = opening_of opening_in c.args.desk.now.turn.now in
    let v = view c.args.desk.now.pass in
    let q = opening_of opening_in c.loop.desk.turn.now in
    let u = view c.loop.desk.pass in
    let w = view c.begin_step.new.desk.pass in
    let first = c.args.prepared.now.job in
    let old = c.loop.prepared.job in
    let n = asked_as g.D.Die.seen q u w c.args.lane old.request first.request c.loop.stage (Ok c.in_ok-step.step) (ap (λ (j : Job). j.request) i.3) c.in_ok-step.ensures.did in
    come_on g.D.Die.seen o q v u w c.args.lane first.request c.loop.stage c.in_ok-step.step c.in-Come.beginning i.2.1 (come_of c.in_ok-step.step c.sorted-next.result c.in-Come.beginning c.sorted-next.ensures c.in-Come.is) i.4 n

pub returns-in-Come-clause-job : goal.returns-in-Come-clause-job
returns-in-Come-clause-job g c =
    let i = c.loop.invariant in
    let o = opening_of opening_in c.args.desk.now.turn.now in
    let v = view c.args.desk.now.pass in
    let q = opening_of opening_in c.loop.desk.turn.now in
    let u = view c.loop.desk.pass in
    let w = view c.begin_step.new.desk.pass in
    let first = c.args.prepared.now.job in
    let old = c.loop.prepared.job in
    job_come (core_seen (core_of g.D.Die.seen) o w) c.args.lane first old c.begin_step.new.prepared.job c.in_ok-step.step c.in-Come.beginning (come_of c.in_ok-step.step c.sorted-next.result c.in-Come.beginning c.sorted-next.ensures c.in-Come.is) i.3
    (subst (λ z. JobSays (core_seen (core_of g.D.Die.seen) z w) c.args.lane old c.begin_step.new.prepared.job (Ok c.in_ok-step.step)) i.2.1 c.in_ok-step.ensures.job)

pub returns-in-Come-clause-numbered : goal.returns-in-Come-clause-numbered
returns-in-Come-clause-numbered g c =
    let i = c.loop.invariant in
    let o = opening_of opening_in c.args.desk.now.turn.now in
    let v = view c.args.desk.now.pass in
    let q = opening_of opening_in c.loop.desk.turn.now in
    let u = view c.loop.desk.pass in
    let w = view c.begin_step.new.desk.pass in
    let first = c.args.prepared.now.job in
    let old = c.loop.prepared.job in
    λ n is. numbered_as g.D.Die.seen o q w c.args.lane old.request first.request n i.2.1 (ap (λ (j : Job). j.request) i.3)
    (c.in_ok-step.ensures.numbered n (ended_told c.in_ok-step.step c.in-Come.beginning n (come_of c.in_ok-step.step c.sorted-next.result c.in-Come.beginning c.sorted-next.ensures c.in-Come.is) is))

pub loop-preserved-in-On : goal.loop-preserved-in-On
loop-preserved-in-On g c =
    let i = c.loop.invariant in
    let o = opening_of opening_in c.args.desk.now.turn.now in
    let v = view c.args.desk.now.pass in
    let q = opening_of opening_in c.loop.desk.turn.now in
    let u = view c.loop.desk.pass in
    let w = view c.begin_step.new.desk.pass in
    let first = c.args.prepared.now.job in
    let old = c.loop.prepared.job in
    let n = asked_as g.D.Die.seen q u w c.args.lane old.request first.request c.loop.stage (Ok c.in_ok-step.step) (ap (λ (j : Job). j.request) i.3) c.in_ok-step.ensures.did in
    let e = c.begin_step.ensures in (
      (tt, tt),
      e.free,
      (e.turn.0 ∙ i.2.0, e.turn.1 ∙ i.2.1),
      job_on (core_seen (core_of g.D.Die.seen) q w) c.args.lane old c.begin_step.new.prepared.job c.in_ok-step.step c.in-On.later (on_of c.in_ok-step.step c.sorted-next.result c.in-On.later c.sorted-next.ensures c.in-On.is) c.in_ok-step.ensures.job ∙ i.3,
      on_step g.D.Die.seen o q v u w c.args.lane first.request c.loop.stage c.in-On.later c.in_ok-step.step i.2.1 (on_of c.in_ok-step.step c.sorted-next.result c.in-On.later c.sorted-next.ensures c.in-On.is) c.requires.kind c.in_ok-step.ensures.begins i.4 n,
    )

pub loop-preserved : goal.loop-preserved
loop-preserved g c =
    let i = c.loop.invariant in
    let o = opening_of opening_in c.args.desk.now.turn.now in
    let v = view c.args.desk.now.pass in
    let q = opening_of opening_in c.loop.desk.turn.now in
    let u = view c.loop.desk.pass in
    let w = view c.begin_step.new.desk.pass in
    let first = c.args.prepared.now.job in
    let old = c.loop.prepared.job in
    let n = asked_as g.D.Die.seen q u w c.args.lane old.request first.request c.loop.stage (Ok c.in_ok-step.step) (ap (λ (j : Job). j.request) i.3) c.in_ok-step.ensures.did in
    let e = c.begin_step.ensures in
    let p = c.pause.ensures in (
      (tt, tt),
      p.free e.free,
      (p.turn.0 ∙ (e.turn.0 ∙ i.2.0), p.turn.1 ∙ (e.turn.1 ∙ i.2.1)),
      job_waits (core_seen (core_of g.D.Die.seen) q w) c.args.lane old c.begin_step.new.prepared.job c.in_ok-step.step (waits_of c.in_ok-step.step c.sorted-next.result c.sorted-next.ensures c.in-Waits.is) c.in_ok-step.ensures.job ∙ i.3,
      subst (λ (z : View (Snapshot (State g.row.D.Denot Job)) Event). Does v z (Going g.D.Die.seen o v z c.args.lane first.request c.loop.stage)) (sym p.view)
          (waits_on g.D.Die.seen o q v u w c.args.lane first.request c.loop.stage c.in_ok-step.step i.2.1 (waits_of c.in_ok-step.step c.sorted-next.result c.sorted-next.ensures c.in-Waits.is) i.4 n),
    )
