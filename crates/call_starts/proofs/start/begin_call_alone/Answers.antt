use Rattle.std.proofs.Common.{◌≡◌, ◌<◌, true, Ok, Err, refl, sym, ap, ◌∙◌, subst, inl}
use Rattle.std.specs.Prelude.{◌⊎◌}
use Rattle.std.specs.declared.snapshot.Snapshot.{Snapshot}
use Rattle.turn_cell.specs.declared.view.View.{View}
use Rattle.turn_cell.specs.Desks.{view_alone, opening_alone}
use Rattle.core_state.specs.declared.actor.Actor.TheVariants.{Lane}
use Rattle.core_state.specs.declared.event.Event.{Event}
use Rattle.core_state.specs.Reach.{is_data, is_sync}
use Rattle.core_solo.specs.Left.{call_left}
use Rattle.system_state.specs.Cores.{core_of}
use Rattle.system_state.specs.declared.state.State.{State}
use Rattle.call_job.specs.declared.job.Job.{Job}
use Rattle.call_job.specs.Prepares.{IsPrepared}
use Rattle.desk_turns.specs.Passing.{ActsFor, core_seen, Does}
use Rattle.call_begins.specs.Books.{opening_in}
use Rattle.call_begins.specs.Words.{IsSmall}
use Rattle.call_begins.specs.Making.{IsIdleWith}
use Rattle.call_begins.specs.Steps.{is_marked, JobSays}
use Rattle.call_begins.proofs.Ending.{acts_after}
use Rattle.call_starts.proofs.Looping.{Going, asked_as, going_none, come_of, on_of, waits_of, ended_told, job_come, job_worn, job_on, job_waits, on_step, waits_on, come_on, worn_on, numbered_as, on_falls, never_waits, home_then, still_alone}
use Rattle.call_starts.proofs.start.begin_call_alone.Goals as goal

pub loop-step-init : goal.loop-step-init
loop-step-init g c = (c.requires.free, (refl, refl), refl, going_none g.D.Die.seen (opening_alone opening_in c.args.alone.now) (view_alone c.args.alone.now) c.args.lane c.args.prepared.now.job.request c.requires.lane)

pub begin_step-requires-clause-acts : goal.begin_step-requires-clause-acts
begin_step-requires-clause-acts g c =
    let i = c.loop-step.invariant in
    subst (λ z. ActsFor (core_of g.D.Die.seen) z (view_alone c.loop-step.alone) (Lane c.args.lane)) (sym i.1.1) (acts_after g.D.Die.seen (opening_alone opening_in c.args.alone.now) (view_alone c.args.alone.now) (view_alone c.loop-step.alone) (Lane c.args.lane) i.3.events i.3.went (inl c.requires.free.2.0))

pub begin_step-requires-clause-lane : goal.begin_step-requires-clause-lane
begin_step-requires-clause-lane g c =
    let i = c.loop-step.invariant in
    subst (λ z. IsIdleWith (is_marked c.loop-step.stage) (core_seen (core_of g.D.Die.seen) z (view_alone c.loop-step.alone)) c.args.lane) (sym i.1.1) i.3.says.at

pub begin_step-requires-clause-prepared : goal.begin_step-requires-clause-prepared
begin_step-requires-clause-prepared g c =
    let i = c.loop-step.invariant in
    subst (λ (j : Job). IsPrepared j.request j) (sym i.2) c.requires.prepared

pub begin_step-requires-clause-kind : goal.begin_step-requires-clause-kind
begin_step-requires-clause-kind g c =
    let i = c.loop-step.invariant in
    subst (λ (j : Job). (is_data j.request.call ≡ true) ⊎ (is_sync j.request.call ≡ true)) (sym i.2) c.requires.kind

pub begin_step-requires-clause-small : goal.begin_step-requires-clause-small
begin_step-requires-clause-small g c =
    let i = c.loop-step.invariant in
    subst (λ z. IsSmall z.value) (sym i.1.1) c.requires.small

pub returns-in_err-step-clause-did : goal.returns-in_err-step-clause-did
returns-in_err-step-clause-did g c =
    let i = c.loop-step.invariant in
    let o = opening_alone opening_in c.args.alone.now in
    let v = view_alone c.args.alone.now in
    let q = opening_alone opening_in c.loop-step.alone in
    let u = view_alone c.loop-step.alone in
    let w = view_alone c.begin_step.new.desk in
    let first = c.args.prepared.now.job in
    let old = c.loop-step.prepared.job in
    let n = asked_as g.D.Die.seen q u w c.args.lane old.request first.request c.loop-step.stage (Err c.in_err-step.field-0.0) (ap (λ (j : Job). j.request) i.2) c.in_err-step.ensures.did in
    worn_on g.D.Die.seen o q v u w c.args.lane first.request c.loop-step.stage c.in_err-step.field-0.0 c.from_residual.result i.1.1 c.from_residual.ensures.0 i.3 n

pub returns-in_err-step-clause-job : goal.returns-in_err-step-clause-job
returns-in_err-step-clause-job g c =
    let i = c.loop-step.invariant in
    let o = opening_alone opening_in c.args.alone.now in
    let v = view_alone c.args.alone.now in
    let q = opening_alone opening_in c.loop-step.alone in
    let u = view_alone c.loop-step.alone in
    let w = view_alone c.begin_step.new.desk in
    let first = c.args.prepared.now.job in
    let old = c.loop-step.prepared.job in
    job_worn (core_seen (core_of g.D.Die.seen) o w) c.args.lane first old c.begin_step.new.prepared.job c.in_err-step.field-0.0 c.from_residual.result c.from_residual.ensures.0 i.2 c.in_err-step.ensures.job

pub returns-in-Come-clause-did : goal.returns-in-Come-clause-did
returns-in-Come-clause-did g c =
    let i = c.loop-step.invariant in
    let o = opening_alone opening_in c.args.alone.now in
    let v = view_alone c.args.alone.now in
    let q = opening_alone opening_in c.loop-step.alone in
    let u = view_alone c.loop-step.alone in
    let w = view_alone c.begin_step.new.desk in
    let first = c.args.prepared.now.job in
    let old = c.loop-step.prepared.job in
    let n = asked_as g.D.Die.seen q u w c.args.lane old.request first.request c.loop-step.stage (Ok c.in_ok-step.step) (ap (λ (j : Job). j.request) i.2) c.in_ok-step.ensures.did in
    come_on g.D.Die.seen o q v u w c.args.lane first.request c.loop-step.stage c.in_ok-step.step c.in-Come.beginning i.1.1 (come_of c.in_ok-step.step c.sorted-next.result c.in-Come.beginning c.sorted-next.ensures c.in-Come.is) i.3 n

pub returns-in-Come-clause-job : goal.returns-in-Come-clause-job
returns-in-Come-clause-job g c =
    let i = c.loop-step.invariant in
    let o = opening_alone opening_in c.args.alone.now in
    let v = view_alone c.args.alone.now in
    let q = opening_alone opening_in c.loop-step.alone in
    let u = view_alone c.loop-step.alone in
    let w = view_alone c.begin_step.new.desk in
    let first = c.args.prepared.now.job in
    let old = c.loop-step.prepared.job in
    job_come (core_seen (core_of g.D.Die.seen) o w) c.args.lane first old c.begin_step.new.prepared.job c.in_ok-step.step c.in-Come.beginning (come_of c.in_ok-step.step c.sorted-next.result c.in-Come.beginning c.sorted-next.ensures c.in-Come.is) i.2
    (subst (λ z. JobSays (core_seen (core_of g.D.Die.seen) z w) c.args.lane old c.begin_step.new.prepared.job (Ok c.in_ok-step.step)) i.1.1 c.in_ok-step.ensures.job)

pub returns-in-Come-clause-numbered : goal.returns-in-Come-clause-numbered
returns-in-Come-clause-numbered g c =
    let i = c.loop-step.invariant in
    let o = opening_alone opening_in c.args.alone.now in
    let v = view_alone c.args.alone.now in
    let q = opening_alone opening_in c.loop-step.alone in
    let u = view_alone c.loop-step.alone in
    let w = view_alone c.begin_step.new.desk in
    let first = c.args.prepared.now.job in
    let old = c.loop-step.prepared.job in
    λ n is. numbered_as g.D.Die.seen o q w c.args.lane old.request first.request n i.1.1 (ap (λ (j : Job). j.request) i.2)
    (c.in_ok-step.ensures.numbered n (ended_told c.in_ok-step.step c.in-Come.beginning n (come_of c.in_ok-step.step c.sorted-next.result c.in-Come.beginning c.sorted-next.ensures c.in-Come.is) is))

pub loop-step-preserved : goal.loop-step-preserved
loop-step-preserved g c =
    let i = c.loop-step.invariant in
    let o = opening_alone opening_in c.args.alone.now in
    let v = view_alone c.args.alone.now in
    let q = opening_alone opening_in c.loop-step.alone in
    let u = view_alone c.loop-step.alone in
    let w = view_alone c.begin_step.new.desk in
    let first = c.args.prepared.now.job in
    let old = c.loop-step.prepared.job in
    let n = asked_as g.D.Die.seen q u w c.args.lane old.request first.request c.loop-step.stage (Ok c.in_ok-step.step) (ap (λ (j : Job). j.request) i.2) c.in_ok-step.ensures.did in
    let e = c.begin_step.ensures in (
      e.free,
      (e.turn.0 ∙ i.1.0, e.turn.1 ∙ i.1.1),
      job_on (core_seen (core_of g.D.Die.seen) q w) c.args.lane old c.begin_step.new.prepared.job c.in_ok-step.step c.in-On.later (on_of c.in_ok-step.step c.sorted-next.result c.in-On.later c.sorted-next.ensures c.in-On.is) c.in_ok-step.ensures.job ∙ i.2,
      on_step g.D.Die.seen o q v u w c.args.lane first.request c.loop-step.stage c.in-On.later c.in_ok-step.step i.1.1 (on_of c.in_ok-step.step c.sorted-next.result c.in-On.later c.sorted-next.ensures c.in-On.is) c.requires.kind c.in_ok-step.ensures.begins i.3 n,
    )

pub loop-step-smaller : goal.loop-step-smaller
loop-step-smaller g c =
    let i = c.loop-step.invariant in
    let o = opening_alone opening_in c.args.alone.now in
    let v = view_alone c.args.alone.now in
    let q = opening_alone opening_in c.loop-step.alone in
    let u = view_alone c.loop-step.alone in
    let w = view_alone c.begin_step.new.desk in
    let first = c.args.prepared.now.job in
    let old = c.loop-step.prepared.job in
    let n = asked_as g.D.Die.seen q u w c.args.lane old.request first.request c.loop-step.stage (Ok c.in_ok-step.step) (ap (λ (j : Job). j.request) i.2) c.in_ok-step.ensures.did in
    let e = c.begin_step.ensures in
    let l = on_falls g.D.Die.seen o q v u w c.args.lane first.request c.loop-step.stage c.in-On.later c.in_ok-step.step i.1.1 (on_of c.in_ok-step.step c.sorted-next.result c.in-On.later c.sorted-next.ensures c.in-On.is) c.requires.kind c.in_ok-step.ensures.begins c.requires.free.2.0 c.requires.alone i.3 n in
    subst (λ z. call_left (core_seen (core_of g.D.Die.seen) z w) c.args.lane < call_left (core_seen (core_of g.D.Die.seen) q u) c.args.lane) (sym (e.turn.1 ∙ i.1.1))
    (subst (λ z. call_left (core_seen (core_of g.D.Die.seen) o w) c.args.lane < call_left (core_seen (core_of g.D.Die.seen) z u) c.args.lane) (sym i.1.1) l)

pub unreachable-requires : goal.unreachable-requires
unreachable-requires g c =
    let i = c.loop-step.invariant in
    let o = opening_alone opening_in c.args.alone.now in
    let v = view_alone c.args.alone.now in
    let q = opening_alone opening_in c.loop-step.alone in
    let u = view_alone c.loop-step.alone in
    let w = view_alone c.begin_step.new.desk in
    let first = c.args.prepared.now.job in
    let old = c.loop-step.prepared.job in
    let n = asked_as g.D.Die.seen q u w c.args.lane old.request first.request c.loop-step.stage (Ok c.in_ok-step.step) (ap (λ (j : Job). j.request) i.2) c.in_ok-step.ensures.did in
    never_waits g.D.Die.seen o q v u w c.args.lane first.request c.loop-step.stage c.in_ok-step.step i.1.1 (waits_of c.in_ok-step.step c.sorted-next.result c.sorted-next.ensures c.in-Waits.is) c.requires.frames c.in_ok-step.ensures.begins c.requires.free.2.0 c.requires.alone i.3 n

pub returns-in-Come-clause-home : goal.returns-in-Come-clause-home
returns-in-Come-clause-home g c =
    let i = c.loop-step.invariant in
    let o = opening_alone opening_in c.args.alone.now in
    let v = view_alone c.args.alone.now in
    let q = opening_alone opening_in c.loop-step.alone in
    let u = view_alone c.loop-step.alone in
    let w = view_alone c.begin_step.new.desk in
    let first = c.args.prepared.now.job in
    let old = c.loop-step.prepared.job in
    let n = asked_as g.D.Die.seen q u w c.args.lane old.request first.request c.loop-step.stage (Ok c.in_ok-step.step) (ap (λ (j : Job). j.request) i.2) c.in_ok-step.ensures.did in
    home_then g.D.Die.seen o q v u w c.args.lane first.request c.loop-step.stage c.in_ok-step.step c.in-Come.beginning i.1.1 (come_of c.in_ok-step.step c.sorted-next.result c.in-Come.beginning c.sorted-next.ensures c.in-Come.is) c.in_ok-step.ensures.begins c.requires.free.2.0 c.requires.alone i.3 n

pub returns-in-Come-clause-alone : goal.returns-in-Come-clause-alone
returns-in-Come-clause-alone g c =
    let i = c.loop-step.invariant in
    let o = opening_alone opening_in c.args.alone.now in
    let v = view_alone c.args.alone.now in
    let q = opening_alone opening_in c.loop-step.alone in
    let u = view_alone c.loop-step.alone in
    let w = view_alone c.begin_step.new.desk in
    let first = c.args.prepared.now.job in
    let old = c.loop-step.prepared.job in
    let n = asked_as g.D.Die.seen q u w c.args.lane old.request first.request c.loop-step.stage (Ok c.in_ok-step.step) (ap (λ (j : Job). j.request) i.2) c.in_ok-step.ensures.did in
    λ side is. still_alone g.D.Die.seen o q v u w c.args.lane first.request c.loop-step.stage c.in_ok-step.step c.in-Come.beginning side i.1.1 (come_of c.in_ok-step.step c.sorted-next.result c.in-Come.beginning c.sorted-next.ensures c.in-Come.is) is c.in_ok-step.ensures.begins c.requires.free.2.0 c.requires.alone i.3 n
