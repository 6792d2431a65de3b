use Rattle.std.proofs.Common.{ℕ, ◌<◌, ◌≤◌, ◌^◌, ◌∙◌, refl, sym, subst}
use Rattle.turn_cell.specs.Desks.{view_alone, opening_alone}
use Rattle.system_state.specs.Cores.{core_of}
use Rattle.desk_turns.specs.Passing.{core_seen}
use Rattle.event_turns.specs.Books.{opening_in}
use Rattle.call_job.specs.Suits.{Suits}
use Rattle.fill_steps.specs.Gathering.{told_at, IsGathering}
use Rattle.fill_steps.proofs.Looping.{going_none, on_next, on_again, on_failed, on_done, on_worn, home_on, failed_home, never_waits, next_falls, again_falls, same_on}
use Rattle.fill_steps.proofs.span.fill_span_alone.Goals as goal

pub loop-i-init : goal.loop-i-init
loop-i-init g c = (c.requires.free, (refl, refl), going_none g.D.Die.seen (opening_alone opening_in c.args.alone.now) (view_alone c.args.alone.now) c.args.actor c.args.lane c.args.job.now c.requires.gathering, refl)

pub fill_step-requires-clause-gathering : goal.fill_step-requires-clause-gathering
fill_step-requires-clause-gathering g c =
    let i = c.loop-i.invariant in
    subst (λ z. IsGathering (core_seen (core_of g.D.Die.seen) z (view_alone c.loop-i.alone)) c.args.actor c.args.lane c.loop-i.i c.loop-i.job) (sym i.1.1) i.2.says.says

pub fill_step-requires-clause-small : goal.fill_step-requires-clause-small
fill_step-requires-clause-small g c = subst (λ z. z.value.places.reads ≤ 2 ^ 62) (sym c.loop-i.invariant.1.1) c.requires.small

pub returns-in_err-step-clause-did : goal.returns-in_err-step-clause-did
returns-in_err-step-clause-did g c =
    let i = c.loop-i.invariant in
    on_worn g.D.Die.seen (opening_alone opening_in c.args.alone.now) (opening_alone opening_in c.loop-i.alone) (view_alone c.args.alone.now) (view_alone c.loop-i.alone) (view_alone c.fill_step.new.desk) c.args.actor c.args.lane c.loop-i.i c.loop-i.job c.fill_step.new.job c.in_err-step.field-0.0 c.from_residual.result c.from_residual.ensures.0 i.2 c.in_err-step.ensures.did

pub returns-in-Failed-clause-did : goal.returns-in-Failed-clause-did
returns-in-Failed-clause-did g c =
    let i = c.loop-i.invariant in
    on_failed g.D.Die.seen (opening_alone opening_in c.args.alone.now) (opening_alone opening_in c.loop-i.alone) (view_alone c.args.alone.now) (view_alone c.loop-i.alone) (view_alone c.fill_step.new.desk) c.args.actor c.args.lane c.loop-i.i c.loop-i.job c.fill_step.new.job c.in_ok-step.step i.1.1 c.in-Failed.is i.2 c.in_ok-step.ensures.did

pub returns-in-Failed-clause-home : goal.returns-in-Failed-clause-home
returns-in-Failed-clause-home g c =
    let i = c.loop-i.invariant in
    failed_home g.D.Die.seen (opening_alone opening_in c.args.alone.now) (view_alone c.args.alone.now) (view_alone c.fill_step.new.desk) c.args.actor c.args.lane c.fill_step.new.job c.requires.free.2.0 c.requires.home
    (on_failed g.D.Die.seen (opening_alone opening_in c.args.alone.now) (opening_alone opening_in c.loop-i.alone) (view_alone c.args.alone.now) (view_alone c.loop-i.alone) (view_alone c.fill_step.new.desk) c.args.actor c.args.lane c.loop-i.i c.loop-i.job c.fill_step.new.job c.in_ok-step.step i.1.1 c.in-Failed.is i.2 c.in_ok-step.ensures.did)

pub returns-in-Failed-clause-same : goal.returns-in-Failed-clause-same
returns-in-Failed-clause-same g c = same_on c.args.job.now c.loop-i.job c.fill_step.new.job c.loop-i.invariant.3 c.fill_step.ensures.same

pub returns-in_err-step-clause-same : goal.returns-in_err-step-clause-same
returns-in_err-step-clause-same g c = same_on c.args.job.now c.loop-i.job c.fill_step.new.job c.loop-i.invariant.3 c.fill_step.ensures.same

pub unreachable-requires : goal.unreachable-requires
unreachable-requires g c =
    let i = c.loop-i.invariant in
    never_waits g.D.Die.seen (opening_alone opening_in c.args.alone.now) (opening_alone opening_in c.loop-i.alone) (view_alone c.args.alone.now) (view_alone c.loop-i.alone) (view_alone c.fill_step.new.desk) c.args.actor c.args.lane c.loop-i.i c.loop-i.job c.fill_step.new.job c.in_ok-step.step i.1.1 c.in-Waits.is c.requires.free.2.0 c.requires.home i.2 c.in_ok-step.ensures.did

pub returns-then-i-span-clause-home : goal.returns-then-i-span-clause-home
returns-then-i-span-clause-home g c = home_on g.D.Die.seen (opening_alone opening_in c.args.alone.now) (view_alone c.args.alone.now) (view_alone c.loop-i.alone) c.args.actor c.args.lane c.loop-i.i c.loop-i.job c.requires.free.2.0 c.requires.home c.loop-i.invariant.2

pub loop-i-preserved-in-Next : goal.loop-i-preserved-in-Next
loop-i-preserved-in-Next g c =
    let i = c.loop-i.invariant in
    let e = c.fill_step.ensures in (
      e.free,
      (e.turn.0 ∙ i.1.0, e.turn.1 ∙ i.1.1),
      on_next g.D.Die.seen (opening_alone opening_in c.args.alone.now) (opening_alone opening_in c.loop-i.alone) (view_alone c.args.alone.now) (view_alone c.loop-i.alone) (view_alone c.fill_step.new.desk) c.args.actor c.args.lane c.loop-i.i c.loop-i.job c.fill_step.new.job c.in_ok-step.step i.1.1 c.in-Next.is i.2 c.in_ok-step.ensures.did,
      same_on c.args.job.now c.loop-i.job c.fill_step.new.job i.3 e.same,
    )

pub loop-i-preserved : goal.loop-i-preserved
loop-i-preserved g c =
    let i = c.loop-i.invariant in
    let e = c.fill_step.ensures in (
      e.free,
      (e.turn.0 ∙ i.1.0, e.turn.1 ∙ i.1.1),
      on_again g.D.Die.seen (opening_alone opening_in c.args.alone.now) (opening_alone opening_in c.loop-i.alone) (view_alone c.args.alone.now) (view_alone c.loop-i.alone) (view_alone c.fill_step.new.desk) c.args.actor c.args.lane c.loop-i.i c.loop-i.job c.fill_step.new.job c.in_ok-step.step i.1.1 c.in-Again.is i.2 c.in_ok-step.ensures.did,
      same_on c.args.job.now c.loop-i.job c.fill_step.new.job i.3 e.same,
    )

pub loop-i-smaller : goal.loop-i-smaller
loop-i-smaller g c =
    let i = c.loop-i.invariant in
    let e = c.fill_step.ensures in
    again_falls g.D.Die.seen (opening_alone opening_in c.loop-i.alone) (opening_alone opening_in c.fill_step.new.desk) (view_alone c.args.alone.now) (view_alone c.loop-i.alone) (view_alone c.fill_step.new.desk) c.args.actor c.args.lane c.loop-i.i c.loop-i.job c.fill_step.new.job c.in_ok-step.step (opening_alone opening_in c.args.alone.now) e.turn.1 c.in-Again.is c.requires.free.2.0 i.2 e.same c.in_ok-step.ensures.did

pub loop-i-smaller-in-Next : goal.loop-i-smaller-in-Next
loop-i-smaller-in-Next g c =
    next_falls g.D.Die.seen (opening_alone opening_in c.fill_step.new.desk) (opening_alone opening_in c.loop-i.alone) (view_alone c.loop-i.alone) (view_alone c.fill_step.new.desk) c.args.lane c.loop-i.i c.loop-i.job c.fill_step.new.job c.fill_step.ensures.same
    (subst (λ (n : ℕ). c.loop-i.i < n) c.span.ensures c.if-i-span.false)

pub returns-then-i-span-clause-did : goal.returns-then-i-span-clause-did
returns-then-i-span-clause-did g c = on_done g.D.Die.seen (opening_alone opening_in c.args.alone.now) (view_alone c.args.alone.now) (view_alone c.loop-i.alone) c.args.actor c.args.lane c.loop-i.i c.loop-i.job c.loop-i.invariant.2 (subst (λ (n : ℕ). n ≤ c.loop-i.i) c.span.ensures c.if-i-span.true)

pub returns-in-Failed-clause-left : goal.returns-in-Failed-clause-left
returns-in-Failed-clause-left g c = λ e. subst (λ z. Suits c.fill_step.new.job (told_at (core_seen (core_of g.D.Die.seen) z (view_alone c.fill_step.new.desk)) c.args.lane)) c.loop-i.invariant.1.1 (c.in_ok-step.ensures.left c.in-Failed.is)
