use Rattle.std.proofs.Common.{◌<◌, ◌≤◌, ◌^◌, ◌∙◌, refl, sym, subst}
use Rattle.turn_cell.specs.Desks.{view_alone, opening_alone}
use Rattle.core_solo.specs.Settling.{sync_left}
use Rattle.core_closing.specs.Kept.{MaySettle}
use Rattle.system_state.specs.Cores.{core_of}
use Rattle.desk_turns.specs.Passing.{core_seen}
use Rattle.page_steps.specs.Books.{opening_in}
use Rattle.settling.proofs.Looping.{going_none, on_step, done_on, failed_on, worn_on, home_on, on_falls, never_waits, done_home, failed_home}
use Rattle.settling.proofs.last_sync.settle_alone.Goals as goal

pub loop-step-init : goal.loop-step-init
loop-step-init g c = (c.requires.free, (refl, refl), going_none g.D.Die.seen (opening_alone opening_in c.args.alone.now) (view_alone c.args.alone.now) c.requires.may)

pub settle_step-requires-clause-may : goal.settle_step-requires-clause-may
settle_step-requires-clause-may g c =
    let i = c.loop-step.invariant in
    subst (λ z. MaySettle (core_seen (core_of g.D.Die.seen) z (view_alone c.loop-step.alone))) (sym i.1.1) i.2.says.ready

pub returns-in_err-step-clause-did : goal.returns-in_err-step-clause-did
returns-in_err-step-clause-did g c =
    let i = c.loop-step.invariant in
    worn_on g.D.Die.seen (opening_alone opening_in c.args.alone.now) (opening_alone opening_in c.loop-step.alone) (view_alone c.args.alone.now) (view_alone c.loop-step.alone) (view_alone c.settle_step.new.desk) c.in_err-step.field-0.0 c.from_residual.result i.1.1 c.from_residual.ensures.0 i.2 c.in_err-step.ensures.did

pub returns-in-Done-clause-did : goal.returns-in-Done-clause-did
returns-in-Done-clause-did g c =
    let i = c.loop-step.invariant in
    done_on g.D.Die.seen (opening_alone opening_in c.args.alone.now) (opening_alone opening_in c.loop-step.alone) (view_alone c.args.alone.now) (view_alone c.loop-step.alone) (view_alone c.settle_step.new.desk) c.in_ok-step.step i.1.1 c.in-Done.is i.2 c.in_ok-step.ensures.did

pub returns-in-Done-clause-home : goal.returns-in-Done-clause-home
returns-in-Done-clause-home g c =
    let i = c.loop-step.invariant in
    done_home g.D.Die.seen (opening_alone opening_in c.args.alone.now) (opening_alone opening_in c.loop-step.alone) (view_alone c.args.alone.now) (view_alone c.loop-step.alone) (view_alone c.settle_step.new.desk) c.in_ok-step.step i.1.1 c.in-Done.is c.requires.free.2.0 c.requires.home i.2 c.in_ok-step.ensures.did

pub returns-in-Failed-clause-did : goal.returns-in-Failed-clause-did
returns-in-Failed-clause-did g c =
    let i = c.loop-step.invariant in
    failed_on g.D.Die.seen (opening_alone opening_in c.args.alone.now) (opening_alone opening_in c.loop-step.alone) (view_alone c.args.alone.now) (view_alone c.loop-step.alone) (view_alone c.settle_step.new.desk) c.in_ok-step.step i.1.1 c.in-Failed.is i.2 c.in_ok-step.ensures.did

pub returns-in-Failed-clause-home : goal.returns-in-Failed-clause-home
returns-in-Failed-clause-home g c =
    let i = c.loop-step.invariant in
    failed_home g.D.Die.seen (opening_alone opening_in c.args.alone.now) (opening_alone opening_in c.loop-step.alone) (view_alone c.args.alone.now) (view_alone c.loop-step.alone) (view_alone c.settle_step.new.desk) c.in_ok-step.step i.1.1 c.in-Failed.is c.requires.free.2.0 c.requires.home i.2 c.in_ok-step.ensures.did

pub loop-step-smaller : goal.loop-step-smaller
loop-step-smaller g c =
    let i = c.loop-step.invariant in
    let e = c.settle_step.ensures in
    let o = opening_alone opening_in c.args.alone.now in
    let q = opening_alone opening_in c.loop-step.alone in
    let l = on_falls g.D.Die.seen o q (view_alone c.args.alone.now) (view_alone c.loop-step.alone) (view_alone c.settle_step.new.desk) c.in_ok-step.step i.1.1 c.in-On.is c.requires.free.2.0 c.requires.home i.2 c.in_ok-step.ensures.did in
    subst (λ z. sync_left (core_seen (core_of g.D.Die.seen) z (view_alone c.settle_step.new.desk)) < sync_left (core_seen (core_of g.D.Die.seen) q (view_alone c.loop-step.alone))) (sym (e.turn.1 ∙ i.1.1))
    (subst (λ z. sync_left (core_seen (core_of g.D.Die.seen) o (view_alone c.settle_step.new.desk)) < sync_left (core_seen (core_of g.D.Die.seen) z (view_alone c.loop-step.alone))) (sym i.1.1) l)

pub loop-step-preserved : goal.loop-step-preserved
loop-step-preserved g c =
    let i = c.loop-step.invariant in
    let e = c.settle_step.ensures in (
      e.free,
      (e.turn.0 ∙ i.1.0, e.turn.1 ∙ i.1.1),
      on_step g.D.Die.seen (opening_alone opening_in c.args.alone.now) (opening_alone opening_in c.loop-step.alone) (view_alone c.args.alone.now) (view_alone c.loop-step.alone) (view_alone c.settle_step.new.desk) c.in_ok-step.step i.1.1 c.in-On.is i.2 c.in_ok-step.ensures.did,
    )

pub unreachable-requires : goal.unreachable-requires
unreachable-requires g c =
    let i = c.loop-step.invariant in
    never_waits g.D.Die.seen (opening_alone opening_in c.args.alone.now) (opening_alone opening_in c.loop-step.alone) (view_alone c.args.alone.now) (view_alone c.loop-step.alone) (view_alone c.settle_step.new.desk) c.in_ok-step.step i.1.1 c.in-Waits.is c.requires.free.2.0 c.requires.home i.2 c.in_ok-step.ensures.did

pub settle_step-requires-clause-small : goal.settle_step-requires-clause-small
settle_step-requires-clause-small g c = subst (λ z. z.value.places.writes ≤ 2 ^ 62) (sym c.loop-step.invariant.1.1) c.requires.small
