use Rattle.std.proofs.Common.{◌≡◌, ◌≤◌, ◌∙◌, refl, inl, arith}
use Rattle.turn_cell.specs.Desks.{view_alone, opening_alone}
use Rattle.core_state.specs.declared.event.Event.TheVariants.{Enter}
use Rattle.event_turns.specs.Books.{opening_in}
use Rattle.solo_lanes.proofs.Turning.{made_none, made_more, entered_worn, entered_all, may_enter}
use Rattle.solo_lanes.proofs.entering.enter_all.Goals as goal

pub loop-lane-init : goal.loop-lane-init
loop-lane-init g c = (c.requires.free, (refl, refl), made_none g.D.Die.seen (λ lane. Enter lane) (opening_alone opening_in c.args.alone.now) (view_alone c.args.alone.now))

pub turn_enter-requires-clause-free : goal.turn_enter-requires-clause-free
turn_enter-requires-clause-free g c = c.loop-lane.invariant.0

pub turn_enter-requires-clause-acts : goal.turn_enter-requires-clause-acts
turn_enter-requires-clause-acts g c = inl c.loop-lane.invariant.0.2.0

pub turn_enter-requires-clause-may : goal.turn_enter-requires-clause-may
turn_enter-requires-clause-may g c =
    let i = c.loop-lane.invariant in
    may_enter g.D.Die.seen (opening_alone opening_in c.args.alone.now) (opening_alone opening_in c.loop-lane.alone) (view_alone c.args.alone.now) (view_alone c.loop-lane.alone) c.loop-lane.lane c.args.lanes i.1.1 c.loop-lane-test.true c.requires.lanes c.requires.outside i.2

pub returns-in_err-turn_enter-clause-turn : goal.returns-in_err-turn_enter-clause-turn
returns-in_err-turn_enter-clause-turn g c =
    let i = c.loop-lane.invariant in
    let e = c.turn_enter.ensures in
    (e.turn.0 ∙ i.1.0, e.turn.1 ∙ i.1.1)

pub returns-in_err-turn_enter-clause-did : goal.returns-in_err-turn_enter-clause-did
returns-in_err-turn_enter-clause-did g c =
    let i = c.loop-lane.invariant in
    entered_worn g.D.Die.seen (opening_alone opening_in c.args.alone.now) (view_alone c.args.alone.now) (view_alone c.loop-lane.alone) (view_alone c.turn_enter.new.desk) c.loop-lane.lane c.args.lanes c.from_residual.result c.from_residual.ensures.0 c.loop-lane-test.true c.requires.free.2.0 i.2 c.in_err-turn_enter.ensures.went

pub loop-lane-preserved : goal.loop-lane-preserved
loop-lane-preserved g c =
    let i = c.loop-lane.invariant in
    let e = c.turn_enter.ensures in (
      e.free,
      (e.turn.0 ∙ i.1.0, e.turn.1 ∙ i.1.1),
      made_more g.D.Die.seen (λ lane. Enter lane) (opening_alone opening_in c.args.alone.now) (opening_alone opening_in c.loop-lane.alone) (view_alone c.args.alone.now) (view_alone c.loop-lane.alone) (view_alone c.turn_enter.new.desk) c.loop-lane.lane i.1.1 c.requires.free.2.0 i.2 c.in_ok-turn_enter.ensures.did,
    )

pub returns-clause-free : goal.returns-clause-free
returns-clause-free g c = c.loop-lane.invariant.0

pub returns-clause-turn : goal.returns-clause-turn
returns-clause-turn g c = c.loop-lane.invariant.1

pub returns-clause-did : goal.returns-clause-did
returns-clause-did g c =
    let i = c.loop-lane.invariant in
    let low : c.loop-lane.lane ≤ c.args.lanes = c.loop-lane.auto.lane-end in
    let all : c.loop-lane.lane ≡ c.args.lanes = omega arith in
    entered_all g.D.Die.seen (opening_alone opening_in c.args.alone.now) (view_alone c.args.alone.now) (view_alone c.loop-lane.alone) c.loop-lane.lane c.args.lanes all c.requires.lanes c.requires.outside i.2
