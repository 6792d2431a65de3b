use Rattle.std.proofs.Common.{◌≤◌, ◌^◌, ◌∙◌, refl, sym, subst}
use Rattle.std.specs.declared.snapshot.Snapshot.{Snapshot}
use Rattle.turn_cell.specs.Passes.{opening_of, view}
use Rattle.turn_cell.specs.declared.view.View.{View}
use Rattle.turn_cell.specs.Events.{events_of}
use Rattle.core_state.specs.declared.actor.Actor.TheVariants.{Lane}
use Rattle.core_state.specs.declared.event.Event.{Event}
use Rattle.core_state.specs.Happens.{HoldsNone}
use Rattle.core_state.specs.History.{calls_of}
use Rattle.core_state.specs.LaneEvents.{IsIdle}
use Rattle.system_state.specs.Cores.{core_of}
use Rattle.system_state.specs.declared.state.State.{State}
use Rattle.desk_turns.specs.Passing.{ActsFor, core_seen, Does}
use Rattle.call_turns.specs.Books.{opening_in}
use Rattle.call_turns.specs.Words.{IsNumbered}
use Rattle.quick_calls.proofs.Ending.{answer_told, Waited, waited_none, acts_after, skip_on, skip_waits_on, skip_worn}
use Rattle.quick_calls.proofs.skip.skip_call.Goals as goal

pub loop-init : goal.loop-init
loop-init g c = ((tt, tt), c.requires.free, (refl, refl), waited_none g.D.Die.seen ((core_seen (core_of g.D.Die.seen) (opening_of opening_in c.args.desk.now.turn.now) (view c.args.desk.now.pass)).lanes c.args.lane).mark (opening_of opening_in c.args.desk.now.turn.now) (view c.args.desk.now.pass) c.args.lane (record { idle = c.requires.idle; mark = refl; none = c.requires.hands }))

pub turn_skip-requires-clause-acts : goal.turn_skip-requires-clause-acts
turn_skip-requires-clause-acts g c =
    let i = c.loop.invariant in
    subst (λ z. ActsFor (core_of g.D.Die.seen) z (view c.loop.desk.pass) (Lane c.args.lane)) (sym i.2.1) (acts_after g.D.Die.seen (opening_of opening_in c.args.desk.now.turn.now) (view c.args.desk.now.pass) (view c.loop.desk.pass) (Lane c.args.lane) i.3.events i.3.went c.requires.acts)

pub turn_skip-requires-clause-hands : goal.turn_skip-requires-clause-hands
turn_skip-requires-clause-hands g c =
    let i = c.loop.invariant in
    subst (λ z. HoldsNone (core_seen (core_of g.D.Die.seen) z (view c.loop.desk.pass)) (Lane c.args.lane)) (sym i.2.1) i.3.says.after.none

pub turn_skip-requires-clause-idle : goal.turn_skip-requires-clause-idle
turn_skip-requires-clause-idle g c =
    let i = c.loop.invariant in
    subst (λ z. IsIdle (core_seen (core_of g.D.Die.seen) z (view c.loop.desk.pass)) c.args.lane) (sym i.2.1) i.3.says.after.idle

pub turn_skip-requires-clause-small : goal.turn_skip-requires-clause-small
turn_skip-requires-clause-small g c =
    let i = c.loop.invariant in
    subst (λ z. z.value.last ≤ 2 ^ 62) (sym i.2.1) c.requires.small

pub returns-in_err-answer-clause-did : goal.returns-in_err-answer-clause-did
returns-in_err-answer-clause-did g c =
    let i = c.loop.invariant in
    skip_worn g.D.Die.seen ((core_seen (core_of g.D.Die.seen) (opening_of opening_in c.args.desk.now.turn.now) (view c.args.desk.now.pass)).lanes c.args.lane).mark (opening_of opening_in c.args.desk.now.turn.now) (view c.args.desk.now.pass) (view c.loop.desk.pass) (view c.turn_skip.new.desk.pass) c.args.lane c.args.request.now c.from_residual.result c.from_residual.ensures.0 i.3 c.in_err-answer.ensures.went

pub returns-in-Ok-clause-did : goal.returns-in-Ok-clause-did
returns-in-Ok-clause-did g c =
    let i = c.loop.invariant in
    skip_on g.D.Die.seen ((core_seen (core_of g.D.Die.seen) (opening_of opening_in c.args.desk.now.turn.now) (view c.args.desk.now.pass)).lanes c.args.lane).mark (opening_of opening_in c.args.desk.now.turn.now) (opening_of opening_in c.loop.desk.turn.now) (view c.args.desk.now.pass) (view c.loop.desk.pass) (view c.turn_skip.new.desk.pass) c.args.lane c.args.request.now c.in_ok-answer.answer c.in-Ok.numbered i.2.1 c.in-Ok.is c.requires.acts i.3 c.in_ok-answer.ensures.did

pub returns-in-Ok-clause-numbered : goal.returns-in-Ok-clause-numbered
returns-in-Ok-clause-numbered g c =
    let i = c.loop.invariant in
    λ n is. subst (λ z. IsNumbered z.value.last (calls_of (events_of (view c.turn_skip.new.desk.pass).seen)) n.number (record { lane = c.args.lane; call = c.args.request.now.call; reply = n.reply })) i.2.1 (c.in_ok-answer.ensures.numbered n (answer_told c.in_ok-answer.answer c.in-Ok.numbered n c.in-Ok.is is))

pub loop-preserved : goal.loop-preserved
loop-preserved g c =
    let i = c.loop.invariant in
    let e = c.turn_skip.ensures in
    let p = c.pause.ensures in
    let o = (opening_of opening_in c.args.desk.now.turn.now) in (
      (tt, tt),
      p.free e.free,
      (p.turn.0 ∙ (e.turn.0 ∙ i.2.0), p.turn.1 ∙ (e.turn.1 ∙ i.2.1)),
      subst (λ (z : View (Snapshot (State g.row.D.Denot g.row.J.Denot)) Event). Does (view c.args.desk.now.pass) z (Waited g.D.Die.seen ((core_seen (core_of g.D.Die.seen) (opening_of opening_in c.args.desk.now.turn.now) (view c.args.desk.now.pass)).lanes c.args.lane).mark o (view c.args.desk.now.pass) z c.args.lane)) (sym p.view)
          (skip_waits_on g.D.Die.seen ((core_seen (core_of g.D.Die.seen) (opening_of opening_in c.args.desk.now.turn.now) (view c.args.desk.now.pass)).lanes c.args.lane).mark o (opening_of opening_in c.loop.desk.turn.now) (view c.args.desk.now.pass) (view c.loop.desk.pass) (view c.turn_skip.new.desk.pass) c.args.lane c.args.request.now c.in_ok-answer.answer c.in-Err.field-0 i.2.1 c.in-Err.is c.requires.acts i.3 c.in_ok-answer.ensures.did),
    )
