use Rattle.std.proofs.Common.{◌≡◌, ◌∙◌, sym, subst}
use Rattle.std.specs.declared.snapshot.Snapshot.{Snapshot}
use Rattle.page_base.specs.Drive.{meta_pages}
use Rattle.turn_cell.specs.Events.{events_of}
use Rattle.turn_cell.specs.declared.view.View.{View}
use Rattle.turn_cell.specs.Passes.{opening_of, view}
use Rattle.core_state.specs.declared.actor.Actor.TheVariants.{Lane}
use Rattle.core_state.specs.declared.event.Event.{Event}
use Rattle.core_state.specs.History.{calls_of}
use Rattle.system_state.specs.Cores.{core_of}
use Rattle.system_state.specs.declared.state.State.{State}
use Rattle.desk_turns.specs.Passing.{ActsFor, core_seen, Does}
use Rattle.quick_calls.specs.Books.{opening_in}
use Rattle.quick_calls.specs.Words.{IsNumbered, IsSmall}
use Rattle.quick_calls.proofs.Ending.{acts_after}
use Rattle.sync_calls.specs.Stages.{AtStage}
use Rattle.sync_calls.proofs.Looping.{Going, going_none, on_step, waits_on, reply_on, worn_on, worn_first, step_told}
use Rattle.sync_calls.proofs.sync.sync_call.Goals as goal

pub loop-init : goal.loop-init
loop-init g c = ((tt, tt), c.turn_pages.ensures.free, (c.turn_pages.ensures.turn.0, c.turn_pages.ensures.turn.1), c.in_ok-count.ensures.count, going_none g.D.Die.seen (opening_of opening_in c.args.desk.now.turn.now) (view c.args.desk.now.pass) (view c.turn_pages.new.desk.pass) c.args.lane c.args.request.now c.in_ok-count.count c.requires.acts c.requires.lane c.in_ok-count.ensures.did)

pub sync_step-requires-clause-acts : goal.sync_step-requires-clause-acts
sync_step-requires-clause-acts g c =
    let i = c.loop.invariant in
    subst (λ z. ActsFor (core_of g.D.Die.seen) z (view c.loop.desk.pass) (Lane c.args.lane)) (sym i.2.1) (acts_after g.D.Die.seen (opening_of opening_in c.args.desk.now.turn.now) (view c.args.desk.now.pass) (view c.loop.desk.pass) (Lane c.args.lane) i.4.events i.4.went c.requires.acts)

pub sync_step-requires-clause-at : goal.sync_step-requires-clause-at
sync_step-requires-clause-at g c =
    let i = c.loop.invariant in
    subst (λ z. AtStage (view c.loop.desk.pass).alone (core_seen (core_of g.D.Die.seen) z (view c.loop.desk.pass)) c.args.lane c.args.request.now c.in_ok-count.count c.loop.stage) (sym i.2.1) i.4.says.at

pub sync_step-requires-clause-count : goal.sync_step-requires-clause-count
sync_step-requires-clause-count g c =
    let i = c.loop.invariant in
    subst (λ z. c.in_ok-count.count ≡ meta_pages z.value.sizes.blocks) (sym i.2.1) i.3

pub sync_step-requires-clause-small : goal.sync_step-requires-clause-small
sync_step-requires-clause-small g c =
    let i = c.loop.invariant in
    subst (λ z. IsSmall z.value) (sym i.2.1) c.requires.small

pub returns-in_err-count-clause-did : goal.returns-in_err-count-clause-did
returns-in_err-count-clause-did g c = worn_first g.D.Die.seen (opening_of opening_in c.args.desk.now.turn.now) (view c.args.desk.now.pass) (view c.turn_pages.new.desk.pass) c.args.lane c.args.request.now c.from_residual.result c.from_residual.ensures.0 c.in_err-count.ensures.went

pub returns-in_err-step-clause-did : goal.returns-in_err-step-clause-did
returns-in_err-step-clause-did g c =
    let i = c.loop.invariant in
    worn_on g.D.Die.seen (opening_of opening_in c.args.desk.now.turn.now) (opening_of opening_in c.loop.desk.turn.now) (view c.args.desk.now.pass) (view c.loop.desk.pass) (view c.sync_step.new.desk.pass) c.args.lane c.args.request.now c.in_ok-count.count c.loop.stage c.in_err-step.field-0.0 c.from_residual-in_err-step.result i.2.1 c.from_residual-in_err-step.ensures.0 i.4 c.in_err-step.ensures.did

pub returns-in-Replied-clause-did : goal.returns-in-Replied-clause-did
returns-in-Replied-clause-did g c =
    let i = c.loop.invariant in
    reply_on g.D.Die.seen (opening_of opening_in c.args.desk.now.turn.now) (opening_of opening_in c.loop.desk.turn.now) (view c.args.desk.now.pass) (view c.loop.desk.pass) (view c.sync_step.new.desk.pass) c.args.lane c.args.request.now c.in_ok-count.count c.loop.stage c.in-Replied.numbered c.in_ok-step.step i.2.1 c.in-Replied.is i.4 c.in_ok-step.ensures.did

pub returns-in-Replied-clause-numbered : goal.returns-in-Replied-clause-numbered
returns-in-Replied-clause-numbered g c =
    let i = c.loop.invariant in
    λ n is. subst (λ z. IsNumbered z.value.last (calls_of (events_of (view c.sync_step.new.desk.pass).seen)) n.number (record { lane = c.args.lane; call = c.args.request.now.call; reply = n.reply })) i.2.1 (c.in_ok-step.ensures.numbered n (step_told c.in_ok-step.step c.in-Replied.numbered n c.in-Replied.is is))

pub loop-preserved-in-On : goal.loop-preserved-in-On
loop-preserved-in-On g c =
    let i = c.loop.invariant in
    let e = c.sync_step.ensures in (
      (tt, tt),
      e.free,
      (e.turn.0 ∙ i.2.0, e.turn.1 ∙ i.2.1),
      i.3,
      on_step g.D.Die.seen (opening_of opening_in c.args.desk.now.turn.now) (opening_of opening_in c.loop.desk.turn.now) (view c.args.desk.now.pass) (view c.loop.desk.pass) (view c.sync_step.new.desk.pass) c.args.lane c.args.request.now c.in_ok-count.count c.loop.stage c.in-On.next c.in_ok-step.step i.2.1 c.in-On.is i.4 c.in_ok-step.ensures.did,
    )

pub loop-preserved : goal.loop-preserved
loop-preserved g c =
    let i = c.loop.invariant in
    let e = c.sync_step.ensures in
    let p = c.pause.ensures in
    let o = (opening_of opening_in c.args.desk.now.turn.now) in (
      (tt, tt),
      p.free e.free,
      (p.turn.0 ∙ (e.turn.0 ∙ i.2.0), p.turn.1 ∙ (e.turn.1 ∙ i.2.1)),
      i.3,
      subst (λ (z : View (Snapshot (State g.row.D.Denot g.row.J.Denot)) Event). Does (view c.args.desk.now.pass) z (Going g.D.Die.seen o (view c.args.desk.now.pass) z c.args.lane c.args.request.now c.in_ok-count.count c.loop.stage)) (sym p.view)
          (waits_on g.D.Die.seen o (opening_of opening_in c.loop.desk.turn.now) (view c.args.desk.now.pass) (view c.loop.desk.pass) (view c.sync_step.new.desk.pass) c.args.lane c.args.request.now c.in_ok-count.count c.loop.stage c.in_ok-step.step i.2.1 c.in-Waits.is i.4 c.in_ok-step.ensures.did),
    )
