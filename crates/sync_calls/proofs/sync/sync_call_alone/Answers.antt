use Rattle.std.proofs.Common.{◌≡◌, ◌<◌, ◌∙◌, inl, sym, subst}
use Rattle.page_base.specs.Drive.{meta_pages}
use Rattle.turn_cell.specs.Events.{events_of}
use Rattle.turn_cell.specs.Desks.{view_alone, opening_alone}
use Rattle.core_state.specs.declared.actor.Actor.TheVariants.{Lane}
use Rattle.core_state.specs.History.{calls_of}
use Rattle.system_state.specs.Cores.{core_of}
use Rattle.desk_turns.specs.Passing.{ActsFor, core_seen}
use Rattle.quick_calls.specs.Books.{opening_in}
use Rattle.quick_calls.specs.Words.{IsNumbered, IsSmall}
use Rattle.quick_calls.proofs.Ending.{acts_after}
use Rattle.sync_calls.specs.Stages.{AtStage}
use Rattle.sync_calls.proofs.Looping.{going_none, on_step, reply_on, worn_on, worn_first, step_told, sync_left, on_falls, never_waits}
use Rattle.sync_calls.proofs.sync.sync_call_alone.Goals as goal

pub loop-step-init : goal.loop-step-init
loop-step-init g c = (c.turn_pages.ensures.free, (c.turn_pages.ensures.turn.0, c.turn_pages.ensures.turn.1), c.in_ok-count.ensures.count, going_none g.D.Die.seen (opening_alone opening_in c.args.alone.now) (view_alone c.args.alone.now) (view_alone c.turn_pages.new.desk) c.args.lane c.args.request.now c.in_ok-count.count (inl c.requires.free.2.0) c.requires.lane c.in_ok-count.ensures.did)

pub sync_step-requires-clause-acts : goal.sync_step-requires-clause-acts
sync_step-requires-clause-acts g c =
    let i = c.loop-step.invariant in
    subst (λ z. ActsFor (core_of g.D.Die.seen) z (view_alone c.loop-step.alone) (Lane c.args.lane)) (sym i.1.1) (acts_after g.D.Die.seen (opening_alone opening_in c.args.alone.now) (view_alone c.args.alone.now) (view_alone c.loop-step.alone) (Lane c.args.lane) i.3.events i.3.went (inl c.requires.free.2.0))

pub sync_step-requires-clause-at : goal.sync_step-requires-clause-at
sync_step-requires-clause-at g c =
    let i = c.loop-step.invariant in
    subst (λ z. AtStage (view_alone c.loop-step.alone).alone (core_seen (core_of g.D.Die.seen) z (view_alone c.loop-step.alone)) c.args.lane c.args.request.now c.in_ok-count.count c.loop-step.stage) (sym i.1.1) i.3.says.at

pub sync_step-requires-clause-count : goal.sync_step-requires-clause-count
sync_step-requires-clause-count g c =
    let i = c.loop-step.invariant in
    subst (λ z. c.in_ok-count.count ≡ meta_pages z.value.sizes.blocks) (sym i.1.1) i.2

pub sync_step-requires-clause-small : goal.sync_step-requires-clause-small
sync_step-requires-clause-small g c =
    let i = c.loop-step.invariant in
    subst (λ z. IsSmall z.value) (sym i.1.1) c.requires.small

pub returns-in_err-count-clause-did : goal.returns-in_err-count-clause-did
returns-in_err-count-clause-did g c = worn_first g.D.Die.seen (opening_alone opening_in c.args.alone.now) (view_alone c.args.alone.now) (view_alone c.turn_pages.new.desk) c.args.lane c.args.request.now c.from_residual.result c.from_residual.ensures.0 c.in_err-count.ensures.went

pub returns-in_err-step-clause-did : goal.returns-in_err-step-clause-did
returns-in_err-step-clause-did g c =
    let i = c.loop-step.invariant in
    worn_on g.D.Die.seen (opening_alone opening_in c.args.alone.now) (opening_alone opening_in c.loop-step.alone) (view_alone c.args.alone.now) (view_alone c.loop-step.alone) (view_alone c.sync_step.new.desk) c.args.lane c.args.request.now c.in_ok-count.count c.loop-step.stage c.in_err-step.field-0.0 c.from_residual-in_err-step.result i.1.1 c.from_residual-in_err-step.ensures.0 i.3 c.in_err-step.ensures.did

pub returns-in-Replied-clause-did : goal.returns-in-Replied-clause-did
returns-in-Replied-clause-did g c =
    let i = c.loop-step.invariant in
    reply_on g.D.Die.seen (opening_alone opening_in c.args.alone.now) (opening_alone opening_in c.loop-step.alone) (view_alone c.args.alone.now) (view_alone c.loop-step.alone) (view_alone c.sync_step.new.desk) c.args.lane c.args.request.now c.in_ok-count.count c.loop-step.stage c.in-Replied.numbered c.in_ok-step.step i.1.1 c.in-Replied.is i.3 c.in_ok-step.ensures.did

pub returns-in-Replied-clause-numbered : goal.returns-in-Replied-clause-numbered
returns-in-Replied-clause-numbered g c =
    let i = c.loop-step.invariant in
    λ n is. subst (λ z. IsNumbered z.value.last (calls_of (events_of (view_alone c.sync_step.new.desk).seen)) n.number (record { lane = c.args.lane; call = c.args.request.now.call; reply = n.reply })) i.1.1 (c.in_ok-step.ensures.numbered n (step_told c.in_ok-step.step c.in-Replied.numbered n c.in-Replied.is is))

pub loop-step-preserved : goal.loop-step-preserved
loop-step-preserved g c =
    let i = c.loop-step.invariant in
    let e = c.sync_step.ensures in (
      e.free,
      (e.turn.0 ∙ i.1.0, e.turn.1 ∙ i.1.1),
      i.2,
      on_step g.D.Die.seen (opening_alone opening_in c.args.alone.now) (opening_alone opening_in c.loop-step.alone) (view_alone c.args.alone.now) (view_alone c.loop-step.alone) (view_alone c.sync_step.new.desk) c.args.lane c.args.request.now c.in_ok-count.count c.loop-step.stage c.in-On.next c.in_ok-step.step i.1.1 c.in-On.is i.3 c.in_ok-step.ensures.did,
    )

pub loop-step-smaller : goal.loop-step-smaller
loop-step-smaller g c =
    let i = c.loop-step.invariant in
    let e = c.sync_step.ensures in
    let o = (opening_alone opening_in c.args.alone.now) in
    let q = (opening_alone opening_in c.loop-step.alone) in
    let l = on_falls g.D.Die.seen o q (view_alone c.args.alone.now) (view_alone c.loop-step.alone) (view_alone c.sync_step.new.desk) c.args.lane c.args.request.now c.in_ok-count.count c.loop-step.stage c.in-On.next c.in_ok-step.step i.1.1 c.in-On.is c.requires.free.2.0 c.requires.alone i.3 c.in_ok-step.ensures.did in
    subst (λ z. sync_left (core_seen (core_of g.D.Die.seen) z (view_alone c.sync_step.new.desk)) c.args.lane c.in-On.next < sync_left (core_seen (core_of g.D.Die.seen) q (view_alone c.loop-step.alone)) c.args.lane c.loop-step.stage) (sym (e.turn.1 ∙ i.1.1))
    (subst (λ z. sync_left (core_seen (core_of g.D.Die.seen) o (view_alone c.sync_step.new.desk)) c.args.lane c.in-On.next < sync_left (core_seen (core_of g.D.Die.seen) z (view_alone c.loop-step.alone)) c.args.lane c.loop-step.stage) (sym i.1.1) l)

pub unreachable-requires : goal.unreachable-requires
unreachable-requires g c =
    let i = c.loop-step.invariant in
    never_waits g.D.Die.seen (opening_alone opening_in c.args.alone.now) (opening_alone opening_in c.loop-step.alone) (view_alone c.args.alone.now) (view_alone c.loop-step.alone) (view_alone c.sync_step.new.desk) c.args.lane c.args.request.now c.in_ok-count.count c.loop-step.stage c.in_ok-step.step i.1.1 c.in-Waits.is c.requires.free.2.0 c.requires.alone i.3 c.in_ok-step.ensures.did
