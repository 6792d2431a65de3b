use Rattle.std.proofs.Common.{◌≡◌, ◌+◌, ◌<◌, ◌++◌, ◌∷◌, [], length, refl, sym, ap, ◌∙◌, subst, arith, length-append}
use Rattle.std.specs.Prelude.{take, drop}
use Rattle.std.proofs.lemmas.List.{take_all, take_more, take-append-drop}
use Rattle.std.specs.declared.snapshot.Snapshot.{Snapshot}
use Rattle.core_state.specs.declared.actor.Actor.TheVariants.{Lane}
use Rattle.system_state.specs.Cores.{core_of}
use Rattle.system_state.specs.declared.state.State.{State}
use Rattle.desk_turns.specs.Passing.{ActsFor, core_seen}
use Rattle.page_steps.specs.Making.{IsFree}
use Rattle.page_steps.specs.Words.{IsSmall}
use Rattle.crews.specs.Seats.{view_at, opening_at}
use Rattle.crews.proofs.LaneRuns.{Called, called_none, called_on, calls_end, calls_worn, acts_on, numbered_at}
use Rattle.crews.proofs.lane.run_calls.Goals as goal

pub loop-request-init : goal.loop-request-init
loop-request-init g c =
    let o = opening_at c.args.desk.now in (
      c.requires.free,
      (refl, refl),
      called_none (core_of g.D.Die.seen) o.value.last o (view_at c.args.desk.now) c.args.lane c.args.log.now.items c.requires.lane c.requires.empty,
      (ap length c.requires.empty, omega arith),
      refl,
    )

pub call-requires-clause-acts : goal.call-requires-clause-acts
call-requires-clause-acts g c =
    let i = c.loop-request.invariant in
    let o = opening_at c.args.desk.now in
    subst (λ (z : Snapshot (State g.row.D.Denot g.row.J.Denot)). ActsFor (core_of g.D.Die.seen) z (view_at c.loop-request.desk) (Lane c.args.lane)) (sym i.1.1)
    (acts_on (core_of g.D.Die.seen) o.value.last o (view_at c.args.desk.now) (view_at c.loop-request.desk) c.args.lane i.2.events i.2.went c.requires.acts)

pub call-requires-clause-lane : goal.call-requires-clause-lane
call-requires-clause-lane g c =
    let i = c.loop-request.invariant in
    subst (λ (z : Snapshot (State g.row.D.Denot g.row.J.Denot)). IsFree (core_seen (core_of g.D.Die.seen) z (view_at c.loop-request.desk)) c.args.lane) (sym i.1.1) i.2.says.after

pub call-requires-clause-small : goal.call-requires-clause-small
call-requires-clause-small g c = subst (λ (z : Snapshot (State g.row.D.Denot g.row.J.Denot)). IsSmall z.value) (sym c.loop-request.invariant.1.1) c.requires.small

pub returns-clause-did : goal.returns-clause-did
returns-clause-did g c =
    let i = c.loop-request.invariant in
    let o = opening_at c.args.desk.now in
    calls_end (core_of g.D.Die.seen) o.value.last o (view_at c.args.desk.now) (view_at c.loop-request.desk) c.args.lane (take c.loop-request.request-index c.args.requests.now) c.args.requests.now c.loop-request.log.items
    (take_all c.loop-request.request-index c.args.requests.now (omega arith)) i.2

pub returns-in_err-numbered-clause-did : goal.returns-in_err-numbered-clause-did
returns-in_err-numbered-clause-did g c =
    let i = c.loop-request.invariant in
    let o = opening_at c.args.desk.now in
    let k = c.loop-request.request-index in
    calls_worn (core_of g.D.Die.seen) o.value.last o (opening_at c.loop-request.desk) (view_at c.args.desk.now) (view_at c.loop-request.desk) (view_at c.call.new.desk) c.args.lane (take k c.args.requests.now) (drop k c.args.requests.now) c.args.requests.now c.request-item.result
    c.loop-request.log.items c.loop-request.log.items c.in_err-numbered.field-0.0 c.from_residual.result c.from_residual.ensures.0 i.1.1 (sym (take-append-drop k c.args.requests.now)) i.2 c.in_err-numbered.ensures.did

pub loop-request-preserved : goal.loop-request-preserved
loop-request-preserved g c =
    let i = c.loop-request.invariant in
    let e = c.in_ok-numbered.ensures in
    let o = opening_at c.args.desk.now in
    let q = opening_at c.loop-request.desk in
    let k = c.loop-request.request-index in
    let w = view_at c.call.new.desk in
    let n = c.in_ok-numbered.numbered in
    let request = c.request-item.result in
    let log = c.loop-request.log.items in
    let low : k < length c.args.requests.now = c.loop-request-test.true in
    let grown : take (k + 1) c.args.requests.now ≡ take k c.args.requests.now ++ request ∷ [] = take_more c.args.requests.now k request low ∙ ap (λ z. take k c.args.requests.now ++ z ∷ []) (sym c.request-item.is) in
    let number = numbered_at g.D.Die.seen o q c.args.lane request w n i.1.1 (e.numbered n refl) in
    let long = length-append log (n ∷ []) in (
      e.free,
      (e.turn.0 ∙ i.1.0, e.turn.1 ∙ i.1.1),
      subst (λ z. Called (core_of g.D.Die.seen) o.value.last o (view_at c.args.desk.now) w c.args.lane z c.note.new.log.items) (sym grown)
          (called_on (core_of g.D.Die.seen) o.value.last o q (view_at c.args.desk.now) (view_at c.loop-request.desk) w c.args.lane (take k c.args.requests.now) request log c.note.new.log.items n i.1.1 c.requires.settled i.2 e.did number c.note.ensures.log),
      (ap length c.note.ensures.log ∙ (long ∙ ap (λ z. z + 1) i.3.0), omega (arith, c.note.ensures.room, i.3.1)),
      ap (λ z. z + 1) i.4,
    )
