use Rattle.std.proofs.Common.{◌∙◌, refl, sym, subst}
use Rattle.std.specs.declared.snapshot.Snapshot.{Snapshot}
use Rattle.turn_cell.specs.declared.view.View.{View}
use Rattle.turn_cell.specs.Passes.{opening_of, view}
use Rattle.core_state.specs.declared.actor.Actor.TheVariants.{Lane}
use Rattle.core_state.specs.declared.event.Event.{Event}
use Rattle.system_state.specs.Cores.{core_of}
use Rattle.system_state.specs.declared.state.State.{State}
use Rattle.desk_turns.specs.Passing.{ActsFor, core_seen}
use Rattle.call_job.specs.declared.job.Job.{Job}
use Rattle.call_finishes.specs.Books.{opening_in}
use Rattle.call_finishes.specs.Words.{IsSmall}
use Rattle.call_finishes.specs.Gathering.{call_at}
use Rattle.lambda_finishes.proofs.Asking.{Waits, waits_none, out_there, waits_on, waits_done, waits_worn, number_there, some_told}
use Rattle.lambda_finishes.proofs.waiting.collect.Goals as goal

pub loop-init : goal.loop-init
loop-init g c = ((tt, tt), c.requires.free, (refl, refl), waits_none g.D.Die.seen (opening_of opening_in c.args.desk.now.turn.now) (view c.args.desk.now.pass) c.args.lane c.requires.out)

pub ask-requires-clause-acts : goal.ask-requires-clause-acts
ask-requires-clause-acts g c =
    let i = c.loop.invariant in
    subst (λ z. ActsFor (core_of g.D.Die.seen) z (view c.loop.desk.pass) (Lane c.args.lane)) (sym i.2.1)
    (subst (λ (z : View (Snapshot (State g.row.D.Denot Job)) Event). ActsFor (core_of g.D.Die.seen) (opening_of opening_in c.args.desk.now.turn.now) z (Lane c.args.lane)) (sym i.3.went.pass) c.requires.acts)

pub ask-requires-clause-out : goal.ask-requires-clause-out
ask-requires-clause-out g c =
    let i = c.loop.invariant in
    let o = opening_of opening_in c.args.desk.now.turn.now in
    let v = view c.args.desk.now.pass in
    out_there g.D.Die.seen o (opening_of opening_in c.loop.desk.turn.now) v (view c.loop.desk.pass) c.args.lane (call_at (core_seen (core_of g.D.Die.seen) o v) c.args.lane).claim.request i.2.1 i.3

pub ask-requires-clause-small : goal.ask-requires-clause-small
ask-requires-clause-small g c = subst (λ z. IsSmall z.value) (sym c.loop.invariant.2.1) c.requires.small

pub returns-in_err-asked-clause-did : goal.returns-in_err-asked-clause-did
returns-in_err-asked-clause-did g c =
    let i = c.loop.invariant in
    let o = opening_of opening_in c.args.desk.now.turn.now in
    let v = view c.args.desk.now.pass in
    waits_worn g.D.Die.seen o (opening_of opening_in c.loop.desk.turn.now) v (view c.loop.desk.pass) (view c.ask.new.desk.pass) c.args.lane (call_at (core_seen (core_of g.D.Die.seen) o v) c.args.lane).claim.request c.in_err-asked.field-0.0 c.from_residual.result i.2.1 c.from_residual.ensures.0 i.3 c.in_err-asked.ensures.did

pub returns-in-Some-asked-clause-did : goal.returns-in-Some-asked-clause-did
returns-in-Some-asked-clause-did g c =
    let i = c.loop.invariant in
    let o = opening_of opening_in c.args.desk.now.turn.now in
    let v = view c.args.desk.now.pass in
    waits_done g.D.Die.seen o (opening_of opening_in c.loop.desk.turn.now) v (view c.loop.desk.pass) (view c.ask.new.desk.pass) c.args.lane (call_at (core_seen (core_of g.D.Die.seen) o v) c.args.lane).claim.request c.in_ok-asked.asked c.in-Some-asked.numbered i.2.1 c.in-Some-asked.is i.3 c.in_ok-asked.ensures.did

pub loop-preserved : goal.loop-preserved
loop-preserved g c =
    let i = c.loop.invariant in
    let e = c.ask.ensures in
    let p = c.pause.ensures in
    let o = opening_of opening_in c.args.desk.now.turn.now in
    let v = view c.args.desk.now.pass in
    let request = (call_at (core_seen (core_of g.D.Die.seen) o v) c.args.lane).claim.request in (
      (tt, tt),
      p.free e.free,
      (p.turn.0 ∙ (e.turn.0 ∙ i.2.0), p.turn.1 ∙ (e.turn.1 ∙ i.2.1)),
      subst (λ (z : View (Snapshot (State g.row.D.Denot Job)) Event). Waits g.D.Die.seen o v z c.args.lane request) (sym p.view)
          (waits_on g.D.Die.seen o (opening_of opening_in c.loop.desk.turn.now) v (view c.loop.desk.pass) (view c.ask.new.desk.pass) c.args.lane request c.in_ok-asked.asked i.2.1 c.in-None-asked.is i.3 c.in_ok-asked.ensures.did),
    )

pub returns-in-Some-asked-clause-numbered : goal.returns-in-Some-asked-clause-numbered
returns-in-Some-asked-clause-numbered g c = λ n is.
    let i = c.loop.invariant in
    let o = opening_of opening_in c.args.desk.now.turn.now in
    let v = view c.args.desk.now.pass in
    number_there g.D.Die.seen o (opening_of opening_in c.loop.desk.turn.now) v (view c.loop.desk.pass) (view c.ask.new.desk.pass) c.args.lane (call_at (core_seen (core_of g.D.Die.seen) o v) c.args.lane).claim.request n i.2.1 i.3
    (c.in_ok-asked.ensures.numbered n (some_told c.in_ok-asked.asked c.in-Some-asked.numbered n c.in-Some-asked.is is))
