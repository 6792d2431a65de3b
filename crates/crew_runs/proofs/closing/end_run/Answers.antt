use Rattle.std.proofs.Common.{◌≤◌, ◌^◌, inr, sym, ap, ◌∙◌, subst}
use Rattle.std.specs.declared.snapshot.Snapshot.{Snapshot}
use Rattle.turn_cell.specs.declared.view.View.{View}
use Rattle.turn_cell.specs.Passes.{opening_of, view}
use Rattle.core_closing.specs.Kept.{MaySettle}
use Rattle.core_state.specs.declared.event.Event.{Event}
use Rattle.system_state.specs.Cores.{core_of}
use Rattle.system_state.specs.declared.state.State.{State}
use Rattle.desk_turns.specs.Passing.{core_seen}
use Rattle.page_steps.specs.Books.{opening_in}
use Rattle.crew_runs.proofs.Endings.{worn_waiting, unasked, settled_on}
use Rattle.crew_runs.proofs.closing.end_run.Goals as goal

pub settle-requires-clause-acts : goal.settle-requires-clause-acts
settle-requires-clause-acts g c = inr (ap (λ (z : View (Snapshot (State g.row.D.Denot g.row.J.Denot)) Event). z.number) c.wait_closing.ensures.went.pass ∙ c.requires.first.number)

pub settle-requires-clause-may : goal.settle-requires-clause-may
settle-requires-clause-may g c =
    let e = c.in_ok-wait_closing.ensures in
    subst (λ (z : Snapshot (State g.row.D.Denot g.row.J.Denot)). MaySettle (core_seen (core_of g.D.Die.seen) z (view c.wait_closing.new.desk.pass))) (sym e.turn.1) e.closing.ready

pub settle-requires-clause-small : goal.settle-requires-clause-small
settle-requires-clause-small g c = subst (λ (z : Snapshot (State g.row.D.Denot g.row.J.Denot)). z.value.places.writes ≤ 2 ^ 62) (sym c.wait_closing.ensures.turn.1) c.requires.small.writes

pub returns-in_err-wait_closing-clause-did : goal.returns-in_err-wait_closing-clause-did
returns-in_err-wait_closing-clause-did g c =
    worn_waiting g.D.Die.seen (opening_of opening_in c.args.desk.now.turn.now) (view c.args.desk.now.pass) (view c.wait_closing.new.desk.pass) c.args.settles c.from_residual.result c.from_residual.ensures.0 c.wait_closing.ensures.went

pub returns-then-settles-clause-did : goal.returns-then-settles-clause-did
returns-then-settles-clause-did g c =
    let e = c.in_ok-wait_closing.ensures in
    settled_on g.D.Die.seen (opening_of opening_in c.args.desk.now.turn.now) (opening_of opening_in c.wait_closing.new.desk.turn.now) (view c.args.desk.now.pass) (view c.wait_closing.new.desk.pass) (view c.settle.new.desk.pass) c.args.settles c.settle.result e.turn.1 c.if-settles.true
    c.requires.untouched e.went e.closing c.settle.ensures.did

pub returns-clause-did : goal.returns-clause-did
returns-clause-did g c =
    let e = c.in_ok-wait_closing.ensures in
    unasked g.D.Die.seen (opening_of opening_in c.args.desk.now.turn.now) (view c.args.desk.now.pass) (view c.wait_closing.new.desk.pass) c.args.settles c.if-settles.false e.went e.closing
