use Rattle.std.proofs.Common.{[], refl, sym, ◌∙◌, subst}
use Rattle.std.specs.declared.snapshot.Snapshot.{Snapshot}
use Rattle.turn_cell.specs.declared.view.View.{View}
use Rattle.turn_cell.specs.Events.{events_of}
use Rattle.turn_cell.specs.Passes.{opening_of, view}
use Rattle.turn_cell.specs.Steps.{SeesAllowed}
use Rattle.core_state.specs.Happens.{CoreRun, IsClosing}
use Rattle.core_state.specs.declared.event.Event.{Event}
use Rattle.system_state.specs.Cores.{core_of}
use Rattle.system_state.specs.declared.state.State.{State}
use Rattle.desk_turns.specs.Passing.{May, Went, core_seen}
use Rattle.desk_turns.proofs.Went.{went_on, went_none}
use Rattle.page_steps.specs.Books.{opening_in}
use Rattle.crew_runs.proofs.Endings.{closing_seen}
use Rattle.crew_runs.proofs.closing.wait_closing.Goals as goal

pub loop-init : goal.loop-init
loop-init g c = ((tt, tt), c.requires.free, (refl, refl), went_none (view c.args.desk.now.pass))

pub loop-preserved : goal.loop-preserved
loop-preserved g c =
    let i = c.loop.invariant in
    let e = c.look.ensures in
    let p = c.pause.ensures in (
      (tt, tt),
      p.free e.free,
      (p.turn.0 ∙ (e.turn.0 ∙ i.2.0), p.turn.1 ∙ (e.turn.1 ∙ i.2.1)),
      subst (λ (z : View (Snapshot (State g.row.D.Denot g.row.J.Denot)) Event). Went (view c.args.desk.now.pass) z []) (sym p.view)
          (went_on (view c.args.desk.now.pass) (view c.loop.desk.pass) (view c.look.new.desk.pass) [] [] i.3 e.went),
    )

pub returns-in_err-closes-clause-went : goal.returns-in_err-closes-clause-went
returns-in_err-closes-clause-went g c =
    let i = c.loop.invariant in
    went_on (view c.args.desk.now.pass) (view c.loop.desk.pass) (view c.look.new.desk.pass) [] [] i.3 c.look.ensures.went

pub returns-then-closes-clause-went : goal.returns-then-closes-clause-went
returns-then-closes-clause-went g c =
    let i = c.loop.invariant in
    went_on (view c.args.desk.now.pass) (view c.loop.desk.pass) (view c.look.new.desk.pass) [] [] i.3 c.look.ensures.went

pub returns-then-closes-clause-closing : goal.returns-then-closes-clause-closing
returns-then-closes-clause-closing g c =
    let i = c.loop.invariant in
    let e = c.in_ok-closes.ensures in
    let o = opening_of opening_in c.args.desk.now.turn.now in
    let w = view c.look.new.desk.pass in
    let core = core_of g.D.Die.seen in
    closing_seen g.D.Die.seen o (view c.args.desk.now.pass) w c.requires.first (went_on (view c.args.desk.now.pass) (view c.loop.desk.pass) w [] [] i.3 e.went) c.requires.untouched e.settled
    (subst (λ (z : Snapshot (State g.row.D.Denot g.row.J.Denot)). SeesAllowed (May core) z w) i.2.1 e.allowed)
    (subst (λ (z : Snapshot (State g.row.D.Denot g.row.J.Denot)). CoreRun (core z.value) (events_of w.seen) (core_seen core z w)) i.2.1 e.run)
    e.room
    (subst (λ (z : Snapshot (State g.row.D.Denot g.row.J.Denot)). IsClosing (core_seen core z w)) i.2.1 (e.closing c.if-closes.true))
