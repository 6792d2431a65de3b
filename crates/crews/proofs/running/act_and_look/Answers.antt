use Rattle.std.proofs.Common.{sym, subst}
use Rattle.std.specs.declared.snapshot.Snapshot.{Snapshot}
use Rattle.turn_cell.specs.declared.view.View.{View}
use Rattle.core_state.specs.declared.event.Event.{Event}
use Rattle.system_state.specs.Cores.{core_of}
use Rattle.system_state.specs.declared.state.State.{State}
use Rattle.desk_turns.specs.Passing.{ActsFor, IsItsOwn, core_seen}
use Rattle.page_steps.specs.Words.{StillHolds}
use Rattle.crews.specs.Seats.{view_at, opening_at}
use Rattle.crews.proofs.PostRuns.{worked, unworked}
use Rattle.crews.proofs.running.act_and_look.Goals as goal

pub returns-clause-did : goal.returns-clause-did
returns-clause-did g c =
    let core = core_of g.D.Die.seen in
    let o = opening_at c.args.desk.now in
    let v = view_at c.args.desk.now in
    let w = view_at c.act.new.desk in
    let u = view_at c.look.new.desk in
    let a = c.args.post.now.actor in
    let d = c.in-Ok.ensures.did in
    worked core o.value.last o v w u a c.args.post.now.requests.items c.act.new.post.log.items c.requires.made d c.look.ensures.went c.look.ensures.settled
    (λ own. (subst (λ (z : Snapshot (State g.row.D.Denot g.row.J.Denot)). ActsFor core z w a → IsItsOwn (core_seen core z w) a → StillHolds core z w u a) c.act.ensures.turn.1 (c.look.ensures.kept a))
    (subst (λ (z : View (Snapshot (State g.row.D.Denot g.row.J.Denot)) Event). ActsFor core o z a) (sym d.went.pass) c.requires.acts) own)

pub returns-in-Err-clause-did : goal.returns-in-Err-clause-did
returns-in-Err-clause-did g c =
    let o = opening_at c.args.desk.now in
    unworked (core_of g.D.Die.seen) o.value.last o (view_at c.args.desk.now) (view_at c.act.new.desk) c.args.post.now.actor c.args.post.now.requests.items c.act.new.post.log.items c.in-Err.field-0 c.requires.first c.in-Err.ensures.worn.1 c.in-Err.ensures.did
