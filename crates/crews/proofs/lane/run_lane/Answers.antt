use Rattle.std.proofs.Common.{◌≡◌, [], ◌∷◌, List, refl, sym, subst, ◌∙◌}
use Rattle.std.specs.Prelude.{Ok, Err}
use Rattle.std.specs.declared.snapshot.Snapshot.{Snapshot}
use Rattle.core_state.specs.declared.actor.Actor.TheVariants.{Lane}
use Rattle.core_state.specs.declared.event.Event.{Event}
use Rattle.core_state.specs.declared.event.Event.TheVariants.{Enter}
use Rattle.core_state.specs.State.{Core}
use Rattle.core_state.specs.LaneEvents.{MayLeave}
use Rattle.core_state.specs.Happens.{HoldsNone}
use Rattle.system_state.specs.Cores.{core_of}
use Rattle.system_state.specs.declared.state.State.{State}
use Rattle.desk_turns.specs.Passing.{ActsFor, Does, core_seen}
use Rattle.desk_turns.proofs.Went.{went_turn}
use Rattle.page_steps.specs.Making.{IsFree}
use Rattle.page_steps.specs.Words.{IsSmall}
use Rattle.crews.specs.Seats.{view_at, opening_at}
use Rattle.crews.specs.Lanes.{CallsSay}
use Rattle.crews.proofs.LaneRuns.{enter_free, settled_by, acts_on, may_enter, may_leave, lane_ran, lane_unentered, lane_cut, lane_unleft}
use Rattle.crews.proofs.lane.run_lane.Goals as goal

pub turn_enter-requires-clause-may : goal.turn_enter-requires-clause-may
turn_enter-requires-clause-may g c = may_enter (core_seen (core_of g.D.Die.seen) (opening_at c.args.desk.now) (view_at c.args.desk.now)) c.args.lane c.requires.lane

pub run_calls-requires-clause-acts : goal.run_calls-requires-clause-acts
run_calls-requires-clause-acts g c κs within =
    let o = opening_at c.args.desk.now in
    let v = view_at c.args.desk.now in
    let u = view_at c.turn_enter.new.desk in
    let t = c.in_ok-turn_enter.ensures.did in
    subst (λ (z : Snapshot (State g.row.D.Denot g.row.J.Denot)). ActsFor (core_of g.D.Die.seen) z u (Lane c.args.lane)) (sym c.turn_enter.ensures.turn.1)
    (acts_on (core_of g.D.Die.seen) o.value.last o v u c.args.lane t.events (went_turn (core_of g.D.Die.seen) o v u (λ (d : Core) (es : List Event). es ≡ Enter c.args.lane ∷ []) t) c.requires.acts)

pub run_calls-requires-clause-lane : goal.run_calls-requires-clause-lane
run_calls-requires-clause-lane g c κs within =
    let o = opening_at c.args.desk.now in
    let u = view_at c.turn_enter.new.desk in
    subst (λ (z : Snapshot (State g.row.D.Denot g.row.J.Denot)). IsFree (core_seen (core_of g.D.Die.seen) z u) c.args.lane) (sym c.turn_enter.ensures.turn.1)
    (enter_free (core_of g.D.Die.seen) o.value.last o (view_at c.args.desk.now) u c.args.lane c.requires.acts c.requires.lane c.in_ok-turn_enter.ensures.did)

pub run_calls-requires-clause-small : goal.run_calls-requires-clause-small
run_calls-requires-clause-small g c κs within = subst (λ (z : Snapshot (State g.row.D.Denot g.row.J.Denot)). IsSmall z.value) (sym c.turn_enter.ensures.turn.1) c.requires.small

pub run_calls-requires-clause-settled : goal.run_calls-requires-clause-settled
run_calls-requires-clause-settled g c κs within = settled_by (core_of g.D.Die.seen) (opening_at c.args.desk.now).value.last (opening_at c.args.desk.now) (view_at c.args.desk.now) (view_at c.turn_enter.new.desk) c.args.lane c.in_ok-turn_enter.ensures.did

pub turn_leave-requires-clause-acts : goal.turn_leave-requires-clause-acts
turn_leave-requires-clause-acts g c =
    let o = opening_at c.args.desk.now in
    let v = view_at c.args.desk.now in
    let u = view_at c.turn_enter.new.desk in
    let w = view_at c.run_calls.new.desk in
    let t = c.in_ok-turn_enter.ensures.did in
    let p = c.in_ok-run_calls.ensures.did in
    subst (λ (z : Snapshot (State g.row.D.Denot g.row.J.Denot)). ActsFor (core_of g.D.Die.seen) z w (Lane c.args.lane)) (sym (c.run_calls.ensures.turn.1 ∙ c.turn_enter.ensures.turn.1))
    (acts_on (core_of g.D.Die.seen) o.value.last o u w c.args.lane p.events p.went
    (acts_on (core_of g.D.Die.seen) o.value.last o v u c.args.lane t.events (went_turn (core_of g.D.Die.seen) o v u (λ (d : Core) (es : List Event). es ≡ Enter c.args.lane ∷ []) t) c.requires.acts))

pub turn_leave-requires-clause-hands : goal.turn_leave-requires-clause-hands
turn_leave-requires-clause-hands g c =
    let w = view_at c.run_calls.new.desk in
    let p = c.in_ok-run_calls.ensures.did in
    subst (λ (z : Snapshot (State g.row.D.Denot g.row.J.Denot)). HoldsNone (core_seen (core_of g.D.Die.seen) z w) (Lane c.args.lane)) (sym c.run_calls.ensures.turn.1) p.says.after.none

pub turn_leave-requires-clause-may : goal.turn_leave-requires-clause-may
turn_leave-requires-clause-may g c =
    let w = view_at c.run_calls.new.desk in
    let q = opening_at c.turn_enter.new.desk in
    let p = c.in_ok-run_calls.ensures.did in
    subst (λ (z : Snapshot (State g.row.D.Denot g.row.J.Denot)). MayLeave (core_seen (core_of g.D.Die.seen) z w) c.args.lane) (sym c.run_calls.ensures.turn.1)
    (may_leave (core_seen (core_of g.D.Die.seen) q w) c.args.lane p.says.after)

pub returns-clause-did : goal.returns-clause-did
returns-clause-did g c =
    let o = opening_at c.args.desk.now in
    let log = c.run_calls.new.log.items in
    let u = view_at c.turn_enter.new.desk in
    let w = view_at c.run_calls.new.desk in
    lane_ran (core_of g.D.Die.seen) o.value.last o o (opening_at c.run_calls.new.desk) (view_at c.args.desk.now) u w (view_at c.turn_leave.new.desk) c.args.lane c.args.requests.now log
    refl (c.run_calls.ensures.turn.1 ∙ c.turn_enter.ensures.turn.1) c.requires.acts c.in_ok-turn_enter.ensures.did
    (subst (λ (z : Snapshot (State g.row.D.Denot g.row.J.Denot)). Does u w (CallsSay (core_of g.D.Die.seen) z.value.last z w.seen c.args.lane c.args.requests.now log (Ok tt))) c.turn_enter.ensures.turn.1 c.in_ok-run_calls.ensures.did)
    c.in_ok-turn_leave.ensures.did

pub returns-in_err-turn_enter-clause-did : goal.returns-in_err-turn_enter-clause-did
returns-in_err-turn_enter-clause-did g c =
    let o = opening_at c.args.desk.now in
    lane_unentered (core_of g.D.Die.seen) o.value.last o (view_at c.args.desk.now) (view_at c.turn_enter.new.desk) c.args.lane c.args.requests.now c.args.log.now.items c.from_residual.result c.from_residual.ensures.0 c.in_err-turn_enter.ensures.went

pub returns-in_err-run_calls-clause-did : goal.returns-in_err-run_calls-clause-did
returns-in_err-run_calls-clause-did g c =
    let o = opening_at c.args.desk.now in
    let log = c.run_calls.new.log.items in
    let u = view_at c.turn_enter.new.desk in
    let w = view_at c.run_calls.new.desk in
    lane_cut (core_of g.D.Die.seen) o.value.last o o (view_at c.args.desk.now) u w c.args.lane c.args.requests.now log log c.in_err-run_calls.field-0.0 c.from_residual-in_err-run_calls.result c.from_residual-in_err-run_calls.ensures.0
    refl c.in_ok-turn_enter.ensures.did
    (subst (λ (z : Snapshot (State g.row.D.Denot g.row.J.Denot)). Does u w (CallsSay (core_of g.D.Die.seen) z.value.last z w.seen c.args.lane c.args.requests.now log (Err c.in_err-run_calls.field-0.0))) c.turn_enter.ensures.turn.1 c.in_err-run_calls.ensures.did)

pub returns-in_err-turn_leave-clause-did : goal.returns-in_err-turn_leave-clause-did
returns-in_err-turn_leave-clause-did g c =
    let o = opening_at c.args.desk.now in
    let log = c.run_calls.new.log.items in
    let u = view_at c.turn_enter.new.desk in
    let w = view_at c.run_calls.new.desk in
    lane_unleft (core_of g.D.Die.seen) o.value.last o o (view_at c.args.desk.now) u w (view_at c.turn_leave.new.desk) c.args.lane c.args.requests.now log log c.from_residual-in_err-turn_leave.result c.from_residual-in_err-turn_leave.ensures.0
    refl c.in_ok-turn_enter.ensures.did
    (subst (λ (z : Snapshot (State g.row.D.Denot g.row.J.Denot)). Does u w (CallsSay (core_of g.D.Die.seen) z.value.last z w.seen c.args.lane c.args.requests.now log (Ok tt))) c.turn_enter.ensures.turn.1 c.in_ok-run_calls.ensures.did)
    c.in_err-turn_leave.ensures.went
