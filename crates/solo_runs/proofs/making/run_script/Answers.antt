use Rattle.std.proofs.Common.{◌≡◌, List, [], length, sym, ◌∙◌, subst}
use Rattle.std.specs.Prelude.{Err}
use Rattle.turn_cell.specs.Desks.{view_alone, opening_alone}
use Rattle.system_state.specs.Cores.{core_of}
use Rattle.desk_turns.specs.Passing.{core_seen, Does}
use Rattle.settling.specs.Books.{opening_in}
use Rattle.settling.specs.Words.{IsSmall}
use Rattle.solo_lanes.specs.Lanes.{MayAllLeave, HaveLeft, LeaveSays}
use Rattle.plain_files.specs.History.{Entry}
use Rattle.lane_logs.specs.Logs.{AreLogs}
use Rattle.solo_runs.specs.Lines.{script_of, IsBetween, HaveMade}
use Rattle.solo_runs.proofs.Lining.{requests_long}
use Rattle.solo_runs.proofs.Running.{unentered, first_between, none_yet, may_leave, script_run, worn_entering, worn_in_lines, worn_leaving, left_calls}
use Rattle.solo_runs.proofs.making.run_script.Goals as goal

pub enter_all-requires-clause-lanes : goal.enter_all-requires-clause-lanes
enter_all-requires-clause-lanes g c = c.len-lanes.ensures ∙ (requests_long c.args.script.now ∙ c.requires.may.wide)

pub enter_all-requires-clause-outside : goal.enter_all-requires-clause-outside
enter_all-requires-clause-outside g c = unentered (script_of c.args.script.now) (core_seen (core_of g.D.Die.seen) (opening_alone opening_in c.args.alone.now) (view_alone c.args.alone.now)) c.requires.may

pub run_lines-requires-clause-small : goal.run_lines-requires-clause-small
run_lines-requires-clause-small g c = subst (λ z. IsSmall z.value) (sym c.enter_all.ensures.turn.1) c.requires.small

pub run_lines-requires-clause-between : goal.run_lines-requires-clause-between
run_lines-requires-clause-between g c =
    subst (λ z. IsBetween (script_of c.args.script.now) [] (core_seen (core_of g.D.Die.seen) z (view_alone c.enter_all.new.alone))) (sym c.enter_all.ensures.turn.1)
    (first_between g.D.Die.seen (opening_alone opening_in c.args.alone.now) (view_alone c.args.alone.now) (view_alone c.enter_all.new.alone) (script_of c.args.script.now) c.len-lanes.result c.requires.may c.in_ok-enter_all.ensures.did)

pub run_lines-requires-clause-none : goal.run_lines-requires-clause-none
run_lines-requires-clause-none g c = none_yet g.D.Die.seen (opening_alone opening_in c.args.alone.now) (view_alone c.args.alone.now) (view_alone c.enter_all.new.alone) c.len-lanes.result c.requires.free.2.0 c.requires.none c.in_ok-enter_all.ensures.did

pub leave_all-requires-clause-lanes : goal.leave_all-requires-clause-lanes
leave_all-requires-clause-lanes g c =
    let u = view_alone c.enter_all.new.alone in
    let x = view_alone c.run_lines.new.alone in
    let p = c.in_ok-run_lines.ensures.did in
    subst (λ z. c.len-lanes.result ≡ (core_seen (core_of g.D.Die.seen) z x).shape.lanes) (sym c.run_lines.ensures.turn.1)
    (c.len-lanes.ensures ∙ (requests_long c.args.script.now ∙ p.says.between.wide))

pub leave_all-requires-clause-may : goal.leave_all-requires-clause-may
leave_all-requires-clause-may g c =
    let x = view_alone c.run_lines.new.alone in
    let q = opening_alone opening_in c.enter_all.new.alone in
    let p = c.in_ok-run_lines.ensures.did in
    subst (λ z. MayAllLeave (core_seen (core_of g.D.Die.seen) z x)) (sym c.run_lines.ensures.turn.1)
    (may_leave g.D.Die.seen (script_of c.args.script.now) q x p.says.between)

pub returns-in_err-enter_all-clause-did : goal.returns-in_err-enter_all-clause-did
returns-in_err-enter_all-clause-did g c =
    worn_entering g.D.Die.seen (opening_alone opening_in c.args.alone.now) (view_alone c.args.alone.now) (view_alone c.enter_all.new.alone) (script_of c.args.script.now) c.len-lanes.result c.in_err-enter_all.field-0.0 c.from_residual.result c.from_residual.ensures.0 (c.len-lanes.ensures ∙ requests_long c.args.script.now) c.in_err-enter_all.ensures.did

pub returns-in_err-run_lines-clause-did : goal.returns-in_err-run_lines-clause-did
returns-in_err-run_lines-clause-did g c =
    let o = opening_alone opening_in c.args.alone.now in
    let v = view_alone c.args.alone.now in
    let u = view_alone c.enter_all.new.alone in
    let x = view_alone c.run_lines.new.alone in
    let s = script_of c.args.script.now in
    let e = c.in_err-run_lines.field-0.0 in
    worn_in_lines g.D.Die.seen o v u x s c.len-lanes.result e c.from_residual-in_err-run_lines.result c.from_residual-in_err-run_lines.ensures.0 (c.len-lanes.ensures ∙ requests_long c.args.script.now) c.in_ok-enter_all.ensures.did c.in_err-run_lines.ensures.did

pub returns-in_err-leave_all-clause-did : goal.returns-in_err-leave_all-clause-did
returns-in_err-leave_all-clause-did g c =
    let o = opening_alone opening_in c.args.alone.now in
    let v = view_alone c.args.alone.now in
    let u = view_alone c.enter_all.new.alone in
    let x = view_alone c.run_lines.new.alone in
    let w = view_alone c.leave_all.new.alone in
    let s = script_of c.args.script.now in
    let number = c.len-lanes.ensures ∙ requests_long c.args.script.now in
    let first = first_between g.D.Die.seen o v u s c.len-lanes.result c.requires.may c.in_ok-enter_all.ensures.did in
    let made = subst (λ z. Does u x (HaveMade g.D.Die.seen z u x s s.order)) c.enter_all.ensures.turn.1 c.in_ok-run_lines.ensures.did in
    let left = subst (λ z. Does x w (LeaveSays g.D.Die.seen z x w c.len-lanes.result (Err c.in_err-leave_all.field-0.0))) (c.run_lines.ensures.turn.1 ∙ c.enter_all.ensures.turn.1) c.in_err-leave_all.ensures.did in
    worn_leaving g.D.Die.seen o v u x w s c.len-lanes.result c.in_err-leave_all.field-0.0 c.from_residual-in_err-leave_all.result c.from_residual-in_err-leave_all.ensures.0 number first c.in_ok-enter_all.ensures.did made left

pub returns-clause-did : goal.returns-clause-did
returns-clause-did g c =
    let o = opening_alone opening_in c.args.alone.now in
    let v = view_alone c.args.alone.now in
    let u = view_alone c.enter_all.new.alone in
    let x = view_alone c.run_lines.new.alone in
    let w = view_alone c.leave_all.new.alone in
    let s = script_of c.args.script.now in
    let number = c.len-lanes.ensures ∙ requests_long c.args.script.now in
    let made = subst (λ z. Does u x (HaveMade g.D.Die.seen z u x s s.order)) c.enter_all.ensures.turn.1 c.in_ok-run_lines.ensures.did in
    let left = subst (λ z. Does x w (HaveLeft g.D.Die.seen z x w c.len-lanes.result)) (c.run_lines.ensures.turn.1 ∙ c.enter_all.ensures.turn.1) c.in_ok-leave_all.ensures.did in
    script_run g.D.Die.seen o v u x w s c.len-lanes.result number c.requires.may c.in_ok-enter_all.ensures.did made left

pub returns-clause-logs : goal.returns-clause-logs
returns-clause-logs g c =
    let x = view_alone c.run_lines.new.alone in
    let w = view_alone c.leave_all.new.alone in
    subst (λ (xs : List Entry). AreLogs (length c.args.script.now.lanes) c.args.last xs c.run_lines.new.logs.items)
    (sym (left_calls g.D.Die.seen (opening_alone opening_in c.run_lines.new.alone) x w c.len-lanes.result c.run_lines.ensures.free.2.0 c.in_ok-leave_all.ensures.did)) c.in_ok-run_lines.ensures.logs
