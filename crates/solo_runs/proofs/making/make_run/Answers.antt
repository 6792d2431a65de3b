use Rattle.std.proofs.Common.{◌≤◌, ◌^◌, List, length, sym, subst}
use Rattle.turn_cell.specs.Desks.{view_alone, opening_alone}
use Rattle.system_state.specs.Cores.{core_of}
use Rattle.desk_turns.specs.Passing.{core_seen}
use Rattle.core_closing.specs.Kept.{MaySettle}
use Rattle.settling.specs.Books.{opening_in}
use Rattle.solo_lanes.specs.Lanes.{AreHome}
use Rattle.plain_files.specs.History.{Entry}
use Rattle.lane_logs.specs.Logs.{AreLogs}
use Rattle.solo_runs.specs.Lines.{script_of}
use Rattle.solo_runs.proofs.Running.{run_unasked, settle_says, run_worn, settle_calls}
use Rattle.solo_runs.proofs.making.make_run.Goals as goal

pub settle_alone-requires-clause-may : goal.settle_alone-requires-clause-may
settle_alone-requires-clause-may g c = subst (λ z. MaySettle (core_seen (core_of g.D.Die.seen) z (view_alone c.run_script.new.alone))) (sym c.run_script.ensures.turn.1) c.in_ok-run_script.ensures.did.says.ready

pub settle_alone-requires-clause-home : goal.settle_alone-requires-clause-home
settle_alone-requires-clause-home g c = subst (λ z. AreHome (core_seen (core_of g.D.Die.seen) z (view_alone c.run_script.new.alone))) (sym c.run_script.ensures.turn.1) c.in_ok-run_script.ensures.did.says.home

pub settle_alone-requires-clause-small : goal.settle_alone-requires-clause-small
settle_alone-requires-clause-small g c = subst (λ z. z.value.places.writes ≤ 2 ^ 62) (sym c.run_script.ensures.turn.1) c.requires.small.writes

pub returns-in_err-run_script-clause-did : goal.returns-in_err-run_script-clause-did
returns-in_err-run_script-clause-did g c =
    run_worn g.D.Die.seen (opening_alone opening_in c.args.alone.now) (view_alone c.args.alone.now) (view_alone c.run_script.new.alone) (script_of c.args.script.now) c.args.settles c.in_err-run_script.field-0.0 c.from_residual.result c.from_residual.ensures.0 c.in_err-run_script.ensures.did

pub returns-then-settles-clause-did : goal.returns-then-settles-clause-did
returns-then-settles-clause-did g c =
    settle_says g.D.Die.seen (opening_alone opening_in c.args.alone.now) (opening_alone opening_in c.run_script.new.alone) (view_alone c.args.alone.now) (view_alone c.run_script.new.alone) (view_alone c.settle_alone.new.alone) (script_of c.args.script.now) c.args.settles c.settle_alone.result c.run_script.ensures.turn.1 c.if-settles.true c.requires.free.2.0 c.requires.none c.requires.may c.in_ok-run_script.ensures.did c.settle_alone.ensures.did c.settle_alone.ensures.home

pub returns-clause-did : goal.returns-clause-did
returns-clause-did g c =
    run_unasked g.D.Die.seen (opening_alone opening_in c.args.alone.now) (view_alone c.args.alone.now) (view_alone c.run_script.new.alone) (script_of c.args.script.now) c.args.settles c.if-settles.false c.requires.free.2.0 c.requires.none c.in_ok-run_script.ensures.did

pub returns-then-settles-clause-logs : goal.returns-then-settles-clause-logs
returns-then-settles-clause-logs g c =
    settle_calls g.D.Die.seen (opening_alone opening_in c.run_script.new.alone) (view_alone c.run_script.new.alone) (view_alone c.settle_alone.new.alone) c.settle_alone.result
    (λ (xs : List Entry). AreLogs (length c.args.script.now.lanes) c.args.last xs c.run_script.new.logs.items) c.run_script.ensures.free.2.0 c.settle_alone.ensures.did c.in_ok-run_script.ensures.logs
