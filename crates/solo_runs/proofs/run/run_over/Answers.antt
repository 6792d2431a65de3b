use Rattle.std.proofs.Common.{List, [], length, sym, ap, subst}
use Rattle.turn_cell.specs.Desks.{view_alone, opening_alone}
use Rattle.turn_cell.specs.Passes.{view}
use Rattle.core_state.specs.State.{Core}
use Rattle.settling.specs.Books.{opening_in}
use Rattle.settling.specs.Words.{IsSmall}
use Rattle.script_words.specs.declared.script.Lane.{Lane}
use Rattle.script_words.specs.Lanes.{requests_by_lane}
use Rattle.lane_logs.specs.Logs.{AreLogs, HaveRoom}
use Rattle.solo_runs.specs.Lines.{script_of}
use Rattle.solo_runs.specs.Run.{MayRun}
use Rattle.solo_runs.proofs.Whole.{begins, over}
use Rattle.solo_runs.proofs.run.run_over.Goals as goal

pub run_whole-settled-requires-clause-small : goal.run_whole-settled-requires-clause-small
run_whole-settled-requires-clause-small g c =
    subst (λ z. IsSmall z.value) (sym c.in_ok-alone.ensures.opening) c.requires.small

pub run_whole-settled-requires-clause-may : goal.run_whole-settled-requires-clause-may
run_whole-settled-requires-clause-may g c =
    let first = c.in_ok-alone.ensures.view in
    subst (λ (k : Core). MayRun (script_of c.args.script.now) k) (sym (begins g.D.Die.seen c.args.system.state (opening_alone opening_in c.in_ok-alone.alone) (view_alone c.in_ok-alone.alone) c.in_ok-alone.ensures.opening (ap (λ z. z.seen) first))) c.requires.may

pub run_whole-settled-requires-clause-logs : goal.run_whole-settled-requires-clause-logs
run_whole-settled-requires-clause-logs g c = subst (λ (xs : List Lane). AreLogs (length xs) c.args.system.state.last [] c.in_ok-logs.logs.items) c.as_slice.ensures (c.in_ok-logs.ensures.logs c.args.system.state.last)

pub run_whole-settled-requires-clause-room : goal.run_whole-settled-requires-clause-room
run_whole-settled-requires-clause-room g c = subst (λ (xs : List Lane). HaveRoom (requests_by_lane xs) c.in_ok-logs.logs.items) c.as_slice.ensures c.in_ok-logs.ensures.room

pub returns-clause-stands : goal.returns-clause-stands
returns-clause-stands g c =
    (over g.D.Die.seen g.J.CallJob.suits c.args.system.state c.close_turn-closed.result.book.state (opening_alone opening_in c.in_ok-alone.alone) (opening_alone opening_in c.run_whole-settled.new.alone) (view_alone c.in_ok-alone.alone) (view_alone c.run_whole-settled.new.alone)
    (view c.close_turn-closed.result.front.pass.value) (script_of c.args.script.now) c.args.settles c.run_whole-settled.result c.in_ok-alone.ensures.opening c.in_ok-alone.ensures.view c.run_whole-settled.ensures.turn c.close_turn-closed.ensures.front c.requires.may c.run_whole-settled.ensures.did c.close_turn-closed.ensures.stands).stands

pub returns-clause-run : goal.returns-clause-run
returns-clause-run g c =
    (over g.D.Die.seen g.J.CallJob.suits c.args.system.state c.close_turn-closed.result.book.state (opening_alone opening_in c.in_ok-alone.alone) (opening_alone opening_in c.run_whole-settled.new.alone) (view_alone c.in_ok-alone.alone) (view_alone c.run_whole-settled.new.alone)
    (view c.close_turn-closed.result.front.pass.value) (script_of c.args.script.now) c.args.settles c.run_whole-settled.result c.in_ok-alone.ensures.opening c.in_ok-alone.ensures.view c.run_whole-settled.ensures.turn c.close_turn-closed.ensures.front c.requires.may c.run_whole-settled.ensures.did c.close_turn-closed.ensures.stands).run

pub returns-clause-idle : goal.returns-clause-idle
returns-clause-idle g c =
    (over g.D.Die.seen g.J.CallJob.suits c.args.system.state c.close_turn-closed.result.book.state (opening_alone opening_in c.in_ok-alone.alone) (opening_alone opening_in c.run_whole-settled.new.alone) (view_alone c.in_ok-alone.alone) (view_alone c.run_whole-settled.new.alone)
    (view c.close_turn-closed.result.front.pass.value) (script_of c.args.script.now) c.args.settles c.run_whole-settled.result c.in_ok-alone.ensures.opening c.in_ok-alone.ensures.view c.run_whole-settled.ensures.turn c.close_turn-closed.ensures.front c.requires.may c.run_whole-settled.ensures.did c.close_turn-closed.ensures.stands).idle

pub returns-clause-home : goal.returns-clause-home
returns-clause-home g c =
    (over g.D.Die.seen g.J.CallJob.suits c.args.system.state c.close_turn-closed.result.book.state (opening_alone opening_in c.in_ok-alone.alone) (opening_alone opening_in c.run_whole-settled.new.alone) (view_alone c.in_ok-alone.alone) (view_alone c.run_whole-settled.new.alone)
    (view c.close_turn-closed.result.front.pass.value) (script_of c.args.script.now) c.args.settles c.run_whole-settled.result c.in_ok-alone.ensures.opening c.in_ok-alone.ensures.view c.run_whole-settled.ensures.turn c.close_turn-closed.ensures.front c.requires.may c.run_whole-settled.ensures.did c.close_turn-closed.ensures.stands).home

pub returns-clause-asked : goal.returns-clause-asked
returns-clause-asked g c =
    (over g.D.Die.seen g.J.CallJob.suits c.args.system.state c.close_turn-closed.result.book.state (opening_alone opening_in c.in_ok-alone.alone) (opening_alone opening_in c.run_whole-settled.new.alone) (view_alone c.in_ok-alone.alone) (view_alone c.run_whole-settled.new.alone)
    (view c.close_turn-closed.result.front.pass.value) (script_of c.args.script.now) c.args.settles c.run_whole-settled.result c.in_ok-alone.ensures.opening c.in_ok-alone.ensures.view c.run_whole-settled.ensures.turn c.close_turn-closed.ensures.front c.requires.may c.run_whole-settled.ensures.did c.close_turn-closed.ensures.stands).asked

pub returns-clause-failed : goal.returns-clause-failed
returns-clause-failed g c =
    (over g.D.Die.seen g.J.CallJob.suits c.args.system.state c.close_turn-closed.result.book.state (opening_alone opening_in c.in_ok-alone.alone) (opening_alone opening_in c.run_whole-settled.new.alone) (view_alone c.in_ok-alone.alone) (view_alone c.run_whole-settled.new.alone)
    (view c.close_turn-closed.result.front.pass.value) (script_of c.args.script.now) c.args.settles c.run_whole-settled.result c.in_ok-alone.ensures.opening c.in_ok-alone.ensures.view c.run_whole-settled.ensures.turn c.close_turn-closed.ensures.front c.requires.may c.run_whole-settled.ensures.did c.close_turn-closed.ensures.stands).failed

pub returns-clause-stored : goal.returns-clause-stored
returns-clause-stored g c =
    (over g.D.Die.seen g.J.CallJob.suits c.args.system.state c.close_turn-closed.result.book.state (opening_alone opening_in c.in_ok-alone.alone) (opening_alone opening_in c.run_whole-settled.new.alone) (view_alone c.in_ok-alone.alone) (view_alone c.run_whole-settled.new.alone)
    (view c.close_turn-closed.result.front.pass.value) (script_of c.args.script.now) c.args.settles c.run_whole-settled.result c.in_ok-alone.ensures.opening c.in_ok-alone.ensures.view c.run_whole-settled.ensures.turn c.close_turn-closed.ensures.front c.requires.may c.run_whole-settled.ensures.did c.close_turn-closed.ensures.stands).stored

pub returns-clause-settled : goal.returns-clause-settled
returns-clause-settled g c =
    let k = over g.D.Die.seen g.J.CallJob.suits c.args.system.state c.close_turn-closed.result.book.state (opening_alone opening_in c.in_ok-alone.alone) (opening_alone opening_in c.run_whole-settled.new.alone) (view_alone c.in_ok-alone.alone) (view_alone c.run_whole-settled.new.alone)
    (view c.close_turn-closed.result.front.pass.value) (script_of c.args.script.now) c.args.settles c.run_whole-settled.result c.in_ok-alone.ensures.opening c.in_ok-alone.ensures.view c.run_whole-settled.ensures.turn c.close_turn-closed.ensures.front c.requires.may c.run_whole-settled.ensures.did c.close_turn-closed.ensures.stands in
    λ done. c.close_turn-closed.ensures.settles (k.stored done) k.idle k.home
