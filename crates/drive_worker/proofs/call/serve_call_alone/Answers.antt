use Rattle.std.proofs.Common.{inl}
use Rattle.std.specs.Prelude.{not}
use Rattle.turn_cell.specs.Desks.{view_alone, opening_alone}
use Rattle.fill_steps.specs.Books.{opening_in}
use Rattle.drive_worker.proofs.Serving.{does_fill, runs_there, hands_there, may_there, job_there, handed_any, fill_worn, back_home}
use Rattle.drive_worker.proofs.call.serve_call_alone.Goals as goal

pub returns-in_err-read-clause-did : goal.returns-in_err-read-clause-did
returns-in_err-read-clause-did g c =
    fill_worn g.D.Die.seen (opening_alone opening_in c.args.alone.now) (view_alone c.args.alone.now) (view_alone c.fill_span_alone.new.alone) c.args.worker c.args.lane c.args.job c.fill_span_alone.new.job c.in_err-read.field-0.0 c.from_residual.result c.from_residual.ensures.0 c.requires.fetched c.in_err-read.ensures.did

pub run_gathered-requires : goal.run_gathered-requires
run_gathered-requires g c =
    let o = opening_alone opening_in c.args.alone.now in
    let v = view_alone c.args.alone.now in
    let q = opening_alone opening_in c.fill_span_alone.new.alone in
    let u = view_alone c.fill_span_alone.new.alone in
    let e = c.fill_span_alone.ensures in
    let read = c.in_ok-read.read in
    let p = does_fill g.D.Die.seen o v u c.args.worker c.args.lane c.fill_span_alone.new.job read c.in_ok-read.ensures.left c.in_ok-read.ensures.did in
    record { may = runs_there g.D.Die.seen o v u c.args.worker c.args.lane c.args.job c.fill_span_alone.new.job read c.requires.fetched p }

pub turn_report-requires-clause-hands : goal.turn_report-requires-clause-hands
turn_report-requires-clause-hands g c =
    let o = opening_alone opening_in c.args.alone.now in
    let v = view_alone c.args.alone.now in
    let q = opening_alone opening_in c.fill_span_alone.new.alone in
    let u = view_alone c.fill_span_alone.new.alone in
    let e = c.fill_span_alone.ensures in
    let read = c.in_ok-read.read in
    let p = does_fill g.D.Die.seen o v u c.args.worker c.args.lane c.fill_span_alone.new.job read c.in_ok-read.ensures.left c.in_ok-read.ensures.did in
    hands_there g.D.Die.seen o q v u c.args.worker c.args.lane (not read) c.fill_span_alone.new.job e.turn.1 p

pub turn_report-requires-clause-may : goal.turn_report-requires-clause-may
turn_report-requires-clause-may g c =
    let o = opening_alone opening_in c.args.alone.now in
    let v = view_alone c.args.alone.now in
    let q = opening_alone opening_in c.fill_span_alone.new.alone in
    let u = view_alone c.fill_span_alone.new.alone in
    let e = c.fill_span_alone.ensures in
    let read = c.in_ok-read.read in
    let p = does_fill g.D.Die.seen o v u c.args.worker c.args.lane c.fill_span_alone.new.job read c.in_ok-read.ensures.left c.in_ok-read.ensures.did in
    may_there g.D.Die.seen o q v u c.args.worker c.args.lane (not read) c.fill_span_alone.new.job e.turn.1 p

pub turn_report-requires-clause-job : goal.turn_report-requires-clause-job
turn_report-requires-clause-job g c =
    let o = opening_alone opening_in c.args.alone.now in
    let v = view_alone c.args.alone.now in
    let q = opening_alone opening_in c.fill_span_alone.new.alone in
    let u = view_alone c.fill_span_alone.new.alone in
    let e = c.fill_span_alone.ensures in
    let read = c.in_ok-read.read in
    let p = does_fill g.D.Die.seen o v u c.args.worker c.args.lane c.fill_span_alone.new.job read c.in_ok-read.ensures.left c.in_ok-read.ensures.did in
    job_there g.D.Die.seen o q v u c.args.worker c.args.lane read c.args.job c.fill_span_alone.new.job c.run_gathered.new.job e.turn.1 c.requires.fetched p c.run_gathered.ensures.ran

pub returns-clause-did : goal.returns-clause-did
returns-clause-did g c =
    let o = opening_alone opening_in c.args.alone.now in
    let v = view_alone c.args.alone.now in
    let q = opening_alone opening_in c.fill_span_alone.new.alone in
    let u = view_alone c.fill_span_alone.new.alone in
    let e = c.fill_span_alone.ensures in
    let read = c.in_ok-read.read in
    let p = does_fill g.D.Die.seen o v u c.args.worker c.args.lane c.fill_span_alone.new.job read c.in_ok-read.ensures.left c.in_ok-read.ensures.did in
    handed_any g.D.Die.seen o q v u (view_alone c.turn_report.new.desk) c.args.worker c.args.lane (not read) c.args.job c.fill_span_alone.new.job c.turn_report.result e.turn.1 (inl c.requires.free.2.0) c.requires.fetched p c.turn_report.ensures.did c.turn_report.ensures.went

pub returns-clause-home : goal.returns-clause-home
returns-clause-home g c =
    let o = opening_alone opening_in c.args.alone.now in
    let v = view_alone c.args.alone.now in
    let q = opening_alone opening_in c.fill_span_alone.new.alone in
    let u = view_alone c.fill_span_alone.new.alone in
    let e = c.fill_span_alone.ensures in
    let read = c.in_ok-read.read in
    let p = does_fill g.D.Die.seen o v u c.args.worker c.args.lane c.fill_span_alone.new.job read c.in_ok-read.ensures.left c.in_ok-read.ensures.did in
    back_home g.D.Die.seen o v (view_alone c.turn_report.new.desk) c.args.worker c.args.lane c.turn_report.result c.requires.free.2.0 c.requires.home
    (handed_any g.D.Die.seen o q v u (view_alone c.turn_report.new.desk) c.args.worker c.args.lane (not read) c.args.job c.fill_span_alone.new.job c.turn_report.result e.turn.1 (inl c.requires.free.2.0) c.requires.fetched p c.turn_report.ensures.did c.turn_report.ensures.went)
