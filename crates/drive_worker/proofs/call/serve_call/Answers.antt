use Rattle.std.specs.Prelude.{not}
use Rattle.turn_cell.specs.Passes.{opening_of, view}
use Rattle.core_state.specs.declared.actor.Actor.TheVariants.{Worker}
use Rattle.fill_steps.specs.Books.{opening_in}
use Rattle.drive_worker.proofs.Serving.{does_fill, runs_there, hands_there, may_there, job_there, handed_any, fill_worn, acts_still}
use Rattle.drive_worker.proofs.call.serve_call.Goals as goal

pub returns-in_err-read-clause-did : goal.returns-in_err-read-clause-did
returns-in_err-read-clause-did g c =
    fill_worn g.D.Die.seen (opening_of opening_in c.args.desk.now.turn.now) (view c.args.desk.now.pass) (view c.fill_span.new.desk.pass) c.args.worker c.args.lane c.args.job c.fill_span.new.job c.in_err-read.field-0.0 c.from_residual.result c.from_residual.ensures.0 c.requires.fetched c.in_err-read.ensures.did

pub run_gathered-requires : goal.run_gathered-requires
run_gathered-requires g c =
    let o = opening_of opening_in c.args.desk.now.turn.now in
    let v = view c.args.desk.now.pass in
    let q = opening_of opening_in c.fill_span.new.desk.turn.now in
    let u = view c.fill_span.new.desk.pass in
    let e = c.fill_span.ensures in
    let read = c.in_ok-read.read in
    let p = does_fill g.D.Die.seen o v u c.args.worker c.args.lane c.fill_span.new.job read c.in_ok-read.ensures.left c.in_ok-read.ensures.did in
    record { may = runs_there g.D.Die.seen o v u c.args.worker c.args.lane c.args.job c.fill_span.new.job read c.requires.fetched p }

pub turn_report-requires-clause-acts : goal.turn_report-requires-clause-acts
turn_report-requires-clause-acts g c =
    let o = opening_of opening_in c.args.desk.now.turn.now in
    let v = view c.args.desk.now.pass in
    let q = opening_of opening_in c.fill_span.new.desk.turn.now in
    let u = view c.fill_span.new.desk.pass in
    let e = c.fill_span.ensures in
    let read = c.in_ok-read.read in
    let p = does_fill g.D.Die.seen o v u c.args.worker c.args.lane c.fill_span.new.job read c.in_ok-read.ensures.left c.in_ok-read.ensures.did in
    acts_still g.D.Die.seen o q v u (Worker c.args.worker) _ e.turn.1 p c.requires.acts

pub turn_report-requires-clause-hands : goal.turn_report-requires-clause-hands
turn_report-requires-clause-hands g c =
    let o = opening_of opening_in c.args.desk.now.turn.now in
    let v = view c.args.desk.now.pass in
    let q = opening_of opening_in c.fill_span.new.desk.turn.now in
    let u = view c.fill_span.new.desk.pass in
    let e = c.fill_span.ensures in
    let read = c.in_ok-read.read in
    let p = does_fill g.D.Die.seen o v u c.args.worker c.args.lane c.fill_span.new.job read c.in_ok-read.ensures.left c.in_ok-read.ensures.did in
    hands_there g.D.Die.seen o q v u c.args.worker c.args.lane (not read) c.fill_span.new.job e.turn.1 p

pub turn_report-requires-clause-may : goal.turn_report-requires-clause-may
turn_report-requires-clause-may g c =
    let o = opening_of opening_in c.args.desk.now.turn.now in
    let v = view c.args.desk.now.pass in
    let q = opening_of opening_in c.fill_span.new.desk.turn.now in
    let u = view c.fill_span.new.desk.pass in
    let e = c.fill_span.ensures in
    let read = c.in_ok-read.read in
    let p = does_fill g.D.Die.seen o v u c.args.worker c.args.lane c.fill_span.new.job read c.in_ok-read.ensures.left c.in_ok-read.ensures.did in
    may_there g.D.Die.seen o q v u c.args.worker c.args.lane (not read) c.fill_span.new.job e.turn.1 p

pub turn_report-requires-clause-job : goal.turn_report-requires-clause-job
turn_report-requires-clause-job g c =
    let o = opening_of opening_in c.args.desk.now.turn.now in
    let v = view c.args.desk.now.pass in
    let q = opening_of opening_in c.fill_span.new.desk.turn.now in
    let u = view c.fill_span.new.desk.pass in
    let e = c.fill_span.ensures in
    let read = c.in_ok-read.read in
    let p = does_fill g.D.Die.seen o v u c.args.worker c.args.lane c.fill_span.new.job read c.in_ok-read.ensures.left c.in_ok-read.ensures.did in
    job_there g.D.Die.seen o q v u c.args.worker c.args.lane read c.args.job c.fill_span.new.job c.run_gathered.new.job e.turn.1 c.requires.fetched p c.run_gathered.ensures.ran

pub returns-clause-did : goal.returns-clause-did
returns-clause-did g c =
    let o = opening_of opening_in c.args.desk.now.turn.now in
    let v = view c.args.desk.now.pass in
    let q = opening_of opening_in c.fill_span.new.desk.turn.now in
    let u = view c.fill_span.new.desk.pass in
    let e = c.fill_span.ensures in
    let read = c.in_ok-read.read in
    let p = does_fill g.D.Die.seen o v u c.args.worker c.args.lane c.fill_span.new.job read c.in_ok-read.ensures.left c.in_ok-read.ensures.did in
    handed_any g.D.Die.seen o q v u (view c.turn_report.new.desk.pass) c.args.worker c.args.lane (not read) c.args.job c.fill_span.new.job c.turn_report.result e.turn.1 c.requires.acts c.requires.fetched p c.turn_report.ensures.did c.turn_report.ensures.went
