use Rattle.std.proofs.Common.{◌≡◌, ℕ, List, length, ap, sym, ◌∙◌, subst, Vec, Global}
use Rattle.turn_cell.specs.declared.book.Entry.{Entry}
use Rattle.turn_cell.specs.Events.{events_of}
use Rattle.turn_cell.specs.Passes.{view}
use Rattle.core_state.specs.declared.event.Event.{Event}
use Rattle.core_state.specs.State.{LaneState, Core}
use Rattle.core_state.specs.History.{Counts, calls_of, counts_of}
use Rattle.system_metas.specs.Encode.{encode}
use Rattle.system_state.specs.Cores.{core_of}
use Rattle.system_state.specs.Made.{counts_in}
use Rattle.solo_runs.specs.Lines.{script_of}
use Rattle.lane_logs.specs.Logs.{AreLogs}
use Rattle.lane_logs.specs.declared.logs.LaneLog.{LaneLog}
use Rattle.drive_runs.specs.Making.{drive_in}
use Rattle.drive_runs.specs.Runs.{HasRunFrom}
use Rattle.drive_runs.proofs.Begun.{on_three, last_is, small, may_run, counted}
use Rattle.drive_runs.proofs.Orders.{runnable, follow_count}
use Rattle.drive_runs.proofs.whole.run_and_gather.Goals as goal

pub run_over-requires-clause-stands : goal.run_over-requires-clause-stands
run_over-requires-clause-stands g c = c.requires.opened.4.stands

pub run_over-requires-clause-small : goal.run_over-requires-clause-small
run_over-requires-clause-small g c =
    let o = c.requires.opened in small g.D.Die.seen _ o.0 o.1 o.2 c.args.script.now o.3 c.args.state o.4

pub run_over-requires-clause-script : goal.run_over-requires-clause-script
run_over-requires-clause-script g c = runnable c.args.script.now c.requires.ordered c.requires.limits

pub run_over-requires-clause-may : goal.run_over-requires-clause-may
run_over-requires-clause-may g c =
    let o = c.requires.opened in may_run g.D.Die.seen _ o.0 o.1 o.2 c.args.script.now o.3 c.args.state o.4

pub returns : goal.returns
returns g c = on_three c.left_by.result
    (λ r logged placed imaged kind meta pages place k.
    let seen = g.D.Die.seen in
    let o = c.args.state in
    let ran = c.in_ok-ran.ran in
    let s = ran.system.state in
    let h : List (Entry Event) = (view ran.front.pass.value).seen in
    let lines = c.args.script.now in
    let script = script_of lines in
    let told = c.in_ok-ran.ensures in
    let may = may_run seen _ kind meta pages lines place o k in
    let opening = core_of seen o in
    let last = core_of seen s in
    let failed = c.standing_told.ensures.told s o h kind lines.faults told.stands k.made in
    let run = runnable lines c.requires.ordered c.requires.limits in
    let counts : counts_in r.places ≡ counts_of (events_of h) = ap counts_in placed ∙ counted seen _ kind meta pages lines place o k s h told.stands in
    subst (λ (z : Core). HasRunFrom z (drive_in z) lines kind c.args.stores r) k.core
    (record {
      events = events_of h;
      core = last;
      coherent = may.coherent;
      run = told.run;
      failed = failed;
      legal = c.calls_legal.ensures opening last (events_of h) may.coherent told.run.run;
      serves = c.run_serves.ensures.serves encode opening last script c.args.stores (events_of h) may.frames may.wide may.coherent may.fresh run.ordered.whole run.ordered.waits told.run;
      few = c.told_failures_few.ensures.faults opening last kind lines.faults (events_of h) may.coherent (λ l. ap (λ (x : LaneState). x.mark) (may.new l)) told.run.run failed;
      many = follow_count script script.order (calls_of (events_of h)) (c.run_serves.ensures.lines encode opening last script c.args.stores (events_of h) may.frames may.wide may.coherent may.fresh told.run);
      logs = subst (λ (ls : Vec LaneLog Global). AreLogs (length lines.lanes) 0 (calls_of (events_of h)) ls.items) (sym logged)
          (subst (λ (n : ℕ). AreLogs (length lines.lanes) n (calls_of (events_of h)) ran.logs.items) (last_is seen _ kind meta pages lines place o k) told.logs);
      host = ap (λ (n : Counts). n.host) counts;
      drive = ap (λ (n : Counts). n.drive) counts;
      reads = ap (λ (n : Counts). n.reads) counts;
      writes = ap (λ (n : Counts). n.writes) counts;
      image = c.images_tell.ensures s o h kind lines.faults c.args.stores ran.settled r.image told.stands k.made told.asked told.failed told.stored imaged;
    }))
    c.left_by.ensures.logs c.left_by.ensures.places c.left_by.ensures.image
