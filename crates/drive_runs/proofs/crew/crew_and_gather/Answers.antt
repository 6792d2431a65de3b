use Rattle.std.proofs.Common.{◌≡◌, ℕ, List, length, map, ap, sym, ◌∙◌, subst, Vec, Global, Err, arith}
use Rattle.turn_cell.specs.declared.book.Entry.{Entry}
use Rattle.turn_cell.specs.Events.{events_of}
use Rattle.turn_cell.specs.Passes.{view}
use Rattle.plain_files.specs.History.{Serves}
use Rattle.plain_files.specs.declared.calls.Request.{Request}
use Rattle.script_words.specs.Lanes.{requests}
use Rattle.core_state.specs.declared.event.Event.{Event}
use Rattle.core_state.specs.State.{Core}
use Rattle.core_state.specs.History.{Counts, calls_of, counts_of}
use Rattle.crew_history.specs.Begun.{AreBegun}
use Rattle.system_state.specs.Cores.{core_of}
use Rattle.system_state.specs.Made.{counts_in}
use Rattle.lane_logs.specs.Logs.{AreLogs}
use Rattle.lane_logs.specs.declared.logs.LaneLog.{LaneLog}
use Rattle.drive_runs.specs.Making.{drive_in}
use Rattle.drive_runs.specs.Crews.{HasRunCrewFrom, IsWornFrom}
use Rattle.drive_runs.proofs.Begun.{last_is, small, wide, untouched, counted, events_long}
use Rattle.drive_runs.proofs.Moved.{all_short, count_of}
use Rattle.drive_runs.proofs.Orders.{lane_short, same_count}
use Rattle.drive_runs.proofs.crew.crew_and_gather.Goals as goal

pub run_lanes-requires-clause-small : goal.run_lanes-requires-clause-small
run_lanes-requires-clause-small g c κs within =
    let o = c.requires.opened in small g.D.Die.seen _ o.0 o.1 o.2 c.args.script.now o.3 c.args.state o.4

pub run_lanes-requires-clause-untouched : goal.run_lanes-requires-clause-untouched
run_lanes-requires-clause-untouched g c κs within =
    let o = c.requires.opened in untouched g.D.Die.seen _ o.0 o.1 o.2 c.args.script.now o.3 c.args.state o.4

pub run_lanes-requires-clause-wide : goal.run_lanes-requires-clause-wide
run_lanes-requires-clause-wide g c κs within =
    let o = c.requires.opened in
    let given : List (Vec Request Global) = c.as_mut_slice.result.now in
    let moved : map (λ v. v.items) given ≡ requests c.args.script.now = ap (map (λ v. v.items)) c.as_mut_slice.ensures.value ∙ c.in-Ok.ensures.moved in
    wide g.D.Die.seen _ o.0 o.1 o.2 c.args.script.now o.3 c.args.state o.4
    ∙ sym (count_of given (requests c.args.script.now) moved ∙ same_count c.args.script.now)

pub run_lanes-requires-clause-few : goal.run_lanes-requires-clause-few
run_lanes-requires-clause-few g c κs within =
    let given : List (Vec Request Global) = c.as_mut_slice.result.now in
    let moved : map (λ v. v.items) given ≡ requests c.args.script.now = ap (map (λ v. v.items)) c.as_mut_slice.ensures.value ∙ c.in-Ok.ensures.moved in
    let count : length given ≡ length c.args.script.now.lanes = count_of given (requests c.args.script.now) moved ∙ same_count c.args.script.now in
    let most = c.requires.limits.lanes in
    omega arith

pub run_lanes-requires-clause-short : goal.run_lanes-requires-clause-short
run_lanes-requires-clause-short g c κs within =
    let given : List (Vec Request Global) = c.as_mut_slice.result.now in
    let moved : map (λ v. v.items) given ≡ requests c.args.script.now = ap (map (λ v. v.items)) c.as_mut_slice.ensures.value ∙ c.in-Ok.ensures.moved in
    all_short given (requests c.args.script.now) moved (lane_short c.args.script.now c.requires.ordered c.requires.limits)

pub returns-in-Ok-left_by-clause-ran : goal.returns-in-Ok-left_by-clause-ran
returns-in-Ok-left_by-clause-ran g c = λ kind meta pages place k.
    let seen = g.D.Die.seen in
    let o = c.args.state in
    let ran = c.in-Ok-run_lanes.ran in
    let s = ran.system.state in
    let h : List (Entry Event) = (view ran.front.pass.value).seen in
    let script = c.args.script.now in
    let told = c.in-Ok-run_lanes.ensures in
    let left = c.in-Ok-left_by.ensures in
    let r = c.in-Ok-left_by.run' in
    let u = untouched seen _ kind meta pages script place o k in
    let opening = core_of seen o in
    let last = core_of seen s in
    let given : List (Vec Request Global) = c.as_mut_slice.result.now in
    let moved : map (λ v. v.items) given ≡ requests script = ap (map (λ v. v.items)) c.as_mut_slice.ensures.value ∙ c.in-Ok.ensures.moved in
    let count : length given ≡ length script.lanes = count_of given (requests script) moved ∙ same_count script in
    let failed = c.standing_told.ensures.told s o h kind script.faults told.stands k.made in
    let counts : counts_in r.places ≡ counts_of (events_of h) = ap counts_in left.places ∙ counted seen _ kind meta pages script place o k s h told.stands in
    subst (λ (z : Core). HasRunCrewFrom z (drive_in z) script kind c.args.stores r) k.core
    (record {
      events = events_of h;
      core = last;
      coherent = u.coherent;
      run = told.stands.run;
      left = told.left;
      failed = failed;
      legal = c.calls_legal.ensures opening last (events_of h) u.coherent told.stands.run;
      serves = subst (λ (lanes : List (List Request)). Serves lanes (calls_of (events_of h))) moved told.serves;
      few = c.told_failures_few.ensures.faults opening last kind script.faults (events_of h) u.coherent u.unmarked told.stands.run failed;
      logs = subst (λ (ls : Vec LaneLog Global). AreLogs (length script.lanes) 0 (calls_of (events_of h)) ls.items) (sym left.logs)
          (subst (λ (n : ℕ). AreLogs n 0 (calls_of (events_of h)) ran.logs.items) count
          (subst (λ (n : ℕ). AreLogs (length given) n (calls_of (events_of h)) ran.logs.items) (last_is seen _ kind meta pages script place o k) told.logs));
      host = ap (λ (n : Counts). n.host) counts;
      drive = ap (λ (n : Counts). n.drive) counts;
      reads = ap (λ (n : Counts). n.reads) counts;
      writes = ap (λ (n : Counts). n.writes) counts;
      image = c.images_tell.ensures s o h kind script.faults c.args.stores ran.settled r.image told.stands k.made told.asked told.failed told.stored left.image;
    })

pub returns-clause-worn : goal.returns-clause-worn
returns-clause-worn g c = λ e kind meta pages place k.
    let seen = g.D.Die.seen in
    let o = c.args.state in
    let front = c.in-Err-Worn.field-0-0 in
    let h : List (Entry Event) = (view front.pass.value).seen in
    let script = c.args.script.now in
    let out = c.run_lanes.ensures.worn front (c.in-Err-Worn.is ∙ ap (λ x. Err x) c.in-Err-Worn.field-0-is) in
    let u = untouched seen _ kind meta pages script place o k in
    let given : List (Vec Request Global) = c.as_mut_slice.result.now in
    let moved : map (λ v. v.items) given ≡ requests script = ap (map (λ v. v.items)) c.as_mut_slice.ensures.value ∙ c.in-Ok.ensures.moved in
    subst (λ (z : Core). IsWornFrom z script kind) k.core
    (record {
      events = events_of h;
      core = core_of seen out.state;
      coherent = u.coherent;
      run = out.stands.run;
      worn = events_long h ∙ out.count;
      failed = c.standing_told.ensures.told out.state o h kind script.faults out.stands k.made;
      begun = subst (λ (lanes : List (List Request)). AreBegun lanes (calls_of (events_of h))) moved out.begun;
    })
