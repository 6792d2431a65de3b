-- What is printed of a run over a drive.
use Rattle.std.proofs.Common.{◌≡◌, ℕ, true, false, List, [], ◌++◌, length, sym, ◌∙◌, subst, arith}
use Rattle.std.specs.Prelude.{Result, Ok, Err, IfOk}
use Rattle.dispatcher.specs.declared.side.Place.TheVariants.{Auto}
use Rattle.image_format.specs.declared.meta.Meta.{Meta}
use Rattle.plain_files.specs.History.{Entry}
use Rattle.script_words.specs.declared.script.Script.{Script}
use Rattle.script_words.specs.Lanes.{names}
use Rattle.command_words.specs.declared.options.DieKind.TheVariants.{Ftl}
use Rattle.call_text.specs.Order.{IsWithinLimits}
use Rattle.transcript_text.specs.Print.{entry_lines, places_line}
use Rattle.bench_script.specs.Digest.{digest_line}
use Rattle.core_state.specs.State.{Page}
use Rattle.core_state.specs.History.{calls_of}
use Rattle.lane_logs.specs.declared.logs.LaneLog.{LaneLog}
use Rattle.lane_logs.specs.Logs.{AreLogs}
use Rattle.log_text.specs.Told.{IsTold}
use Rattle.log_text.proofs.Lanes.{lanes_are_there}
use Rattle.drive_runs.specs.declared.running.DriveRun.{DriveRun}
use Rattle.drive_runs.specs.Runs.{HasRunDrive}
use Rattle.bench_runs.specs.Fed.{are_fed}
use Rattle.bench_runs.specs.Benched.{bench_lines, HasBenched}
use Rattle.bench_runs.proofs.Memory.{calls_fed}

module _ (meta : Meta) (pages : List Page) (script : Script) (r : DriveRun) (run : HasRunDrive meta pages script Auto Ftl false r) (logs : List LaneLog) (same : logs ≡ r.logs.items) (limits : IsWithinLimits script) where
  pub told_of : IsTold (length script.lanes) (calls_of run.events) logs
  told_of = record {
    are = subst (λ (xs : List LaneLog). AreLogs (length script.lanes) 0 (calls_of run.events) xs) (sym same) run.logs;
    known = lanes_are_there script.lanes (calls_of run.events) run.serves;
    few = let many = run.many in let few = limits.calls in omega arith;
  }

  pub benched : (start calls : ℕ) {E : Type 0} (result : Result (List ℕ) E) → are_fed logs ≡ true →
      ((told : List Entry) → IsTold (length script.lanes) told logs → length told ≡ length script.order →
      IfOk result (λ text. text ≡ bench_lines (names script) start calls told (record { host = r.places.host; drive = r.places.drive; reads = r.places.reads; writes = r.places.writes }))) →
      IfOk result (HasBenched meta pages script start calls)
  benched start calls (Err e) fed printed = tt
  benched start calls (Ok text) fed printed =
      let h = calls_of run.events in
      record {
        made = r;
        ran = run;
        fed = calls_fed (length script.lanes) 0 h logs told_of.known told_of.are fed;
        lines = printed h told_of run.many ∙ (λ i. digest_line start calls (length h) (entry_lines (names script) [] h) ++ places_line (record { host = run.host i; drive = run.drive i; reads = run.reads i; writes = run.writes i }));
      }
