-- What is told of a run on many threads, as a plan of the choice.
use Rattle.std.proofs.Common.{◌≡◌, ◌≤◌, inl, inr, ℕ, List, Bool, Result, Ok, Err, refl, ap, ◌∙◌, sym, subst}
use Rattle.std.specs.Prelude.{length, is_some}
use Rattle.image_format.specs.declared.meta.Meta.{Meta}
use Rattle.image_format.specs.Image.{mounts_to, read_image}
use Rattle.image_format.specs.Tables.{Mounts}
use Rattle.page_base.specs.Drive.{Drive}
use Rattle.command_words.specs.declared.options.DieKind.{DieKind}
use Rattle.command_words.specs.declared.options.Setup.{Setup}
use Rattle.script_words.specs.declared.script.Script.{Script}
use Rattle.script_words.specs.Lanes.{requests, names}
use Rattle.plain_files.specs.History.{Entry, Serves}
use Rattle.call_text.specs.Order.{IsOrdered}
use Rattle.log_text.specs.Told.{IsTold}
use Rattle.bench_runs.specs.LaneLog.{LaneLog}
use Rattle.bench_runs.specs.Logs.{AreLogs}
use Rattle.transcript_text.specs.Print.{Counts, print}
use Rattle.plain_image.specs.declared.drive.PlainDrive.{PlainDrive}
use Rattle.plain_image.specs.Drives.{drive_of}
use Rattle.plain_image.specs.Opened.{opened}
use Rattle.core_state.specs.State.{Page, Core}
use Rattle.core_state.specs.Happens.{CoreRun}
use Rattle.core_state.specs.History.{calls_of}
use Rattle.core_state.specs.PlainOf.{plain}
use Rattle.system_state.specs.Settled.{mounted_of}
use Rattle.mounted_systems.specs.Dealt.{opening_of}
use Rattle.bench_runs.specs.CrewErr.{CrewErr}
use Rattle.bench_runs.specs.CrewErr.TheVariants as crew_err
use Rattle.bench_runs.specs.DriveRun.{DriveRun}
use Rattle.bench_runs.specs.Crews.{HasRunCrewFrom, HasRunCrew, IsWornCrew}
use Rattle.stack_top.specs.declared.plan.Plan.{Plan}
use Rattle.stack_top.specs.declared.refusal.Refusal.TheVariants as refused
use Rattle.stack_top.specs.Acts.{name_of}
use Rattle.stack_top.specs.Choices.{Running}
use Rattle.stack_top.specs.Decided.{IsFinished}
use Rattle.stack_top.specs.Runs.{plan_told, crew_refusal}
use Rattle.stack_top.specs.Works.{Allows, only_refusal, runs_at_once_on}
use Rattle.stack_top.proofs.Counted.{calls_many}
use Rattle.stack_top.proofs.Told.{IsRunOf, opening_told, ran_by, logs_told}

crew_run : (first : Core) (geometry : Drive) (script : Script) (dies : DieKind) (stores : Bool) (r : DriveRun) (ran : HasRunCrewFrom first geometry script dies stores r) → IsRunOf first geometry script dies stores r ran.events ran.core
crew_run first geometry script dies stores r ran = record {
  coherent = ran.coherent;
  failed = ran.failed;
  legal = ran.legal;
  serves = ran.serves;
  few = ran.few;
  host = ran.host;
  drive = ran.drive;
  reads = ran.reads;
  writes = ran.writes;
  image = ran.image;
}

-- the plan of a run that came to its end
pub allowed_at_once : (drive : PlainDrive) (meta : Meta) (pages : List Page) (script : Script) (name : List ℕ) (setup : Setup) (stores : Bool) (r : DriveRun) (text : List ℕ) (plan : Plan)
    → ((bytes : List ℕ) → Mounts bytes meta pages (read_image bytes) → mounts_to bytes ≡ Ok (mounted_of (plain (opening_of meta pages (length script.lanes) setup.place))))
    → stores ≡ is_some (name_of name) → (ran : HasRunCrew meta pages script setup.place setup.dies stores r)
    → text ≡ print (names script) (calls_of ran.events) (record { host = r.places.host; drive = r.places.drive; reads = r.places.reads; writes = r.places.writes })
    → plan ≡ plan_told name text r.image
    → (bytes : List ℕ) → Mounts bytes meta pages (read_image bytes) → drive_of bytes ≡ Ok drive → Allows (runs_at_once_on (opened bytes drive) script (name_of name) setup) plan
allowed_at_once drive meta pages script name setup stores r text plan told asked ran printed plans bytes mounts is =
    let first : Core = opening_of meta pages (length script.lanes) setup.place in
    let P : Plan → Type 0 = λ p. Allows (runs_at_once_on (opened bytes drive) script (name_of name) setup) p in
    subst P (sym plans) (inl (
    ran_by CoreRun bytes drive meta pages script name setup stores r ran.events ran.core text mounts is (told bytes mounts) asked
    (crew_run first meta.geometry script setup.dies stores r ran) ran.run printed
    ).ran)

-- the plan of a run whose turn was worn
pub worn_at_once : (drive : PlainDrive) (meta : Meta) (pages : List Page) (script : Script) (name : List ℕ) (setup : Setup)
    → ((bytes : List ℕ) → Mounts bytes meta pages (read_image bytes) → mounts_to bytes ≡ Ok (mounted_of (plain (opening_of meta pages (length script.lanes) setup.place))))
    → IsWornCrew meta pages script setup.place setup.dies
    → (bytes : List ℕ) → Mounts bytes meta pages (read_image bytes) → drive_of bytes ≡ Ok drive → Allows (runs_at_once_on (opened bytes drive) script (name_of name) setup) (only_refusal refused.Worn)
worn_at_once drive meta pages script name setup told worn bytes mounts is =
    let run : Running = record { opened = opened bytes drive; script = script; out = name_of name; place = setup.place; dies = setup.dies } in
    inr (record {
      first = opening_of meta pages (length script.lanes) setup.place;
      events = worn.events;
      last = worn.core;
      opens = opening_told bytes drive meta pages run refl mounts is (told bytes mounts) worn.coherent;
      made = worn.run;
      worn = worn.worn;
      failed = worn.failed;
      begun = worn.begun;
      ending = refl;
      acts = refl;
    })

-- ---- what the lanes were told

-- the requests are gone from the script, and its lanes and their names are there
pub logs_at_once : (script now : Script) (calls : List Entry) (logs seen : List LaneLog)
    → seen ≡ logs → length now.lanes ≡ length script.lanes → AreLogs (length script.lanes) 0 calls logs → Serves (requests script) calls → IsOrdered script → length script.order ≤ 10000
    → IsTold (length now.lanes) calls seen
logs_at_once script now calls logs seen same lanes are serves ordered few =
    subst (λ (n : ℕ). IsTold n calls seen) (sym lanes) (logs_told script calls logs seen same are serves (calls_many script calls ordered.order serves) few)

pub text_at_once : (script now : Script) (calls : List Entry) (counts : Counts) (text : List ℕ) → names now ≡ names script → text ≡ print (names now) calls counts → text ≡ print (names script) calls counts
text_at_once script now calls counts text same printed = printed ∙ ap (λ ns. print ns calls counts) same

-- ---- runs without a plan

pub crew_ended : (drive : PlainDrive) (meta : Meta) (pages : List Page) (script : Script) (name : List ℕ) (setup : Setup) (r : Result DriveRun CrewErr) (e : CrewErr) → r ≡ Err e
    → ((bytes : List ℕ) → Mounts bytes meta pages (read_image bytes) → mounts_to bytes ≡ Ok (mounted_of (plain (opening_of meta pages (length script.lanes) setup.place))))
    → (r ≡ Err crew_err.Worn → IsWornCrew meta pages script setup.place setup.dies)
    → (bytes : List ℕ) → Mounts bytes meta pages (read_image bytes) → drive_of bytes ≡ Ok drive
    → IsFinished (runs_at_once_on (opened bytes drive) script (name_of name) setup) (Err (crew_refusal e))
crew_ended drive meta pages script name setup r crew_err.NoMemory is told worn = λ bytes mounts at. tt
crew_ended drive meta pages script name setup r crew_err.Worn is told worn = worn_at_once drive meta pages script name setup told (worn is)
