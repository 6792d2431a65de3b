-- A run of many threads over the drive of an image. This project's own.
use Rattle.std.specs.Prelude.{◌≡◌, ◌≤◌, ◌^◌, Bool, List, length}
use Rattle.page_base.specs.Drive.{Drive}
use Rattle.dispatcher.specs.declared.side.Place.{Place}
use Rattle.image_format.specs.declared.meta.Meta.{Meta}
use Rattle.plain_files.specs.History.{Legal, Serves}
use Rattle.script_words.specs.declared.script.Script.{Script}
use Rattle.script_words.specs.Lanes.{requests}
use Rattle.command_words.specs.declared.options.DieKind.{DieKind}
use Rattle.fault_lines.specs.Lines.{distinct_lines}
use Rattle.core_state.specs.declared.event.Event.{Event}
use Rattle.core_state.specs.State.{Page, Core}
use Rattle.core_state.specs.Coherent.{Coherent}
use Rattle.core_state.specs.Happens.{CoreRun, IsClosing}
use Rattle.core_state.specs.History.{calls_of, counts_of, faults}
use Rattle.core_state.specs.PlainOf.{plain}
use Rattle.core_plans.specs.Lines.{FailAsTold}
use Rattle.crew_history.specs.Begun.{AreBegun}
use Rattle.mounted_systems.specs.Dealt.{opening_of}
use Rattle.lane_logs.specs.Logs.{AreLogs}
use Rattle.drive_runs.specs.declared.running.DriveRun.{DriveRun}
use Rattle.drive_runs.specs.Runs.{IsGathered}

-- A run of many threads from this opening core: one history of the core, in which all threads' events stand in the order in which they were made. Each
-- lane made its calls in their order and left. Die events fail as the lines of the script say, and no more calls are answered `fault` than there are
-- lines that say different things.
pub record HasRunCrewFrom (opening : Core) (geometry : Drive) (script : Script) (dies : DieKind) (stores : Bool) (r : DriveRun) : Type 0 where
  pub events : List Event
  pub core : Core
  pub coherent : Coherent opening
  pub run : CoreRun opening events core
  pub left : IsClosing core
  pub failed : FailAsTold dies script.faults events
  pub legal : Legal (plain opening) (calls_of events) (plain core)
  pub serves : Serves (requests script) (calls_of events)
  pub few : faults (calls_of events) ≤ distinct_lines script.faults
  pub logs : AreLogs (length script.lanes) 0 (calls_of events) r.logs.items
  pub host : r.places.host ≡ (counts_of events).host
  pub drive : r.places.drive ≡ (counts_of events).drive
  pub reads : r.places.reads ≡ (counts_of events).reads
  pub writes : r.places.writes ≡ (counts_of events).writes
  pub image : IsGathered dies script.faults geometry stores events core r.image

-- The same over the drive of an image that mounts to these tables and pages.
abbrev pub HasRunCrew : Meta → List Page → Script → Place → DieKind → Bool → DriveRun → Type 0
HasRunCrew meta pages script place dies stores r = HasRunCrewFrom (opening_of meta pages (length script.lanes) place) meta.geometry script dies stores r

-- The threads made all the events that a turn counts, from this opening core on. Each lane made the first of its calls, and die events failed as the
-- lines of the script say.
pub record IsWornFrom (opening : Core) (script : Script) (dies : DieKind) : Type 0 where
  pub events : List Event
  pub core : Core
  pub coherent : Coherent opening
  pub run : CoreRun opening events core
  pub worn : length events ≡ 2 ^ 62
  pub failed : FailAsTold dies script.faults events
  pub begun : AreBegun (requests script) (calls_of events)

-- the same over the drive of an image
abbrev pub IsWornCrew : Meta → List Page → Script → Place → DieKind → Type 0
IsWornCrew meta pages script place dies = IsWornFrom (opening_of meta pages (length script.lanes) place) script dies
