-- A run of one thread over the drive of an image. This project's own.
use Rattle.std.specs.Prelude.{◌≡◌, ◌⊎◌, ◌≤◌, ℕ, Bool, true, false, List, [], ◌∷◌, ◌++◌, length, Ok}
use Rattle.page_base.specs.Drive.{Drive}
use Rattle.dispatcher.specs.declared.side.Place.{Place}
use Rattle.image_format.specs.declared.meta.Meta.{Meta}
use Rattle.image_format.specs.Image.{mounts_to}
use Rattle.plain_files.specs.Plain.{State}
use Rattle.plain_files.specs.History.{Legal, Serves}
use Rattle.plain_image.specs.Drives.{drive_of, without_functions}
use Rattle.plain_image.specs.Spelled.{IsSpelled}
use Rattle.script_words.specs.declared.script.FaultLine.{FaultLine}
use Rattle.script_words.specs.declared.script.Script.{Script}
use Rattle.script_words.specs.Lanes.{requests}
use Rattle.command_words.specs.declared.options.DieKind.{DieKind}
use Rattle.fault_lines.specs.Lines.{distinct_lines}
use Rattle.core_state.specs.declared.event.Event.{Event}
use Rattle.core_state.specs.State.{Page, Core}
use Rattle.core_state.specs.Coherent.{Coherent}
use Rattle.core_state.specs.History.{calls_of, counts_of, faults}
use Rattle.core_state.specs.PlainOf.{plain}
use Rattle.core_solo.specs.Solo.{SoloRun}
use Rattle.core_closing.specs.Kept.{IsFailedWrite}
use Rattle.core_plans.specs.Gathering.{IsLost}
use Rattle.core_plans.specs.Lines.{FailAsTold}
use Rattle.system_metas.specs.Encode.{encode}
use Rattle.system_state.specs.Settled.{mounted_of}
use Rattle.mounted_systems.specs.Dealt.{opening_of}
use Rattle.solo_runs.specs.Lines.{script_of}
use Rattle.lane_logs.specs.Logs.{AreLogs}
use Rattle.drive_runs.specs.declared.running.DriveImage.{DriveImage}
use Rattle.drive_runs.specs.declared.running.DriveImage.TheVariants.{NotAsked, Whole, Lost}
use Rattle.drive_runs.specs.declared.running.DriveRun.{DriveRun}

-- the last event is a write of the closer that failed
abbrev pub LastSyncFails : List Event → Type 0
LastSyncFails events = (before : List Event) × (last : Event) × (events ≡ before ++ last ∷ []) × IsFailedWrite last

-- the bytes are an image of the state, in the form in which images are written
pub record IsStoredImage (drive : Drive) (state : State) (bytes : List ℕ) : Type 0 where
  pub mounts : mounts_to bytes ≡ Ok (mounted_of state)
  pub loads : drive_of bytes ≡ Ok (record { geometry = drive; plain = without_functions state })
  pub spelled : IsSpelled bytes

-- what became of the image
abbrev pub IsGathered : DieKind → List FaultLine → Drive → Bool → List Event → Core → DriveImage → Type 0
IsGathered dies lines drive stores events core NotAsked = stores ≡ false
IsGathered dies lines drive stores events core (Whole bytes) =
    (stores ≡ true) × (LastSyncFails events → ⊥) × IsLost dies lines drive events false × IsStoredImage drive (plain core) bytes.items
IsGathered dies lines drive stores events core Lost = (stores ≡ true) × (LastSyncFails events ⊎ IsLost dies lines drive events true)

-- A run of one thread from this opening core. Its events are those of SoloRun: the calls of the lines and, where the image is stored, the last sync.
-- Die events fail as the lines of the script say, and no more calls are answered `fault` than there are lines that say different things.
pub record HasRunFrom (opening : Core) (geometry : Drive) (script : Script) (dies : DieKind) (stores : Bool) (r : DriveRun) : Type 0 where
  pub events : List Event
  pub core : Core
  pub coherent : Coherent opening
  pub run : SoloRun encode opening (script_of script) stores events core
  pub failed : FailAsTold dies script.faults events
  pub legal : Legal (plain opening) (calls_of events) (plain core)
  pub serves : Serves (requests script) (calls_of events)
  pub few : faults (calls_of events) ≤ distinct_lines script.faults
  pub many : length (calls_of events) ≡ length script.order
  pub logs : AreLogs (length script.lanes) 0 (calls_of events) r.logs.items
  pub host : r.places.host ≡ (counts_of events).host
  pub drive : r.places.drive ≡ (counts_of events).drive
  pub reads : r.places.reads ≡ (counts_of events).reads
  pub writes : r.places.writes ≡ (counts_of events).writes
  pub image : IsGathered dies script.faults geometry stores events core r.image

-- The same over the drive of an image that mounts to these tables and pages.
abbrev pub HasRunDrive : Meta → List Page → Script → Place → DieKind → Bool → DriveRun → Type 0
HasRunDrive meta pages script place dies stores r = HasRunFrom (opening_of meta pages (length script.lanes) place) meta.geometry script dies stores r
