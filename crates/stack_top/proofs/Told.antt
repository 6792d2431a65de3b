-- What is told of a run, as the plan of one run of the choice.
use Rattle.std.proofs.Common.{◌≡◌, inl, inr, ℕ, List, [], ◌∷◌, map, Bool, true, false, bytes_eq, Option, Some, None, Result, Ok, Err, refl, ap, ◌∙◌, sym, subst, arith, ◌≤◌}
use Rattle.std.specs.Prelude.{codes, not, length, is_some, if◌then◌else◌, IfOk}
use Rattle.std.specs.declared.alloc.AllocError.{AllocError}
use Rattle.image_format.proofs.Steps.{ok_bind}
use Rattle.image_format.specs.declared.faults.ImageFault.{ImageFault}
use Rattle.image_format.specs.declared.meta.Meta.{Meta}
use Rattle.image_format.specs.Image.{Image, Mounted, mounted, mounts_to, read_image}
use Rattle.image_format.specs.Tables.{Mounts, IsMounted}
use Rattle.page_base.specs.Drive.{Drive}
use Rattle.command_words.specs.declared.options.DieKind.{DieKind}
use Rattle.command_words.specs.declared.options.Setup.{Setup}
use Rattle.dispatcher.specs.declared.side.Place.{Place}
use Rattle.script_words.specs.declared.script.Script.{Script}
use Rattle.script_words.specs.Lanes.{names, requests}
use Rattle.transcript_text.specs.Print.{Counts, print}
use Rattle.plain_files.specs.declared.calls.PlainFile.{PlainFile}
use Rattle.plain_files.specs.Plain.{State, Function}
use Rattle.plain_files.specs.History.{Entry, Legal, Serves}
use Rattle.log_text.specs.Told.{IsTold}
use Rattle.log_text.proofs.Lanes.{lanes_are_there}
use Rattle.bench_runs.specs.LaneLog.{LaneLog}
use Rattle.bench_runs.specs.Logs.{AreLogs}
use Rattle.plain_image.specs.declared.drive.PlainDrive.{PlainDrive}
use Rattle.plain_image.specs.Drives.{plain_file, machine_on, drive_in, drive_of}
use Rattle.plain_image.specs.Opened.{Opened, opened}
use Rattle.core_state.specs.declared.event.Event.{Event}
use Rattle.core_state.specs.State.{Page, Core}
use Rattle.core_state.specs.Coherent.{Coherent}
use Rattle.core_state.specs.History as history
use Rattle.core_state.specs.History.{calls_of, counts_of, faults}
use Rattle.core_state.specs.PlainOf.{plain}
use Rattle.core_plans.specs.Lines.{FailAsTold}
use Rattle.core_solo.specs.Solo.{SoloRun}
use Rattle.fault_lines.specs.Lines.{distinct_lines}
use Rattle.system_metas.specs.Encode.{encode}
use Rattle.system_state.specs.Settled.{mounted_file, mounted_of}
use Rattle.mounted_systems.specs.Dealt.{opening_of}
use Rattle.bench_runs.specs.Lines.{script_of}
use Rattle.bench_runs.specs.DriveImage.{DriveImage}
use Rattle.bench_runs.specs.DriveImage.TheVariants.{NotAsked, Whole, Lost}
use Rattle.bench_runs.specs.DriveRun.{DriveRun}
use Rattle.bench_runs.specs.Runs.{IsStoredImage, IsGathered, HasRunFrom, HasRunDrive}
use Rattle.stack_top.specs.declared.acts.Act.TheVariants as act
use Rattle.stack_top.specs.declared.plan.Plan.{Plan}
use Rattle.stack_top.specs.Acts.{name_of}
use Rattle.stack_top.specs.Choices.{Running, RanBy, InLineOrder, Ran, IsOpening, AreOfRun, EndsAs, unless_refused, printed_counts, transcript_of}
use Rattle.stack_top.specs.Images.{IsImageOf}
use Rattle.stack_top.specs.Runs.{plan_told}
use Rattle.stack_top.specs.Works.{Allows, runs_on}

-- ---- the drive that is opened

files_again : (files : List PlainFile) → map plain_file (map mounted_file files) ≡ files
files_again [] = refl
files_again (f ∷ files) = ap (λ rest. f ∷ rest) (files_again files)

abbrev state_of : List PlainFile → ℕ → List Function → ℕ → State
state_of files next functions capacity = record { files = files; next = next; functions = functions; capacity = capacity }

-- the plain state is that of the machine on the drive, where it mounts to the same files and has no functions
state_again : (s : State) (blocks : ℕ) (m : Mounted) → m ≡ mounted_of s → s.functions ≡ [] → s.capacity ≡ blocks → machine_on blocks m ≡ s
state_again s blocks m is none capacity =
    ap (machine_on blocks) is
    ∙ ap (λ fs. state_of fs s.next [] blocks) (files_again s.files)
    ∙ ap (λ gs. state_of s.files s.next gs blocks) (sym none)
    ∙ ap (λ n. state_of s.files s.next s.functions n) (sym capacity)

-- a drive has the sizes of the tables that its image mounts to, and the plain state of their opening core
pub record IsSameDrive (meta : Meta) (first : State) (drive : PlainDrive) : Type 0 where
  pub sizes : meta.geometry ≡ drive.geometry
  pub state : first ≡ drive.plain

abbrev SameDrives : Result PlainDrive ImageFault → Result PlainDrive ImageFault → Type 0
SameDrives a b = a ≡ b

abbrev SameMounts : Result Mounted ImageFault → Result Mounted ImageFault → Type 0
SameMounts a b = a ≡ b

one_drive : (a b : PlainDrive) → SameDrives (Ok a) (Ok b) → a ≡ b
one_drive a b is = cc

one_mount : (a b : Mounted) → SameMounts (Ok a) (Ok b) → a ≡ b
one_mount a b is = cc

sizes_same : (bytes : List ℕ) (i : Image) (meta : Meta) (all : List Page) → IsMounted bytes i meta all → meta.geometry ≡ (drive_in i).geometry
sizes_same bytes i meta all at = λ j. record { blocks = at.blocks j; dies = at.dies j }

pub drive_opened : (bytes : List ℕ) (meta : Meta) (all : List Page) (drive : PlainDrive) (first : State) → Mounts bytes meta all (read_image bytes) → drive_of bytes ≡ Ok drive → mounts_to bytes ≡ Ok (mounted_of first) → first.functions ≡ [] → first.capacity ≡ meta.geometry.blocks → IsSameDrive meta first drive
unfolding drive_of mounts_to
drive_opened bytes meta all drive first mounts is told none capacity = by_read (read_image bytes) refl mounts
  where
    by_read : (r : Result Image ImageFault) → read_image bytes ≡ r → Mounts bytes meta all r → IsSameDrive meta first drive
    by_read (Err fault) read at = absurd at
    by_read (Ok i) read at =
        let same : drive_in i ≡ drive = one_drive (drive_in i) drive (sym (ok_bind (read_image bytes) i _ read) ∙ is) in
        let files : mounted i ≡ mounted_of first = one_mount (mounted i) (mounted_of first) (sym (ok_bind (read_image bytes) i _ read) ∙ told) in
        record {
          sizes = sizes_same bytes i meta all at ∙ ap (λ (d : PlainDrive). d.geometry) same;
          state = sym (state_again first i.header.blocks (mounted i) files none (capacity ∙ at.blocks)) ∙ ap (λ (d : PlainDrive). d.plain) same;
        }

-- ---- the ending and the acts

name_there : (dash : Bool) (name out : List ℕ) → (if dash then None else Some name) ≡ Some out → name ≡ out
name_there true name out is = cc
name_there false name out is = cc

ending_told : (o : Opened) (script : Script) (place : Place) (dies : DieKind) (name : List ℕ) (out : Option (List ℕ)) (events : List Event) (core : Core) (text : List ℕ) (image : DriveImage) → IsGathered dies script.faults o.drive.geometry (is_some out) events core image → EndsAs (record { opened = o; script = script; out = out; place = place; dies = dies }) events (plan_told name text image).ending
ending_told o script place dies name None events core text NotAsked is = inl refl
ending_told o script place dies name None events core text (Whole bytes) is = let no = is.0 in cc
ending_told o script place dies name None events core text Lost is = let no = is.0 in cc
ending_told o script place dies name (Some out) events core text NotAsked is = cc
ending_told o script place dies name (Some out) events core text (Whole bytes) is = inr (is.1, is.2)
ending_told o script place dies name (Some out) events core text Lost is = (refl, is.1)

acts_told : (dies : DieKind) (script : Script) (drive : Drive) (name : List ℕ) (out : Option (List ℕ)) (events : List Event) (core : Core) (text : List ℕ) (image : DriveImage) → ((other : List ℕ) → out ≡ Some other → name ≡ other) → IsGathered dies script.faults drive (is_some out) events core image → AreOfRun (unless_refused (plan_told name text image).ending out) text drive (plain core) (plan_told name text image).acts
acts_told dies script drive name None events core text NotAsked named is = refl
acts_told dies script drive name None events core text (Whole bytes) named is = let no = is.0 in cc
acts_told dies script drive name None events core text Lost named is = let no = is.0 in cc
acts_told dies script drive name (Some out) events core text NotAsked named is = cc
acts_told dies script drive name (Some out) events core text (Whole bytes) named is =
    let image : IsStoredImage drive (plain core) bytes.items = is.3 in
    let of : IsImageOf drive (plain core) bytes.items = record { mounts = image.mounts; loads = image.loads; spelled = image.spelled } in
    (bytes.items, of, ap (λ n. act.Print text ∷ act.Store n bytes.items ∷ []) (named out refl))
acts_told dies script drive name (Some out) events core text Lost named is = refl

-- ---- the counts

abbrev counts_as : ℕ → ℕ → ℕ → ℕ → Counts
counts_as host drive reads writes = record { host = host; drive = drive; reads = reads; writes = writes }

counts_same : (host drive reads writes : ℕ) (c : history.Counts) → host ≡ c.host → drive ≡ c.drive → reads ≡ c.reads → writes ≡ c.writes → counts_as host drive reads writes ≡ printed_counts c
counts_same host drive reads writes c h d r w = λ i. record { host = h i; drive = d i; reads = r i; writes = w i }

-- ---- the plan

-- a plan is that of a run with these events, which were made in some way
pub record IsRanBy (makes : Core → List Event → Core → Type 0) (run : Running) (plan : Plan) (events : List Event) : Type 0 where
  pub ran : RanBy makes run plan
  pub same : ran.events ≡ events

-- what runs of both kinds tell of their events, from an opening core to a last one
pub record IsRunOf (first : Core) (geometry : Drive) (script : Script) (dies : DieKind) (stores : Bool) (r : DriveRun) (events : List Event) (last : Core) : Type 0 where
  pub coherent : Coherent first
  pub failed : FailAsTold dies script.faults events
  pub legal : Legal (plain first) (calls_of events) (plain last)
  pub serves : Serves (requests script) (calls_of events)
  pub few : faults (calls_of events) ≤ distinct_lines script.faults
  pub host : r.places.host ≡ (counts_of events).host
  pub drive : r.places.drive ≡ (counts_of events).drive
  pub reads : r.places.reads ≡ (counts_of events).reads
  pub writes : r.places.writes ≡ (counts_of events).writes
  pub image : IsGathered dies script.faults geometry stores events last r.image

-- the core is the opening core of an image that was opened
pub opening_told : (bytes : List ℕ) (drive : PlainDrive) (meta : Meta) (pages : List Page) (run : Running)
    → run.opened ≡ opened bytes drive → Mounts bytes meta pages (read_image bytes) → drive_of bytes ≡ Ok drive
    → mounts_to bytes ≡ Ok (mounted_of (plain (opening_of meta pages (length run.script.lanes) run.place)))
    → Coherent (opening_of meta pages (length run.script.lanes) run.place)
    → IsOpening run (opening_of meta pages (length run.script.lanes) run.place)
opening_told bytes drive meta pages run over mounts is told coherent =
    let first : Core = opening_of meta pages (length run.script.lanes) run.place in
    let same : IsSameDrive meta (plain first) drive = drive_opened bytes meta pages drive (plain first) mounts is told refl refl in
    let Mounted : Opened → Type 0 = λ o. Mounts o.bytes meta pages (read_image o.bytes) in
    let Same : Opened → Type 0 = λ o. plain first ≡ o.drive.plain in
    record {
      meta = meta;
      pages = pages;
      mounted = subst Mounted (sym over) mounts;
      core = refl;
      coherent = coherent;
      same = subst Same (sym over) same.state;
    }

-- the plan of a run whose events were made in some way
pub ran_by : (makes : Core → List Event → Core → Type 0) (bytes : List ℕ) (drive : PlainDrive) (meta : Meta) (pages : List Page) (script : Script) (name : List ℕ) (setup : Setup) (stores : Bool) (r : DriveRun) (events : List Event) (last : Core) (text : List ℕ)
    → Mounts bytes meta pages (read_image bytes) → drive_of bytes ≡ Ok drive
    → mounts_to bytes ≡ Ok (mounted_of (plain (opening_of meta pages (length script.lanes) setup.place)))
    → stores ≡ is_some (name_of name) → IsRunOf (opening_of meta pages (length script.lanes) setup.place) meta.geometry script setup.dies stores r events last
    → makes (opening_of meta pages (length script.lanes) setup.place) events last
    → text ≡ print (names script) (calls_of events) (record { host = r.places.host; drive = r.places.drive; reads = r.places.reads; writes = r.places.writes })
    → IsRanBy makes (record { opened = opened bytes drive; script = script; out = name_of name; place = setup.place; dies = setup.dies }) (plan_told name text r.image) events
ran_by makes bytes drive meta pages script name setup stores r events last text mounts is told asked ran made printed =
    let first : Core = opening_of meta pages (length script.lanes) setup.place in
    let run : Running = record { opened = opened bytes drive; script = script; out = name_of name; place = setup.place; dies = setup.dies } in
    let same : IsSameDrive meta (plain first) drive = drive_opened bytes meta pages drive (plain first) mounts is told refl refl in
    let Begins : State → Type 0 = λ s. Legal s (calls_of events) (plain last) in
    let Gathered : Bool → Type 0 = λ b. IsGathered setup.dies script.faults meta.geometry b events last r.image in
    let On : Drive → Type 0 = λ d. IsGathered setup.dies script.faults d (is_some (name_of name)) events last r.image in
    let gathered : On drive.geometry = subst On same.sizes (subst Gathered asked ran.image) in
    let spelled : text ≡ transcript_of run events =
    printed ∙ ap (print (names script) (calls_of events)) (counts_same r.places.host r.places.drive r.places.reads r.places.writes (counts_of events) ran.host ran.drive ran.reads ran.writes) in
    let named : (other : List ℕ) → name_of name ≡ Some other → name ≡ other = λ other there. name_there (bytes_eq name (codes "-")) name other there in
    let Acts : List ℕ → Type 0 = λ t. AreOfRun (unless_refused (plan_told name text r.image).ending (name_of name)) t drive.geometry (plain last) (plan_told name text r.image).acts in
    record {
      ran = record {
        first = first;
        events = events;
        last = last;
        opens = opening_told bytes drive meta pages run refl mounts is told ran.coherent;
        legal = subst Begins same.state ran.legal;
        serves = ran.serves;
        few = ran.few;
        made = made;
        failed = ran.failed;
        ending = ending_told (opened bytes drive) script setup.place setup.dies name (name_of name) events last text r.image gathered;
        acts = subst Acts spelled (acts_told setup.dies script drive.geometry name (name_of name) events last text r.image named gathered);
      };
      same = refl;
    }

solo_run : (first : Core) (geometry : Drive) (script : Script) (dies : DieKind) (stores : Bool) (r : DriveRun) (ran : HasRunFrom first geometry script dies stores r) → IsRunOf first geometry script dies stores r ran.events ran.core
solo_run first geometry script dies stores r ran = record {
  coherent = ran.coherent;
  failed = ran.failed;
  legal = ran.legal;
  serves = ran.serves;
  few = ran.few;
  host = ran.host;
  drive = ran.drive;
  reads = ran.reads;
  writes = ran.writes;
  image = ran.image;
}

-- the plan of a run on one thread
pub ran_told : (bytes : List ℕ) (drive : PlainDrive) (meta : Meta) (pages : List Page) (script : Script) (name : List ℕ) (setup : Setup) (stores : Bool) (r : DriveRun) (text : List ℕ)
    → Mounts bytes meta pages (read_image bytes) → drive_of bytes ≡ Ok drive
    → mounts_to bytes ≡ Ok (mounted_of (plain (opening_of meta pages (length script.lanes) setup.place)))
    → stores ≡ is_some (name_of name) → (ran : HasRunDrive meta pages script setup.place setup.dies stores r)
    → text ≡ print (names script) (calls_of ran.events) (record { host = r.places.host; drive = r.places.drive; reads = r.places.reads; writes = r.places.writes })
    → IsRanBy (InLineOrder (record { opened = opened bytes drive; script = script; out = name_of name; place = setup.place; dies = setup.dies })) (record { opened = opened bytes drive; script = script; out = name_of name; place = setup.place; dies = setup.dies }) (plan_told name text r.image) ran.events
ran_told bytes drive meta pages script name setup stores r text mounts is told asked ran printed =
    let first : Core = opening_of meta pages (length script.lanes) setup.place in
    let run : Running = record { opened = opened bytes drive; script = script; out = name_of name; place = setup.place; dies = setup.dies } in
    let Made : Bool → Type 0 = λ b. SoloRun encode first (script_of script) b ran.events ran.core in
    ran_by (InLineOrder run) bytes drive meta pages script name setup stores r ran.events ran.core text mounts is told asked
    (solo_run first meta.geometry script setup.dies stores r ran) (subst Made asked ran.run) printed

run_told : (bytes : List ℕ) (drive : PlainDrive) (meta : Meta) (pages : List Page) (script : Script) (name : List ℕ) (setup : Setup) (stores : Bool) (r : DriveRun) (text : List ℕ) (plan : Plan)
    → Mounts bytes meta pages (read_image bytes) → drive_of bytes ≡ Ok drive
    → mounts_to bytes ≡ Ok (mounted_of (plain (opening_of meta pages (length script.lanes) setup.place)))
    → stores ≡ is_some (name_of name) → (ran : HasRunDrive meta pages script setup.place setup.dies stores r)
    → text ≡ print (names script) (calls_of ran.events) (record { host = r.places.host; drive = r.places.drive; reads = r.places.reads; writes = r.places.writes })
    → plan ≡ plan_told name text r.image
    → Ran (record { opened = opened bytes drive; script = script; out = name_of name; place = setup.place; dies = setup.dies }) plan
run_told bytes drive meta pages script name setup stores r text plan mounts is told asked ran printed plans =
    let P : Plan → Type 0 = λ p. Ran (record { opened = opened bytes drive; script = script; out = name_of name; place = setup.place; dies = setup.dies }) p in
    subst P (sym plans) (ran_told bytes drive meta pages script name setup stores r text mounts is told asked ran printed).ran

-- ---- what is printed

asked_some : (dash : Bool) (name : List ℕ) → not dash ≡ is_some (if dash then None else Some name)
asked_some true name = refl
asked_some false name = refl

-- an image is asked for where OUT isn't `-`
pub asks_image : (stores : Bool) (name : List ℕ) → stores ≡ not (bytes_eq name (codes "-")) → stores ≡ is_some (name_of name)
asks_image stores name is = is ∙ asked_some (bytes_eq name (codes "-")) name

pub logs_told : (script : Script) (calls : List Entry) (logs seen : List LaneLog) → seen ≡ logs → AreLogs (length script.lanes) 0 calls logs → Serves (requests script) calls → length calls ≡ length script.order → length script.order ≤ 10000 → IsTold (length script.lanes) calls seen
logs_told script calls logs seen same are serves many few =
    let P : List LaneLog → Type 0 = λ ls. AreLogs (length script.lanes) 0 calls ls in
    record { are = subst P (sym same) are; known = lanes_are_there script.lanes calls serves; few = omega (arith, many, few) }

pub plan_allowed : (drive : PlainDrive) (meta : Meta) (pages : List Page) (script : Script) (name : List ℕ) (setup : Setup) (stores : Bool) (r : DriveRun) (text : List ℕ) (result : Result Plan AllocError)
    → ((bytes : List ℕ) → Mounts bytes meta pages (read_image bytes) → mounts_to bytes ≡ Ok (mounted_of (plain (opening_of meta pages (length script.lanes) setup.place))))
    → stores ≡ is_some (name_of name) → (ran : HasRunDrive meta pages script setup.place setup.dies stores r)
    → text ≡ print (names script) (calls_of ran.events) (record { host = r.places.host; drive = r.places.drive; reads = r.places.reads; writes = r.places.writes })
    → IfOk result (λ plan. plan ≡ plan_told name text r.image)
    → IfOk result (λ plan. (bytes : List ℕ) → Mounts bytes meta pages (read_image bytes) → drive_of bytes ≡ Ok drive → Allows (runs_on (opened bytes drive) script (name_of name) setup) plan)
plan_allowed drive meta pages script name setup stores r text (Err e) told asked ran printed plans = tt
plan_allowed drive meta pages script name setup stores r text (Ok plan) told asked ran printed plans = λ bytes mounts is.
    run_told bytes drive meta pages script name setup stores r text plan mounts is (told bytes mounts) asked ran printed plans
