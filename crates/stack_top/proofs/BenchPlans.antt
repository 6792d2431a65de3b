-- The run that `bench` tells of, and that it is one.
use Rattle.std.proofs.Common.{◌≡◌, ℕ, List, [], ◌∷◌, ◌++◌, length, map, false, Option, Some, None, Ok, Err, refl, ap, ◌∙◌, sym, subst, arith}
use Rattle.std.specs.Prelude.{Result, codes}
use Rattle.page_base.specs.Drive.{IsDrive}
use Rattle.edge_io.specs.Edges.{Names}
use Rattle.plain_image.specs.declared.drive.PlainDrive.{PlainDrive}
use Rattle.plain_image.specs.Drives.{drive_of}
use Rattle.plain_image.specs.Opened.{Opened, opened}
use Rattle.image_format.specs.declared.meta.Meta.{Meta}
use Rattle.image_format.specs.declared.faults.ImageFault.{ImageFault}
use Rattle.image_format.specs.Image.{Image, read_image, mounts_to}
use Rattle.image_format.specs.Tables.{Mounts, IsMounted, stored_of, own_pages, pages_from}
use Rattle.command_words.specs.declared.options.DieKind.TheVariants as die
use Rattle.command_words.specs.declared.options.Setup.{Setup}
use Rattle.dispatcher.specs.declared.side.Place.TheVariants.{Auto}
use Rattle.script_words.specs.declared.script.Script.{Script}
use Rattle.script_words.specs.declared.script.FaultLine.{FaultLine}
use Rattle.script_words.specs.Lanes.{names}
use Rattle.call_text.specs.declared.faults.ScriptErr.{ScriptErr}
use Rattle.call_text.specs.declared.faults.ScriptErr.TheVariants as err
use Rattle.call_text.specs.Scripts.{read_script}
use Rattle.fault_lines.specs.Lines.{first_missing}
use Rattle.transcript_text.specs.Print.{print}
use Rattle.bench_script.specs.Script.{script}
use Rattle.core_state.specs.declared.event.Event.{Event}
use Rattle.core_state.specs.State.{Page, Core}
use Rattle.core_state.specs.Coherent.{Coherent}
use Rattle.core_state.specs.History.{calls_of, counts_of}
use Rattle.core_state.specs.PlainOf.{plain}
use Rattle.core_solo.specs.Solo.{SoloRun}
use Rattle.core_solo.specs.Served.{AreFed}
use Rattle.system_metas.specs.Encode.{encode}
use Rattle.system_state.specs.Settled.{mounted_of}
use Rattle.mounted_systems.specs.Dealt.{opening_of}
use Rattle.bench_runs.specs.Lines.{script_of}
use Rattle.bench_runs.specs.DriveRun.{DriveRun}
use Rattle.bench_runs.specs.Benched.{bench_lines, HasBenched}
use Rattle.bench_runs.proofs.Benched.{one_run}
use Rattle.bench_runs.proofs.Drawn.{no_faults}
use Rattle.stack_top.specs.declared.acts.Act.{Act}
use Rattle.stack_top.specs.declared.acts.Act.TheVariants as act
use Rattle.stack_top.specs.declared.plan.Plan.{Plan}
use Rattle.stack_top.specs.declared.refusal.Refusal.{Refusal}
use Rattle.stack_top.specs.Benching.{bench_on}
use Rattle.stack_top.specs.Decided.{IsRead, IsDecided}
use Rattle.stack_top.specs.Choices.{Benched}
use Rattle.stack_top.specs.Endings.{BenchesAreOne}
use Rattle.stack_top.specs.Images.{dash_drive, dash_image, no_files}
use Rattle.stack_top.specs.Runs.{plan_told}
use Rattle.stack_top.specs.Scripts.{image_in, script_in, unless_missing}
use Rattle.stack_top.specs.Works.{Finish, bench_run, benches_on, Allows, only_refusal, ends, with_read, ComesTo}
use Rattle.stack_top.proofs.EmptyImages as empty
use Rattle.stack_top.proofs.Told.{ran_told}
use Rattle.stack_top.proofs.Walks.{go_on, unfit}

-- ---- the plan

-- what a run as `solo` makes it would print
abbrev told_by : Script → List Event → DriveRun → List ℕ
told_by script events r = print (names script) (calls_of events) (record { host = r.places.host; drive = r.places.drive; reads = r.places.reads; writes = r.places.writes })

pub bench_told : (bytes : List ℕ) (drive : PlainDrive) (meta : Meta) (pages : List Page) (script : Script) (start calls : ℕ) (text : List ℕ) (plan : Plan)
    → Mounts bytes meta pages (read_image bytes) → drive_of bytes ≡ Ok drive
    → mounts_to bytes ≡ Ok (mounted_of (plain (opening_of meta pages (length script.lanes) Auto)))
    → HasBenched meta pages script start calls text
    → plan ≡ record { acts = act.Print text ∷ []; ending = None }
    → Benched (bench_run (opened bytes drive) script) start calls plan
bench_told bytes drive meta pages script start calls text plan mounts is told b plans =
    let setup : Setup = record { place = Auto; dies = die.Ftl } in
    let printed = told_by script b.ran.events b.made in
    let k = ran_told bytes drive meta pages script (codes "-") setup false b.made printed mounts is told refl b.ran refl in
    let Fed : List Event → Type 0 = λ es. AreFed (calls_of es) in
    let prints : List Event → List Act = λ es. act.Print (bench_lines (names script) start calls (calls_of es) (counts_of es)) ∷ [] in
    record {
      solo = plan_told (codes "-") printed b.made.image;
      ran = k.ran;
      fed = subst Fed (sym k.same) b.fed;
      acts = ap (λ (p : Plan). p.acts) plans ∙ (ap (λ t. act.Print t ∷ []) b.lines ∙ ap prints (sym k.same));
      ending = ap (λ (p : Plan). p.ending) plans;
    }

-- the plan of acts that print a text
pub only_prints : (plan : Plan) (acts : List Act) (text : List ℕ) → plan ≡ record { acts = acts; ending = None } → acts ≡ act.Print text ∷ [] → plan ≡ record { acts = act.Print text ∷ []; ending = None }
only_prints plan acts text is prints = is ∙ (λ j. record { acts = prints j; ending = None })

-- ---- the work

-- what is drawn is no script of such dies
pub bench_unread : (image : Opened) (start calls dies : ℕ) (text : List ℕ) (refusal : Refusal) (told : Option Names) (before now : ℕ) → dies ≡ image.drive.geometry.dies → text ≡ script start calls
    → IsRead (λ (s : Script). s) (script_in die.Ftl dies (read_script text)) (Err refusal) → IsDecided told before now (bench_on image start calls) (Err refusal)
bench_unread image start calls dies text refusal told before now same spelled is =
    let P : ℕ → List ℕ → Type 0 = λ d t. IsRead (λ (s : Script). s) (script_in die.Ftl d (read_script t)) (Err refusal) in
    let at : P image.drive.geometry.dies (script start calls) = subst (P image.drive.geometry.dies) spelled (subst (λ d. P d text) same is) in
    unfit Script Script (λ s. s) told before now (script_in die.Ftl image.drive.geometry.dies (read_script (script start calls))) (λ drawn. ends (benches_on image drawn start calls)) refusal at

pub bench_read : (image : Opened) (drawn : Script) (start calls dies : ℕ) (text : List ℕ) (plan : Plan) (told : Option Names) (before now : ℕ) → dies ≡ image.drive.geometry.dies → text ≡ script start calls
    → IsRead (λ (s : Script). s) (script_in die.Ftl dies (read_script text)) (Ok drawn) → Allows (benches_on image drawn start calls) plan → IsDecided told before now (bench_on image start calls) (Ok plan)
bench_read image drawn start calls dies text plan told before now same spelled is allows =
    let P : ℕ → List ℕ → Type 0 = λ d t. IsRead (λ (s : Script). s) (script_in die.Ftl d (read_script t)) (Ok drawn) in
    let at : P image.drive.geometry.dies (script start calls) = subst (P image.drive.geometry.dies) spelled (subst (λ d. P d text) same is) in
    let on = go_on Script told (script_in die.Ftl image.drive.geometry.dies (read_script (script start calls))) drawn (λ drawn. ends (benches_on image drawn start calls)) at in
    record { finish = benches_on image drawn start calls; comes = on.comes (benches_on image drawn start calls) refl; allows = allows }

-- ---- one core

none_mapped : {A B : Type 0} (f : A → B) (xs : List A) → map f xs ≡ [] → xs ≡ []
none_mapped f [] is = refl
none_mapped f (x ∷ xs) is = cc

-- an image without files mounts to one meta data
one_meta : (bytes : List ℕ) (i : Image) (m n : Meta) (all other : List Page) → i.files ≡ [] → IsMounted bytes i m all → IsMounted bytes i n other → m ≡ n
one_meta bytes i m n all other none a b =
    let no_m : m.names.files ≡ [] = none_mapped stored_of m.names.files (a.files ∙ none) in
    let no_n : n.names.files ≡ [] = none_mapped stored_of n.names.files (b.files ∙ none) in
    let blocks = a.blocks ∙ sym b.blocks in
    let dies = a.dies ∙ sym b.dies in
    let files = no_m ∙ sym no_n in
    let next = a.next ∙ sym b.next in
    let sizes = a.sizes ∙ sym b.sizes in
    let placed = a.extents ∙ sym b.extents in
    let written = a.written ∙ sym b.written in
    λ j. record {
      geometry = record { blocks = blocks j; dies = dies j };
      names = record { files = files j; next = next j };
      extents = record { blocks = sizes j; placed = placed j };
      written = written j;
    }

one_pages : (bytes : List ℕ) (i : Image) (m n : Meta) (all other : List Page) → m ≡ n → IsMounted bytes i m all → IsMounted bytes i n other → all ≡ other
one_pages bytes i m n all other same a b =
    a.pages ∙ (ap (λ (x : Meta). own_pages i.header.version i.header.blocks bytes x ++ pages_from i.body i.header.blocks) same ∙ sym b.pages)

-- so does what is read as one
record IsOneMount (m n : Meta) (all other : List Page) : Type 0 where
  pub meta : m ≡ n
  pub pages : all ≡ other

one_mount : (bytes : List ℕ) (r : Result Image ImageFault) (i : Image) (m n : Meta) (all other : List Page) → r ≡ Ok i → i.files ≡ [] → Mounts bytes m all r → Mounts bytes n other r → IsOneMount m n all other
one_mount bytes r i m n all other is none a b =
    let P : Meta → List Page → Result Image ImageFault → Type 0 = λ x ps s. Mounts bytes x ps s in
    let at : IsMounted bytes i m all = subst (P m all) is a in
    let bt : IsMounted bytes i n other = subst (P n other) is b in
    let same = one_meta bytes i m n all other none at bt in
    record { meta = same; pages = one_pages bytes i m n all other same at bt }

-- ---- one run

dash_limits : IsDrive 1024 1
dash_limits = record { some_blocks = omega arith; most_blocks = omega arith; some_dies = omega arith; most_dies = omega arith }

module _ (told : Option Names) (start calls : ℕ) where
  -- two runs from one opening core
  one_plan : (image : Opened) (drawn : Script) (plan other : Plan) → drawn.faults ≡ [] → (a : Benched (bench_run image drawn) start calls plan) (b : Benched (bench_run image drawn) start calls other)
      → IsOneMount a.ran.opens.meta b.ran.opens.meta a.ran.opens.pages b.ran.opens.pages → plan ≡ other
  one_plan image drawn plan other none a b one =
      let meta = a.ran.opens.meta in
      let pages = a.ran.opens.pages in
      let core : Meta → List Page → Core = λ m ps. opening_of m ps (length drawn.lanes) Auto in
      let Made : List Event → Core → Core → Type 0 = λ es last c. SoloRun encode c (script_of drawn) false es last in
      let first : b.ran.first ≡ core meta pages = b.ran.opens.core ∙ (λ j. core (sym one.meta j) (sym one.pages j)) in
      let same = one_run meta pages drawn a.ran.last b.ran.last a.ran.events b.ran.events none (subst Coherent a.ran.opens.core a.ran.opens.coherent)
      (subst (Made a.ran.events a.ran.last) a.ran.opens.core a.ran.made) a.ran.failed a.fed (subst (Made b.ran.events b.ran.last) first b.ran.made) b.ran.failed b.fed in
      let acts : plan.acts ≡ other.acts = a.acts ∙ (ap (λ (es : List Event). act.Print (bench_lines (names drawn) start calls (calls_of es) (counts_of es)) ∷ []) same ∙ sym b.acts) in
      let ending : plan.ending ≡ other.ending = a.ending ∙ sym b.ending in
      λ j. record { acts = acts j; ending = ending j }

  -- over `-`
  one_dash_plan : (drive : PlainDrive) (drawn : Script) (plan other : Plan) → drawn.faults ≡ [] → Benched (bench_run (opened dash_image drive) drawn) start calls plan → Benched (bench_run (opened dash_image drive) drawn) start calls other → plan ≡ other
  unfolding dash_image
  one_dash_plan drive drawn plan other none a b =
      let e = empty.reads dash_drive dash_limits in
      one_plan (opened dash_image drive) drawn plan other none a b
      (one_mount dash_image (read_image dash_image) e.image a.ran.opens.meta b.ran.opens.meta a.ran.opens.pages b.ran.opens.pages e.read e.none a.ran.opens.mounted b.ran.opens.mounted)

  finished : (drive : PlainDrive) (r : Result Script Refusal) (f g : Finish) (plan other : Plan) → ((drawn : Script) → r ≡ Ok drawn → drawn.faults ≡ [])
      → ComesTo told (with_read r (λ drawn. ends (benches_on (opened dash_image drive) drawn start calls))) f → Allows f plan
      → ComesTo told (with_read r (λ drawn. ends (benches_on (opened dash_image drive) drawn start calls))) g → Allows g other → plan ≡ other
  finished drive (Ok drawn) f g plan other none c a d b =
      one_dash_plan drive drawn plan other (none drawn refl) (subst (λ (x : Finish). Allows x plan) (sym c) a) (subst (λ (x : Finish). Allows x other) (sym d) b)
  finished drive (Err refusal) f g plan other none c a d b =
      let at : plan ≡ only_refusal refusal = subst (λ (x : Finish). Allows x plan) (sym c) a in
      let bt : other ≡ only_refusal refusal = subst (λ (x : Finish). Allows x other) (sym d) b in
      at ∙ sym bt

abbrev AreSame : Result Script Refusal → Result Script Refusal → Type 0
AreSame a b = a ≡ b

one_script : (a b : Script) → AreSame (Ok a) (Ok b) → a ≡ b
one_script a b is = cc

abbrev AreReadAs : Result Script ScriptErr → Result Script ScriptErr → Type 0
AreReadAs a b = a ≡ b

-- a script over dies that aren't missing is as it was read
as_read : (dies : ℕ) (r : Result Script ScriptErr) (drawn : Script) → script_in die.Ftl dies r ≡ Ok drawn → r ≡ Ok drawn
as_read dies (Ok s) drawn is = by (first_missing die.Ftl dies s.faults) is
  where
    by : (missing : Option FaultLine) → unless_missing missing s ≡ Ok drawn → AreReadAs (Ok s) (Ok drawn)
    by None is = ap Ok (one_script s drawn is)
    by (Some line) is = cc
as_read dies (Err (err.Script fault)) drawn is = cc
as_read dies (Err (err.Asm fault)) drawn is = cc
as_read dies (Err err.NoMemory) drawn is = cc

pub benches_are_one : BenchesAreOne
unfolding dash_image
benches_are_one told start calls plan other a b =
    let drive : PlainDrive = record { geometry = dash_drive; plain = no_files 1024 } in
    let read : drive_of dash_image ≡ Ok drive = empty.opens dash_drive dash_limits in
    let Comes : Finish → Result PlainDrive ImageFault → Type 0 = λ f r. ComesTo told (with_read (image_in dash_image r) (λ image. bench_on image start calls)) f in
    finished told start calls drive (script_in die.Ftl 1 (read_script (script start calls))) a.finish b.finish plan other
    (λ drawn is. no_faults start calls drawn (as_read 1 (read_script (script start calls)) drawn is))
    (subst (Comes a.finish) read a.comes) a.allows (subst (Comes b.finish) read b.comes) b.allows
