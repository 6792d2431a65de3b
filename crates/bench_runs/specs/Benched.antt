-- What `bench` prints of a run. This project's own.
use Rattle.std.specs.Prelude.{◌≡◌, ℕ, false, List, [], ◌++◌, length}
use Rattle.dispatcher.specs.declared.side.Place.TheVariants.{Auto}
use Rattle.image_format.specs.declared.meta.Meta.{Meta}
use Rattle.plain_files.specs.History.{Entry}
use Rattle.script_words.specs.declared.script.Script.{Script}
use Rattle.script_words.specs.Lanes.{names}
use Rattle.command_words.specs.declared.options.DieKind.TheVariants.{Ftl}
use Rattle.transcript_text.specs.Print.{entry_lines, places_line}
use Rattle.bench_script.specs.Digest.{digest_line}
use Rattle.core_state.specs.State.{Page}
use Rattle.core_state.specs.History.{Counts, calls_of, counts_of}
use Rattle.core_solo.specs.Served.{AreFed}
use Rattle.drive_runs.specs.declared.running.DriveRun.{DriveRun}
use Rattle.drive_runs.specs.Runs.{HasRunDrive}

-- The two lines of calls over lanes with these names, and of these counts: the start and the number of drawn lines of their script, the number
-- of replies and the digest of the reply lines; and the line of places.
abbrev pub bench_lines : List (List ℕ) → ℕ → ℕ → List Entry → Counts → List ℕ
bench_lines names start calls h counts =
    digest_line start calls (length h) (entry_lines names [] h)
    ++ places_line (record { host = counts.host; drive = counts.drive; reads = counts.reads; writes = counts.writes })

-- The text has the two lines of a run of one thread over the drive of an image that mounts to these tables and pages, with functions placed by
-- the system, over dies in raw flash, and without a last sync. Each call of the run found memory.
pub record HasBenched (meta : Meta) (pages : List Page) (script : Script) (start calls : ℕ) (text : List ℕ) : Type 0 where
  pub made : DriveRun
  pub ran : HasRunDrive meta pages script Auto Ftl false made
  pub fed : AreFed (calls_of ran.events)
  pub lines : text ≡ bench_lines (names script) start calls (calls_of ran.events) (counts_of ran.events)
