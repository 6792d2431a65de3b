-- Whether all pages of the dies can be read behind a history, by a script's `fault` lines. This project's own.
use Rattle.std.specs.Prelude.{◌≡◌, ℕ, ◌+◌, ◌<◌, ◌≤◌, Bool, true, false, List, length}
use Rattle.edge_io.specs.Memory.{is_listed}
use Rattle.script_words.specs.declared.script.FaultLine.{FaultLine}
use Rattle.command_words.specs.declared.options.DieKind.{DieKind}
use Rattle.command_words.specs.declared.options.DieKind.TheVariants.{Mem, Ftl, Mirror}
use Rattle.fault_lines.specs.Lines.{numbers_of}
use Rattle.page_base.specs.Drive.{Drive}
use Rattle.drive_array.specs.Reads.{share_of}
use Rattle.core_state.specs.declared.event.Event.{Event}
use Rattle.system_state.specs.Stands.{tally}

-- the number is that of one of so many reads of the die that follow so many
pub record IsNextRead (made pages number : ℕ) : Type 0 where
  pub past : made < number
  pub within : number ≤ made + pages

-- a line names a read of this die
abbrev pub names_read : List FaultLine → ℕ → ℕ → Bool
names_read lines die number = is_listed number (numbers_of false false die lines)

-- a line names a read that gathering makes of a die: behind the die's reads in the history, one for each of its pages
pub record NamesGathered (lines : List FaultLine) (drive : Drive) (events : List Event) : Type 0 where
  pub die : ℕ
  pub there : die < drive.dies
  pub number : ℕ
  pub next : IsNextRead (tally die events).reads (share_of drive die) number
  pub named : names_read lines die number ≡ true

-- and no line does
abbrev pub NamesNone : List FaultLine → Drive → List Event → Type 0
NamesNone lines drive events =
    (die number : ℕ) → die < drive.dies → IsNextRead (tally die events).reads (share_of drive die) number → names_read lines die number ≡ false

-- Whether gathering behind the history failed: over dies in memory exactly where a line names one of its reads, over others only where there is
-- a line.
abbrev pub IsLost : DieKind → List FaultLine → Drive → List Event → Bool → Type 0
IsLost Mem lines drive events true = NamesGathered lines drive events
IsLost Mem lines drive events false = NamesNone lines drive events
IsLost Ftl lines drive events true = 0 < length lines
IsLost Ftl lines drive events false = Unit {0}
IsLost Mirror lines drive events true = 0 < length lines
IsLost Mirror lines drive events false = Unit {0}
