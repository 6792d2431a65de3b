-- What `fault` lines of a script come to: which of them speak of what a drive lacks, and the calls of its dies that fail. This project's own.
use Rattle.std.specs.Prelude.{ℕ, ◌+◌, ◌==◌, nat_le, Bool, true, false, not, ◌&&◌, ◌||◌, if◌then◌else◌, List, [], ◌∷◌, ◌++◌, map, Option}
use Rattle.std.specs.List.{find, list_any, range_with_len}
use Rattle.edge_io.specs.Memory.{is_listed}
use Rattle.script_words.specs.declared.script.FaultLine.{FaultLine}
use Rattle.command_words.specs.declared.options.DieKind.{DieKind}
use Rattle.command_words.specs.declared.options.DieKind.TheVariants.{Mem, Ftl, Mirror}
use Rattle.flash_die.specs.declared.plan.Plan.{Plan}

-- ---- lines of what a drive lacks

-- each die of this kind has a second copy
abbrev pub has_copies : DieKind → Bool
has_copies Mem = false
has_copies Ftl = false
has_copies Mirror = true

-- a drive of so many dies of this kind lacks the die of the line, or its second copy
abbrev pub is_missing : DieKind → ℕ → FaultLine → Bool
is_missing kind dies line = (line.copy && not (has_copies kind)) || nat_le dies line.die

-- the first such line, which is told as `badscript die LINE`
abbrev pub first_missing : DieKind → ℕ → List FaultLine → Option FaultLine
first_missing kind dies lines = find (is_missing kind dies) lines

-- ---- plans

abbrev pub is_same : Bool → Bool → Bool
is_same a b = if a then b else not b

-- the line speaks of the writes, or of the reads, of the second copy of this die, or of the die itself
abbrev pub is_about : Bool → Bool → ℕ → FaultLine → Bool
is_about copy writing die line = is_same copy line.copy && is_same writing line.writing && (line.die == die)

-- the list with this number, which stands in it once at most
abbrev pub listing : ℕ → List ℕ → List ℕ
listing number numbers = if is_listed number numbers then numbers else numbers ++ number ∷ []

-- the same of the line's number, if the line speaks of these calls
abbrev pub with_line : Bool → Bool → ℕ → FaultLine → List ℕ → List ℕ
with_line copy writing die line numbers = if is_about copy writing die line then listing line.nth numbers else numbers

-- the numbers of these calls that the lines name, each once
unfoldable pub numbers_of : Bool → Bool → ℕ → List FaultLine → List ℕ
numbers_of copy writing die [] = []
numbers_of copy writing die (line ∷ lines) = with_line copy writing die line (numbers_of copy writing die lines)

-- the plan of a die, or of its second copy: its reads and writes that fail
abbrev pub plan_for : List FaultLine → Bool → ℕ → Plan
plan_for lines copy die = record { reads = numbers_of copy false die lines; writes = numbers_of copy true die lines }

-- those of all dies, or of all second copies
abbrev pub plans : List FaultLine → Bool → ℕ → List Plan
plans lines copy dies = map (plan_for lines copy) (range_with_len 0 dies)

-- ---- how many lines

-- the other line names the same call
abbrev pub says_same : FaultLine → FaultLine → Bool
says_same line other = is_about line.copy line.writing line.die other && (other.nth == line.nth)

-- how many calls the lines name: lines that say the same count once
abbrev pub distinct_lines : List FaultLine → ℕ
distinct_lines [] = 0
distinct_lines (line ∷ lines) = distinct_lines lines + (if list_any (says_same line) lines then 0 else 1)
