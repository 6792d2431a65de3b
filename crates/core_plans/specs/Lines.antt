-- Dies that are made with the plans of a script's `fault` lines, and histories that fail as the lines say. This project's own.
use Rattle.std.specs.Prelude.{◌≡◌, ℕ, ◌+◌, Bool, true, false, List, length, Some}
use Rattle.script_words.specs.declared.script.FaultLine.{FaultLine}
use Rattle.command_words.specs.declared.options.DieKind.{DieKind}
use Rattle.command_words.specs.declared.options.DieKind.TheVariants.{Mem, Ftl, Mirror}
use Rattle.fault_lines.specs.Lines.{plan_for, distinct_lines}
use Rattle.flash_die.specs.Dies.{DieView}
use Rattle.core_state.specs.declared.event.Event.{Event}
use Rattle.core_state.specs.History.{DiePlan, Planned}
use Rattle.core_plans.specs.Failing.{FailAtMost, MayFail, unused}

-- the plan of a die, or of its second copy, by the lines
abbrev pub plan_of : List FaultLine → Bool → ℕ → DiePlan
plan_of lines copy die = record { reads = (plan_for lines copy die).reads; writes = (plan_for lines copy die).writes }

-- how many numbers a plan lists
abbrev pub listed_in : DiePlan → ℕ
listed_in plan = length plan.reads + length plan.writes

-- and how many those of a die and of its second copy
abbrev pub listed_for : List FaultLine → ℕ → ℕ
listed_for lines die = listed_in (plan_of lines false die) + listed_in (plan_of lines true die)

-- a die in memory tells its plan
abbrev pub TellsPlan : DieKind → List FaultLine → ℕ → DieView → Type 0
TellsPlan Mem lines d die = die.plan ≡ Some (unused (plan_of lines false d))
TellsPlan Ftl lines d die = Unit {0}
TellsPlan Mirror lines d die = Unit {0}

-- a die of this kind that has just been made with the plans of the lines: it bounds its failures by how many calls the lines name for it
pub record IsDieOf (kind : DieKind) (lines : List FaultLine) (d : ℕ) (die : DieView) : Type 0 where
  pub plan : TellsPlan kind lines d die
  pub few : MayFail die (listed_for lines d)

-- Over dies in memory exactly the reads and writes fail that the lines name; over others no more die events than that fail.
abbrev pub FailAsTold : DieKind → List FaultLine → List Event → Type 0
FailAsTold Mem lines events = Planned events (plan_of lines false)
FailAsTold Ftl lines events = FailAtMost (distinct_lines lines) events
FailAsTold Mirror lines events = FailAtMost (distinct_lines lines) events
