-- The calls of raw flash in memory, of three kinds, and how many of them have failed. This project's own.
use Rattle.std.specs.Prelude.{ℕ, ◌+◌, Bool, List, length, Option, Some}
use Rattle.edge_io.specs.Memory.{is_listed}
use Rattle.flash_die.specs.Dies.{next_number}
use Rattle.flash_die.specs.Failures.{failed_of}
use Rattle.flash_raw.specs.Raw.{RawView}

-- how many calls of a kind were made, and the numbers, counted from 1, of those that fail
pub record CallsView : Type 0 where
  pub made : ℕ
  pub failing : List ℕ

-- no call was made yet, and these fail
abbrev pub first_calls : List ℕ → CallsView
first_calls failing = record { made = 0; failing = failing }

-- the next call fails: its number is listed
abbrev pub next_fails : CallsView → Bool
next_fails calls = is_listed (next_number calls.made) calls.failing

abbrev pub after_call : CallsView → CallsView
after_call calls = record calls { made = next_number calls.made }

-- the reads, the programs and the erases, and how many calls had failed before these are counted
pub record RawPlan : Type 0 where
  pub earlier : ℕ
  pub reads : CallsView
  pub programs : CallsView
  pub erases : CallsView

-- how many calls have failed
abbrev pub faults_of : RawPlan → ℕ
faults_of plan =
    plan.earlier + failed_of plan.reads.made plan.reads.failing + failed_of plan.programs.made plan.programs.failing + failed_of plan.erases.made plan.erases.failing

-- how many calls had failed, with how many numbers are listed
abbrev pub most_of : RawPlan → ℕ
most_of plan = plan.earlier + length plan.reads.failing + length plan.programs.failing + length plan.erases.failing

-- raw flash of these pages and so many blocks, which fails by this plan
abbrev pub told_raw : List (Option (List ℕ)) → ℕ → RawPlan → RawView
told_raw pages blocks plan = record { pages = pages; blocks = blocks; faults = faults_of plan; most = Some (most_of plan) }
