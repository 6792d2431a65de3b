-- What a die in memory tells, and what its failed calls come to. This project's own.
use Rattle.std.specs.Prelude.{ℕ, zero, suc, ◌+◌, List, length, replicate, if◌then◌else◌, Some}
use Rattle.edge_io.specs.Memory.{is_listed}
use Rattle.flash_die.specs.Dies.{PlanView, DieView}

-- how many of the calls up to this number are listed
unfoldable pub failed_of : ℕ → List ℕ → ℕ
failed_of zero numbers = 0
failed_of (suc made) numbers = failed_of made numbers + (if is_listed (suc made) numbers then 1 else 0)

-- how many calls have failed
abbrev pub faults_of : PlanView → ℕ
faults_of plan = failed_of plan.reads plan.failing_reads + failed_of plan.writes plan.failing_writes

-- how many numbers the plan lists
abbrev pub listed_of : PlanView → ℕ
listed_of plan = length plan.failing_reads + length plan.failing_writes

-- a die of these pages that tells everything
abbrev pub told_die : List (List ℕ) → PlanView → DieView
told_die pages plan = record { pages = Some pages; size = length pages; faults = faults_of plan; most = Some (listed_of plan); plan = Some plan }

-- a page whose write has failed: bytes 0xa5
unfoldable pub spoilt_page : List ℕ
spoilt_page = replicate 4096 165
