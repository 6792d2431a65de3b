-- Dies in memory with the pages and the plans that they are given. This project's own.
use Rattle.std.specs.Prelude.{ℕ, ◌+◌, List, [], ◌∷◌, length, Some, None}
use Rattle.flash_die.specs.Dies.{PlanView, DieView}
use Rattle.flash_die.specs.Failures.{told_die}
use Rattle.flash_die.specs.declared.plan.Plan.{Plan}
use Rattle.flash_raw.specs.Calls.{RawPlan, first_calls}

-- a plan before the first call
abbrev pub start_plan : Plan → PlanView
start_plan plan = record { reads = 0; writes = 0; failing_reads = plan.reads; failing_writes = plan.writes }

-- a die of each list of pages, with its plan
abbrev pub dies_of : List (List (List ℕ)) → List Plan → List DieView
dies_of [] plans = []
dies_of (pages ∷ lists) [] = []
dies_of (pages ∷ lists) (plan ∷ plans) = told_die pages (start_plan plan) ∷ dies_of lists plans

-- a die over raw flash with these pages, armed with the plan
abbrev pub loaded_die : List (List ℕ) → Plan → DieView
loaded_die pages plan = record { pages = Some pages; size = length pages; faults = 0; most = Some (length plan.reads + length plan.writes); plan = None }

-- one of each list of pages, with its plan
abbrev pub loaded_of : List (List (List ℕ)) → List Plan → List DieView
loaded_of [] plans = []
loaded_of (pages ∷ lists) [] = []
loaded_of (pages ∷ lists) (plan ∷ plans) = loaded_die pages plan ∷ loaded_of lists plans

-- the plan of raw flash whose reads and programs fail as the plan's reads and writes, and whose erases never do
abbrev pub armed : Plan → RawPlan
armed plan = record { earlier = 0; reads = first_calls plan.reads; programs = first_calls plan.writes; erases = first_calls [] }
