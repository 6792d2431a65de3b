-- The pages and the plan of a die in memory. This project's own.
use Rattle.std.specs.Prelude.{ℕ, List}
use Rattle.flash_die.specs.Dies.{PlanView, DieView}
use Rattle.flash_die.specs.Failures.{told_die}
use Rattle.flash_die.specs.declared.die_mem.DieMem.{DieMem}

abbrev pub pages_of : DieMem → List (List ℕ)
pages_of die = die.pages.items

abbrev pub plan_of : DieMem → PlanView
plan_of die = record { reads = die.reads; writes = die.writes; failing_reads = die.failing_reads.items; failing_writes = die.failing_writes.items }

abbrev pub view_of : DieMem → DieView
view_of die = told_die (pages_of die) (plan_of die)
