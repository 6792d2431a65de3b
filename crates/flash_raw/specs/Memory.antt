-- The pages and the plan of raw flash in memory. This project's own.
use Rattle.std.specs.Prelude.{ℕ, List, map, Option, Some, None, if◌then◌else◌}
use Rattle.flash_raw.specs.Raw.{RawView}
use Rattle.flash_raw.specs.Calls.{CallsView, RawPlan, told_raw}
use Rattle.flash_raw.specs.declared.calls.Calls.{Calls}
use Rattle.flash_raw.specs.declared.raw_page.RawPage.{RawPage}
use Rattle.flash_raw.specs.declared.raw_mem.RawMem.{RawMem}

abbrev pub calls_of : Calls → CallsView
calls_of calls = record { made = calls.made; failing = calls.failing.items }

-- a page as it is told
abbrev pub shown : RawPage → Option (List ℕ)
shown page = if page.programmed then Some page.bytes else None

abbrev pub pages_of : RawMem → List (Option (List ℕ))
pages_of raw = map shown raw.pages.items

abbrev pub plan_of : RawMem → RawPlan
plan_of raw = record { earlier = raw.earlier; reads = calls_of raw.reads; programs = calls_of raw.programs; erases = calls_of raw.erases }

abbrev pub view_of : RawMem → RawView
view_of raw = told_raw (pages_of raw) raw.blocks (plan_of raw)
