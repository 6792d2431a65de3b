-- The parts of a die's share. This project's own.
use Rattle.std.specs.Prelude.{ℕ, List}
use Rattle.flash_die.specs.declared.plan.Plan.{Plan}
use Rattle.drive_array.specs.declared.share.Share.{Share}

abbrev pub pages_of : Share → List (List ℕ)
pages_of share = share.pages.items

abbrev pub plan_of : Share → Plan
plan_of share = share.plan
