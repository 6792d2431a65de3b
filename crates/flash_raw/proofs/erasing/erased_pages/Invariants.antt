use Rattle.std.proofs.Common.{◌≡◌, map, replicate, None}
use Rattle.flash_raw.specs.Memory.{shown}
use Rattle.flash_raw.proofs.erasing.erased_pages.Given as goal

abbrev pub invariant-loop : goal.invariant-loop
invariant-loop l = map shown l.pages.items ≡ replicate l.counter None
