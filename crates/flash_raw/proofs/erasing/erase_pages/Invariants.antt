use Rattle.std.proofs.Common.{◌≡◌, take, map, replicate, None}
use Rattle.flash_raw.specs.Memory.{shown}
use Rattle.flash_raw.proofs.erasing.erase_pages.Given as goal

abbrev pub invariant-loop-page : goal.invariant-loop-page
invariant-loop-page l = map shown (take l.page-index l.pages) ≡ replicate l.page-index None
