use Rattle.std.proofs.Common.{◌≡◌, take}
use Rattle.drive_array.proofs.mirroring.copy_of.Given as goal

abbrev pub invariant-loop-page : goal.invariant-loop-page
invariant-loop-page l = l.copied.items ≡ take l.page-index l.pages
