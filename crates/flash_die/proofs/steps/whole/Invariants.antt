use Rattle.std.proofs.Common.{take}
use Rattle.flash_die.specs.Dies.{AreWhole}
use Rattle.flash_die.proofs.steps.whole.Given as goal

abbrev pub invariant-loop-page : goal.invariant-loop-page
invariant-loop-page l = AreWhole (take l.page-index l.page-items)
