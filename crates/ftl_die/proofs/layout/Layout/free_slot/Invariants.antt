use Rattle.std.proofs.Common.{◌≡◌, take}
use Rattle.ftl_die.specs.Places.{held_in}
use Rattle.ftl_die.proofs.layout.Layout.free_slot.Given as goal

abbrev pub invariant-loop-slot : goal.invariant-loop-slot
invariant-loop-slot l = held_in (take l.slot l.self.owners.items) ≡ l.slot
