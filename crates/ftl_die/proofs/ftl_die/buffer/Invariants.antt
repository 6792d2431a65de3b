use Rattle.std.proofs.Common.{◌≡◌, length}
use Rattle.ftl_die.proofs.ftl_die.buffer.Given as goal

abbrev pub invariant-loop : goal.invariant-loop
invariant-loop l = length l.slots.items ≡ l.counter
