use Rattle.std.proofs.Common.{◌≡◌, replicate, None, Option, ℕ}
use Rattle.ftl_die.proofs.layout.free_slots.Given as goal

abbrev pub invariant-loop : goal.invariant-loop
invariant-loop l = l.owners.items ≡ replicate {A = Option ℕ} l.counter None
