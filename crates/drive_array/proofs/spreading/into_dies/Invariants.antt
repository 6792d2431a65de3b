use Rattle.std.proofs.Common.{◌≡◌}
use Rattle.std.specs.Prelude.{map}
use Rattle.flash_die.specs.Memory.{view_of}
use Rattle.drive_array.specs.Shares.{dies_of}
use Rattle.drive_array.specs.Parts.{pages_of, plan_of}
use Rattle.drive_array.proofs.spreading.into_dies.Given as goal

abbrev pub invariant-loop-share : goal.invariant-loop-share
invariant-loop-share l = map (λ d. view_of d) l.dies.items ≡ dies_of (map (λ s. pages_of s) l.yielded) (map (λ s. plan_of s) l.yielded)
