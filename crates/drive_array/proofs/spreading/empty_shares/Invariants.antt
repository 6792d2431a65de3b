use Rattle.std.proofs.Common.{◌≡◌, [], length}
use Rattle.std.specs.Prelude.{map, replicate}
use Rattle.drive_array.specs.Parts.{pages_of, plan_of}
use Rattle.drive_array.proofs.spreading.empty_shares.Given as goal

abbrev pub invariant-loop-plan : goal.invariant-loop-plan
invariant-loop-plan l = (map (λ s. plan_of s) l.shares.items ≡ l.yielded) × (map (λ s. pages_of s) l.shares.items ≡ replicate (length l.yielded) [])
