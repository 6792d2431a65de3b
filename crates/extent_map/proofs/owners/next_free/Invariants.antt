use Rattle.std.proofs.Common.{◌≡◌, ◌-◌, ◌≤◌, length, drop}
use Rattle.extent_map.specs.Owners.{unowned, HaveOwners}
use Rattle.extent_map.proofs.owners.next_free.Given as goal

abbrev pub invariant-loop-block : goal.invariant-loop-block
invariant-loop-block l = record {
  within : l.block ≤ length l.owners;
  same : unowned l.block (drop l.block l.owners) ≡ unowned l.from (drop l.from l.owners);
  full : HaveOwners l.from l.owners → HaveOwners l.block l.owners;
}

abbrev pub decreases-loop-block : goal.decreases-loop-block
decreases-loop-block l = length l.owners - l.block
