use Rattle.std.proofs.Common.{◌-◌, ◌≤◌, length}
use Rattle.name_table.specs.Hashes.{before}
use Rattle.name_table.proofs.index.before.Given as goal

abbrev pub invariant-loop-low : goal.invariant-loop-low
invariant-loop-low l = record { high : l.high ≤ length l.entries; least : l.low ≤ before l.hash l.entries; most : before l.hash l.entries ≤ l.high }

abbrev pub decreases-loop-low : goal.decreases-loop-low
decreases-loop-low l = l.high - l.low
