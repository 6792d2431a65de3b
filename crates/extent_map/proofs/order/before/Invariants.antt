use Rattle.std.proofs.Common.{◌-◌, ◌≤◌, length}
use Rattle.extent_map.specs.Owners.{before_of}
use Rattle.extent_map.proofs.order.before.Given as goal

abbrev pub invariant-loop-low : goal.invariant-loop-low
invariant-loop-low l = record { high : l.high ≤ length l.placed; least : l.low ≤ before_of l.file l.page l.placed; most : before_of l.file l.page l.placed ≤ l.high }

abbrev pub decreases-loop-low : goal.decreases-loop-low
decreases-loop-low l = l.high - l.low
