use Rattle.std.proofs.Common.{◌≡◌, length}
use Rattle.turn_example.specs.Shares.{Each, IsServed, IsGathering, all_in}
use Rattle.turn_example.proofs.share.join_all.Given as goal

abbrev pub invariant-loop-root : goal.invariant-loop-root
invariant-loop-root l = IsGathering l.turn l.jobs.items l.root × Each (IsServed l.turn) l.jobs.items × (all_in l.jobs.items l.root ≡ all_in l.initial.jobs.items l.initial.root)

abbrev pub decreases-loop-root : goal.decreases-loop-root
decreases-loop-root l = length l.jobs.items
