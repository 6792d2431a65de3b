use Rattle.std.proofs.Common.{◌≡◌, map, drop}
use Rattle.history_check.specs.Held.{count_of}
use Rattle.history_check.specs.Verdicts.{are_all_made}
use Rattle.history_check.proofs.checking.are_all_made.Given as goal

abbrev pub invariant-loop-i : goal.invariant-loop-i
invariant-loop-i l = are_all_made (map (λ x. x.requests) (drop l.i l.lanes)) l.i (count_of l.counts) ≡ are_all_made (map (λ x. x.requests) l.lanes) 0 (count_of l.counts)
