use Rattle.script_words.specs.Lanes.{requests}
use Rattle.history_check.proofs.Counts.{IsSoFar}
use Rattle.history_check.proofs.checking.check_history.Given as goal

abbrev pub invariant-loop-i : goal.invariant-loop-i
invariant-loop-i l = IsSoFar (requests l.script) l.initial.plain l.line-items l.counts.items l.plain l.i
