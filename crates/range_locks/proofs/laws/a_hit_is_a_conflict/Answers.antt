use Rattle.range_locks.proofs.Conflicts.{hit_conflicts, conflict_hits}
use Rattle.range_locks.proofs.laws.a_hit_is_a_conflict.Goals as goal

pub returns : goal.returns
returns c = λ r o. (hit_conflicts r o, conflict_hits r o)
