use Rattle.std.proofs.Common.{refl}
use Rattle.range_locks.specs.Held.{hits}
use Rattle.range_locks.proofs.Conflicts.{such_iff_first}
use Rattle.range_locks.proofs.laws.least_conflict_is_the_first.Goals as goal

pub returns : goal.returns
returns c = λ r s o. such_iff_first (hits r) s.held o refl
