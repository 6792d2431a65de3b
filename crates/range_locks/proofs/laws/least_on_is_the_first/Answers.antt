use Rattle.std.proofs.Common.{refl}
use Rattle.range_locks.specs.Held.{is_on}
use Rattle.range_locks.proofs.Conflicts.{such_iff_first}
use Rattle.range_locks.proofs.laws.least_on_is_the_first.Goals as goal

pub returns : goal.returns
returns c = λ f s o. such_iff_first (is_on f) s.held o refl
