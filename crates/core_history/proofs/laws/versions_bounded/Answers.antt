use Rattle.core_history.proofs.Numbers.{run_bounded}
use Rattle.core_history.proofs.laws.versions_bounded.Goals as goal

pub returns : goal.returns
returns k = λ c0 c1 events r. run_bounded events c0 c1 r
