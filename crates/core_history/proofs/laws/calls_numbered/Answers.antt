use Rattle.core_history.proofs.Numbers.{run_numbered}
use Rattle.core_history.proofs.laws.calls_numbered.Goals as goal

pub returns : goal.returns
returns k = λ c0 c1 events r. run_numbered events c0 c1 r
