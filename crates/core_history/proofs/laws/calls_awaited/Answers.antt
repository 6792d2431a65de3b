use Rattle.core_history.proofs.Awaits.{calls_wait}
use Rattle.core_history.proofs.laws.calls_awaited.Goals as goal

pub returns : goal.returns
returns k = calls_wait
