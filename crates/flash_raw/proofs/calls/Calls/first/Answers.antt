use Rattle.flash_raw.proofs.Counting.{failed_of-made}
use Rattle.flash_raw.proofs.calls.Calls.first.Goals as goal

pub invariant_of-result-clause-counted : goal.invariant_of-result-clause-counted
invariant_of-result-clause-counted c = failed_of-made 0 _
