use Rattle.core_closing.proofs.Failing.{unfailed}
use Rattle.core_closing.proofs.laws.sync_unfailed.Goals as goal

pub returns : goal.returns
returns k = unfailed
