use Rattle.core_closing.proofs.Keeps.{none_yet}
use Rattle.core_closing.proofs.laws.sync_begins.Goals as goal

pub returns : goal.returns
returns k = none_yet
