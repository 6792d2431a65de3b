use Rattle.core_stores.proofs.Legal.{event_legal}
use Rattle.core_stores.proofs.laws.event_legal.Goals as goal

pub returns : goal.returns
returns k = event_legal
