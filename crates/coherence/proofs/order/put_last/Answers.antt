use Rattle.coherence.proofs.Steps.{absent_of, last_absent}
use Rattle.coherence.proofs.order.put_last.Goals as goal

pub returns-else-contains : goal.returns-else-contains
returns-else-contains c = last_absent _ _ c.args.block (absent_of c.args.block _ _ c.contains.ensures.value c.if-contains.false) c.push_back.ensures
