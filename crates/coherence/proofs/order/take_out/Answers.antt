use Rattle.coherence.proofs.Steps.{absent_of, same_without}
use Rattle.coherence.proofs.order.take_out.Goals as goal

pub returns-else-contains : goal.returns-else-contains
returns-else-contains c = same_without _ c.args.block (absent_of c.args.block _ _ c.contains.ensures.value c.if-contains.false)
