use Rattle.coherence.proofs.Steps.{read_none}
use Rattle.coherence.proofs.caches.read_at.Goals as goal

pub returns-else-has-2-clause-page : goal.returns-else-has-2-clause-page
returns-else-has-2-clause-page c = read_none _ _ _ _ c.args.into.now _ c.has.ensures.value c.if-has.false c.has-else-has.ensures.value c.if-has-2.false c.clear_from.ensures.value
