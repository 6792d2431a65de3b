use Rattle.coherence.proofs.Steps.{with_without}
use Rattle.coherence.proofs.caches.replace.Goals as goal

pub returns-clause-here : goal.returns-clause-here
returns-clause-here c = with_without _ _ _ c.args.block _ c.clear-2.ensures.value c.put.ensures
