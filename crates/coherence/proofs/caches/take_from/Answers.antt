use Rattle.coherence.proofs.Steps.{without_none, read_none}
use Rattle.coherence.proofs.caches.take_from.Goals as goal

pub returns-then-has-2-clause-first : goal.returns-then-has-2-clause-first
returns-then-has-2-clause-first c = without_none _ c.args.block _ c.has.ensures.value c.has.ensures.listed c.if-has.false

pub returns-else-has-2-clause-first : goal.returns-else-has-2-clause-first
returns-else-has-2-clause-first c = without_none _ c.args.block _ c.has.ensures.value c.has.ensures.listed c.if-has.false

pub returns-else-has-2-clause-second : goal.returns-else-has-2-clause-second
returns-else-has-2-clause-second c = without_none _ c.args.block _ c.has-else-has.ensures.value c.has-else-has.ensures.listed c.if-has-2.false

pub returns-else-has-2-clause-page : goal.returns-else-has-2-clause-page
returns-else-has-2-clause-page c = read_none _ _ _ _ c.args.page.now _ c.has.ensures.value c.if-has.false c.has-else-has.ensures.value c.if-has-2.false c.clear_from.ensures.value
