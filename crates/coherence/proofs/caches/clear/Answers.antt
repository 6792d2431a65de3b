use Rattle.coherence.proofs.Steps.{without_none, room_without}
use Rattle.coherence.proofs.caches.clear.Goals as goal

pub returns-then-has-clause-room : goal.returns-then-has-clause-room
returns-then-has-clause-room c = λ h. room_without _ _ c.args.block _ c.forget.ensures c.has.ensures.listed c.if-has.true c.has.ensures.room

pub returns-else-has-clause-value : goal.returns-else-has-clause-value
returns-else-has-clause-value c = without_none _ c.args.block _ c.has.ensures.value c.has.ensures.listed c.if-has.false
