use Rattle.call_text.proofs.Later.{called_here}
use Rattle.call_text.proofs.awaits.is_called_later.Goals as goal

pub returns-then-is_call_of : goal.returns-then-is_call_of
returns-then-is_call_of c = called_here (λ x. x.now) c.args.name.now c.args.rest.now c.loop-line.line-index _ c.loop-line.in_block c.loop-line-test.true c.if-in_block.false c.loop-line.invariant c.if-is_call_of.ensures
