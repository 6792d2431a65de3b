use Rattle.std.proofs.Common.{arith}
use Rattle.transcript_text.proofs.Later.{line_behind}
use Rattle.transcript_text.proofs.transcript_reading.read_entries.Goals as goal

pub returns-then-i-lines : goal.returns-then-i-lines
returns-then-i-lines c = line_behind (λ x. x.now) c.args.lanes.now _ c.loop-i.entries c.args.lines.now c.loop-i.i _ (omega arith) c.loop-i.invariant (rw c.in-Ok-None.field-0-is at c.in-Ok-None.ensures)
