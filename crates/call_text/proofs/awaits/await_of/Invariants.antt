use Rattle.std.proofs.Common.{◌≡◌, drop}
use Rattle.call_text.specs.Awaits.{await_of}
use Rattle.call_text.proofs.awaits.await_of.Given as goal

abbrev pub invariant-loop-await_ : goal.invariant-loop-await_
invariant-loop-await_ l = await_of l.lane (drop l.await_-index l.awaits) ≡ await_of l.lane l.awaits
