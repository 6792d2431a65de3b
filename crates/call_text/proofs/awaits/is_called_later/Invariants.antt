use Rattle.std.proofs.Common.{◌≡◌, false, map, drop}
use Rattle.call_text.specs.Awaits.{is_called_later}
use Rattle.call_text.proofs.awaits.is_called_later.Given as goal

abbrev pub invariant-loop-line : goal.invariant-loop-line
invariant-loop-line l = is_called_later l.name l.in_block (map (λ x. x.now) (drop l.line-index l.rest)) ≡ is_called_later l.name false (map (λ x. x.now) l.rest)
