use Rattle.std.proofs.Common.{◌≡◌, map, drop}
use Rattle.std.specs.List.{list_any}
use Rattle.call_text.specs.Blocks.{ends_block}
use Rattle.call_text.proofs.blocks.has_end.Given as goal

abbrev pub invariant-loop-line : goal.invariant-loop-line
invariant-loop-line l = list_any ends_block (map (λ x. x.now) (drop l.line-index l.rest)) ≡ list_any ends_block (map (λ x. x.now) l.rest)
