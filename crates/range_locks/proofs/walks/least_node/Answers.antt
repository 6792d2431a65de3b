use Rattle.std.proofs.Common.{◌∙◌, sym, true, ℕ}
use Rattle.range_locks.proofs.Steps.{least_start, least_step_at, least_end, shorter_at}
use Rattle.index_lists.proofs.Neighbours.{count-first, count-after}
use Rattle.range_locks.proofs.walks.least_node.Goals as goal

pub loop-at-init : goal.loop-at-init
loop-at-init c = record { here = λ b e. count-first _ b (sym c.front-at.ensures ∙ e); left = least_start _ _ _ c.front-at.ensures }

pub loop-at-smaller : goal.loop-at-smaller
loop-at-smaller c = shorter_at c.in-Some.call _ c.loop-at.at c.next-at.result c.in-Some.is c.requires.once (c.loop-at.invariant.here c.in-Some.call c.in-Some.is) c.next-at.ensures

pub loop-at-preserved : goal.loop-at-preserved
loop-at-preserved c = record {
  here = λ b e. count-after c.in-Some.call _ b (sym c.next-at.ensures ∙ e);
  left = least_step_at (λ (_ : ℕ). true) c.in-Some.call _ c.loop-at.at _ _ _ _ c.in-Some.is c.requires.once (c.loop-at.invariant.here c.in-Some.call c.in-Some.is) c.loop-at.invariant.left c.lesser-least.ensures c.next-at.ensures;
}

pub returns : goal.returns
returns c = least_end (λ (_ : ℕ). true) _ _ _ c.loop-at.at c.loop-at.invariant.left c.in_default.is
