use Rattle.std.proofs.Common.{◌∙◌, sym}
use Rattle.range_locks.proofs.Steps.{place_start, place_step_at, place_found_at, place_end, shorter_at}
use Rattle.index_lists.proofs.Neighbours.{count-first, count-after}
use Rattle.range_locks.proofs.walks.place_for.Goals as goal

pub loop-at-init : goal.loop-at-init
loop-at-init c = record { here = λ b e. count-first _ b (sym c.front-at.ensures ∙ e); left = place_start _ _ _ _ c.front-at.ensures }

pub is_ahead-requires-clause-other : goal.is_ahead-requires-clause-other
is_ahead-requires-clause-other c = c.requires.calls c.in-Some.other (c.loop-at.invariant.here c.in-Some.other c.in-Some.is)

pub returns-then-is_ahead : goal.returns-then-is_ahead
returns-then-is_ahead c = place_found_at c.args.held.now c.args.call c.in-Some.other _ c.loop-at.at _ c.in-Some.is c.requires.once (c.loop-at.invariant.here c.in-Some.other c.in-Some.is) (sym c.is_ahead.ensures ∙ c.if-is_ahead.true) c.loop-at.invariant.left

pub loop-at-smaller : goal.loop-at-smaller
loop-at-smaller c = shorter_at c.in-Some.other _ c.loop-at.at c.next-at.result c.in-Some.is c.requires.once (c.loop-at.invariant.here c.in-Some.other c.in-Some.is) c.next-at.ensures

pub loop-at-preserved : goal.loop-at-preserved
loop-at-preserved c = record {
  here = λ b e. count-after c.in-Some.other _ b (sym c.next-at.ensures ∙ e);
  left = place_step_at c.args.held.now c.args.call c.in-Some.other _ c.loop-at.at c.next-at.result _ c.in-Some.is c.requires.once (c.loop-at.invariant.here c.in-Some.other c.in-Some.is) (sym c.is_ahead.ensures ∙ c.if-is_ahead.false) c.loop-at.invariant.left c.next-at.ensures;
}

pub returns : goal.returns
returns c = place_end c.args.held.now c.args.call _ c.loop-at.at _ c.loop-at.invariant.left c.in_default.is
