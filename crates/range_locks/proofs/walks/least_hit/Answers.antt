use Rattle.std.proofs.Common.{◌∙◌, sym, Bool, ap, arith}
use Rattle.range_locks.specs.Walks.{hit_at, lesser, one_such}
use Rattle.range_locks.proofs.Steps.{least_start, least_step_at, least_stop_at, least_end, shorter_at}
use Rattle.index_lists.proofs.Neighbours.{count-first, count-after}
use Rattle.range_locks.proofs.walks.least_hit.Goals as goal

pub loop-at-init : goal.loop-at-init
loop-at-init c = record { here = λ b e. count-first _ b (sym c.front-at.ensures ∙ e); left = least_start _ _ _ c.front-at.ensures }

pub bounds-held-call : goal.bounds-held-call
bounds-held-call c = c.requires.calls c.in-Some.call (c.loop-at.invariant.here c.in-Some.call c.in-Some.is)

pub returns-then-range-first_page : goal.returns-then-range-first_page
returns-then-range-first_page c = least_stop_at c.args.range.now c.args.held.now c.in-Some.call _ c.loop-at.at _ _ c.in-Some.is c.requires.rising c.loop-at.invariant.left (let h = c.first_page.ensures in let k = c.if-range-first_page.true in omega arith)

pub loop-at-smaller : goal.loop-at-smaller
loop-at-smaller c = shorter_at c.in-Some.call _ c.loop-at.at c.next-at.result c.in-Some.is c.requires.once (c.loop-at.invariant.here c.in-Some.call c.in-Some.is) c.next-at.ensures

pub loop-at-preserved : goal.loop-at-preserved
loop-at-preserved c = record {
  here = λ b e. count-after c.in-Some.call _ b (sym c.next-at.ensures ∙ e);
  left = least_step_at (hit_at c.args.range.now c.args.held.now) c.in-Some.call _ c.loop-at.at _ _ _ _ c.in-Some.is c.requires.once (c.loop-at.invariant.here c.in-Some.call c.in-Some.is) c.loop-at.invariant.left (c.lesser-least.ensures ∙ ap (lesser c.loop-at.least) (c.such.ensures ∙ ap (λ (b : Bool). one_such b c.in-Some.call) c.hits.ensures)) c.next-at.ensures;
}

pub returns : goal.returns
returns c = least_end (hit_at c.args.range.now c.args.held.now) _ _ _ c.loop-at.at c.loop-at.invariant.left c.in_default.is
