use Rattle.std.proofs.Common.{◌≤◌, ◌∙◌, subst}
use Rattle.turn_cell.specs.Desks.{view_alone, opening_alone}
use Rattle.turn_example.specs.Counting.{start_of, total_at}
use Rattle.turn_example.specs.declared.counter.Start.{Start}
use Rattle.turn_example.proofs.Raised.{ones_on, raises_on}
use Rattle.turn_example.proofs.raise.raise_alone.Goals as goal

pub returns-then-branch-clause-raised : goal.returns-then-branch-clause-raised
returns-then-branch-clause-raised c =
    let i = c.loop.invariant in
    let high = subst (λ (o : Start). c.args.least ≤ total_at o (view_alone c.raise_once.new.desk).seen) i.1.1 (c.in_ok-raise_once.ensures.reached c.if-branch.true) in
    raises_on (opening_alone start_of c.args.alone.now) c.args.actor c.args.least (view_alone c.args.alone.now) (view_alone c.loop.alone) (view_alone c.raise_once.new.desk) i.2 i.3 high c.in_ok-raise_once.ensures.made

pub loop-preserved : goal.loop-preserved
loop-preserved c = let i = c.loop.invariant in let e = c.raise_once.ensures in (
  e.free,
  (e.turn.0 ∙ i.1.0, e.turn.1 ∙ i.1.1),
  (e.pass.0 ∙ i.2.0, e.pass.1 ∙ i.2.1),
  ones_on c.args.actor (view_alone c.args.alone.now) (view_alone c.loop.alone) (view_alone c.raise_once.new.desk) i.2 i.3 c.in_ok-raise_once.ensures.made,
)
