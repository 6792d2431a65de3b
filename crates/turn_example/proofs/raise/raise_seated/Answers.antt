use Rattle.std.proofs.Common.{◌≤◌, ◌∙◌, ap, sym, subst}
use Rattle.turn_cell.specs.Passes.{opening_of, view}
use Rattle.turn_cell.specs.declared.view.View.{View}
use Rattle.turn_example.specs.Counting.{start_of, total_at}
use Rattle.turn_example.specs.Raising.{MadeOnes}
use Rattle.turn_example.specs.declared.counter.Add.{Add}
use Rattle.turn_example.specs.declared.counter.Start.{Start}
use Rattle.turn_example.proofs.Raised.{ones_on, raises_on}
use Rattle.turn_example.proofs.raise.raise_seated.Goals as goal

pub returns-then-branch-clause-raised : goal.returns-then-branch-clause-raised
returns-then-branch-clause-raised g c =
    let i = c.loop.invariant in
    let high = subst (λ (o : Start). c.args.least ≤ total_at o (view c.raise_once.new.desk.pass).seen) i.2.1 (c.in_ok-raise_once.ensures.reached c.if-branch.true) in
    raises_on (opening_of start_of c.args.desk.now.turn.now) c.args.actor c.args.least (view c.args.desk.now.pass) (view c.loop.desk.pass) (view c.raise_once.new.desk.pass) i.3 i.4 high c.in_ok-raise_once.ensures.made

pub loop-preserved : goal.loop-preserved
loop-preserved g c = let i = c.loop.invariant in let e = c.raise_once.ensures in let p = c.pause.ensures in (
  (tt, tt),
  p.free e.free,
  (p.turn.0 ∙ (e.turn.0 ∙ i.2.0), p.turn.1 ∙ (e.turn.1 ∙ i.2.1)),
  (ap (λ (w : View Start Add). w.number) p.view ∙ (e.pass.0 ∙ i.3.0), ap (λ (w : View Start Add). w.alone) p.view ∙ (e.pass.1 ∙ i.3.1)),
  subst (λ (w : View Start Add). MadeOnes c.args.actor (view c.args.desk.now.pass) w) (sym p.view)
      (ones_on c.args.actor (view c.args.desk.now.pass) (view c.loop.desk.pass) (view c.raise_once.new.desk.pass) i.3 i.4 c.in_ok-raise_once.ensures.made),
)
