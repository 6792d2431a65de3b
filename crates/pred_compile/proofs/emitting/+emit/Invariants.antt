use Rattle.predicates.specs.Nodes.{nodes}
use Rattle.pred_compile.proofs.emitting.+emit.Given as goal

abbrev pub decreases-emit : goal.decreases-emit
decreases-emit l = nodes l.pred.now
