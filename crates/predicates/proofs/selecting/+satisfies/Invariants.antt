use Rattle.predicates.specs.Nodes.{nodes}
use Rattle.predicates.proofs.selecting.+satisfies.Given as goal

abbrev pub decreases-satisfies : goal.decreases-satisfies
decreases-satisfies l = nodes l.pred.now
