use Rattle.predicates.specs.Nodes.{nodes}
use Rattle.predicates.proofs.fields.+fault_from.Given as goal

abbrev pub decreases-fault_from : goal.decreases-fault_from
decreases-fault_from l = nodes l.pred.now
