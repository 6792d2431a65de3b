use Rattle.predicates.specs.Nodes.{nodes}
use Rattle.pred_compile.proofs.emitting.+code_slots.Given as goal

abbrev pub decreases-code_slots : goal.decreases-code_slots
decreases-code_slots l = nodes l.pred.now
