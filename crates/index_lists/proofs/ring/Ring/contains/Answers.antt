use Rattle.index_lists.proofs.Ringed.{contains_value, nodes_value}
use Rattle.index_lists.proofs.ring.Ring.contains.Goals as goal

pub returns-clause-value : goal.returns-clause-value
returns-clause-value c = contains_value _ _ _ _ c.args.node c.index.result.now c.self.invariant c.self.view_is c.requires c.index.ensures

pub returns-clause-nodes : goal.returns-clause-nodes
returns-clause-nodes c = nodes_value _ _ _ _ c.self.invariant c.self.view_is
