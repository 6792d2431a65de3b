use Rattle.std.proofs.Common.{ap, ◌∙◌}
use Rattle.extent_map.specs.Places.{Places, owner_of}
use Rattle.extent_map.proofs.Searches.{no_owner}
use Rattle.extent_map.proofs.map.ExtentMap.owner_of.Goals as goal

pub returns-else-block-self : goal.returns-else-block-self
returns-else-block-self c = no_owner c.args.block c.self.inside.blocks c.self.inside.placed.items c.self.invariant.0.within c.if-block-self.false ∙ ap (λ (s : Places). owner_of c.args.block s.placed) c.self.view_is
