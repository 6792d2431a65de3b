use Rattle.std.proofs.Common.{ap, ◌∙◌}
use Rattle.core_lanes.specs.PlainOf.{plain}
use Rattle.core_quick.proofs.Moves.{quick_moves}
use Rattle.core_quick.proofs.laws.quick_moves.Goals as goal

pub returns : goal.returns
returns k = λ lane request reply c c2 h s. ap plain s.leaves ∙ quick_moves c lane request.call h s.may.kind
