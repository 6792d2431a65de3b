use Rattle.std.proofs.Common.{ap, ◌∙◌}
use Rattle.core_quick.specs.PlainOf.{plain}
use Rattle.core_ends.proofs.Ending.{end_stays}
use Rattle.core_ends.proofs.laws.plain_end_stays.Goals as goal

pub returns : goal.returns
returns k = λ lane request reply c c2 h s n. ap plain s.leaves ∙ end_stays c lane request reply h s.may n
