use Rattle.std.proofs.Common.{sym, subst}
use Rattle.core_lanes.specs.Coherent.{Coherent}
use Rattle.core_quick.proofs.Quick.{quick_keeps}
use Rattle.core_quick.proofs.laws.quick_kept.Goals as goal

pub returns : goal.returns
returns k = λ lane request reply c c2 h s. subst Coherent (sym s.leaves) (quick_keeps c lane request reply h s.may)
