use Rattle.std.proofs.Common.{sym, subst}
use Rattle.core_lemmas.specs.Coherent.{Coherent}
use Rattle.core_lanes.proofs.Idle.{enter_keeps}
use Rattle.core_lanes.proofs.laws.enter_kept.Goals as goal

pub returns : goal.returns
returns k = λ lane c c2 h s. subst Coherent (sym s.leaves) (enter_keeps c lane h s.may)
