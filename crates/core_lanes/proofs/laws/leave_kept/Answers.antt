use Rattle.std.proofs.Common.{sym, subst, refl}
use Rattle.core_lemmas.specs.Coherent.{Coherent}
use Rattle.core_lanes.proofs.Idle.{leave_keeps}
use Rattle.core_lanes.proofs.laws.leave_kept.Goals as goal

pub returns : goal.returns
returns k = λ lane c c2 h s. subst Coherent (sym s.leaves) (leave_keeps c lane h (s.hands refl) s.may)
