use Rattle.std.proofs.Common.{sym, subst, refl}
use Rattle.core_lemmas.specs.Coherent.{Coherent}
use Rattle.core_lanes.proofs.Beginning.{begin_keeps}
use Rattle.core_lanes.proofs.laws.begin_kept.Goals as goal

pub returns : goal.returns
returns k = λ lane request side c c2 h s. subst Coherent (sym s.leaves) (begin_keeps c lane request side h (s.hands refl) s.may)
