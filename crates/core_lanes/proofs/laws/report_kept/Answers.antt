use Rattle.std.proofs.Common.{sym, subst, refl}
use Rattle.core_lemmas.specs.Coherent.{Coherent}
use Rattle.core_lanes.proofs.Phases.{report_keeps}
use Rattle.core_lanes.proofs.laws.report_kept.Goals as goal

pub returns : goal.returns
returns k = λ worker lane c c2 h s. subst Coherent (sym s.leaves) (report_keeps c worker lane h (s.hands refl) s.may)
