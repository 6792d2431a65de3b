use Rattle.std.proofs.Common.{sym, subst}
use Rattle.core_lemmas.specs.Coherent.{Coherent}
use Rattle.core_lanes.proofs.Phases.{fetch_keeps}
use Rattle.core_lanes.proofs.laws.fetch_kept.Goals as goal

pub returns : goal.returns
returns k = λ worker lane c c2 h s. subst Coherent (sym s.leaves) (fetch_keeps c worker lane h s.may)
