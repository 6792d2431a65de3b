use Rattle.std.proofs.Common.{sym, subst}
use Rattle.core_lemmas.specs.Coherent.{Coherent}
use Rattle.core_lanes.proofs.Idle.{skip_keeps}
use Rattle.core_lanes.proofs.laws.skip_kept.Goals as goal

pub returns : goal.returns
returns k = λ lane request fault c c2 h s. subst Coherent (sym s.leaves) (skip_keeps c lane request fault h s.may)
