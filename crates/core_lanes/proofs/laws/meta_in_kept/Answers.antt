use Rattle.std.proofs.Common.{sym, subst}
use Rattle.core_lemmas.specs.Coherent.{Coherent}
use Rattle.core_lanes.proofs.Metas.{meta_in_keeps}
use Rattle.core_lanes.proofs.laws.meta_in_kept.Goals as goal

pub returns : goal.returns
returns k = λ actor die good left c c2 h s. subst Coherent (sym s.leaves) (meta_in_keeps c actor die good left h s.may)
