use Rattle.std.proofs.Common.{sym, subst, refl}
use Rattle.core_lemmas.specs.Coherent.{Coherent}
use Rattle.core_lanes.proofs.Outward.{flush_out_keeps}
use Rattle.core_lanes.proofs.laws.flush_out_kept.Goals as goal

pub returns : goal.returns
returns k = λ actor die block c c2 h s. subst Coherent (sym s.leaves) (flush_out_keeps c actor die block h (s.hands refl) s.may)
