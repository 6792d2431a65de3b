use Rattle.std.proofs.Common.{sym, subst, refl}
use Rattle.core_lanes.specs.Coherent.{Coherent}
use Rattle.core_pages.proofs.Copy.{copy_keeps}
use Rattle.core_pages.proofs.laws.copy_kept.Goals as goal

pub returns : goal.returns
returns k = λ actor lane i c c2 h s. subst Coherent (sym s.leaves) (copy_keeps c actor lane i h (s.hands refl) s.may)
