use Rattle.std.proofs.Common.{sym, subst, refl}
use Rattle.core_lanes.specs.Coherent.{Coherent}
use Rattle.core_pages.proofs.Take.{take_keeps}
use Rattle.core_pages.proofs.laws.take_kept.Goals as goal

pub returns : goal.returns
returns k = λ actor lane i c c2 h s. subst Coherent (sym s.leaves) (take_keeps c actor lane i h (s.hands refl) s.may)
