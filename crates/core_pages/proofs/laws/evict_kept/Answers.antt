use Rattle.std.proofs.Common.{sym, subst}
use Rattle.core_lanes.specs.Coherent.{Coherent}
use Rattle.core_pages.proofs.Idle.{evict_keeps}
use Rattle.core_pages.proofs.laws.evict_kept.Goals as goal

pub returns : goal.returns
returns k = λ actor side b c c2 h s. subst Coherent (sym s.leaves) (evict_keeps c side b h s.may)
