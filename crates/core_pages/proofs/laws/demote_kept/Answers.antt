use Rattle.std.proofs.Common.{sym, subst}
use Rattle.core_lanes.specs.Coherent.{Coherent}
use Rattle.core_pages.proofs.Idle.{demote_keeps}
use Rattle.core_pages.proofs.laws.demote_kept.Goals as goal

pub returns : goal.returns
returns k = λ actor b c c2 h s. subst Coherent (sym s.leaves) (demote_keeps c b h s.may)
