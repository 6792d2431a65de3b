use Rattle.std.proofs.Common.{sym, subst}
use Rattle.core_lanes.specs.Coherent.{Coherent}
use Rattle.core_pages.proofs.FillIn.{fill_in_keeps}
use Rattle.core_pages.proofs.laws.fill_in_kept.Goals as goal

pub returns : goal.returns
returns k = λ actor die good c c2 h s. subst Coherent (sym s.leaves) (fill_in_keeps c actor die good h s.may)
