use Rattle.std.proofs.Common.{sym, subst}
use Rattle.core_lanes.specs.Coherent.{Coherent}
use Rattle.core_pages.proofs.FlushIn.{flush_in_keeps}
use Rattle.core_pages.proofs.laws.flush_in_kept.Goals as goal

pub returns : goal.returns
returns k = λ actor die good left c c2 h s. subst Coherent (sym s.leaves) (flush_in_keeps c actor die good left h s.may)
