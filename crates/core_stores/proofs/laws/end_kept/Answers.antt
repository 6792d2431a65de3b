use Rattle.std.proofs.Common.{sym, subst, refl}
use Rattle.core_hold.specs.Coherent.{Coherent}
use Rattle.core_stores.proofs.Ends.{end_keeps}
use Rattle.core_stores.proofs.laws.end_kept.Goals as goal

pub returns : goal.returns
returns k = λ lane request reply c c2 h s. subst Coherent (sym s.leaves) (end_keeps c lane request reply h (s.hands refl) s.may)
