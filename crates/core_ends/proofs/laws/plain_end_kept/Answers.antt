use Rattle.std.proofs.Common.{sym, subst, refl}
use Rattle.core_quick.specs.Coherent.{Coherent}
use Rattle.core_ends.proofs.Ending.{end_keeps}
use Rattle.core_ends.proofs.laws.plain_end_kept.Goals as goal

pub returns : goal.returns
returns k = λ lane request reply c c2 h s n. subst Coherent (sym s.leaves) (end_keeps c lane request reply h (s.hands refl) s.may n)
