use Rattle.std.proofs.Common.{ap, ◌∙◌, inl}
use Rattle.core_hold.specs.PlainOf.{plain}
use Rattle.core_ends.proofs.Ending.{end_stays}
use Rattle.core_stores.proofs.Moving.{event_moves}
use Rattle.core_stores.proofs.laws.end_moves.Goals as goal

pub returns : goal.returns
returns k = record {
  moves = λ lane request reply c c2 h s m. ap plain s.leaves ∙ event_moves c lane request reply h s.may m;
  marked = λ lane request reply c c2 h s m. ap plain s.leaves ∙ end_stays c lane request reply h s.may (inl m);
}
