use Rattle.event_turns.proofs.Nexts.{copies_next, takes_next, metas_next}
use Rattle.event_turns.proofs.laws.turns_are_next.Goals as goal

pub returns : goal.returns
returns g c = record { copies = copies_next; takes = takes_next; metas = metas_next }
