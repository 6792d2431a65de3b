use Rattle.std.proofs.Common.{◌≡◌}
use Rattle.flusher.proofs.Stepping.{Going}
use Rattle.flusher.proofs.work.flusher_loop.Given as goal

abbrev pub invariant-loop : goal.invariant-loop
invariant-loop g l =
    ((goal.iterator-loop g).can_next l.iterator' × (goal.iterator-loop g).is_finite l.iterator') × g.K.Desk.is_free l.desk
    × ((g.K.Desk.table l.desk ≡ g.K.Desk.table l.initial.desk) × (g.K.Desk.opening l.desk ≡ g.K.Desk.opening l.initial.desk))
    × Going g.D.Die.seen (g.K.Desk.opening l.initial.desk) (g.K.Desk.view l.initial.desk) (g.K.Desk.view l.desk) l.flusher
