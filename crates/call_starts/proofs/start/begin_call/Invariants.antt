use Rattle.std.proofs.Common.{◌≡◌}
use Rattle.turn_cell.specs.Desks.{IsFreeAt}
use Rattle.turn_cell.specs.Passes.{opening_of, view}
use Rattle.call_begins.specs.Books.{opening_in}
use Rattle.desk_turns.specs.Passing.{Does}
use Rattle.call_starts.proofs.Looping.{Going}
use Rattle.call_starts.proofs.start.begin_call.Given as goal

abbrev pub invariant-loop : goal.invariant-loop
invariant-loop g l =
    ((goal.iterator-loop g).can_next l.iterator' × (goal.iterator-loop g).is_finite l.iterator') × IsFreeAt opening_in l.desk.turn.now l.desk.pass
    × ((l.desk.pass.seat.table_id ≡ l.fn.desk.pass.seat.table_id) × (opening_of opening_in l.desk.turn.now ≡ opening_of opening_in l.fn.desk.turn.now))
    × (l.prepared.job ≡ l.fn.prepared.job)
    × Does (view l.fn.desk.pass) (view l.desk.pass) (Going g.D.Die.seen (opening_of opening_in l.fn.desk.turn.now) (view l.fn.desk.pass) (view l.desk.pass) l.lane l.fn.prepared.job.request l.stage)
