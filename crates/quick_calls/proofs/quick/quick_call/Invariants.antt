use Rattle.std.proofs.Common.{◌≡◌, false}
use Rattle.turn_cell.specs.Desks.{IsFreeAt}
use Rattle.turn_cell.specs.Passes.{opening_of, view}
use Rattle.call_turns.specs.Books.{opening_in}
use Rattle.call_turns.specs.QuickTables.{IsDecoded}
use Rattle.desk_turns.specs.Passing.{Does}
use Rattle.quick_calls.proofs.Ending.{Waited}
use Rattle.quick_calls.proofs.quick.quick_call.Given as goal

abbrev pub invariant-loop : goal.invariant-loop
invariant-loop g l =
    ((goal.iterator-loop g).can_next l.iterator' × (goal.iterator-loop g).is_finite l.iterator') × IsFreeAt opening_in l.desk.turn.now l.desk.pass
    × ((l.desk.pass.seat.table_id ≡ l.initial.desk.pass.seat.table_id) × (opening_of opening_in l.desk.turn.now ≡ opening_of opening_in l.initial.desk.turn.now))
    × IsDecoded l.request.call l.loading
    × Does (view l.initial.desk.pass) (view l.desk.pass) (Waited g.D.Die.seen false (opening_of opening_in l.initial.desk.turn.now) (view l.initial.desk.pass) (view l.desk.pass) l.lane)
