use Rattle.std.proofs.Common.{◌≡◌, []}
use Rattle.turn_cell.specs.Desks.{IsFreeAt}
use Rattle.turn_cell.specs.Passes.{opening_of, view}
use Rattle.page_steps.specs.Books.{opening_in}
use Rattle.desk_turns.specs.Passing.{Went}
use Rattle.crew_runs.proofs.closing.wait_closing.Given as goal

abbrev pub invariant-loop : goal.invariant-loop
invariant-loop g l =
    ((goal.iterator-loop g).can_next l.iterator' × (goal.iterator-loop g).is_finite l.iterator') × IsFreeAt opening_in l.desk.turn.now l.desk.pass
    × ((l.desk.pass.seat.table_id ≡ l.initial.desk.pass.seat.table_id) × (opening_of opening_in l.desk.turn.now ≡ opening_of opening_in l.initial.desk.turn.now))
    × Went (view l.initial.desk.pass) (view l.desk.pass) []
