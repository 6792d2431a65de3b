use Rattle.std.proofs.Common.{◌≡◌}
use Rattle.turn_cell.specs.Desks.{IsFreeAt}
use Rattle.turn_cell.specs.Passes.{opening_of, view}
use Rattle.turn_example.specs.Counting.{start_of}
use Rattle.turn_example.specs.Raising.{MadeOnes, SamePass}
use Rattle.turn_example.proofs.raise.raise_seated.Given as goal

abbrev pub invariant-loop : goal.invariant-loop
invariant-loop g l =
    ((goal.iterator-loop g).can_next l.iterator' × (goal.iterator-loop g).is_finite l.iterator') × IsFreeAt start_of l.desk.turn.now l.desk.pass
    × ((l.desk.pass.seat.table_id ≡ l.initial.desk.pass.seat.table_id) × (opening_of start_of l.desk.turn.now ≡ opening_of start_of l.initial.desk.turn.now)) × SamePass (view l.initial.desk.pass) (view l.desk.pass)
    × MadeOnes l.actor (view l.initial.desk.pass) (view l.desk.pass)
