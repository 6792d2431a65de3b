use Rattle.std.proofs.Common.{◌≡◌}
use Rattle.turn_cell.specs.Desks.{IsFreeAt}
use Rattle.turn_cell.specs.Passes.{opening_of, view}
use Rattle.call_turns.specs.Books.{opening_in}
use Rattle.system_state.specs.Cores.{core_of}
use Rattle.desk_turns.specs.Passing.{core_seen, Does}
use Rattle.quick_calls.proofs.Ending.{Waited}
use Rattle.quick_calls.proofs.skip.skip_call.Given as goal

abbrev pub invariant-loop : goal.invariant-loop
invariant-loop g l =
    ((goal.iterator-loop g).can_next l.iterator' × (goal.iterator-loop g).is_finite l.iterator') × IsFreeAt opening_in l.desk.turn.now l.desk.pass
    × ((l.desk.pass.seat.table_id ≡ l.initial.desk.pass.seat.table_id) × (opening_of opening_in l.desk.turn.now ≡ opening_of opening_in l.initial.desk.turn.now))
    × Does (view l.initial.desk.pass) (view l.desk.pass) (Waited g.D.Die.seen ((core_seen (core_of g.D.Die.seen) (opening_of opening_in l.initial.desk.turn.now) (view l.initial.desk.pass)).lanes l.lane).mark (opening_of opening_in l.initial.desk.turn.now) (view l.initial.desk.pass) (view l.desk.pass) l.lane)
