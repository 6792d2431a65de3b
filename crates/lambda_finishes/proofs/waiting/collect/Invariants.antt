use Rattle.std.proofs.Common.{◌≡◌}
use Rattle.turn_cell.specs.Desks.{IsFreeAt}
use Rattle.turn_cell.specs.Passes.{opening_of, view}
use Rattle.system_state.specs.Cores.{core_of}
use Rattle.desk_turns.specs.Passing.{core_seen}
use Rattle.call_finishes.specs.Books.{opening_in}
use Rattle.call_finishes.specs.Gathering.{call_at}
use Rattle.lambda_finishes.proofs.Asking.{Waits}
use Rattle.lambda_finishes.proofs.waiting.collect.Given as goal

abbrev pub invariant-loop : goal.invariant-loop
invariant-loop g l =
    ((goal.iterator-loop g).can_next l.iterator' × (goal.iterator-loop g).is_finite l.iterator') × IsFreeAt opening_in l.desk.turn.now l.desk.pass
    × ((l.desk.pass.seat.table_id ≡ l.initial.desk.pass.seat.table_id) × (opening_of opening_in l.desk.turn.now ≡ opening_of opening_in l.initial.desk.turn.now))
    × Waits g.D.Die.seen (opening_of opening_in l.initial.desk.turn.now) (view l.initial.desk.pass) (view l.desk.pass) l.lane (call_at (core_seen (core_of g.D.Die.seen) (opening_of opening_in l.initial.desk.turn.now) (view l.initial.desk.pass)) l.lane).claim.request
