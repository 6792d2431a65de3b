use Rattle.std.proofs.Common.{◌≡◌}
use Rattle.page_base.specs.Drive.{meta_pages}
use Rattle.turn_cell.specs.Desks.{IsFreeAt}
use Rattle.turn_cell.specs.Passes.{opening_of, view}
use Rattle.quick_calls.specs.Books.{opening_in}
use Rattle.desk_turns.specs.Passing.{Does}
use Rattle.sync_calls.proofs.Looping.{Going}
use Rattle.sync_calls.proofs.sync.sync_call.Given as goal

abbrev pub invariant-loop : goal.invariant-loop
invariant-loop g l =
    ((goal.iterator-loop g).can_next l.iterator' × (goal.iterator-loop g).is_finite l.iterator') × IsFreeAt opening_in l.desk.turn.now l.desk.pass
    × ((l.desk.pass.seat.table_id ≡ l.fn.desk.pass.seat.table_id) × (opening_of opening_in l.desk.turn.now ≡ opening_of opening_in l.fn.desk.turn.now))
    × (l.count ≡ meta_pages (opening_of opening_in l.fn.desk.turn.now).value.sizes.blocks)
    × Does (view l.fn.desk.pass) (view l.desk.pass) (Going g.D.Die.seen (opening_of opening_in l.fn.desk.turn.now) (view l.fn.desk.pass) (view l.desk.pass) l.lane l.request l.count l.stage)
