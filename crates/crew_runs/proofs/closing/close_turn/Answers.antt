use Rattle.turn_cell.specs.Passes.{opening_of, view}
use Rattle.page_steps.specs.Books.{opening_in}
use Rattle.crew_runs.proofs.closing.close_turn.Goals as goal

pub stored_settles-requires : goal.stored_settles-requires
stored_settles-requires g c = record { o = (opening_of opening_in c.args.turn).value; h = (view c.args.root).seen; stands = c.close-closed.ensures.book }
