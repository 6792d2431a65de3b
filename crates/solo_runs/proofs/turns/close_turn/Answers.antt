use Rattle.turn_cell.specs.Desks.{view_alone, opening_alone}
use Rattle.settling.specs.Books.{opening_in}
use Rattle.solo_runs.proofs.turns.close_turn.Goals as goal

pub stored_settles-requires : goal.stored_settles-requires
stored_settles-requires g c = record { o = (opening_alone opening_in c.args.alone).value; h = (view_alone c.args.alone).seen; stands = c.close-closed.ensures.book }
