use Rattle.std.proofs.Common.{◌≡◌}
use Rattle.turn_cell.specs.Desks.{IsFreeAlone, view_alone, opening_alone, table_alone}
use Rattle.core_solo.specs.Solo.{enters}
use Rattle.event_turns.specs.Books.{opening_in}
use Rattle.desk_turns.specs.Passing.{Does}
use Rattle.solo_lanes.specs.Lanes.{AreMade}
use Rattle.solo_lanes.proofs.entering.enter_all.Given as goal

abbrev pub invariant-loop-lane : goal.invariant-loop-lane
invariant-loop-lane g l =
    IsFreeAlone opening_in l.alone × ((table_alone l.alone ≡ table_alone l.initial.alone) × (opening_alone opening_in l.alone ≡ opening_alone opening_in l.initial.alone))
    × Does (view_alone l.initial.alone) (view_alone l.alone) (AreMade g.D.Die.seen (opening_alone opening_in l.initial.alone) (view_alone l.initial.alone) (view_alone l.alone) (enters l.lane))
