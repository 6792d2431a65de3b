use Rattle.std.proofs.Common.{◌≡◌, ◌-◌}
use Rattle.turn_cell.specs.Desks.{IsFreeAlone, view_alone, opening_alone, table_alone}
use Rattle.turn_example.specs.Counting.{start_of, total_at}
use Rattle.turn_example.specs.Raising.{MadeOnes, SamePass}
use Rattle.turn_example.proofs.raise.raise_alone.Given as goal

abbrev pub invariant-loop : goal.invariant-loop
invariant-loop l =
    IsFreeAlone start_of l.alone × ((table_alone l.alone ≡ table_alone l.initial.alone) × (opening_alone start_of l.alone ≡ opening_alone start_of l.initial.alone)) × SamePass (view_alone l.initial.alone) (view_alone l.alone)
    × MadeOnes l.actor (view_alone l.initial.alone) (view_alone l.alone)

abbrev pub decreases-loop : goal.decreases-loop
decreases-loop l = l.least - total_at (opening_alone start_of l.alone) (view_alone l.alone).seen
