use Rattle.std.proofs.Common.{◌≡◌}
use Rattle.turn_cell.specs.Desks.{IsFreeAlone, view_alone, opening_alone, table_alone}
use Rattle.core_solo.specs.Settling.{sync_left}
use Rattle.system_state.specs.Cores.{core_of}
use Rattle.page_steps.specs.Books.{opening_in}
use Rattle.desk_turns.specs.Passing.{Does, core_seen}
use Rattle.settling.proofs.Looping.{Going}
use Rattle.settling.proofs.last_sync.settle_alone.Given as goal

abbrev pub invariant-loop-step : goal.invariant-loop-step
invariant-loop-step g l =
    IsFreeAlone opening_in l.alone × ((table_alone l.alone ≡ table_alone l.initial.alone) × (opening_alone opening_in l.alone ≡ opening_alone opening_in l.initial.alone))
    × Does (view_alone l.initial.alone) (view_alone l.alone) (Going g.D.Die.seen (opening_alone opening_in l.initial.alone) (view_alone l.initial.alone) (view_alone l.alone))

abbrev pub decreases-loop-step : goal.decreases-loop-step
decreases-loop-step g l = sync_left (core_seen (core_of g.D.Die.seen) (opening_alone opening_in l.alone) (view_alone l.alone))
