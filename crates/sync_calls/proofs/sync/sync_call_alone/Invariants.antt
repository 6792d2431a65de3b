use Rattle.std.proofs.Common.{◌≡◌}
use Rattle.page_base.specs.Drive.{meta_pages}
use Rattle.turn_cell.specs.Desks.{IsFreeAlone, view_alone, opening_alone, table_alone}
use Rattle.system_state.specs.Cores.{core_of}
use Rattle.quick_calls.specs.Books.{opening_in}
use Rattle.desk_turns.specs.Passing.{core_seen, Does}
use Rattle.sync_calls.proofs.Looping.{Going, sync_left}
use Rattle.sync_calls.proofs.sync.sync_call_alone.Given as goal

abbrev pub invariant-loop-step : goal.invariant-loop-step
invariant-loop-step g l =
    IsFreeAlone opening_in l.alone × ((table_alone l.alone ≡ table_alone l.fn.alone) × (opening_alone opening_in l.alone ≡ opening_alone opening_in l.fn.alone))
    × (l.count ≡ meta_pages (opening_alone opening_in l.fn.alone).value.sizes.blocks)
    × Does (view_alone l.fn.alone) (view_alone l.alone) (Going g.D.Die.seen (opening_alone opening_in l.fn.alone) (view_alone l.fn.alone) (view_alone l.alone) l.lane l.request l.count l.stage)

abbrev pub decreases-loop-step : goal.decreases-loop-step
decreases-loop-step g l = sync_left (core_seen (core_of g.D.Die.seen) (opening_alone opening_in l.alone) (view_alone l.alone)) l.lane l.stage
