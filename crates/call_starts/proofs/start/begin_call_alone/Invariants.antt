use Rattle.std.proofs.Common.{◌≡◌}
use Rattle.turn_cell.specs.Desks.{IsFreeAlone, view_alone, opening_alone, table_alone}
use Rattle.system_state.specs.Cores.{core_of}
use Rattle.core_solo.specs.Left.{call_left}
use Rattle.call_begins.specs.Books.{opening_in}
use Rattle.desk_turns.specs.Passing.{core_seen, Does}
use Rattle.call_starts.proofs.Looping.{Going}
use Rattle.call_starts.proofs.start.begin_call_alone.Given as goal

abbrev pub invariant-loop-step : goal.invariant-loop-step
invariant-loop-step g l =
    IsFreeAlone opening_in l.alone × ((table_alone l.alone ≡ table_alone l.fn.alone) × (opening_alone opening_in l.alone ≡ opening_alone opening_in l.fn.alone))
    × (l.prepared.job ≡ l.fn.prepared.job)
    × Does (view_alone l.fn.alone) (view_alone l.alone) (Going g.D.Die.seen (opening_alone opening_in l.fn.alone) (view_alone l.fn.alone) (view_alone l.alone) l.lane l.fn.prepared.job.request l.stage)

abbrev pub decreases-loop-step : goal.decreases-loop-step
decreases-loop-step g l = call_left (core_seen (core_of g.D.Die.seen) (opening_alone opening_in l.alone) (view_alone l.alone)) l.lane
