use Rattle.std.proofs.Common.{◌≡◌}
use Rattle.turn_cell.specs.Desks.{IsFreeAlone, view_alone, opening_alone, table_alone}
use Rattle.event_turns.specs.Books.{opening_in}
use Rattle.fill_steps.specs.Spans.{IsSameButPages}
use Rattle.fill_steps.proofs.Looping.{Going, left_at}
use Rattle.fill_steps.proofs.span.fill_span_alone.Given as goal

abbrev pub invariant-loop-i : goal.invariant-loop-i
invariant-loop-i g l =
    IsFreeAlone opening_in l.alone × ((table_alone l.alone ≡ table_alone l.initial.alone) × (opening_alone opening_in l.alone ≡ opening_alone opening_in l.initial.alone))
    × Going g.D.Die.seen (opening_alone opening_in l.initial.alone) (view_alone l.initial.alone) (view_alone l.alone) l.actor l.lane l.i l.job
    × IsSameButPages l.initial.job l.job

abbrev pub decreases-loop-i : goal.decreases-loop-i
decreases-loop-i g l = left_at g.D.Die.seen (opening_alone opening_in l.alone) (view_alone l.alone) l.lane l.i l.job
