use Rattle.std.proofs.Common.{◌≡◌, length, take}
use Rattle.turn_cell.specs.Desks.{IsFreeAlone, view_alone, opening_alone, table_alone}
use Rattle.turn_cell.specs.Events.{events_of}
use Rattle.script_words.specs.Lanes.{requests}
use Rattle.core_state.specs.History.{calls_of}
use Rattle.desk_turns.specs.Passing.{Does}
use Rattle.settling.specs.Books.{opening_in}
use Rattle.lane_logs.specs.Logs.{AreLogs, HaveRoom}
use Rattle.solo_runs.specs.Lines.{script_of, AreCallsOf, HaveMade}
use Rattle.solo_runs.proofs.lines.run_lines.Given as goal

abbrev pub invariant-loop-at : goal.invariant-loop-at
invariant-loop-at g l =
    IsFreeAlone opening_in l.alone × ((table_alone l.alone ≡ table_alone l.initial.alone) × (opening_alone opening_in l.alone ≡ opening_alone opening_in l.initial.alone))
    × Does (view_alone l.initial.alone) (view_alone l.alone) (HaveMade g.D.Die.seen (opening_alone opening_in l.initial.alone) (view_alone l.initial.alone) (view_alone l.alone) (script_of l.script) (take l.at l.script.order))
    × AreLogs (length l.script.lanes) l.last (calls_of (events_of (view_alone l.alone).seen)) l.logs.items
    × HaveRoom (requests l.script) l.logs.items
    × AreCallsOf l.last (take l.at l.script.order) (calls_of (events_of (view_alone l.alone).seen))
