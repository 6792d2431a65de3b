-- What tells that work over a turn had to give up. This project's own.
use Rattle.std.specs.Prelude.{◌≡◌, ⊤, ◌^◌}
use Rattle.std.specs.declared.option.Option.TheVariants.{Some}
use Rattle.turn_cell.specs.declared.pass.Pass.{Pass}
use Rattle.turn_cell.specs.declared.turn.Turn.{Turn}
use Rattle.turn_cell.specs.Passes.{view, IsPassOf}
use Rattle.turn_cell.specs.Steps.{count_of}
use Rattle.turn_example.specs.Counting.{start_of}
use Rattle.turn_example.specs.declared.counter.Add.{Add}
use Rattle.turn_example.specs.declared.counter.Start.{Start}
use Rattle.turn_example.specs.declared.counter.Counter.{Counter}
use Rattle.turn_example.specs.declared.ends.GiveUp.{GiveUp}
use Rattle.turn_example.specs.declared.ends.GiveUp.TheVariants.{NoMemory, Worn}

-- the pass has seen all the events that a turn counts, of a turn that began with none
abbrev pub IsSpent : Pass Counter Start Add → Type 0
IsSpent p = ((view p).first ≡ 0) × (count_of (view p) ≡ 2 ^ 62)

-- this turn was found worn, by a pass of it
abbrev pub IsWornAt : Turn Counter Start Add → GiveUp → Type 0
IsWornAt turn NoMemory = ⊥
IsWornAt turn (Worn p) = IsPassOf start_of turn p × IsSpent p

-- memory ran out, or a turn that was made of a counter with this start was found worn, by a pass of it
abbrev pub HadTo : Start → GiveUp → Type 0
HadTo o NoMemory = ⊤
HadTo o (Worn p) = ((view p).opening ≡ Some o) × IsSpent p
