-- Jobs for threads, each with a pass. This project's own.
use Rattle.std.specs.Prelude.{◌≡◌, ◌^◌, false, IsSome}
use Rattle.std.specs.declared.option.Option.TheVariants.{None, Some}
use Rattle.turn_cell.specs.declared.turn.Turn.{Turn}
use Rattle.turn_cell.specs.Passes.{view, IsPassOf, IsFree}
use Rattle.turn_cell.specs.Steps.{count_of}
use Rattle.turn_cell.specs.declared.pass.Pass.{Pass}
use Rattle.turn_example.specs.Counting.{AddsOne, adding, start_of}
use Rattle.turn_example.specs.declared.counter.Add.{Add}
use Rattle.turn_example.specs.declared.counter.Start.{Start}
use Rattle.turn_example.specs.declared.counter.Counter.{Counter}
use Rattle.turn_example.specs.declared.job.Job.{Job}

-- the job's pass is free at the turn, and is the actor's
unfoldable pub IsReady : Turn Counter Start Add → Job → Type 0
IsReady turn j = (p : Pass Counter Start Add) × (j.pass ≡ Some p) × (IsPassOf start_of turn p × IsFree p × ((view p).alone ≡ false)) × ((view p).number ≡ j.actor)

-- The job's pass is free again, and where the job tells a total it made its one addition. Where it tells none, the pass has
-- seen all the events that a turn counts.
unfoldable pub IsDone : Turn Counter Start Add → Job → Job → Type 0
IsDone turn j k =
    (p : Pass Counter Start Add) × (q : Pass Counter Start Add) × (j.pass ≡ Some p) × (k.pass ≡ Some q) × (k.actor ≡ j.actor) × (k.amount ≡ j.amount) × (IsPassOf start_of turn q × IsFree q)
    × (IsSome k.total → AddsOne (view p) (view q) (adding j.actor j.amount))
    × ((view q).first ≡ (view p).first) × (k.total ≡ None → count_of (view q) ≡ 2 ^ 62)
