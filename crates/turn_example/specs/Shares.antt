-- Work that is shared out to passes and gathered again. This project's own.
use Rattle.std.specs.Prelude.{◌≡◌, ◌<◌, ℕ, ◌+◌, ◌^◌, false, List, [], ◌∷◌, map, length, slice_index_or, IsSome}
use Rattle.std.specs.declared.option.Option.TheVariants.{None, Some}
use Rattle.turn_cell.specs.declared.pass.Pass.{Pass}
use Rattle.turn_cell.specs.declared.turn.Turn.{Turn}
use Rattle.turn_cell.specs.declared.view.Joined.{Joined}
use Rattle.turn_cell.specs.History.{entry}
use Rattle.turn_cell.specs.Steps.{count_of}
use Rattle.turn_cell.specs.Events.{events_of}
use Rattle.turn_cell.specs.Passes.{view, IsPassOf, IsFree}
use Rattle.turn_example.specs.Counting.{adding, start_of, sum_of}
use Rattle.turn_example.specs.declared.counter.Add.{Add}
use Rattle.turn_example.specs.declared.counter.Start.{Start}
use Rattle.turn_example.specs.declared.counter.Counter.{Counter}
use Rattle.turn_example.specs.declared.job.Job.{Job}

-- each job, with its place
abbrev pub Each : (ℕ → Job → Type 0) → List Job → Type 0
Each P js = (k : ℕ) (d : Job) → k < length js → P k (slice_index_or js k d)

abbrev pub actors_of : List Job → List ℕ
actors_of js = map (λ j. j.actor) js

abbrev pub amount_sum : List Job → ℕ
amount_sum [] = 0
amount_sum (j ∷ js) = j.amount + amount_sum js

-- what joined passes added
abbrev pub joined_sum : List (Joined Add) → ℕ
joined_sum [] = 0
joined_sum (x ∷ xs) = sum_of (events_of x.entries) + joined_sum xs

-- the job's pass is free at the turn
abbrev pub IsFreeJob : Turn Counter Start Add → Job → Pass Counter Start Add → Type 0
IsFreeJob turn j p = (j.pass ≡ Some p) × IsPassOf start_of turn p × IsFree p

-- the job of a place, whose pass has made nothing
unfoldable pub IsNew : Turn Counter Start Add → ℕ → Job → Type 0
IsNew turn k j = (p : Pass Counter Start Add) × IsFreeJob turn j p × ((view p).alone ≡ false) × ((view p).number ≡ k + 1) × ((view p).own ≡ []) × (j.actor ≡ k + 1) × ((view p).first ≡ 0)

-- the job of a place, whose pass has made its one addition, or has seen all the events that a turn counts
unfoldable pub IsServed : Turn Counter Start Add → ℕ → Job → Type 0
IsServed turn k j = (p : Pass Counter Start Add) × IsFreeJob turn j p × (j.actor ≡ k + 1) × (IsSome j.total → ((view p).number ≡ j.actor) × ((view p).own ≡ entry j.actor (adding j.actor j.amount) ∷ [])) × ((view p).first ≡ 0) × (j.total ≡ None → count_of (view p) ≡ 2 ^ 62)

-- the first pass while passes are split from it, for these jobs so far
abbrev pub IsSharing : Turn Counter Start Add → List Job → Pass Counter Start Add → Type 0
IsSharing turn js p = (IsPassOf start_of turn p × IsFree p) × ((view p).number ≡ 0) × ((view p).alone ≡ false) × ((view p).own ≡ []) × ((view p).joined ≡ []) × ((view p).passes ≡ length js + 1) × ((view p).split ≡ actors_of js) × ((view p).first ≡ 0)

-- the first pass while those of these jobs are still to be joined
abbrev pub IsGathering : Turn Counter Start Add → List Job → Pass Counter Start Add → Type 0
IsGathering turn js p = (IsPassOf start_of turn p × IsFree p) × ((view p).number ≡ 0) × ((view p).own ≡ []) × ((view p).split ≡ actors_of js)

-- what was joined already and what is still to be joined
abbrev pub all_in : List Job → Pass Counter Start Add → ℕ
all_in js p = joined_sum (view p).joined + amount_sum js
