-- What a counter stands for: its total and its count of additions follow from a history of additions.
use Rattle.std.specs.Prelude.{◌≡◌, ℕ, ◌+◌, ◌%◌, ◌^◌, false, List, [], ◌∷◌, ◌++◌, length}
use Rattle.turn_cell.specs.declared.book.Entry.{Entry}
use Rattle.turn_cell.specs.declared.view.View.{View}
use Rattle.turn_cell.specs.History.{entry}
use Rattle.turn_cell.specs.Steps.{seeing}
use Rattle.turn_cell.specs.Events.{events_of}
use Rattle.turn_example.specs.declared.counter.Add.{Add}
use Rattle.turn_example.specs.declared.counter.Start.{Start}
use Rattle.turn_example.specs.declared.counter.Counter.{Counter}

abbrev pub adding : ℕ → ℕ → Add
adding actor amount = record { actor = actor; amount = amount }

abbrev pub start_of : Counter → Start
start_of c = record { total = c.total; made = c.made }

abbrev pub sum_of : List Add → ℕ
sum_of [] = 0
sum_of (x ∷ xs) = x.amount + sum_of xs

-- the total after a history
abbrev pub total_at : Start → List (Entry Add) → ℕ
total_at o h = (o.total + sum_of (events_of h)) % 2 ^ 64

abbrev pub Stands : Counter → Start → List (Entry Add) → Type 0
Stands c o h = (c.past.value ≡ events_of h) × (c.made ≡ (o.made + length h) % 2 ^ 64) × (c.total ≡ total_at o h)

-- an actor is acted by the pass of its number
abbrev pub ActsAs : Start → ℕ → Add → Type 0
ActsAs o n e = e.actor ≡ n

-- one event more of the pass, behind all that it had seen
abbrev pub AddsOne : View Start Add → View Start Add → Add → Type 0
AddsOne v w e =
    ((between : List (Entry Add)) × (w.seen ≡ (v.seen ++ between) ++ entry v.number e ∷ [])) × (w.own ≡ v.own ++ entry v.number e ∷ []) × (w ≡ seeing v false w.seen w.own)
