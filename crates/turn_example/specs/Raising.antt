-- What it means that a pass raises a counter, by additions of 1. This project's own.
use Rattle.std.specs.Prelude.{◌≡◌, ◌≤◌, ℕ, List, [], ◌∷◌, ◌++◌}
use Rattle.turn_cell.specs.declared.book.Entry.{Entry}
use Rattle.turn_cell.specs.declared.view.View.{View}
use Rattle.turn_cell.specs.History.{entry}
use Rattle.turn_example.specs.Counting.{adding, total_at}
use Rattle.turn_example.specs.declared.counter.Add.{Add}
use Rattle.turn_example.specs.declared.counter.Start.{Start}

-- entries of one pass, each of which adds 1
abbrev pub AreOnes : ℕ → ℕ → List (Entry Add) → Type 0
AreOnes n actor [] = Unit {0}
AreOnes n actor (e ∷ es) = (e ≡ entry n (adding actor 1)) × AreOnes n actor es

-- the pass made nothing but additions of 1
abbrev pub MadeOnes : ℕ → View Start Add → View Start Add → Type 0
MadeOnes actor v w = (made : List (Entry Add)) × (w.own ≡ v.own ++ made) × AreOnes v.number actor made

-- it is the same pass
abbrev pub SamePass : View Start Add → View Start Add → Type 0
SamePass v w = (w.number ≡ v.number) × (w.alone ≡ v.alone)

-- the total is high enough, and the pass made nothing but additions of 1
abbrev pub Raises : Start → ℕ → ℕ → View Start Add → View Start Add → Type 0
Raises o actor least v w = (least ≤ total_at o w.seen) × MadeOnes actor v w
