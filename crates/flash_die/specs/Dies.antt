-- What is told of a die, and what its calls make of that. This project's own.
use Rattle.std.specs.Prelude.{◌≡◌, ℕ, ◌+◌, ◌^◌, ◌<◌, ◌≤◌, min, Bool, true, false, not, List, [], length, get_or, set, Option, IfSome, option_map}
use Rattle.std.specs.List.{All}
use Rattle.edge_io.specs.Memory.{is_listed}

-- how many reads and how many writes were made, and the numbers, counted from 1, of the reads and of the writes that fail
pub record PlanView : Type 0 where
  pub reads : ℕ
  pub writes : ℕ
  pub failing_reads : List ℕ
  pub failing_writes : List ℕ

-- the bytes of each page, how many pages there are, how many calls have failed, a number that these never pass, and the plan
pub record DieView : Type 0 where
  pub pages : Option (List (List ℕ))
  pub size : ℕ
  pub faults : ℕ
  pub most : Option ℕ
  pub plan : Option PlanView

-- the number of the next call, after so many; it stays at 2^32
abbrev pub next_number : ℕ → ℕ
next_number made = min (made + 1) (2 ^ 32)

-- the next read fails: its number is listed
abbrev pub read_fails : PlanView → Bool
read_fails plan = is_listed (next_number plan.reads) plan.failing_reads

abbrev pub after_read : PlanView → PlanView
after_read plan = record plan { reads = next_number plan.reads }

-- the next write fails: its number is listed
abbrev pub write_fails : PlanView → Bool
write_fails plan = is_listed (next_number plan.writes) plan.failing_writes

abbrev pub after_write : PlanView → PlanView
after_write plan = record plan { writes = next_number plan.writes }

-- what holds of every plan: counts end at 2^32, and each number that is listed is below it
pub record IsPlan (plan : PlanView) : Type 0 where
  pub reads : plan.reads ≤ 2 ^ 32
  pub writes : plan.writes ≤ 2 ^ 32
  pub failing_reads : All (λ number. number < 2 ^ 32) plan.failing_reads
  pub failing_writes : All (λ number. number < 2 ^ 32) plan.failing_writes

-- each of the pages has 4,096 bytes
abbrev pub AreWhole : List (List ℕ) → Type 0
AreWhole pages = All (λ page. length page ≡ 4096) pages

-- what holds of every die: as many pages are told as it has, and each of them is whole
pub record IsDie (die : DieView) : Type 0 where
  pub whole : IfSome die.pages (λ pages. length pages ≡ die.size)
  pub each_whole : IfSome die.pages AreWhole
  pub bounded : IfSome die.most (λ most. die.faults ≤ most)
  pub planned : IfSome die.plan IsPlan

-- the pages with these bytes in one of them
abbrev pub with_page : Option (List (List ℕ)) → ℕ → List ℕ → Option (List (List ℕ))
with_page pages page bytes = option_map (λ told. set told page bytes) pages

-- pages are told after as before, and but for one of them they are the same
pub record ChangesOnly (old : Option (List (List ℕ))) (page : ℕ) (new : Option (List (List ℕ))) : Type 0 where
  pub left : List ℕ
  pub same : new ≡ with_page old page left

-- no call changes the number of pages nor the bound of the faults; these never fall, and rise where the call fails
pub record Counts (old : DieView) (good : Bool) (new : DieView) : Type 0 where
  pub size : new.size ≡ old.size
  pub most : new.most ≡ old.most
  pub later : old.faults ≤ new.faults
  pub failed : good ≡ false → old.faults < new.faults

-- a read, from the page's buffer as it was to what it is after
pub record WentRead (old : DieView) (page : ℕ) (good : Bool) (before after : List ℕ) (new : DieView) : Type 0 where
  pub counts : Counts old good new
  pub plan : new.plan ≡ option_map after_read old.plan
  pub planned : IfSome old.plan (λ plan. good ≡ not (read_fails plan))
  pub pages : new.pages ≡ old.pages
  pub ok : good ≡ true → IfSome old.pages (λ pages. after ≡ get_or pages page [])
  pub err : good ≡ false → after ≡ before

-- a write of these bytes
pub record WentWrite (old : DieView) (page : ℕ) (good : Bool) (bytes : List ℕ) (new : DieView) : Type 0 where
  pub counts : Counts old good new
  pub plan : new.plan ≡ option_map after_write old.plan
  pub planned : IfSome old.plan (λ plan. good ≡ not (write_fails plan))
  pub ok : good ≡ true → new.pages ≡ with_page old.pages page bytes
  pub err : good ≡ false → ChangesOnly old.pages page new.pages
