-- What a list of events tells: the calls with their replies, the counts, and the failures of dies. This project's own.
use Rattle.std.specs.Prelude.{◌≡◌, ℕ, ◌+◌, ◌==◌, ◌≤◌, Bool, false, not, if◌then◌else◌, List, [], ◌∷◌, ◌++◌, length, Option, Some, None, is_some, IfSome}
use Rattle.edge_io.specs.Memory.{is_listed}
use Rattle.dispatcher.specs.declared.side.Side.{Side}
use Rattle.coherence.specs.Paired.{by_side}
use Rattle.plain_files.specs.declared.calls.Reply.TheVariants.{Fault, NoMemory}
use Rattle.plain_files.specs.declared.calls.Request.{Request}
use Rattle.plain_files.specs.History.{Entry, calls_in, is_fault}
use Rattle.index_lists.specs.Words.{one_if}
use Rattle.core_state.specs.declared.event.Event.{Event}
use Rattle.core_state.specs.declared.event.Event.TheVariants.{Quick, Skip, Begin, FillIn, End, FlushIn, MetaIn}
use Rattle.core_state.specs.Reach.{is_lambda}

-- ---- Calls

-- the call that an event ends, with its reply
abbrev pub entry_of : Event → Option Entry
entry_of (Quick lane request reply) = Some (record { lane = lane; call = request.call; reply = reply })
entry_of (Skip lane request fault) = Some (record { lane = lane; call = request.call; reply = if fault then Fault else NoMemory })
entry_of (End lane request reply) = Some (record { lane = lane; call = request.call; reply = reply })
entry_of _ = None

abbrev pub and_then : {A : Type 0} → Option A → List A → List A
and_then None xs = xs
and_then (Some x) xs = x ∷ xs

-- Calls: those that have ended, in order. The k-th has the number k plus the last one that was drawn before.
abbrev pub calls_of : List Event → List Entry
calls_of [] = []
calls_of (e ∷ es) = and_then (entry_of e) (calls_of es)

-- the request of a call that an event ends
abbrev pub request_of : Event → Option Request
request_of (Quick lane request reply) = Some request
request_of (Skip lane request fault) = Some request
request_of (End lane request reply) = Some request
request_of _ = None

-- each lane's awaited calls stand before the calls that await them
abbrev pub AreAwaited : List Event → Type 0
AreAwaited events =
    (before rest : List Event) (e : Event) (request : Request) → events ≡ before ++ e ∷ rest → request_of e ≡ Some request →
    IfSome request.awaits (λ awaited. awaited.1 ≤ length (calls_in awaited.0 (calls_of before)))

-- ---- Counts

-- the calls with a function that began at the host and in the drive, the reads of dies, and their writes
pub record Counts : Type 0 where
  pub host : ℕ
  pub drive : ℕ
  pub reads : ℕ
  pub writes : ℕ

abbrev pub no_counts : Counts
no_counts = record { host = 0; drive = 0; reads = 0; writes = 0 }

abbrev pub counted_at : Side → ℕ → Counts → Counts
counted_at side n counts = record counts { host = counts.host + by_side side n 0; drive = counts.drive + by_side side 0 n }

-- the counts with one event more
abbrev pub counted_with : Event → Counts → Counts
counted_with (Begin lane request side) counts = counted_at side (one_if (is_lambda request.call)) counts
counted_with (FillIn actor die good) counts = record counts { reads = counts.reads + 1 }
counted_with (FlushIn actor die good left) counts = record counts { writes = counts.writes + 1 }
counted_with (MetaIn actor die good left) counts = record counts { writes = counts.writes + 1 }
counted_with _ counts = counts

-- Counts, added to those so far
abbrev pub counts_from : Counts → List Event → Counts
counts_from counts [] = counts
counts_from counts (e ∷ es) = counts_from (counted_with e counts) es

abbrev pub counts_of : List Event → Counts
counts_of events = counts_from no_counts events

-- ---- Planned

-- the numbers, counted from 1, of a die's reads and writes that fail
pub record DiePlan : Type 0 where
  pub reads : List ℕ
  pub writes : List ℕ

-- whether it succeeded, of an event that brings this die home from a read
abbrev pub read_of : ℕ → Event → Option Bool
read_of d (FillIn actor die good) = if die == d then Some good else None
read_of d _ = None

-- the same from a write
abbrev pub write_of : ℕ → Event → Option Bool
write_of d (FlushIn actor die good left) = if die == d then Some good else None
write_of d (MetaIn actor die good left) = if die == d then Some good else None
write_of d _ = None

-- the read or write of this number fails exactly where it is listed
abbrev pub IsListed : Option Bool → ℕ → List ℕ → Type 0
IsListed None number listed = Unit {0}
IsListed (Some good) number listed = good ≡ not (is_listed number listed)

-- by the plan of a die that has made so many reads and writes before
abbrev pub IsPlannedFrom : ℕ → DiePlan → ℕ → ℕ → List Event → Type 0
IsPlannedFrom d plan reads writes [] = Unit {0}
IsPlannedFrom d plan reads writes (e ∷ es) =
    IsListed (read_of d e) (reads + 1) plan.reads × IsListed (write_of d e) (writes + 1) plan.writes
    × IsPlannedFrom d plan (reads + one_if (is_some (read_of d e))) (writes + one_if (is_some (write_of d e))) es

-- Planned: for each die, its k-th read failed exactly where the plan lists its read k, and its k-th write where it lists its write k
abbrev pub Planned : List Event → (ℕ → DiePlan) → Type 0
Planned events plan = (d : ℕ) → IsPlannedFrom d (plan d) 0 0 events

-- ---- failures

-- a die came home and had failed
abbrev pub is_failure : Event → Bool
is_failure (FillIn actor die good) = not good
is_failure (FlushIn actor die good left) = not good
is_failure (MetaIn actor die good left) = not good
is_failure _ = false

abbrev pub failures : List Event → ℕ
failures [] = 0
failures (e ∷ es) = one_if (is_failure e) + failures es

-- how many replies are `fault`
abbrev pub faults : List Entry → ℕ
faults [] = 0
faults (e ∷ entries) = one_if (is_fault e.reply) + faults entries
