-- What each kind of event does to what the actors hold, of the law "Hold kept". This project's own.
--
-- An event of one actor, other than Report, leaves the Hold of every other actor as it is. A Report adds to the lane's Hold what belonged
-- to the worker: the lane owns the call again, with the frames, gathered pages, mark and meta number that the worker had, and with the
-- result. It leaves the rest of it, and the Hold of all others, as it is.
use Rattle.std.specs.Prelude.{◌≡◌, ◌≢◌, ℕ, Option, Some, None}
use Rattle.index_lists.specs.Words.{put}
use Rattle.core_quick.specs.Actor.{Actor}
use Rattle.core_quick.specs.Actor.TheVariants.{Lane, Worker}
use Rattle.core_quick.specs.Event.{Event}
use Rattle.core_quick.specs.Event.TheVariants.{Report}
use Rattle.core_quick.specs.State.{Phase, Core}
use Rattle.core_quick.specs.Coherent.{Coherent}
use Rattle.core_quick.specs.LaneEvents.{result_of}
use Rattle.core_quick.specs.Happens.{actor_of, Happens}
use Rattle.core_quick.specs.Hold.{OwnedCall, Hold, hold}

-- every actor but the event's own holds what it held
abbrev pub KeepsHolds : Event → Type 0
KeepsHolds e = (c c2 : Core) (a : Actor) → Coherent c → Happens c e c2 → a ≢ actor_of e → hold c2 a ≡ hold c a

-- what was owned of a call, in another phase
abbrev pub owned_in : Phase → Option OwnedCall → Option OwnedCall
owned_in phase None = None
owned_in phase (Some call) = Some (record call { phase = phase })

-- the lane's Hold, with what belonged to the worker of the lane's call, which is reported
abbrev pub with_report : Core → ℕ → ℕ → Hold
with_report c worker lane =
    record (hold c (Lane lane)) { owned = put (hold c (Lane lane)).owned lane (owned_in (result_of c lane) ((hold c (Worker worker)).owned lane)) }

pub record HandsBack (worker lane : ℕ) : Type 0 where
  pub adds : (c c2 : Core) → Coherent c → Happens c (Report worker lane) c2 → hold c2 (Lane lane) ≡ with_report c worker lane
  pub others : (c c2 : Core) (a : Actor) → Coherent c → Happens c (Report worker lane) c2 → a ≢ Worker worker → a ≢ Lane lane → hold c2 a ≡ hold c a

-- so of every event
abbrev pub HoldsAfter : Event → Type 0
HoldsAfter (Report worker lane) = HandsBack worker lane
HoldsAfter e = KeepsHolds e
