-- What may happen in a core, and what it leaves: Event and CoreRun. This project's own.
--
-- Each event's effect is a function of the core and the event, so a core and a list of events determine the core that they lead to.
-- No condition speaks of the plain state after it: that it moves as the plain machine says is a law of the core's.
use Rattle.std.specs.Prelude.{◌≡◌, ◌≢◌, ◌<◌, ℕ, Bool, true, false, List, [], ◌∷◌, Some, None}
use Rattle.core_state.specs.declared.actor.Actor.{Actor}
use Rattle.core_state.specs.declared.actor.Actor.TheVariants.{Lane, Worker, Closer}
use Rattle.core_state.specs.declared.event.Event.{Event}
use Rattle.core_state.specs.declared.event.Event.TheVariants.{Enter, Leave, Quick, Skip, Begin, Copy, Take, DieOut, FillIn, Submit, Fetch, Report, End, Evict, Demote, FlushOut, FlushIn, MetaIn}
use Rattle.core_state.specs.declared.event.Purpose.TheVariants.{Fill, Meta}
use Rattle.core_state.specs.State.{Gone, ToFill, ToMeta, Out, Core}
use Rattle.core_state.specs.PageEvents.{copied, taken, evicted, demoted, MayCopy, MayTake, MayEvict, MayDemote}
use Rattle.core_state.specs.DieEvents.{die_out, flush_of, filled, flushed, stored, MayFill, MayMeta, MayFlushOut, MayFillIn, MayFlushIn, MayMetaIn}
use Rattle.core_state.specs.LaneEvents.{entered, left_by, quick, skipped, begun, submitted, fetched, reported, MayEnter, MayLeave, MayQuick, MaySkip, MayBegin, MaySubmit, MayFetch, MayReport}
use Rattle.core_state.specs.EndEvent.{ended, MayEnd}

-- who makes it
abbrev pub actor_of : Event → Actor
actor_of (Enter lane) = Lane lane
actor_of (Leave lane) = Lane lane
actor_of (Quick lane request reply) = Lane lane
actor_of (Skip lane request fault) = Lane lane
actor_of (Begin lane request side) = Lane lane
actor_of (Copy actor lane i) = actor
actor_of (Take actor lane i) = actor
actor_of (DieOut actor die purpose) = actor
actor_of (FillIn actor die good) = actor
actor_of (Submit lane) = Lane lane
actor_of (Fetch worker lane) = Worker worker
actor_of (Report worker lane) = Worker worker
actor_of (End lane request reply) = Lane lane
actor_of (Evict actor side block) = actor
actor_of (Demote actor block) = actor
actor_of (FlushOut actor die block) = actor
actor_of (FlushIn actor die good left) = actor
actor_of (MetaIn actor die good left) = actor

-- it brings a die home
abbrev pub is_homecoming : Event → Bool
is_homecoming (FillIn actor die good) = true
is_homecoming (FlushIn actor die good left) = true
is_homecoming (MetaIn actor die good left) = true
is_homecoming _ = false

-- the actor holds no die
abbrev pub HoldsNone : Core → Actor → Type 0
HoldsNone c actor = (die : ℕ) (out : Out) → (c.dies die).out ≡ Some out → out.holder ≢ actor

-- every lane has left, and no call is in flight
pub record IsClosing (c : Core) : Type 0 where
  pub left : (lane : ℕ) → lane < c.shape.lanes → (c.lanes lane).stage ≡ Gone
  pub none : (lane : ℕ) → c.calls lane ≡ None

-- the event's own condition
abbrev pub May : Core → Event → Type 0
May c (Enter lane) = MayEnter c lane
May c (Leave lane) = MayLeave c lane
May c (Quick lane request reply) = MayQuick c lane request reply
May c (Skip lane request fault) = MaySkip c lane request fault
May c (Begin lane request side) = MayBegin c lane request side
May c (Copy actor lane i) = MayCopy c actor lane i
May c (Take actor lane i) = MayTake c actor lane i
May c (DieOut actor die (Fill lane i)) = MayFill c actor die lane i
May c (DieOut actor die (Meta page bytes)) = MayMeta c actor die page bytes
May c (FillIn actor die good) = MayFillIn c actor die
May c (Submit lane) = MaySubmit c lane
May c (Fetch worker lane) = MayFetch c worker lane
May c (Report worker lane) = MayReport c worker lane
May c (End lane request reply) = MayEnd c lane request reply
May c (Evict actor side block) = MayEvict c side block
May c (Demote actor block) = MayDemote c block
May c (FlushOut actor die block) = MayFlushOut c actor die block
May c (FlushIn actor die good left) = MayFlushIn c actor die good left
May c (MetaIn actor die good left) = MayMetaIn c actor die good left

-- what it leaves
abbrev pub after : Core → Event → Core
after c (Enter lane) = entered c lane
after c (Leave lane) = left_by c lane
after c (Quick lane request reply) = quick c lane request.call
after c (Skip lane request fault) = skipped c lane
after c (Begin lane request side) = begun c lane request side
after c (Copy actor lane i) = copied c lane i
after c (Take actor lane i) = taken c lane i
after c (DieOut actor die (Fill lane i)) = die_out c actor die (ToFill lane i)
after c (DieOut actor die (Meta page bytes)) = die_out c actor die (ToMeta page bytes)
after c (FillIn actor die good) = filled c die good
after c (Submit lane) = submitted c lane
after c (Fetch worker lane) = fetched c worker lane
after c (Report worker lane) = reported c lane
after c (End lane request reply) = ended c lane reply
after c (Evict actor side block) = evicted c side block
after c (Demote actor block) = demoted c block
after c (FlushOut actor die block) = die_out c actor die (flush_of c block)
after c (FlushIn actor die good left) = flushed c actor die good left
after c (MetaIn actor die good left) = stored c actor die good left

-- The event happens. An actor that holds a die makes no event but the one that brings it home, and the closer acts only where every
-- lane has left and no call is in flight.
pub record Happens (c : Core) (e : Event) (c2 : Core) : Type 0 where
  pub hands : is_homecoming e ≡ false → HoldsNone c (actor_of e)
  pub closing : actor_of e ≡ Closer → IsClosing c
  pub may : May c e
  pub leaves : c2 ≡ after c e

-- the core that a list of events leads to
abbrev pub after_all : Core → List Event → Core
after_all c [] = c
after_all c (e ∷ es) = after_all (after c e) es

-- the events lead from the first core to the last, one after the other
abbrev pub CoreRun : Core → List Event → Core → Type 0
CoreRun c [] c2 = c2 ≡ c
CoreRun c (e ∷ es) c2 = Happens c e (after c e) × CoreRun (after c e) es c2
