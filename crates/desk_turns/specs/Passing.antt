-- What a pass knows of the core between two turns, and what it did in turns. This project's own.
--
-- The book of a turn stands for a history of the core's events. So the core that a pass last saw is a function of the opening and of what
-- the pass has seen, and what the pass knows is a statement on that one core.
use Rattle.std.specs.Prelude.{◌≡◌, ◌⊎◌, ◌+◌, ◌<◌, ℕ, true, false, List, [], ◌∷◌, ◌++◌, map, Option, Some, None}
use Rattle.std.specs.declared.snapshot.Snapshot.{Snapshot}
use Rattle.turn_cell.specs.declared.book.Entry.{Entry}
use Rattle.turn_cell.specs.declared.view.View.{View}
use Rattle.turn_cell.specs.Events.{events_of}
use Rattle.turn_cell.specs.History.{entry, entries_of, StartsWith}
use Rattle.turn_cell.specs.Steps.{seeing}
use Rattle.core_state.specs.declared.actor.Actor.{Actor}
use Rattle.core_state.specs.declared.actor.Actor.TheVariants.{Lane, Worker, Flusher, Closer}
use Rattle.core_state.specs.declared.event.Event.{Event}
use Rattle.core_state.specs.State.{Flight, Core}
use Rattle.core_state.specs.Dies.{owner}
use Rattle.core_state.specs.Hold.{hold}
use Rattle.core_state.specs.Happens.{CoreRun, actor_of}
use Rattle.core_state.specs.Coherent.{Coherent}
use Rattle.core_state.specs.Happens.{after_all}

-- Which pass acts whom, of a drive with so many lanes: pass 0 the closer, pass n, from 1 to the number of lanes, lane n - 1, and a pass of
-- a greater number the worker and the flusher whose number is n - 1 less the number of lanes.
abbrev pub Acts : ℕ → ℕ → Actor → Type 0
Acts lanes n Closer = n ≡ 0
Acts lanes n (Lane l) = (n ≡ l + 1) × (l < lanes)
Acts lanes n (Worker w) = n ≡ lanes + 1 + w
Acts lanes n (Flusher f) = n ≡ lanes + 1 + f

-- the actor isn't a lane whose call is in other hands
abbrev pub IsItsOwn : Core → Actor → Type 0
IsItsOwn c a = (l : ℕ) (f : Flight) → a ≡ Lane l → c.calls l ≡ Some f → owner l f.phase ≡ Some (Lane l)

module _ {S : Type 0} (core : S → Core) where
  -- the pass of this number may make the event, from this opening
  abbrev pub May : Snapshot S → ℕ → Event → Type 0
  May o n e = Acts (core o.value).shape.lanes n (actor_of e)

  -- the pass may make the actor's events
  abbrev pub ActsFor : Snapshot S → View (Snapshot S) Event → Actor → Type 0
  ActsFor o v a = (v.alone ≡ true) ⊎ Acts (core o.value).shape.lanes v.number a

  -- the core that a history leads to
  abbrev pub core_after : Snapshot S → List (Entry Event) → Core
  core_after o h = after_all (core o.value) (events_of h)

  -- the core as the pass last saw it
  abbrev pub core_seen : Snapshot S → View (Snapshot S) Event → Core
  core_seen o v = core_after o v.seen

  -- One turn: others made what is between, and then the pass made its events, none or one, in the core that it found. What the pass made is
  -- then all that its number has in the history. What an actor of the pass holds is found again as it was.
  pub record Turn (o : Snapshot S) (v w : View (Snapshot S) Event) (P : Core → List Event → Type 0) : Type 0 where
    pub between : List (Entry Event)
    pub events : List Event
    pub seen : w.seen ≡ (v.seen ++ between) ++ map (entry v.number) events
    pub own : w.own ≡ v.own ++ map (entry v.number) events
    pub settled : entries_of v.number w.seen ≡ w.own
    pub pass : w ≡ seeing v false w.seen w.own
    pub alone : v.alone ≡ true → between ≡ []
    pub begins : CoreRun (core o.value) (events_of (v.seen ++ between)) (core_after o (v.seen ++ between))
    pub run : CoreRun (core_after o (v.seen ++ between)) events (core_seen o w)
    pub coherent : Coherent (core_after o (v.seen ++ between))
    pub kept : (a : Actor) → ActsFor o v a → IsItsOwn (core_seen o v) a → hold (core_after o (v.seen ++ between)) a ≡ hold (core_seen o v) a
    pub says : P (core_after o (v.seen ++ between)) events

  -- From one view to a later one the pass made this event, in a core of which P holds.
  pub record FoundAt (o : Snapshot S) (v w : View (Snapshot S) Event) (e : Event) (P : Core → Type 0) : Type 0 where
    pub before : List (Entry Event)
    pub rest : List (Entry Event)
    pub since : StartsWith before v.seen
    pub seen : w.seen ≡ before ++ entry w.number e ∷ rest
    pub says : P (core_after o before)

module _ {S : Type 0} where
  -- In any number of turns the pass made these events, and saw what was made. Where what it had made was all that its number had in what it had
  -- seen, it is so again.
  pub record Went (v w : View (Snapshot S) Event) (events : List Event) : Type 0 where
    pub own : w.own ≡ v.own ++ map (entry v.number) events
    pub seen : StartsWith w.seen v.seen
    pub settled : entries_of v.number v.seen ≡ v.own → entries_of v.number w.seen ≡ w.own
    pub alone : v.alone ≡ true → w.seen ≡ v.seen ++ map (entry v.number) events
    pub pass : w ≡ seeing v w.holding w.seen w.own

  -- and P holds of them
  pub record Does (v w : View (Snapshot S) Event) (P : List Event → Type 0) : Type 0 where
    pub events : List Event
    pub went : Went v w events
    pub says : P events

-- the same call, in its own span
pub record SameCall (f g : Flight) : Type 0 where
  pub claim : g.claim ≡ f.claim
  pub phase : g.phase ≡ f.phase
  pub meta : g.meta ≡ f.meta
  pub gathered : (i : ℕ) → i < f.claim.reach.pages → g.gathered i ≡ f.gathered i
  pub frame : (i : ℕ) → i < f.claim.reach.pages → g.frame i ≡ f.frame i

-- the same call in both cores, or none in either
abbrev pub SameCalls : Option Flight → Option Flight → Type 0
SameCalls None o = o ≡ None
SameCalls (Some f) o = (g : Flight) × (o ≡ Some g) × SameCall f g

-- a lane's stage, its number of ended calls and its call are the same, whatever its mark
pub record SameLane (c d : Core) (l : ℕ) : Type 0 where
  pub stage : (d.lanes l).stage ≡ (c.lanes l).stage
  pub ended : (d.lanes l).ended ≡ (c.lanes l).ended
  pub call : SameCalls (c.calls l) (d.calls l)

-- What the actor has besides a die and a mark is the same in both cores: the lane and its call, or the closer's number of meta pages.
abbrev pub KeepsOwn : Core → Core → Actor → Type 0
KeepsOwn c d (Lane l) = SameLane c d l
KeepsOwn c d (Worker w) = Unit {0}
KeepsOwn c d (Flusher f) = Unit {0}
KeepsOwn c d Closer = d.closer ≡ c.closer
