-- One step of making room over a desk. This project's own.
use Rattle.std.specs.Prelude.{◌≡◌, ℕ, Bool, true, false, List, [], ◌∷◌, Some, None, Result, Ok, Err}
use Rattle.std.specs.declared.snapshot.Snapshot.{Snapshot}
use Rattle.dispatcher.specs.declared.side.Side.{Side}
use Rattle.turn_cell.specs.declared.view.View.{View}
use Rattle.turn_cell.specs.declared.pass.Worn.{Worn}
use Rattle.flash_die.specs.Dies.{DieView}
use Rattle.core_state.specs.declared.actor.Actor.TheVariants.{Lane}
use Rattle.core_state.specs.declared.event.Event.{Event}
use Rattle.core_state.specs.declared.event.Event.TheVariants.{Evict, Demote, FlushOut, FlushIn}
use Rattle.core_state.specs.State.{Page, Core}
use Rattle.core_state.specs.LaneEvents.{IsIdle}
use Rattle.core_state.specs.Coherent.{Coherent}
use Rattle.core_state.specs.Happens.{HoldsNone, CoreRun}
use Rattle.core_solo.specs.Solo.{room_event}
use Rattle.system_state.specs.Cores.{core_of}
use Rattle.system_state.specs.declared.state.State.{State}
use Rattle.desk_turns.specs.Passing.{core_seen, FoundAt, SameLane}
use Rattle.event_turns.specs.Flushing.{HasFailed, IsCutShort}
use Rattle.event_turns.specs.FlushedAnswer.{Flushed}
use Rattle.event_turns.specs.FlushedAnswer.TheVariants.{Wrote, Failed as FlushFailed, Nothing, Busy}
use Rattle.page_steps.specs.declared.making.Made.{Made}
use Rattle.page_steps.specs.declared.making.Made.TheVariants.{Room, Failed, Wait}

-- the lane has entered and not left, has no call in flight and holds no die; with a mark or without
pub record IsIdleWith (marked : Bool) (c : Core) (lane : ℕ) : Type 0 where
  pub idle : IsIdle c lane
  pub mark : (c.lanes lane).mark ≡ marked
  pub none : HoldsNone c (Lane lane)

-- it can begin a call
abbrev pub IsFree : Core → ℕ → Type 0
IsFree c lane = IsIdleWith false c lane

-- a die event for it has failed: its call is to be skipped
abbrev pub IsMarked : Core → ℕ → Type 0
IsMarked c lane = IsIdleWith true c lane

-- it is the next event for room at the side
abbrev pub IsForRoom : ℕ → Side → Event → Core → Type 0
IsForRoom lane side e c = room_event c (Lane lane) side ≡ Some e

-- what follows the event for room: a flush comes home, and had not failed
abbrev pub IsWhole : ℕ → Event → List Event → Type 0
IsWhole lane (Evict actor side block) rest = rest ≡ []
IsWhole lane (Demote actor block) rest = rest ≡ []
IsWhole lane (FlushOut actor die block) rest = (left : Page) × (rest ≡ FlushIn (Lane lane) die true left ∷ [])
IsWhole lane e rest = ⊥

module _ {D J : Type 0} (seen : D → DieView) where
  -- The first possible event for room was made, with all of the flush that it may have begun. Where the pass is alone, that leads from the
  -- core as it was seen first to the one that is seen then.
  pub record MadeRoom (o : Snapshot (State D J)) (v w : View (Snapshot (State D J)) Event) (lane : ℕ) (side : Side) (es : List Event) : Type 0 where
    pub event : Event
    pub rest : List Event
    pub are : es ≡ event ∷ rest
    pub whole : IsWhole lane event rest
    pub found : FoundAt (core_of seen) o v w event (IsForRoom lane side event)
    pub first : v.alone ≡ true → IsForRoom lane side event (core_seen (core_of seen) o v)
    pub after : IsFree (core_seen (core_of seen) o w) lane
    pub same : SameLane (core_seen (core_of seen) o v) (core_seen (core_of seen) o w) lane
    pub coherent : Coherent (core_seen (core_of seen) o w)
    pub run : v.alone ≡ true → CoreRun (core_seen (core_of seen) o v) es (core_seen (core_of seen) o w)

  -- the first possible one was a flush, which failed: the die's count of faults rose, and the lane is marked
  pub record FailedRoom (o : Snapshot (State D J)) (v w : View (Snapshot (State D J)) Event) (lane : ℕ) (side : Side) (es : List Event) : Type 0 where
    pub die : ℕ
    pub block : ℕ
    pub left : Page
    pub are : es ≡ FlushOut (Lane lane) die block ∷ FlushIn (Lane lane) die false left ∷ []
    pub found : FoundAt (core_of seen) o v w (FlushOut (Lane lane) die block) (IsForRoom lane side (FlushOut (Lane lane) die block))
    pub first : v.alone ≡ true → IsForRoom lane side (FlushOut (Lane lane) die block) (core_seen (core_of seen) o v)
    pub failed : HasFailed seen o v w die
    pub after : IsMarked (core_seen (core_of seen) o w) lane
    pub same : SameLane (core_seen (core_of seen) o v) (core_seen (core_of seen) o w) lane
    pub coherent : Coherent (core_seen (core_of seen) o w)
    pub run : v.alone ≡ true → CoreRun (core_seen (core_of seen) o v) es (core_seen (core_of seen) o w)

  -- none was possible, in the core as it was last seen
  pub record NoRoomYet (o : Snapshot (State D J)) (v w : View (Snapshot (State D J)) Event) (lane : ℕ) (side : Side) (es : List Event) : Type 0 where
    pub are : es ≡ []
    pub none : room_event (core_seen (core_of seen) o w) (Lane lane) side ≡ None
    pub after : IsFree (core_seen (core_of seen) o w) lane
    pub same : SameLane (core_seen (core_of seen) o v) (core_seen (core_of seen) o w) lane

  -- what a step of making room answers, and its events
  abbrev pub RoomSays : Snapshot (State D J) → View (Snapshot (State D J)) Event → View (Snapshot (State D J)) Event → ℕ → Side → Result Made Worn → List Event → Type 0
  RoomSays o v w lane side (Err x) es = IsCutShort (Lane lane) es
  RoomSays o v w lane side (Ok Room) es = MadeRoom o v w lane side es
  RoomSays o v w lane side (Ok Failed) es = FailedRoom o v w lane side es
  RoomSays o v w lane side (Ok Wait) es = NoRoomYet o v w lane side es

-- the answer where a flush came home
abbrev pub made_by : Flushed → Made
made_by (Wrote block) = Room
made_by (FlushFailed block) = Failed
made_by Nothing = Wait
made_by (Busy die) = Wait
