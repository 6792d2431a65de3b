-- Room at a side: one event of the order in which it is made. This project's own.
--
-- The order is SoloRun's: for the host a copy of it goes, or goes to the drive; then for either a copy of the drive goes, or a block is
-- flushed.
use Rattle.std.specs.Prelude.{◌≡◌, ◌+◌, ◌++◌, ℕ, List, [], ◌∷◌, Option, Some, None, option_map}
use Rattle.turn_cell.specs.declared.book.Entry.{Entry}
use Rattle.turn_cell.specs.Events.{events_of}
use Rattle.turn_cell.specs.History.{entry}
use Rattle.flash_die.specs.Dies.{DieView}
use Rattle.core_state.specs.declared.actor.Actor.{Actor}
use Rattle.core_state.specs.declared.actor.Actor.TheVariants.{Closer}
use Rattle.core_state.specs.declared.event.Event.{Event}
use Rattle.core_state.specs.declared.event.Event.TheVariants.{Evict, Demote, FlushOut}
use Rattle.core_state.specs.State.{Page, ToFlush, Core}
use Rattle.core_state.specs.DieEvents.{flush_of}
use Rattle.core_state.specs.Happens.{HoldsNone, IsClosing}
use Rattle.core_solo.specs.Solo.{room_event}
use Rattle.dispatcher.specs.declared.side.Side.{Side}
use Rattle.system_state.specs.Jobs.{JobView}
use Rattle.system_state.specs.Cores.{core_of}
use Rattle.system_state.specs.Slots.{die_at}
use Rattle.system_state.specs.Stands.{IsStanding, Stands, DieStands, tally}
use Rattle.system_state.specs.Errands.{WentOut}
use Rattle.system_state.specs.declared.errand.Errand.{Errand}
use Rattle.system_state.specs.declared.state.State.{State}
use Rattle.desk_turns.specs.Making.{Makes}
use Rattle.event_turns.specs.Flushing.{IsFirst}
use Rattle.page_steps.specs.declared.room.Move.{Move}
use Rattle.page_steps.specs.declared.room.Move.TheVariants.{Evicted, Demoted}
use Rattle.page_steps.specs.declared.room.Given.{Given}
use Rattle.page_steps.specs.declared.room.Given.TheVariants.{Moved, Sent, Nothing}

-- the event of a move
abbrev pub event_of : Actor → Move → Event
event_of actor (Evicted side block) = Evict actor side block
event_of actor (Demoted block) = Demote actor block

abbrev pub move_event : Actor → Option Move → Option Event
move_event actor m = option_map (event_of actor) m

-- the event of what was done
abbrev pub given_event : {D : Type 0} → Actor → Given D → Option Event
given_event actor (Moved m) = Some (event_of actor m)
given_event actor (Sent e) = Some (FlushOut actor e.number e.subject)
given_event actor Nothing = None

-- none or one
abbrev pub few : Option Event → List Event
few None = []
few (Some e) = e ∷ []

module _ {D J : Type 0} (seen : D → DieView) (suits : J → JobView → Type 0) where
  -- the actor may make an event with copies: it holds no die, and the closer acts once the system is closing
  pub record MayMove (s : State D J) (actor : Actor) : Type 0 where
    pub standing : IsStanding seen suits s
    pub hands : HoldsNone (core_of seen s) actor
    pub closing : actor ≡ Closer → IsClosing (core_of seen s)

  -- the event was made, if there is one; else nothing has changed
  pub record Gave (s : State D J) (event : Option Event) (t : State D J) : Type 0 where
    pub makes : Makes (Stands seen suits) s (few event) t
    pub same : event ≡ None → t ≡ s

  -- the die of the first unclean block whose die was at home went out, with this copy of the block's page
  pub record IsSent (s : State D J) (actor : Actor) (page : Page) (e : Errand D) (t : State D J) : Type 0 where
    pub first : IsFirst e.subject (core_of seen s)
    pub out : WentOut seen actor (flush_of (core_of seen s) e.subject) (s.sizes.meta + e.subject) e t
    pub page_is : flush_of (core_of seen s) e.subject ≡ ToFlush e.subject ((core_of seen s).blocks e.subject).version page
    pub stands : (o : State D J) (h : List (Entry Event)) (n : ℕ) → Stands seen suits s o h →
        Stands seen suits t o (h ++ entry n (FlushOut actor e.number e.subject) ∷ [])
        × DieStands (die_at seen o.rack.slots.items e.number) (tally e.number (events_of h)) (seen e.left.value)

module _ {D : Type 0} where
  -- one turn for room, in core c
  pub record RoomTurn (actor : Actor) (side : Side) (page : Page) (r : Given D) (c : Core) (es : List Event) : Type 0 where
    pub are : es ≡ few (given_event actor r)
    pub next : room_event c actor side ≡ given_event actor r
    pub first : (e : Errand D) → r ≡ Sent e → IsFirst e.subject c × (flush_of c e.subject ≡ ToFlush e.subject (c.blocks e.subject).version page)
