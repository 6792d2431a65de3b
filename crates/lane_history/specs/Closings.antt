-- What the passes of actors leave when they are joined, so that in the end all dies are at home. This project's own.
use Rattle.std.specs.Prelude.{◌≡◌, ◌<◌, ℕ, List, map}
use Rattle.std.specs.declared.snapshot.Snapshot.{Snapshot}
use Rattle.turn_cell.specs.declared.view.Joined.{Joined}
use Rattle.turn_cell.specs.declared.view.View.{View}
use Rattle.turn_cell.specs.History.{entry, entries_of, Has}
use Rattle.core_state.specs.declared.actor.Actor.{Actor}
use Rattle.core_state.specs.declared.event.Event.{Event}
use Rattle.core_state.specs.State.{Gone, Core}
use Rattle.core_state.specs.Happens.{HoldsNone}
use Rattle.desk_turns.specs.Making.{AreOf}
use Rattle.desk_turns.specs.Passing.{core_after}

module _ {S : Type 0} (core : S → Core) (o : Snapshot S) where
  -- What the first pass keeps of the pass of one actor that was joined: its entries are events of the actor, it had seen all of them, and in
  -- the core that it saw last the actor held no die.
  pub record ActorDone (a : Actor) (x : Joined Event) : Type 0 where
    pub events : List Event
    pub made : x.entries ≡ map (entry x.number) events
    pub of : AreOf a events
    pub seen : entries_of x.number x.seen ≡ x.entries
    pub none : HoldsNone (core_after core o x.seen) a

  -- each joined pass was that of one actor
  abbrev pub AreActors : View (Snapshot S) Event → Type 0
  AreActors v = (x : Joined Event) → Has v.joined x → (a : Actor) × ActorDone a x

  -- each lane had left in a core that a joined pass saw last
  abbrev pub HaveLeft : View (Snapshot S) Event → Type 0
  HaveLeft v = (lane : ℕ) → lane < (core o.value).shape.lanes → (x : Joined Event) × Has v.joined x × (((core_after core o x.seen).lanes lane).stage ≡ Gone)
