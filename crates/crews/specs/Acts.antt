-- What an actor of a crew does, from its first event to its last. This project's own.
use Rattle.std.specs.Prelude.{◌≡◌, ℕ, List, Result, Ok, Err}
use Rattle.std.specs.declared.snapshot.Snapshot.{Snapshot}
use Rattle.turn_cell.specs.declared.book.Entry.{Entry}
use Rattle.turn_cell.specs.declared.pass.Worn.{Worn}
use Rattle.plain_files.specs.declared.calls.Numbered.{Numbered}
use Rattle.plain_files.specs.declared.calls.Request.{Request}
use Rattle.core_state.specs.declared.actor.Actor.{Actor}
use Rattle.core_state.specs.declared.actor.Actor.TheVariants.{Lane}
use Rattle.core_state.specs.declared.event.Event.{Event}
use Rattle.core_state.specs.State.{Core}
use Rattle.core_state.specs.Happens.{HoldsNone}
use Rattle.desk_turns.specs.Making.{AreOf}
use Rattle.desk_turns.specs.Passing.{IsItsOwn, core_after}
use Rattle.crews.specs.Lanes.{EndsFirst, HasRun}

module _ {S : Type 0} (core : S → Core) (last : ℕ) where
  -- the events are the actor's, it holds no die after them, and no call of it is in other hands; a lane ended all its requests
  pub record HasActed (o : Snapshot S) (h : List (Entry Event)) (actor : Actor) (requests : List Request) (log : List Numbered) (es : List Event) : Type 0 where
    pub of : AreOf actor es
    pub none : HoldsNone (core_after core o h) actor
    pub own : IsItsOwn (core_after core o h) actor
    pub lane : (l : ℕ) → actor ≡ Lane l → HasRun core last o h l requests log es

  -- what it comes to, and its events
  abbrev pub ActSays : Snapshot S → List (Entry Event) → Actor → List Request → List Numbered → Result (Unit {0}) Worn → List Event → Type 0
  ActSays o h actor requests log (Ok x) es = HasActed o h actor requests log es
  ActSays o h actor requests log (Err x) es = AreOf actor es × ((l : ℕ) → actor ≡ Lane l → EndsFirst l requests es)
