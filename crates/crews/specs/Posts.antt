-- A post: an actor with its pass, and what it leaves. This project's own.
use Rattle.std.specs.Prelude.{◌≡◌, ◌<◌, ◌≤◌, ◌^◌, ℕ, List, [], map, length, Some, vec_capacity}
use Rattle.std.specs.declared.snapshot.Snapshot.{Snapshot}
use Rattle.turn_cell.specs.declared.book.Entry.{Entry}
use Rattle.turn_cell.specs.declared.pass.Pass.{Pass}
use Rattle.turn_cell.specs.declared.turn.Turn.{Turn}
use Rattle.turn_cell.specs.Desks.{IsFreeAt}
use Rattle.turn_cell.specs.History.{entry, entries_of}
use Rattle.turn_cell.specs.Passes.{opening_of, view}
use Rattle.plain_files.specs.declared.calls.Numbered.{Numbered}
use Rattle.plain_files.specs.declared.calls.Request.{Request}
use Rattle.flash_die.specs.Dies.{DieView}
use Rattle.core_state.specs.declared.actor.Actor.{Actor}
use Rattle.core_state.specs.declared.actor.Actor.TheVariants.{Lane}
use Rattle.core_state.specs.declared.event.Event.{Event}
use Rattle.core_state.specs.State.{Core}
use Rattle.core_state.specs.Happens.{HoldsNone}
use Rattle.system_state.specs.Cores.{core_of}
use Rattle.system_state.specs.declared.state.State.{State}
use Rattle.desk_turns.specs.Making.{AreOf}
use Rattle.desk_turns.specs.Passing.{Acts, Went, core_after}
use Rattle.page_steps.specs.Books.{opening_in}
use Rattle.page_steps.specs.SystemOf.{System}
use Rattle.page_steps.specs.Words.{IsSmall}
use Rattle.crews.specs.Lanes.{EndsFirst, HasRun}
use Rattle.crews.specs.Seats.{IsUntouched}
use Rattle.crews.specs.declared.post.Post.{Post}

module _ {S : Type 0} (core : S → Core) (last : ℕ) where
  -- An actor has done its work, by a pass of this number that has seen this history: its entries are those that it made, and it holds no die;
  -- a lane ended all its requests.
  pub record HasEnded (o : Snapshot S) (n : ℕ) (h : List (Entry Event)) (actor : Actor) (requests : List Request) (log : List Numbered) (es : List Event) : Type 0 where
    pub settled : entries_of n h ≡ map (entry n) es
    pub none : HoldsNone (core_after core o h) actor
    pub lane : (l : ℕ) → actor ≡ Lane l → HasRun core last o h l requests log es

  -- The events are the actor's, and a lane ended the first of its requests. Unless the pass has seen all the events that a turn counts, the
  -- actor has done its work.
  pub record HasWorked (o : Snapshot S) (n : ℕ) (h : List (Entry Event)) (actor : Actor) (requests : List Request) (log : List Numbered) (es : List Event) : Type 0 where
    pub of : AreOf actor es
    pub begun : (l : ℕ) → actor ≡ Lane l → EndsFirst l requests es
    pub ended : length h < 2 ^ 62 → HasEnded o n h actor requests log es

module _ {D J : Type 0} (seen : D → DieView) where
  -- the post's pass is free at a turn that just began, is the actor's, and has made and seen nothing; the log has room
  pub record IsReady (turn : Turn (System D J) (Snapshot (State D J)) Event) (post : Post D J) : Type 0 where
    pub pass : Pass (System D J) (Snapshot (State D J)) Event
    pub is : post.pass ≡ Some pass
    pub free : IsFreeAt opening_in turn pass
    pub untouched : IsUntouched (core_of seen (opening_of opening_in turn).value)
    pub small : IsSmall (opening_of opening_in turn).value
    pub acts : Acts (core_of seen (opening_of opening_in turn).value).shape.lanes (view pass).number post.actor
    pub later : 0 < (view pass).number
    pub saw : (view pass).seen ≡ []
    pub made : (view pass).own ≡ []
    pub first : (view pass).first ≡ 0
    pub few : length post.requests.items < 2 ^ 32
    pub empty : post.log.items ≡ []
    pub room : length post.requests.items ≤ vec_capacity post.log

  -- the same post, whose pass is free again, after what the actor did
  pub record IsDone (turn : Turn (System D J) (Snapshot (State D J)) Event) (old new : Post D J) : Type 0 where
    pub before : Pass (System D J) (Snapshot (State D J)) Event
    pub after : Pass (System D J) (Snapshot (State D J)) Event
    pub was : old.pass ≡ Some before
    pub is : new.pass ≡ Some after
    pub actor : new.actor ≡ old.actor
    pub requests : new.requests ≡ old.requests
    pub free : IsFreeAt opening_in turn after
    pub events : List Event
    pub went : Went (view before) (view after) events
    pub worked : HasWorked (core_of seen) (opening_of opening_in turn).value.last (opening_of opening_in turn) (view before).number (view after).seen old.actor old.requests.items new.log.items events
