-- Passes are split from the first one, one for each post. This project's own.
use Rattle.std.specs.Prelude.{◌≡◌, ◌<◌, ◌≤◌, ◌+◌, ◌^◌, ℕ, List, [], length, Some, vec_capacity}
use Rattle.std.specs.declared.snapshot.Snapshot.{Snapshot}
use Rattle.turn_cell.specs.declared.pass.Pass.{Pass}
use Rattle.turn_cell.specs.declared.turn.Turn.{Turn}
use Rattle.turn_cell.specs.Desks.{IsFreeAt}
use Rattle.turn_cell.specs.Passes.{view}
use Rattle.plain_files.specs.declared.calls.Request.{Request}
use Rattle.core_state.specs.declared.event.Event.{Event}
use Rattle.system_state.specs.declared.state.State.{State}
use Rattle.page_steps.specs.Books.{opening_in}
use Rattle.page_steps.specs.SystemOf.{System}
use Rattle.crews.specs.Crews.{IsPlaced, numbers_from}
use Rattle.crews.specs.declared.post.Post.{Post}

module _ {D J : Type 0} where
  -- the first pass, when so many have been split from it
  pub record IsSharing (turn : Turn (System D J) (Snapshot (State D J)) Event) (count : ℕ) (root : Pass (System D J) (Snapshot (State D J)) Event) : Type 0 where
    pub free : IsFreeAt opening_in turn root
    pub number : (view root).number ≡ 0
    pub saw : (view root).seen ≡ []
    pub own : (view root).own ≡ []
    pub first : (view root).first ≡ 0
    pub joined : (view root).joined ≡ []
    pub passes : (view root).passes ≡ count + 1
    pub split : (view root).split ≡ numbers_from 1 count

  -- the post of a place before its thread starts: its pass has made and seen nothing, and its log has room for all replies
  pub record IsNew (lanes : List (List Request)) (turn : Turn (System D J) (Snapshot (State D J)) Event) (k : ℕ) (post : Post D J) : Type 0 where
    pub placed : IsPlaced lanes k post.actor post.requests.items
    pub pass : Pass (System D J) (Snapshot (State D J)) Event
    pub is : post.pass ≡ Some pass
    pub free : IsFreeAt opening_in turn pass
    pub number : (view pass).number ≡ k + 1
    pub saw : (view pass).seen ≡ []
    pub made : (view pass).own ≡ []
    pub first : (view pass).first ≡ 0
    pub few : length post.requests.items < 2 ^ 32
    pub empty : post.log.items ≡ []
    pub room : length post.requests.items ≤ vec_capacity post.log
