-- A crew: posts of all actors, whose passes are split from the first one and joined to it again. This project's own.
use Rattle.std.specs.Prelude.{◌≡◌, ◌≢◌, ◌<◌, ◌≤◌, ◌+◌, ◌-◌, ℕ, zero, suc, List, [], ◌∷◌, map, length, slice_index_or, Some}
use Rattle.std.specs.declared.snapshot.Snapshot.{Snapshot}
use Rattle.turn_cell.specs.declared.pass.Pass.{Pass}
use Rattle.turn_cell.specs.declared.turn.Turn.{Turn}
use Rattle.turn_cell.specs.declared.view.Joined.{Joined}
use Rattle.turn_cell.specs.Desks.{IsFreeAt}
use Rattle.turn_cell.specs.History.{entry}
use Rattle.turn_cell.specs.Passes.{opening_of, view}
use Rattle.plain_files.specs.declared.calls.Request.{Request}
use Rattle.plain_files.specs.History.{requests_of}
use Rattle.flash_die.specs.Dies.{DieView}
use Rattle.core_state.specs.declared.actor.Actor.{Actor}
use Rattle.core_state.specs.declared.actor.Actor.TheVariants.{Lane, Worker, Flusher, Closer}
use Rattle.core_state.specs.declared.event.Event.{Event}
use Rattle.system_state.specs.Cores.{core_of}
use Rattle.system_state.specs.declared.state.State.{State}
use Rattle.page_steps.specs.Books.{opening_in}
use Rattle.page_steps.specs.SystemOf.{System}
use Rattle.crews.specs.Posts.{HasWorked}
use Rattle.crews.specs.declared.post.Post.{Post}

-- the n numbers from this one on
abbrev pub numbers_from : ℕ → ℕ → List ℕ
numbers_from k zero = []
numbers_from k (suc n) = k ∷ numbers_from (k + 1) n

-- whose the post of a place is: lanes come first, each with its requests, and then workers and flushers
abbrev pub IsPlaced : List (List Request) → ℕ → Actor → List Request → Type 0
IsPlaced lanes k (Lane l) requests = (k ≡ l) × (l < length lanes) × (requests ≡ requests_of lanes l)
IsPlaced lanes k (Worker w) requests = k ≡ length lanes + w
IsPlaced lanes k (Flusher f) requests = k ≡ length lanes + f
IsPlaced lanes k Closer requests = ⊥

module _ {D J : Type 0} where
  -- each post, with its place
  abbrev pub Each : (ℕ → Post D J → Type 0) → List (Post D J) → Type 0
  Each P posts = (k : ℕ) (d : Post D J) → k < length posts → P k (slice_index_or posts k d)

  -- the same actor, requests and log
  abbrev pub IsSamePost : Post D J → Post D J → Type 0
  IsSamePost old new = (new.actor ≡ old.actor) × (new.requests ≡ old.requests) × (new.log ≡ old.log)

  -- the post's pass is free at the turn, and isn't the first one
  pub record HasPass (turn : Turn (System D J) (Snapshot (State D J)) Event) (post : Post D J) : Type 0 where
    pub pass : Pass (System D J) (Snapshot (State D J)) Event
    pub is : post.pass ≡ Some pass
    pub free : IsFreeAt opening_in turn pass
    pub later : (view pass).number ≢ 0

module _ {D J : Type 0} (seen : D → DieView) (turn : Turn (System D J) (Snapshot (State D J)) Event) where
  -- the post of a place, after its actor's work
  pub record IsServed (k : ℕ) (post : Post D J) : Type 0 where
    pub pass : Pass (System D J) (Snapshot (State D J)) Event
    pub is : post.pass ≡ Some pass
    pub free : IsFreeAt opening_in turn pass
    pub number : (view pass).number ≡ k + 1
    pub events : List Event
    pub made : (view pass).own ≡ map (entry (k + 1)) events
    pub worked : HasWorked (core_of seen) (opening_of opening_in turn).value.last (opening_of opening_in turn) (k + 1) (view pass).seen post.actor post.requests.items post.log.items events

  -- what the first pass keeps of the pass of the post of a place
  pub record IsKept (k : ℕ) (post : Post D J) (x : Joined Event) : Type 0 where
    pub number : x.number ≡ k + 1
    pub events : List Event
    pub made : x.entries ≡ map (entry (k + 1)) events
    pub worked : HasWorked (core_of seen) (opening_of opening_in turn).value.last (opening_of opening_in turn) (k + 1) x.seen post.actor post.requests.items post.log.items events

  -- The first pass while passes are joined to it, when those of the first k of these posts are. It has seen no less than they.
  pub record IsGathering (posts : List (Post D J)) (k : ℕ) (root : Pass (System D J) (Snapshot (State D J)) Event) : Type 0 where
    pub free : IsFreeAt opening_in turn root
    pub number : (view root).number ≡ 0
    pub own : (view root).own ≡ []
    pub first : (view root).first ≡ 0
    pub split : (view root).split ≡ numbers_from (k + 1) (length posts - k)
    pub count : length (view root).joined ≡ k
    pub kept : (j : ℕ) (d : Post D J) (x : Joined Event) → j < k → IsKept j (slice_index_or posts j d) (slice_index_or (view root).joined j x)
    pub within : (j : ℕ) (x : Joined Event) → j < k → length (slice_index_or (view root).joined j x).seen ≤ length (view root).seen
