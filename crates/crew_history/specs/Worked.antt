-- A crew's turn at its end: what the first pass knows when the passes of all posts are joined to it. This project's own.
use Rattle.std.specs.Prelude.{◌≡◌, ◌<◌, ◌≤◌, ◌^◌, ℕ, false, List, length, slice_index_or}
use Rattle.std.specs.declared.snapshot.Snapshot.{Snapshot}
use Rattle.turn_cell.specs.declared.turn.Turn.{Turn}
use Rattle.turn_cell.specs.declared.view.Joined.{Joined}
use Rattle.turn_cell.specs.declared.view.View.{View}
use Rattle.turn_cell.specs.Events.{events_of}
use Rattle.turn_cell.specs.Passes.{opening_of}
use Rattle.turn_cell.specs.Steps.{SeesAllowed}
use Rattle.turn_cell.specs.Teams.{IsWhole}
use Rattle.plain_files.specs.declared.calls.Request.{Request}
use Rattle.flash_die.specs.Dies.{DieView}
use Rattle.core_state.specs.declared.event.Event.{Event}
use Rattle.core_state.specs.Happens.{CoreRun}
use Rattle.system_state.specs.Cores.{core_of}
use Rattle.system_state.specs.declared.state.State.{State}
use Rattle.desk_turns.specs.Passing.{May, core_seen}
use Rattle.page_steps.specs.Books.{opening_in}
use Rattle.page_steps.specs.SystemOf.{System}
use Rattle.crews.specs.Crews.{Each, IsPlaced, IsKept}
use Rattle.crews.specs.Seats.{IsUntouched}
use Rattle.crews.specs.declared.post.Post.{Post}

module _ {D J : Type 0} (seen : D → DieView) where
  -- The turn of a crew, not `Alone`, from an untouched opening with as many lanes as there are lists of requests. What the first pass has seen
  -- is its whole history, and it keeps of each post's pass what the post's actor did.
  pub record HaveWorked (turn : Turn (System D J) (Snapshot (State D J)) Event) (lanes : List (List Request)) (posts : List (Post D J)) (v : View (Snapshot (State D J)) Event) : Type 0 where
    pub shared : v.alone ≡ false
    pub whole : IsWhole v
    pub allowed : SeesAllowed (May (core_of seen)) (opening_of opening_in turn) v
    pub untouched : IsUntouched (core_of seen (opening_of opening_in turn).value)
    pub run : CoreRun (core_of seen (opening_of opening_in turn).value) (events_of v.seen) (core_seen (core_of seen) (opening_of opening_in turn) v)
    pub wide : (core_of seen (opening_of opening_in turn).value).shape.lanes ≡ length lanes
    pub many : length lanes ≤ length posts
    pub placed : Each (λ k p. IsPlaced lanes k p.actor p.requests.items) posts
    pub count : length v.joined ≡ length posts
    pub kept : (j : ℕ) (d : Post D J) (x : Joined Event) → j < length posts → IsKept seen turn j (slice_index_or posts j d) (slice_index_or v.joined j x)

-- no joined pass had seen all the events that a turn counts, so each actor has done its work
abbrev pub HaveEnded : {O : Type 0} → View O Event → Type 0
HaveEnded v = (j : ℕ) (x : Joined Event) → j < length v.joined → length (slice_index_or v.joined j x).seen < 2 ^ 62
