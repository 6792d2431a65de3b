-- Calls with a function go into the queue, to a worker, and back, over a desk. This project's own.
use Rattle.std.specs.Prelude.{◌≡◌, ℕ, List, [], ◌∷◌, Some, Result, Ok, Err}
use Rattle.index_lists.specs.Words.{first}
use Rattle.core_state.specs.declared.event.Event.{Event}
use Rattle.core_state.specs.declared.event.Event.TheVariants.{Fetch}
use Rattle.core_state.specs.State.{Flight, Running, Core}
use Rattle.core_state.specs.PageEvents.{flight_at}
use Rattle.system_state.specs.Jobs.{JobView, view_of}
use Rattle.system_state.specs.declared.not_yet.NotYet.{NotYet}
use Rattle.system_state.specs.declared.not_yet.NotYet.TheVariants.{QueueEmpty}
use Rattle.system_lanes.specs.Leaving.{have_left}
use Rattle.desk_turns.specs.Passing.{SameCall}

-- a job is told the same of a call: its code, how many bytes there are to read, and the call in its span
pub record IsToldSame (v w : JobView) : Type 0 where
  pub code : w.code ≡ v.code
  pub readable : w.readable ≡ v.readable
  pub call : SameCall v.flight w.flight

module _ {J : Type 0} (suits : J → JobView → Type 0) where
  -- the job is that of the call, whatever the call has beyond its span
  abbrev pub SuitsInSpan : J → JobView → Type 0
  SuitsInSpan job v = (w : JobView) → IsToldSame v w → suits job w

  -- a worker is handed the first call of the queue, with its job, in core c; or the queue is empty
  abbrev pub FetchSays : ℕ → Result (ℕ × J) NotYet → Core → List Event → Type 0
  FetchSays worker (Ok x) c es =
      (es ≡ Fetch worker x.0 ∷ []) × (first c.queue ≡ Some x.0) × suits x.1 (view_of c.names (flight_at c.calls x.0))
  FetchSays worker (Err y) c es = (es ≡ []) × (c.queue ≡ []) × (y ≡ QueueEmpty (have_left c))

-- no call is with the worker
abbrev pub IsUnbusy : Core → ℕ → Type 0
IsUnbusy c worker = (lane : ℕ) (call : Flight) → c.calls lane ≡ Some call → call.phase ≡ Running worker → ⊥
