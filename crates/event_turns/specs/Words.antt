-- Words that the turns share. This project's own.
use Rattle.std.specs.Prelude.{◌≡◌, ℕ, ◌+◌, ◌^◌, ◌<◌, ◌≤◌, List, [], ◌∷◌, ◌++◌, length, Some}
use Rattle.coherence.specs.Paired.{flags_at}
use Rattle.std.specs.declared.snapshot.Snapshot.{Snapshot}
use Rattle.turn_cell.specs.declared.view.View.{View}
use Rattle.plain_files.specs.declared.calls.Call.{Call}
use Rattle.plain_files.specs.declared.calls.Numbered.{Numbered}
use Rattle.plain_files.specs.History.{Entry}
use Rattle.core_state.specs.declared.actor.Actor.{Actor}
use Rattle.core_state.specs.declared.event.Event.{Event}
use Rattle.core_state.specs.State.{Core}
use Rattle.core_state.specs.Coherent.{Coherent}
use Rattle.core_state.specs.Hold.{hold}
use Rattle.core_state.specs.History.{entry_of}
use Rattle.system_state.specs.declared.state.State.{State}
use Rattle.desk_turns.specs.Passing.{core_seen}

-- From one view to a later one the actor holds what it held, and the core as it is seen then is coherent.
abbrev pub StillHolds : {S : Type 0} → (S → Core) → Snapshot S → View (Snapshot S) Event → View (Snapshot S) Event → Actor → Type 0
StillHolds core o v w a = (hold (core_seen core o w) a ≡ hold (core_seen core o v) a) × Coherent (core_seen core o w)

-- the event, in core c, ends this call of the lane with this reply, and draws the next number
pub record IsAnswered (c : Core) (e : Event) (lane : ℕ) (call : Call) (n : Numbered) : Type 0 where
  pub number : n.number ≡ c.last + 1
  pub ends : entry_of e ≡ Some (record { lane = lane; call = call; reply = n.reply })

-- it is the last of the calls that have ended since `last` was drawn, and the number is that of it among them
pub record IsNumbered (last : ℕ) (calls : List Entry) (number : ℕ) (entry : Entry) : Type 0 where
  pub before : List Entry
  pub split : calls ≡ before ++ entry ∷ []
  pub number_is : number ≡ last + length before + 1

-- No number that was drawn, no count and no version is above 2^62: a turn has fewer events than that, so that all of them stay below 2^64.
pub record IsSmall {D J : Type 0} (s : State D J) : Type 0 where
  pub last : s.last ≤ 2 ^ 62
  pub host : s.places.host ≤ 2 ^ 62
  pub drive : s.places.drive ≤ 2 ^ 62
  pub reads : s.places.reads ≤ 2 ^ 62
  pub writes : s.places.writes ≤ 2 ^ 62
  pub versions : (b : ℕ) → b < s.sizes.blocks → (flags_at s.pair b).version ≤ 2 ^ 62
