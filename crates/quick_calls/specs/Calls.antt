-- Calls that one event ends, over a desk. This project's own.
use Rattle.std.specs.Prelude.{◌≡◌, ℕ, true, false, List, [], ◌∷◌, Result, Ok, Err}
use Rattle.std.specs.declared.snapshot.Snapshot.{Snapshot}
use Rattle.turn_cell.specs.declared.view.View.{View}
use Rattle.turn_cell.specs.declared.pass.Worn.{Worn}
use Rattle.flash_die.specs.Dies.{DieView}
use Rattle.plain_files.specs.declared.calls.Numbered.{Numbered}
use Rattle.plain_files.specs.declared.calls.Reply.TheVariants.{NoMemory}
use Rattle.plain_files.specs.declared.calls.Request.{Request}
use Rattle.core_state.specs.declared.event.Event.{Event}
use Rattle.core_state.specs.declared.event.Event.TheVariants.{Quick, Skip}
use Rattle.core_state.specs.Coherent.{Coherent}
use Rattle.core_state.specs.Happens.{May, CoreRun}
use Rattle.core_solo.specs.Solo.{SoloCall}
use Rattle.system_state.specs.Cores.{core_of}
use Rattle.system_state.specs.declared.state.State.{State}
use Rattle.system_metas.specs.Encode.{encode}
use Rattle.desk_turns.specs.Passing.{core_seen, FoundAt}
use Rattle.call_turns.specs.Making.{IsFree}

module _ {D J : Type 0} (seen : D → DieView) where
  -- One event was made, in a core in which it might be, and its lane is free then. Where the pass is alone, it leads from the core as it was
  -- seen first to the one that is seen then.
  pub record IsEndedBy (o : Snapshot (State D J)) (v w : View (Snapshot (State D J)) Event) (lane : ℕ) (e : Event) (es : List Event) : Type 0 where
    pub are : es ≡ e ∷ []
    pub found : FoundAt (core_of seen) o v w e (λ c. May c e)
    pub after : IsFree (core_seen (core_of seen) o w) lane
    pub coherent : Coherent (core_seen (core_of seen) o w)
    pub run : v.alone ≡ true → CoreRun (core_seen (core_of seen) o v) es (core_seen (core_of seen) o w)

  -- A call that needs no page was answered. Where the pass is alone, that is the whole call of the run of one thread.
  abbrev pub QuickCallSays : Snapshot (State D J) → View (Snapshot (State D J)) Event → View (Snapshot (State D J)) Event → ℕ → Request → Result Numbered Worn → List Event → Type 0
  QuickCallSays o v w lane request (Ok n) es =
      IsEndedBy o v w lane (Quick lane request n.reply) es × (v.alone ≡ true → SoloCall encode (core_seen (core_of seen) o v) lane request es)
  QuickCallSays o v w lane request (Err x) es = es ≡ []

  -- a call that found no memory was answered so
  abbrev pub SkipCallSays : Snapshot (State D J) → View (Snapshot (State D J)) Event → View (Snapshot (State D J)) Event → ℕ → Request → Result Numbered Worn → List Event → Type 0
  SkipCallSays o v w lane request (Ok n) es = IsEndedBy o v w lane (Skip lane request false) es × (n.reply ≡ NoMemory)
  SkipCallSays o v w lane request (Err x) es = es ≡ []
