-- A `sync` over a desk, from before it begins to its end. This project's own.
use Rattle.std.specs.Prelude.{◌≡◌, ◌≤◌, ℕ, Bool, true, List, [], ◌∷◌, ◌++◌, length, None, Result, Ok, Err}
use Rattle.std.specs.declared.snapshot.Snapshot.{Snapshot}
use Rattle.turn_cell.specs.declared.view.View.{View}
use Rattle.turn_cell.specs.declared.pass.Worn.{Worn}
use Rattle.flash_die.specs.Dies.{DieView}
use Rattle.index_lists.specs.Words.{one_if}
use Rattle.plain_files.specs.declared.calls.Numbered.{Numbered}
use Rattle.plain_files.specs.declared.calls.Request.{Request}
use Rattle.core_state.specs.declared.actor.Actor.TheVariants.{Lane}
use Rattle.core_state.specs.declared.event.Event.{Event}
use Rattle.core_state.specs.declared.event.Event.TheVariants.{End}
use Rattle.core_state.specs.State.{Core}
use Rattle.core_state.specs.Coherent.{Coherent}
use Rattle.core_state.specs.Happens.{May, CoreRun}
use Rattle.core_state.specs.History.{calls_of, failures}
use Rattle.core_solo.specs.Solo.{SoloCall}
use Rattle.core_solo.specs.Alone.{OpeningFrames, IsAlone}
use Rattle.system_state.specs.Cores.{core_of}
use Rattle.system_state.specs.declared.state.State.{State}
use Rattle.system_metas.specs.Encode.{encode}
use Rattle.desk_turns.specs.Making.{AreOf}
use Rattle.desk_turns.specs.Passing.{core_seen, FoundAt}
use Rattle.quick_calls.specs.Flushing.{HasFailed}
use Rattle.quick_calls.specs.Ending.{sync_reply}
use Rattle.quick_calls.specs.Making.{IsFree}
use Rattle.sync_calls.specs.Stages.{AreSilent}

-- No more events were made than a whole call has, from a core with the frames of an opening in which the lane's call was alone and hadn't begun.
abbrev pub IsShort : Core → ℕ → Request → List Event → Type 0
IsShort c lane request es = OpeningFrames c.shape → IsAlone c lane request → c.calls lane ≡ None → length es ≤ 4096

module _ {D J : Type 0} (seen : D → DieView) where
  -- A `sync` was made and has ended: by events of its lane, of which the last is its End, in a core in which it might end so. It replies
  -- `fault` where one of its writes failed, and a die's count of faults rose, and `done` where none did. The lane is free then. Where the
  -- pass is alone its events are the call of the run of one thread, whole.
  pub record HasSynced (o : Snapshot (State D J)) (v w : View (Snapshot (State D J)) Event) (lane : ℕ) (request : Request) (n : Numbered) (es : List Event) : Type 0 where
    pub of : AreOf (Lane lane) es
    pub before : List Event
    pub are : es ≡ before ++ End lane request n.reply ∷ []
    pub open_still : calls_of before ≡ []
    pub one : calls_of es ≡ record { lane = lane; call = request.call; reply = n.reply } ∷ []
    pub fault : Bool
    pub reply_is : n.reply ≡ sync_reply fault
    pub failures_are : failures es ≡ one_if fault
    pub failed : fault ≡ true → (die : ℕ) × HasFailed seen o v w die
    pub found : FoundAt (core_of seen) o v w (End lane request n.reply) (λ c. May c (End lane request n.reply))
    pub after : IsFree (core_seen (core_of seen) o w) lane
    pub coherent : Coherent (core_seen (core_of seen) o w)
    pub solo : v.alone ≡ true → SoloCall encode (core_seen (core_of seen) o v) lane request es
    pub run : v.alone ≡ true → CoreRun (core_seen (core_of seen) o v) es (core_seen (core_of seen) o w)

  -- what a `sync` answers, and its events
  abbrev pub SyncCallSays : Snapshot (State D J) → View (Snapshot (State D J)) Event → View (Snapshot (State D J)) Event → ℕ → Request → Result Numbered Worn → List Event → Type 0
  SyncCallSays o v w lane request (Err x) es = AreSilent lane es × (v.alone ≡ true → IsShort (core_seen (core_of seen) o v) lane request es)
  SyncCallSays o v w lane request (Ok n) es = HasSynced o v w lane request n es
