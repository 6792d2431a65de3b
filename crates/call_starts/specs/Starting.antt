-- A call begins or ends over a desk, after room was made for it. This project's own.
use Rattle.std.specs.Prelude.{◌≡◌, ℕ, true, false, List, [], ◌∷◌, ◌++◌, Result, Ok, Err}
use Rattle.std.specs.declared.snapshot.Snapshot.{Snapshot}
use Rattle.turn_cell.specs.declared.view.View.{View}
use Rattle.turn_cell.specs.declared.pass.Worn.{Worn}
use Rattle.flash_die.specs.Dies.{DieView}
use Rattle.dispatcher.specs.declared.side.Side.{Side}
use Rattle.plain_files.specs.declared.calls.Numbered.{Numbered}
use Rattle.plain_files.specs.declared.calls.Reply.TheVariants.{Fault}
use Rattle.plain_files.specs.declared.calls.Request.{Request}
use Rattle.core_state.specs.declared.actor.Actor.TheVariants.{Lane}
use Rattle.core_state.specs.declared.event.Event.{Event}
use Rattle.core_state.specs.declared.event.Event.TheVariants.{Begin, Evict, Demote, FlushOut, FlushIn}
use Rattle.core_state.specs.State.{Page, Core}
use Rattle.core_state.specs.Coherent.{Coherent}
use Rattle.core_state.specs.Happens.{May, CoreRun, is_homecoming}
use Rattle.core_solo.specs.Solo.{Steps, IsStep, SoloCall}
use Rattle.system_state.specs.Cores.{core_of}
use Rattle.system_state.specs.declared.state.State.{State}
use Rattle.call_job.specs.declared.job.Job.{Job}
use Rattle.call_begins.specs.Armed.{HasJob}
use Rattle.desk_turns.specs.Passing.{core_seen, FoundAt}
use Rattle.call_begins.specs.Cut.{IsCutOff}
use Rattle.call_begins.specs.Flushing.{HasFailed}
use Rattle.call_begins.specs.Making.{IsFree, IsForRoom}
use Rattle.call_begins.specs.Steps.{ended_event, IsAtStart}
use Rattle.call_begins.specs.declared.step.Stage.{Stage}
use Rattle.call_begins.specs.declared.step.Stage.TheVariants.{Marked}
use Rattle.call_starts.specs.declared.start.Beginning.{Beginning}
use Rattle.call_starts.specs.declared.start.Beginning.TheVariants.{Ended, Started}

-- it makes room for a call of the lane: a copy goes, or a block is flushed
abbrev pub MakesRoom : ℕ → Event → Type 0
MakesRoom lane (Evict actor side block) = actor ≡ Lane lane
MakesRoom lane (Demote actor block) = actor ≡ Lane lane
MakesRoom lane (FlushOut actor die block) = actor ≡ Lane lane
MakesRoom lane (FlushIn actor die good left) = actor ≡ Lane lane
MakesRoom lane _ = ⊥

-- and so does each of these: none of them begins or ends a call
abbrev pub AreForRoom : ℕ → List Event → Type 0
AreForRoom lane [] = Unit {0}
AreForRoom lane (e ∷ es) = MakesRoom lane e × AreForRoom lane es

-- it is the next event for room at a side
abbrev pub IsNextForRoom : ℕ → Event → Core → Type 0
IsNextForRoom lane e c = (side : Side) × IsForRoom lane side e c

module _ {D J : Type 0} (seen : D → DieView) where
  -- From one view to a later one each of these events, unless it brings a die home, was the next one for room in the core in which it was made.
  abbrev pub AreNext : Snapshot (State D J) → View (Snapshot (State D J)) Event → View (Snapshot (State D J)) Event → ℕ → List Event → Type 0
  AreNext o v w lane [] = Unit {0}
  AreNext o v w lane (e ∷ es) = (is_homecoming e ≡ false → FoundAt (core_of seen) o v w e (IsNextForRoom lane e)) × AreNext o v w lane es

  -- Room was made, and the call has begun at this side, in a core in which it might. Where the pass is alone these are steps of the call in the
  -- run of one thread.
  pub record HasBegun (o : Snapshot (State D J)) (v w : View (Snapshot (State D J)) Event) (lane : ℕ) (request : Request) (side : Side) (es : List Event) : Type 0 where
    pub before : List Event
    pub are : es ≡ before ++ Begin lane request side ∷ []
    pub room : AreForRoom lane before
    pub next : AreNext o v w lane before
    pub found : FoundAt (core_of seen) o v w (Begin lane request side) (λ c. May c (Begin lane request side))
    pub start : IsAtStart (core_seen (core_of seen) o w) lane request side
    pub coherent : Coherent (core_seen (core_of seen) o w)
    pub run : v.alone ≡ true → CoreRun (core_seen (core_of seen) o v) es (core_seen (core_of seen) o w)
    pub steps : v.alone ≡ true → (encode : Core → ℕ → Page) → Steps (IsStep encode lane request) (core_seen (core_of seen) o v) es

  -- Room was made, and the call has ended before it began, in a core in which it might: it was refused, or, where a flush for it had failed
  -- and the count of faults of a die has risen, skipped with a fault. Its lane is free. Where the pass is alone this is the whole call of the
  -- run of one thread.
  pub record HasEnded (o : Snapshot (State D J)) (v w : View (Snapshot (State D J)) Event) (lane : ℕ) (request : Request) (n : Numbered) (es : List Event) : Type 0 where
    pub stage : Stage
    pub before : List Event
    pub are : es ≡ before ++ ended_event stage lane request n ∷ []
    pub room : AreForRoom lane before
    pub next : AreNext o v w lane before
    pub fault : stage ≡ Marked → (n.reply ≡ Fault) × ((die : ℕ) × HasFailed seen o v w die)
    pub found : FoundAt (core_of seen) o v w (ended_event stage lane request n) (λ c. May c (ended_event stage lane request n))
    pub after : IsFree (core_seen (core_of seen) o w) lane
    pub coherent : Coherent (core_seen (core_of seen) o w)
    pub run : v.alone ≡ true → CoreRun (core_seen (core_of seen) o v) es (core_seen (core_of seen) o w)
    pub solo : v.alone ≡ true → (encode : Core → ℕ → Page) → SoloCall encode (core_seen (core_of seen) o v) lane request es

  -- what became of a call, and its events; at Worn it has neither begun nor ended
  abbrev pub StartSays : Snapshot (State D J) → View (Snapshot (State D J)) Event → View (Snapshot (State D J)) Event → ℕ → Request → Result Beginning Worn → List Event → Type 0
  StartSays o v w lane request (Err x) es = AreForRoom lane es × (v.alone ≡ true → (encode : Core → ℕ → Page) → IsCutOff encode (core_seen (core_of seen) o v) lane request es)
  StartSays o v w lane request (Ok (Ended n)) es = HasEnded o v w lane request n es
  StartSays o v w lane request (Ok (Started side)) es = HasBegun o v w lane request side es

-- the job of a call that has begun suits it, in the core as it was last seen; of any other it is as it was
abbrev pub JobIs : Core → ℕ → Job → Job → Result Beginning Worn → Type 0
JobIs c lane old new (Ok (Started side)) = HasJob c lane new
JobIs c lane old new (Ok (Ended n)) = new ≡ old
JobIs c lane old new (Err x) = new ≡ old
