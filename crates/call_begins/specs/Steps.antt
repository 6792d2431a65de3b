-- One step of a call that is to begin: it begins or ends, or room is made for it, or it waits. This project's own.
use Rattle.std.specs.Prelude.{◌≡◌, ◌⊎◌, ℕ, Bool, true, false, List, [], ◌∷◌, Some, None, Result, Ok, Err}
use Rattle.std.specs.declared.snapshot.Snapshot.{Snapshot}
use Rattle.turn_cell.specs.declared.book.Entry.{Entry}
use Rattle.turn_cell.specs.declared.view.View.{View}
use Rattle.turn_cell.specs.declared.pass.Worn.{Worn}
use Rattle.turn_cell.specs.History.{StartsWith}
use Rattle.flash_die.specs.Dies.{DieView}
use Rattle.dispatcher.specs.declared.side.Side.{Side}
use Rattle.plain_files.specs.declared.calls.Numbered.{Numbered}
use Rattle.plain_files.specs.declared.calls.Reply.TheVariants.{Fault}
use Rattle.plain_files.specs.declared.calls.Request.{Request}
use Rattle.core_state.specs.declared.actor.Actor.TheVariants.{Lane}
use Rattle.core_state.specs.declared.event.Event.{Event}
use Rattle.core_state.specs.declared.event.Event.TheVariants.{Quick, Skip, Begin}
use Rattle.core_state.specs.State.{Held, Flight, Core}
use Rattle.core_state.specs.Coherent.{Coherent}
use Rattle.core_state.specs.Happens.{HoldsNone, May, CoreRun}
use Rattle.core_solo.specs.Solo.{room_event}
use Rattle.system_state.specs.Cores.{core_of}
use Rattle.system_state.specs.declared.not_yet.NotYet.{NotYet}
use Rattle.system_state.specs.declared.not_yet.NotYet.TheVariants.{NoRoom}
use Rattle.system_state.specs.declared.state.State.{State}
use Rattle.system_lanes.specs.Waiting.{awaited_still}
use Rattle.call_job.specs.declared.job.Job.{Job}
use Rattle.job_turns.specs.Armed.{HasJob}
use Rattle.desk_turns.specs.Passing.{core_after, core_seen, FoundAt}
use Rattle.quick_calls.specs.MadeAnswer.{Made}
use Rattle.quick_calls.specs.MadeAnswer.TheVariants.{Room, Failed, Wait}
use Rattle.quick_calls.specs.Begun.{side_of}
use Rattle.quick_calls.specs.BegunAnswer.{Begun}
use Rattle.quick_calls.specs.BegunAnswer.TheVariants.{Ended as Refused, Started as Begins}
use Rattle.quick_calls.specs.Ways.{Waits as WayWaits, begin_way}
use Rattle.quick_calls.specs.Flushing.{IsCutShort}
use Rattle.quick_calls.specs.Making.{IsIdleWith, IsFree, MadeRoom, FailedRoom, NoRoomYet}
use Rattle.quick_calls.specs.Calls.{IsEndedBy}
use Rattle.call_begins.specs.declared.step.Stage.{Stage}
use Rattle.call_begins.specs.declared.step.Stage.TheVariants.{Idle, Marked}
use Rattle.call_begins.specs.declared.step.BeginStep.{BeginStep}
use Rattle.call_begins.specs.declared.step.BeginStep.TheVariants.{Ended, Started, On, Waits}

-- whether a call waits for room
abbrev pub lacks_room : NotYet → Bool
lacks_room (NoRoom used need) = true
lacks_room _ = false

-- whether the lane has a mark
abbrev pub is_marked : Stage → Bool
is_marked Idle = false
is_marked Marked = true

-- the event that ends a call which hasn't begun
abbrev pub ended_event : Stage → ℕ → Request → Numbered → Event
ended_event Idle lane request n = Quick lane request n.reply
ended_event Marked lane request n = Skip lane request true

-- it wants room at this side, which is its own
abbrev pub WantsRoom : Request → Side → Core → Type 0
WantsRoom request side c = (used : ℕ) × (need : ℕ) × (begin_way c request ≡ WayWaits (NoRoom used need)) × (side ≡ side_of c request)

-- it waits for another call
abbrev pub WaitsForCall : Request → Core → Type 0
WaitsForCall request c = (why : NotYet) × (begin_way c request ≡ WayWaits why) × (lacks_room why ≡ false)

-- The lane's call has just begun at this side: it is held, nothing is gathered, and the lane has no mark and holds no die.
pub record IsAtStart (c : Core) (lane : ℕ) (request : Request) (side : Side) : Type 0 where
  pub call : Flight
  pub flies : c.calls lane ≡ Some call
  pub held : call.phase ≡ Held
  pub request_is : call.claim.request ≡ request
  pub side_is : call.claim.side ≡ side
  pub empty : (i : ℕ) → call.gathered i ≡ None
  pub unmarked : (c.lanes lane).mark ≡ false
  pub none : HoldsNone c (Lane lane)

module _ {D J : Type 0} (seen : D → DieView) where
  -- P held of the core in between; where the pass is alone, of the core as it was seen first
  pub record WasSeen (o : Snapshot (State D J)) (v w : View (Snapshot (State D J)) Event) (P : Core → Type 0) : Type 0 where
    pub before : List (Entry Event)
    pub since : StartsWith before v.seen
    pub until : StartsWith w.seen before
    pub says : P (core_after (core_of seen) o before)
    pub alone : v.alone ≡ true → P (core_seen (core_of seen) o v)

  -- No event was made, the lane is as it was, and that is why, of the core as it was last seen.
  pub record WaitsBy (o : Snapshot (State D J)) (v w : View (Snapshot (State D J)) Event) (lane : ℕ) (marked : Bool) (why : Core → Type 0) (es : List Event) : Type 0 where
    pub are : es ≡ []
    pub because : why (core_seen (core_of seen) o w)
    pub after : IsIdleWith marked (core_seen (core_of seen) o w) lane
    pub same : v.alone ≡ true → core_seen (core_of seen) o w ≡ core_seen (core_of seen) o v

  -- The call began, in a core in which it might.
  pub record HasStarted (o : Snapshot (State D J)) (v w : View (Snapshot (State D J)) Event) (lane : ℕ) (request : Request) (side : Side) (es : List Event) : Type 0 where
    pub are : es ≡ Begin lane request side ∷ []
    pub found : FoundAt (core_of seen) o v w (Begin lane request side) (λ c. May c (Begin lane request side))
    pub start : IsAtStart (core_seen (core_of seen) o w) lane request side
    pub coherent : Coherent (core_seen (core_of seen) o w)
    pub run : v.alone ≡ true → CoreRun (core_seen (core_of seen) o v) es (core_seen (core_of seen) o w)

  -- what a step of room answers, and its events
  abbrev pub RoomStepSays : Snapshot (State D J) → View (Snapshot (State D J)) Event → View (Snapshot (State D J)) Event → ℕ → Side → Result BeginStep Worn → List Event → Type 0
  RoomStepSays o v w lane side (Err x) es = IsCutShort (Lane lane) es
  RoomStepSays o v w lane side (Ok (Ended n)) es = ⊥
  RoomStepSays o v w lane side (Ok (Started s)) es = ⊥
  RoomStepSays o v w lane side (Ok (On Idle)) es = MadeRoom seen o v w lane side es
  RoomStepSays o v w lane side (Ok (On Marked)) es = FailedRoom seen o v w lane side es
  RoomStepSays o v w lane side (Ok Waits) es = NoRoomYet seen o v w lane side es

  -- a call that wanted room at a side, and an event for it
  abbrev pub OnSays : Snapshot (State D J) → View (Snapshot (State D J)) Event → View (Snapshot (State D J)) Event → ℕ → Request → Stage → List Event → Type 0
  OnSays o v w lane request next es = (side : Side) × WasSeen o v w (WantsRoom request side) × RoomStepSays o v w lane side (Ok (On next)) es

  -- a call that waits for another one, or for room at its side, where nothing can be done for it
  abbrev pub WaitSays : Snapshot (State D J) → View (Snapshot (State D J)) Event → View (Snapshot (State D J)) Event → ℕ → Request → Stage → List Event → Type 0
  WaitSays o v w lane request Idle es =
      WaitsBy o v w lane false (WaitsForCall request) es
      ⊎ ((side : Side) × WasSeen o v w (WantsRoom request side) × WaitsBy o v w lane false (λ c. room_event c (Lane lane) side ≡ None) es)
  WaitSays o v w lane request Marked es = WaitsBy o v w lane true (λ c. (why : NotYet) × (awaited_still c.lanes request.awaits ≡ Some why)) es

  -- what a step of a call that is to begin answers, and its events
  abbrev pub StepSays : Snapshot (State D J) → View (Snapshot (State D J)) Event → View (Snapshot (State D J)) Event → ℕ → Request → Stage → Result BeginStep Worn → List Event → Type 0
  StepSays o v w lane request stage (Err x) es = IsCutShort (Lane lane) es
  StepSays o v w lane request stage (Ok (Ended n)) es =
      IsEndedBy seen o v w lane (ended_event stage lane request n) es × (stage ≡ Marked → n.reply ≡ Fault)
  StepSays o v w lane request stage (Ok (Started side)) es = (stage ≡ Idle) × HasStarted o v w lane request side es
  StepSays o v w lane request stage (Ok (On next)) es = (stage ≡ Idle) × OnSays o v w lane request next es
  StepSays o v w lane request stage (Ok Waits) es = WaitSays o v w lane request stage es

-- the job of a call that has begun suits it, in the core as it was last seen; of any other it is as it was
abbrev pub JobSays : Core → ℕ → Job → Job → Result BeginStep Worn → Type 0
JobSays c lane old new (Ok (Started side)) = HasJob c lane new
JobSays c lane old new (Ok (Ended n)) = new ≡ old
JobSays c lane old new (Ok (On next)) = new ≡ old
JobSays c lane old new (Ok Waits) = new ≡ old
JobSays c lane old new (Err x) = new ≡ old

-- the answer where a call began, or was refused
abbrev pub began : Begun → BeginStep
began (Refused n) = Ended n
began (Begins side span) = Started side

-- the answer where room was to be made
abbrev pub after_room : Made → BeginStep
after_room Room = On Idle
after_room Failed = On Marked
after_room Wait = Waits
