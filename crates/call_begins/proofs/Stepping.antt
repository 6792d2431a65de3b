-- One step of a call that is to begin, turn by turn.
use Rattle.std.proofs.Common.{◌≡◌, ℕ, Bool, true, false, List, [], ◌∷◌, ◌++◌, map, Some, None, refl, sym, ap, ◌∙◌, subst, inl, inr, append-nil}
use Rattle.std.specs.Prelude.{Result, Ok, Err, IfOk, Option, unwrap_or}
use Rattle.std.specs.Result.{IsErr}
use Rattle.std.specs.declared.snapshot.Snapshot.{Snapshot}
use Rattle.index_lists.specs.Words.{put}
use Rattle.index_lists.proofs.Puts.{put-same}
use Rattle.turn_cell.specs.declared.book.Entry.{Entry}
use Rattle.turn_cell.specs.declared.view.View.{View}
use Rattle.turn_cell.specs.declared.pass.Worn.{Worn}
use Rattle.turn_cell.specs.History.{entry}
use Rattle.flash_die.specs.Dies.{DieView}
use Rattle.dispatcher.specs.declared.side.Side.{Side}
use Rattle.plain_files.specs.History.{Entry as CallEntry}
use Rattle.plain_files.specs.declared.calls.Numbered.{Numbered}
use Rattle.plain_files.specs.declared.calls.Reply.{Reply}
use Rattle.plain_files.specs.declared.calls.Reply.TheVariants.{Fault, NoMemory}
use Rattle.plain_files.specs.declared.calls.Request.{Request}
use Rattle.core_state.specs.declared.actor.Actor.TheVariants.{Lane}
use Rattle.core_state.specs.declared.event.Event.{Event}
use Rattle.core_state.specs.declared.event.Event.TheVariants.{Quick, Skip, Begin, FlushOut}
use Rattle.core_state.specs.State.{Flight, Core}
use Rattle.core_state.specs.PageEvents.{no_flight}
use Rattle.system_state.specs.Jobs.{view_of}
use Rattle.call_job.specs.Suits.{Suits}
use Rattle.core_state.specs.Reach.{claim_for}
use Rattle.core_state.specs.LaneEvents.{first_flight}
use Rattle.core_state.specs.Coherent.{Coherent}
use Rattle.core_state.specs.Happens.{May, CoreRun, after}
use Rattle.core_state.specs.History.{entry_of}
use Rattle.core_solo.specs.Solo.{room_event}
use Rattle.system_state.specs.Cores.{core_of}
use Rattle.system_state.specs.declared.not_yet.NotYet.{NotYet}
use Rattle.system_state.specs.declared.not_yet.NotYet.TheVariants.{NoRoom}
use Rattle.system_state.specs.declared.state.State.{State}
use Rattle.system_lanes.specs.Waiting.{awaited_still}
use Rattle.call_job.specs.declared.job.Job.{Job}
use Rattle.desk_turns.specs.Passing.{ActsFor, core_after, core_seen, Turn, Went, Does, SameLane}
use Rattle.desk_turns.proofs.Holding.{coherent_all}
use Rattle.desk_turns.proofs.Later.{keeps_on}
use Rattle.desk_turns.proofs.Went.{went_on, went_turn, found_turn}
use Rattle.quick_calls.specs.MadeAnswer.{Made}
use Rattle.quick_calls.specs.MadeAnswer.TheVariants.{Room, Failed, Wait}
use Rattle.quick_calls.proofs.Steps.{free_may}
use Rattle.quick_calls.specs.Beginning.{BeginSays}
use Rattle.quick_calls.specs.BegunAnswer.{Begun}
use Rattle.quick_calls.specs.BegunAnswer.TheVariants.{Ended as Refused, Started as Begins}
use Rattle.quick_calls.specs.Ways.{Waits as WayWaits, begin_way}
use Rattle.quick_calls.specs.Flushing.{IsCutShort}
use Rattle.quick_calls.specs.LaneTurns.{SkipSays}
use Rattle.quick_calls.specs.Making.{IsIdleWith, IsFree, IsMarked, IsForRoom, MadeRoom, FailedRoom, NoRoomYet, RoomSays}
use Rattle.quick_calls.proofs.FlushSteps.{quiet_step, failed_on}
use Rattle.quick_calls.proofs.Ending.{starts_on, idle_at, found_alone, acts_after, alone_after, Waited, waited_none, waited_on, ended_on}
use Rattle.quick_calls.proofs.Frees.{free_quick, free_skip}
use Rattle.job_turns.specs.Armed.{HasJob}
use Rattle.job_turns.specs.Starting.{StartSays}
use Rattle.call_begins.specs.Steps.{lacks_room, is_marked, ended_event, began, after_room, WantsRoom, WaitsForCall, IsAtStart, WasSeen, WaitsBy, HasStarted, RoomStepSays, OnSays, WaitSays, StepSays, JobSays}
use Rattle.call_begins.specs.declared.step.Stage.{Stage}
use Rattle.call_begins.specs.declared.step.Stage.TheVariants.{Idle, Marked}
use Rattle.call_begins.specs.declared.step.BeginStep.{BeginStep}
use Rattle.call_begins.specs.declared.step.BeginStep.TheVariants.{Ended, Started, On, Waits}

-- ---- words

idle_not_marked : Idle ≡ Marked → ⊥
idle_not_marked e = absurd (cc)

reply_of : Option CallEntry → Reply
reply_of None = NoMemory
reply_of (Some e) = e.reply

faulted : (lane : ℕ) (request : Request) (reply : Reply) → entry_of (Skip lane request true) ≡ Some (record { lane = lane; call = request.call; reply = reply }) → reply ≡ Fault
unfolding reply_of
faulted lane request reply e = ap reply_of (sym e)

-- a call that has just begun, of a lane that was free
at_start : (c : Core) (lane : ℕ) (request : Request) (side : Side) → IsFree c lane → IsAtStart (after c (Begin lane request side)) lane request side
at_start c lane request side free =
    record {
      call = first_flight c.blocks c.places (claim_for c.names.files request side);
      flies = put-same c.calls lane (Some (first_flight c.blocks c.places (claim_for c.names.files request side)));
      held = refl;
      request_is = refl;
      side_is = refl;
      empty = λ i. refl;
      unmarked = free.mark;
      none = free.none;
    }

-- a call without room wants it
wants : (request : Request) (picked : Side) (lane : ℕ) (why : NotYet) (c : Core) (es : List Event) → lacks_room why ≡ true → BeginSays lane request picked (Err why) c es → WantsRoom request picked c
wants request picked lane (NoRoom used need) c es lacks says = (used, need, sym says.1, says.2 used need refl)
wants request picked lane _ c es lacks says = absurd (cc)

pub job_begun : (c : Core) (lane : ℕ) (old new : Job) (b : Begun) → StartSays c lane old new (Ok b) → JobSays c lane old new (Ok (began b))
job_begun c lane old new (Refused n) says = says
job_begun c lane old new (Begins side span) says = record {
  suits = subst (λ (f : Option Flight). Suits new (view_of c.names (unwrap_or f no_flight))) (sym says.flies) says.suits;
  fresh = says.fresh;
}

pub same_job : (c : Core) (lane : ℕ) (job : Job) (r : Result BeginStep Worn) → ((side : Side) → r ≡ Ok (Started side) → ⊥) → JobSays c lane job job r
same_job c lane job (Ok (Started side)) not = absurd (not side refl)
same_job c lane job (Ok (Ended n)) not = refl
same_job c lane job (Ok (On next)) not = refl
same_job c lane job (Ok Waits) not = refl
same_job c lane job (Err x) not = refl

abbrev step_ok : BeginStep → Result BeginStep Worn
step_ok s = Ok s

abbrev tried_ok : Result Begun NotYet → Result (Result Begun NotYet) Worn
tried_ok r = Ok r

abbrev refused_ok : Numbered → Result (Result Begun NotYet) Worn
refused_ok n = Ok (Ok (Refused n))

same_number : (m n : Numbered) → step_ok (Ended m) ≡ step_ok (Ended n) → m ≡ n
same_number m n e = cc

-- a call that was refused in a turn
pub refused_told : (r : Result Begun NotYet) (b : Begun) (s : BeginStep) (n : Numbered) → r ≡ Ok b → s ≡ began b → step_ok s ≡ step_ok (Ended n) → tried_ok r ≡ refused_ok n
refused_told r (Refused m) s n is told e = ap tried_ok is ∙ ap refused_ok (same_number m n (ap step_ok (sym told) ∙ e))
refused_told r (Begins side span) s n is told e = let z : step_ok (Started side) ≡ step_ok (Ended n) = ap step_ok (sym told) ∙ e in absurd (cc)

abbrev skip_ok : Result Numbered NotYet → Result (Result Numbered NotYet) Worn
skip_ok r = Ok r

abbrev number_ok : Numbered → Result (Result Numbered NotYet) Worn
number_ok n = Ok (Ok n)

-- a call that was skipped in a turn
pub skipped_told : (r : Result Numbered NotYet) (m n : Numbered) → r ≡ Ok m → step_ok (Ended m) ≡ step_ok (Ended n) → skip_ok r ≡ number_ok n
skipped_told r m n is e = ap skip_ok is ∙ ap number_ok (same_number m n e)

module _ {D J : Type 0} (seen : D → DieView) where
  abbrev C : State D J → Core
  C = core_of seen

  -- ---- a call that is tried

  pub began_step : (o : Snapshot (State D J)) (v u : View (Snapshot (State D J)) Event) (lane : ℕ) (request : Request) (picked : Side) (b : Begun) → ActsFor C o v (Lane lane) → IsFree (core_seen C o v) lane → Turn C o v u (BeginSays lane request picked (Ok b)) →
      Does v u (StepSays seen o v u lane request Idle (Ok (began b)))
  began_step o v u lane request picked (Refused n) acts free t =
      let e = Quick lane request n.reply in
      let d = ended_on seen false o o v v u lane e (BeginSays lane request picked (Ok (Refused n))) refl acts (λ c es says. says.0) (free_quick lane request n.reply) (waited_none seen false o v lane free) t in
      record { events = d.events; went = d.went; says = (d.says, λ m. absurd (idle_not_marked m)) }
  began_step o v u lane request picked (Begins side span) acts free t =
      let P = BeginSays lane request picked (Ok (Begins side span)) in
      let e = Begin lane request side in
      let f = core_after C o (v.seen ++ t.between) in
      let is = t.says.0 in
      let went = went_turn C o v u P t in
      let run : CoreRun f (e ∷ []) (core_seen C o u) = subst (λ (es : List Event). CoreRun f es (core_seen C o u)) is t.run in
      let number : u.number ≡ v.number = ap (λ (z : View (Snapshot (State D J)) Event). z.number) went.pass in
      record {
        events = t.events;
        went = went;
        says = (
          refl,
          record {
            are = is;
            found = found_turn C o v u u P e (λ c. May c e) t is run.0.may ([], sym (append-nil u.seen)) number;
            start = subst (λ (c : Core). IsAtStart c lane request side) (sym run.1) (at_start f lane request side (idle_at seen false o v u lane P t acts free));
            coherent = coherent_all t.events f (core_seen C o u) t.coherent t.run;
            run = λ a. subst (λ (c : Core). CoreRun c t.events (core_seen C o u)) (found_alone seen o v u P t a) t.run;
          },
        );
      }

  -- ---- a call that waits

  abbrev Tried : Snapshot (State D J) → View (Snapshot (State D J)) Event → View (Snapshot (State D J)) Event → ℕ → Request → Side → NotYet → Type 0
  Tried o v u lane request picked why = Turn C o v u (BeginSays lane request picked (Err why))

  -- the lane is as it was
  quiet : (o : Snapshot (State D J)) (v u : View (Snapshot (State D J)) Event) (lane : ℕ) (request : Request) (picked : Side) (why : NotYet) → ActsFor C o v (Lane lane) → IsFree (core_seen C o v) lane → Tried o v u lane request picked why → Does v u (Waited seen false o v u lane)
  quiet o v u lane request picked why acts free t =
      waited_on seen false o o v v u lane (BeginSays lane request picked (Err why)) refl acts (λ c es says. says.0) (waited_none seen false o v lane free) t

  pub still_free : (o : Snapshot (State D J)) (v u : View (Snapshot (State D J)) Event) (lane : ℕ) (request : Request) (picked : Side) (why : NotYet) → ActsFor C o v (Lane lane) → IsFree (core_seen C o v) lane → Tried o v u lane request picked why → IsFree (core_seen C o u) lane
  still_free o v u lane request picked why acts free t = (quiet o v u lane request picked why acts free t).says.after

  pub still_acts : (o q : Snapshot (State D J)) (v u : View (Snapshot (State D J)) Event) (lane : ℕ) (request : Request) (picked : Side) (why : NotYet) → q ≡ o → ActsFor C o v (Lane lane) → Tried o v u lane request picked why → ActsFor C q u (Lane lane)
  still_acts o q v u lane request picked why same acts t =
      subst (λ (z : Snapshot (State D J)). ActsFor C z u (Lane lane)) (sym same) (acts_after seen o v u (Lane lane) t.events (went_turn C o v u (BeginSays lane request picked (Err why)) t) acts)

  -- the core in which it was tried is the one that is seen then
  tried_end : (o : Snapshot (State D J)) (v u : View (Snapshot (State D J)) Event) (lane : ℕ) (request : Request) (picked : Side) (why : NotYet) → (t : Tried o v u lane request picked why) → core_seen C o u ≡ core_after C o (v.seen ++ t.between)
  tried_end o v u lane request picked why t = subst (λ (es : List Event). CoreRun (core_after C o (v.seen ++ t.between)) es (core_seen C o u)) t.says.0 t.run

  pub waits_step : (o : Snapshot (State D J)) (v u : View (Snapshot (State D J)) Event) (lane : ℕ) (request : Request) (picked : Side) (why : NotYet) → ActsFor C o v (Lane lane) → IsFree (core_seen C o v) lane → lacks_room why ≡ false → Tried o v u lane request picked why → Does v u (StepSays seen o v u lane request Idle (Ok Waits))
  waits_step o v u lane request picked why acts free lacks t =
      let d = quiet o v u lane request picked why acts free t in
      record {
        events = d.events;
        went = d.went;
        says = inl (record {
          are = d.says.are;
          because = subst (WaitsForCall request) (sym (tried_end o v u lane request picked why t)) (why, sym t.says.1, lacks);
          after = d.says.after;
          same = d.says.same;
        });
      }

  -- ---- a call that wants room

  was_seen : (o : Snapshot (State D J)) (v u w : View (Snapshot (State D J)) Event) (lane : ℕ) (request : Request) (picked : Side) (why : NotYet) (fs : List Event) → lacks_room why ≡ true → (t : Tried o v u lane request picked why) → Went u w fs → WasSeen seen o v w (WantsRoom request picked)
  was_seen o v u w lane request picked why fs lacks t went =
      let P = BeginSays lane request picked (Err why) in
      let before = v.seen ++ t.between in
      let says = wants request picked lane why (core_after C o before) t.events lacks t.says in
      let end : u.seen ≡ before = t.seen ∙ (ap (λ (es : List Event). before ++ map (entry v.number) es) t.says.0 ∙ append-nil before) in
      record {
        before = before;
        since = (t.between, refl);
        until = (went.seen.0, went.seen.1 ∙ ap (λ (h : List (Entry Event)). h ++ went.seen.0) end);
        says = says;
        alone = λ a. subst (WantsRoom request picked) (found_alone seen o v u P t a) says;
      }

  -- the lane keeps its stage, its count and its call
  same_tried : (o : Snapshot (State D J)) (v u : View (Snapshot (State D J)) Event) (lane : ℕ) (request : Request) (picked : Side) (why : NotYet) → ActsFor C o v (Lane lane) → IsFree (core_seen C o v) lane → Tried o v u lane request picked why → SameLane (core_seen C o v) (core_seen C o u) lane
  same_tried o v u lane request picked why acts free t =
      (quiet_step seen o v u (BeginSays lane request picked (Err why)) (Lane lane) acts (free_may (core_seen C o v) lane free) t t.says.0).2

  -- where the pass is alone, that leads from the core as it was seen first
  room_run : (o : Snapshot (State D J)) (v u w : View (Snapshot (State D J)) Event) (lane : ℕ) (request : Request) (picked : Side) (why : NotYet) (es fs : List Event) → Tried o v u lane request picked why → es ≡ fs → (v.alone ≡ true → core_seen C o u ≡ core_seen C o v) →
      (u.alone ≡ true → CoreRun (core_seen C o u) fs (core_seen C o w)) → v.alone ≡ true → CoreRun (core_seen C o v) es (core_seen C o w)
  room_run o v u w lane request picked why es fs t is back run a =
      subst (λ (c : Core). CoreRun c es (core_seen C o w)) (back a)
      (subst (λ (xs : List Event). CoreRun (core_seen C o u) xs (core_seen C o w)) (sym is)
      (run (alone_after seen v u t.events (went_turn C o v u (BeginSays lane request picked (Err why)) t) a)))

  -- what was done for room after the try
  roomed : (o : Snapshot (State D J)) (v u w : View (Snapshot (State D J)) Event) (lane : ℕ) (request : Request) (picked : Side) (why : NotYet) (step : BeginStep) (es fs : List Event) → ActsFor C o v (Lane lane) → IsFree (core_seen C o v) lane → lacks_room why ≡ true → (t : Tried o v u lane request picked why) → (u.seen ≡ v.seen ++ t.between) → es ≡ fs → Went u w fs →
      (v.alone ≡ true → core_seen C o u ≡ core_seen C o v) → RoomStepSays seen o u w lane picked (Ok step) fs → StepSays seen o v w lane request Idle (Ok step) es
  roomed o v u w lane request picked why (Ended n) es fs acts free lacks t seen_is is went back p = absurd p
  roomed o v u w lane request picked why (Started side) es fs acts free lacks t seen_is is went back p = absurd p
  roomed o v u w lane request picked why (On Idle) es fs acts free lacks t seen_is is went back p = (
    refl,
    (
      picked,
      was_seen o v u w lane request picked why fs lacks t went,
      record {
        event = p.event;
        rest = p.rest;
        are = is ∙ p.are;
        whole = p.whole;
        found = record { before = p.found.before; rest = p.found.rest; since = starts_on v.seen u.seen p.found.before (t.between, seen_is) p.found.since; seen = p.found.seen; says = p.found.says };
        first = λ a. subst (IsForRoom lane picked p.event) (back a) (p.first (alone_after seen v u t.events (went_turn C o v u (BeginSays lane request picked (Err why)) t) a));
        after = p.after;
        same = keeps_on (core_seen C o v) (core_seen C o u) (core_seen C o w) (Lane lane) (same_tried o v u lane request picked why acts free t) p.same;
        coherent = p.coherent;
        run = room_run o v u w lane request picked why es fs t is back p.run;
      },
    ),
  )
  roomed o v u w lane request picked why (On Marked) es fs acts free lacks t seen_is is went back p = (
    refl,
    (
      picked,
      was_seen o v u w lane request picked why fs lacks t went,
      record {
        die = p.die;
        block = p.block;
        left = p.left;
        are = is ∙ p.are;
        found = record { before = p.found.before; rest = p.found.rest; since = starts_on v.seen u.seen p.found.before (t.between, seen_is) p.found.since; seen = p.found.seen; says = p.found.says };
        failed = failed_on seen o v u w p.die (t.between, seen_is) p.failed;
        first = λ a. subst (IsForRoom lane picked (FlushOut (Lane lane) p.die p.block)) (back a) (p.first (alone_after seen v u t.events (went_turn C o v u (BeginSays lane request picked (Err why)) t) a));
        after = p.after;
        same = keeps_on (core_seen C o v) (core_seen C o u) (core_seen C o w) (Lane lane) (same_tried o v u lane request picked why acts free t) p.same;
        coherent = p.coherent;
        run = room_run o v u w lane request picked why es fs t is back p.run;
      },
    ),
  )
  roomed o v u w lane request picked why Waits es fs acts free lacks t seen_is is went back p =
      inr (
        picked,
        was_seen o v u w lane request picked why fs lacks t went,
        record {
          are = is ∙ p.are;
          because = p.none;
          after = p.after;
          same = λ a. stays (alone_after seen v u t.events (went_turn C o v u (BeginSays lane request picked (Err why)) t) a) ∙ back a;
        },
      )
    where
      stays : u.alone ≡ true → core_seen C o w ≡ core_seen C o u
      stays a = ap (λ (h : List (Entry Event)). core_after C o h) (went.alone a ∙ (ap (λ (xs : List Event). u.seen ++ map (entry u.number) xs) p.are ∙ append-nil u.seen))

  pub room_step : (o q : Snapshot (State D J)) (v u w : View (Snapshot (State D J)) Event) (lane : ℕ) (request : Request) (picked : Side) (why : NotYet) (r : Result BeginStep Worn) → q ≡ o → ActsFor C o v (Lane lane) → IsFree (core_seen C o v) lane → lacks_room why ≡ true → Tried o v u lane request picked why →
      Does u w (RoomStepSays seen q u w lane picked r) → Does v w (StepSays seen o v w lane request Idle r)
  room_step o q v u w lane request picked why (Err x) same acts free lacks t p =
      let went = went_turn C o v u (BeginSays lane request picked (Err why)) t in
      let is : t.events ++ p.events ≡ p.events = ap (λ (xs : List Event). xs ++ p.events) t.says.0 in
      record { events = t.events ++ p.events; went = went_on v u w t.events p.events went p.went; says = subst (IsCutShort (Lane lane)) (sym is) p.says }
  room_step o q v u w lane request picked why (Ok step) same acts free lacks t p =
      let went = went_turn C o v u (BeginSays lane request picked (Err why)) t in
      let is : t.events ++ p.events ≡ p.events = ap (λ (xs : List Event). xs ++ p.events) t.says.0 in
      let end : u.seen ≡ v.seen ++ t.between = t.seen ∙ (ap (λ (es : List Event). (v.seen ++ t.between) ++ map (entry v.number) es) t.says.0 ∙ append-nil (v.seen ++ t.between)) in
      record {
        events = t.events ++ p.events;
        went = went_on v u w t.events p.events went p.went;
        says = roomed o v u w lane request picked why step (t.events ++ p.events) p.events acts free lacks t end is p.went (quiet o v u lane request picked why acts free t).says.same
            (subst (λ (z : Snapshot (State D J)). RoomStepSays seen z u w lane picked (Ok step) p.events) same p.says);
      }

  -- a step of room is none that ends or begins the call
  pub not_begun : (o : Snapshot (State D J)) (u w : View (Snapshot (State D J)) Event) (lane : ℕ) (side : Side) (r : Result BeginStep Worn) → Does u w (RoomStepSays seen o u w lane side r) → (s : Side) → r ≡ Ok (Started s) → ⊥
  not_begun o u w lane side r p s is = absurd ((subst (λ (x : Result BeginStep Worn). Does u w (RoomStepSays seen o u w lane side x)) is p).says)

  pub not_ended : (o : Snapshot (State D J)) (u w : View (Snapshot (State D J)) Event) (lane : ℕ) (side : Side) (r : Result BeginStep Worn) → Does u w (RoomStepSays seen o u w lane side r) → (n : Numbered) → r ≡ Ok (Ended n) → ⊥
  not_ended o u w lane side r p n is = absurd ((subst (λ (x : Result BeginStep Worn). Does u w (RoomStepSays seen o u w lane side x)) is p).says)

  -- ---- one step of room

  pub after_made : (o : Snapshot (State D J)) (v w : View (Snapshot (State D J)) Event) (lane : ℕ) (side : Side) (made : Made) → Does v w (RoomSays seen o v w lane side (Ok made)) → Does v w (RoomStepSays seen o v w lane side (Ok (after_room made)))
  after_made o v w lane side Room p = p
  after_made o v w lane side Failed p = p
  after_made o v w lane side Wait p = p

  pub made_worn : (o : Snapshot (State D J)) (v w : View (Snapshot (State D J)) Event) (lane : ℕ) (side : Side) (x : Worn) (r : Result BeginStep Worn) → IsErr r → Does v w (RoomSays seen o v w lane side (Err x)) → Does v w (RoomStepSays seen o v w lane side r)
  made_worn o v w lane side x (Ok s) e p = absurd (cc)
  made_worn o v w lane side x (Err y) e p = p

  -- ---- a call that is skipped

  pub skipped_step : (o : Snapshot (State D J)) (v u : View (Snapshot (State D J)) Event) (lane : ℕ) (request : Request) (n : Numbered) → ActsFor C o v (Lane lane) → IsMarked (core_seen C o v) lane → Turn C o v u (SkipSays lane request true (Ok n)) → Does v u (StepSays seen o v u lane request Marked (Ok (Ended n)))
  skipped_step o v u lane request n acts marked t =
      let d = ended_on seen true o o v v u lane (Skip lane request true) (SkipSays lane request true (Ok n)) refl acts (λ c es says. says.0) (free_skip lane request true) (waited_none seen true o v lane marked) t in
      record { events = d.events; went = d.went; says = (d.says, λ m. faulted lane request n.reply t.says.1.ends) }

  pub awaits_step : (o : Snapshot (State D J)) (v u : View (Snapshot (State D J)) Event) (lane : ℕ) (request : Request) (why : NotYet) → ActsFor C o v (Lane lane) → IsMarked (core_seen C o v) lane → Turn C o v u (SkipSays lane request true (Err why)) → Does v u (StepSays seen o v u lane request Marked (Ok Waits))
  awaits_step o v u lane request why acts marked t =
      let d = waited_on seen true o o v v u lane (SkipSays lane request true (Err why)) refl acts (λ c es says. says.0) (waited_none seen true o v lane marked) t in
      let end : core_seen C o u ≡ core_after C o (v.seen ++ t.between) = subst (λ (es : List Event). CoreRun (core_after C o (v.seen ++ t.between)) es (core_seen C o u)) t.says.0 t.run in
      record {
        events = d.events;
        went = d.went;
        says = record {
          are = d.says.are;
          because = subst (λ (c : Core). (y : NotYet) × (awaited_still c.lanes request.awaits ≡ Some y)) (sym end) (why, t.says.1);
          after = d.says.after;
          same = d.says.same;
        };
      }

  -- ---- the core as it was seen first

  pub begins_at : {A : Type 0} (o : Snapshot (State D J)) (v u : View (Snapshot (State D J)) Event) (P : Core → List Event → Type 0) (r : Result A Worn) → Turn C o v u P → IfOk r (λ _. v.alone ≡ true → Coherent (core_seen C o v))
  begins_at o v u P (Ok x) t = λ a. subst Coherent (found_alone seen o v u P t a) t.coherent
  begins_at o v u P (Err x) t = tt

  -- ---- where the turn is worn

  pub step_worn : (o : Snapshot (State D J)) (v w : View (Snapshot (State D J)) Event) (lane : ℕ) (request : Request) (stage : Stage) (r : Result BeginStep Worn) → IsErr r → Went v w [] → Does v w (StepSays seen o v w lane request stage r)
  step_worn o v w lane request stage (Ok x) e went = absurd (cc)
  step_worn o v w lane request stage (Err y) e went = record { events = []; went = went; says = inl refl }
