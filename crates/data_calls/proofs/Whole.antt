-- A data call, from its parts.
use Rattle.std.proofs.Common.{◌≡◌, ℕ, Bool, true, false, List, [], ◌∷◌, ◌++◌, Option, Some, None, refl, sym, ap, ◌∙◌, subst, inl, inr, append_assoc, arith, lit≤}
use Rattle.std.specs.Prelude.{Result, Ok, Err, unwrap_or}
use Rattle.std.specs.Result.{IsErr}
use Rattle.std.specs.declared.snapshot.Snapshot.{Snapshot}
use Rattle.turn_cell.specs.declared.view.View.{View}
use Rattle.turn_cell.specs.declared.pass.Worn.{Worn}
use Rattle.turn_cell.specs.Events.{events_of}
use Rattle.flash_die.specs.Dies.{DieView}
use Rattle.dispatcher.specs.declared.side.Side.{Side}
use Rattle.dispatcher.specs.declared.side.Side.TheVariants.{Host, Drive}
use Rattle.plain_files.specs.declared.calls.Call.{Call}
use Rattle.plain_files.specs.declared.calls.Call.TheVariants.{Read, Write, Append, Trunc}
use Rattle.plain_files.specs.declared.calls.Numbered.{Numbered}
use Rattle.plain_files.specs.declared.calls.Reply.{Reply}
use Rattle.plain_files.specs.declared.calls.Reply.TheVariants.{Fault}
use Rattle.plain_files.specs.declared.calls.Request.{Request}
use Rattle.plain_files.specs.History.{Entry}
use Rattle.core_state.specs.declared.actor.Actor.TheVariants.{Lane}
use Rattle.core_state.specs.declared.event.Event.{Event}
use Rattle.core_state.specs.declared.event.Event.TheVariants.{Begin, End}
use Rattle.core_state.specs.State.{Held, Flight, Core}
use Rattle.core_state.specs.Reach.{is_data, is_lambda}
use Rattle.core_state.specs.PageEvents.{no_flight}
use Rattle.core_state.specs.InFlight.{claim_of}
use Rattle.core_state.specs.Dies.{owner}
use Rattle.core_state.specs.Coherent.{Coherent}
use Rattle.core_state.specs.Happens.{May, CoreRun, actor_of, after_all}
use Rattle.core_state.specs.History.{entry_of, and_then, calls_of}
use Rattle.core_state.proofs.Runs.{leads_to}
use Rattle.core_solo.specs.Solo.{Steps, IsStep, IsNext}
use Rattle.core_solo.proofs.Asks.{calls_both}
use Rattle.core_solo.proofs.Folds.{append, after_both}
use Rattle.system_state.specs.Cores.{core_of}
use Rattle.system_state.specs.declared.state.State.{State}
use Rattle.call_job.specs.declared.job.Job.{Job}
use Rattle.call_job.specs.Prepares.{IsPrepared}
use Rattle.desk_turns.specs.Making.{AreOf}
use Rattle.desk_turns.specs.Passing.{core_seen, Went, Does}
use Rattle.desk_turns.proofs.Went.{of_on, went_on}
use Rattle.lambda_finishes.specs.Gathering.{call_at}
use Rattle.lambda_finishes.specs.Ends.{IsBegun, IsFinished, FinishSays}
use Rattle.call_starts.specs.Armed.{HasJob}
use Rattle.call_starts.specs.Calls.{SkipCallSays}
use Rattle.call_starts.specs.Cut.{IsCutOff}
use Rattle.call_starts.specs.Steps.{is_marked, ended_event, IsAtStart}
use Rattle.call_starts.specs.Words.{IsNumbered}
use Rattle.call_starts.specs.Starting.{HasBegun, HasEnded, StartSays, JobIs}
use Rattle.call_starts.specs.declared.start.Beginning.{Beginning}
use Rattle.call_starts.specs.declared.start.Beginning.TheVariants.{Ended, Started}
use Rattle.call_starts.specs.BeginStage.{Stage}
use Rattle.call_starts.specs.BeginStage.TheVariants.{Idle, Marked}
use Rattle.call_starts.proofs.Ending.{starts_on, alone_after}
use Rattle.call_starts.proofs.FlushSteps.{failed_on, run_on}
use Rattle.call_starts.proofs.Rooming.{room_of, room_silent}
use Rattle.data_calls.specs.Kinds.{is_read_call, is_write_call, is_append_call, is_trunc_call}
use Rattle.data_calls.specs.Answers.{Replies, HasReplied, HasNotReplied, PreparedSays, DataSays}

-- ---- kinds

pub read_data : (call : Call) → is_read_call call ≡ true → (is_data call ≡ true) × (is_lambda call ≡ false)
read_data (Read name off n) e = (refl, refl)
read_data _ e = absurd (cc)

pub write_data : (call : Call) → is_write_call call ≡ true → (is_data call ≡ true) × (is_lambda call ≡ false)
write_data (Write name off bytes) e = (refl, refl)
write_data _ e = absurd (cc)

pub append_data : (call : Call) → is_append_call call ≡ true → (is_data call ≡ true) × (is_lambda call ≡ false)
append_data (Append name bytes) e = (refl, refl)
append_data _ e = absurd (cc)

pub trunc_data : (call : Call) → is_trunc_call call ≡ true → (is_data call ≡ true) × (is_lambda call ≡ false)
trunc_data (Trunc name n) e = (refl, refl)
trunc_data _ e = absurd (cc)

-- ---- answers

abbrev begun_ok : Beginning → Result Beginning Worn
begun_ok b = Ok b

abbrev reply_ok : Numbered → Result Numbered Worn
reply_ok n = Ok n

number_is : (m n : Numbered) → reply_ok m ≡ reply_ok n → m ≡ n
number_is m n e = cc

-- a call that has ended, by its beginning
pub ended_told : (b : Beginning) (m n : Numbered) → b ≡ Ended m → reply_ok m ≡ reply_ok n → begun_ok b ≡ begun_ok (Ended n)
ended_told b m n is e = ap begun_ok (is ∙ ap (λ (x : Numbered). Ended x) (number_is m n e))

pub self_prepared : (request : Request) (job : Job) → IsPrepared request job → IsPrepared job.request job
self_prepared request job p = subst (λ (r : Request). IsPrepared r job) (sym p.request_is) p

-- ---- over the core alone

pub calls_on : (es fs : List Event) → calls_of es ≡ [] → calls_of fs ≡ [] → calls_of (es ++ fs) ≡ []
calls_on [] fs p q = q
calls_on (e ∷ es) fs p q = go (entry_of e) (λ k. calls_on es fs k q) p
  where
    go : (x : Option Entry) → (calls_of es ≡ [] → calls_of (es ++ fs) ≡ []) → and_then x (calls_of es) ≡ [] → and_then x (calls_of (es ++ fs)) ≡ []
    go None more k = more k
    go (Some x) more k = absurd (cc)

-- events of which the last alone ends a call
pub last_ends : (es before : List Event) (last : Event) (x : Entry) → es ≡ before ++ last ∷ [] → calls_of before ≡ [] → entry_of last ≡ Some x → calls_of es ≡ x ∷ []
last_ends es before last x are none ends =
    ap calls_of are ∙ (calls_both before (last ∷ []) ∙ (ap (λ (xs : List Entry). xs ++ calls_of (last ∷ [])) none ∙ ap (λ (o : Option Entry). and_then o []) ends))

pub end_of : (stage : Stage) (lane : ℕ) (request : Request) (n : Numbered) → actor_of (ended_event stage lane request n) ≡ Lane lane
end_of Idle lane request n = refl
end_of Marked lane request n = refl

pub marked_of : (stage : Stage) → is_marked stage ≡ true → stage ≡ Marked
marked_of Idle e = absurd (cc)
marked_of Marked e = refl

pub end_replies : (c : Core) (lane : ℕ) (request : Request) (n : Numbered) (stage : Stage) → (stage ≡ Marked → n.reply ≡ Fault) → May c (ended_event stage lane request n) → Replies (is_marked stage) lane request n (ended_event stage lane request n) c
end_replies c lane request n Idle f may = record { may = may; asked = refl; entry_is = refl; reply_is = may.reply_is }
end_replies c lane request n Marked f may =
    record { may = may; asked = refl; entry_is = ap (λ (r : Reply). Some (record { lane = lane; call = request.call; reply = r })) (sym (f refl)); reply_is = f refl }

pub at_call : (c : Core) (lane : ℕ) (x : Flight) → c.calls lane ≡ Some x → call_at c lane ≡ x
at_call c lane x e = ap (λ (o : Option Flight). unwrap_or o no_flight) e

at_host : (s : Side) → (s ≡ Drive → ⊥) → s ≡ Host
at_host Host never = refl
at_host Drive never = absurd (never refl)

-- a call without a function that has just begun gathers its pages at the host
pub begun_here : (c : Core) (lane : ℕ) (request : Request) (side : Side) (job : Job) → Coherent c → is_data request.call ≡ true → is_lambda request.call ≡ false → IsAtStart c lane request side → HasJob c lane job → IsBegun c lane job
begun_here c lane request side job h on runs s j =
    let at : call_at c lane ≡ s.call = at_call c lane s.call s.flies in
    let held : (call_at c lane).phase ≡ Held = ap (λ (f : Flight). f.phase) at ∙ s.held in
    let asked : (call_at c lane).claim.request ≡ request = ap (λ (f : Flight). f.claim.request) at ∙ s.request_is in
    let right = h.in_flight.right lane s.call.claim (ap claim_of s.flies) in
    record {
      gathering = record {
        between = record {
          owned = record { flies = s.flies ∙ ap (λ (f : Flight). Some f) (sym at); owns = ap (owner lane) held; mark = s.unmarked };
          none = s.none;
        };
        to = record { below = λ i l w g. absurd (omega arith); above = λ i l w. ap (λ (f : Flight). f.gathered i) at ∙ s.empty i };
        suits = j.suits;
        fresh = j.fresh;
      };
      held = held;
      host = ap (λ (f : Flight). f.claim.side) at ∙ at_host s.call.claim.side (λ d. apart (is_lambda s.call.claim.request.call) (right.drive d) (ap (λ (r : Request). is_lambda r.call) s.request_is ∙ runs));
      is_on_file = ap (λ (r : Request). is_data r.call) asked ∙ on;
      runs_not = ap (λ (r : Request). is_lambda r.call) asked ∙ runs;
    }
  where
    apart : (t : Bool) → t ≡ true → t ≡ false → ⊥
    apart true p q = absurd (cc)
    apart false p q = absurd (cc)

-- its job is for its request
pub asked_here : (c : Core) (lane : ℕ) (request : Request) (side : Side) (job : Job) → IsAtStart c lane request side → HasJob c lane job → job.request ≡ request
asked_here c lane request side job s j = j.suits.request ∙ (ap (λ (f : Flight). f.claim.request) (at_call c lane s.call s.flies) ∙ s.request_is)

module _ {D : Type 0} (seen : D → DieView) where
  abbrev C : State D Job → Core
  C = core_of seen

  abbrev S : Type 0
  S = Snapshot (State D Job)

  abbrev V : Type 0
  V = View (Snapshot (State D Job)) Event

  -- ---- it has ended before it began

  ended_replied : (o : S) (v w : V) (lane : ℕ) (request : Request) (n : Numbered) (es : List Event) → HasEnded seen o v w lane request n es → HasReplied seen o v w lane request n es
  ended_replied o v w lane request n es h =
      let e = ended_event h.stage lane request n in
      record {
        before = h.before;
        last = e;
        are = h.are;
        of = subst (AreOf (Lane lane)) (sym h.are) (of_on (Lane lane) h.before (e ∷ []) (room_of lane h.before h.room) (end_of h.stage lane request n, tt));
        open_still = room_silent lane h.before h.room;
        failed = is_marked h.stage;
        fault = λ m. (h.fault (marked_of h.stage m)).1;
        found = record { before = h.found.before; rest = h.found.rest; since = h.found.since; seen = h.found.seen; says = end_replies _ lane request n h.stage (λ m. (h.fault m).0) h.found.says };
        after = h.after;
        coherent = h.coherent;
        run = h.run;
        solo = h.solo;
      }

  -- ---- it has begun

  begun_of : (o : S) (v u : V) (lane : ℕ) (request : Request) (side : Side) (es : List Event) → HasBegun seen o v u lane request side es → AreOf (Lane lane) es
  begun_of o v u lane request side es b = subst (AreOf (Lane lane)) (sym b.are) (of_on (Lane lane) b.before (Begin lane request side ∷ []) (room_of lane b.before b.room) (refl, tt))

  begun_silent : (o : S) (v u : V) (lane : ℕ) (request : Request) (side : Side) (es : List Event) → HasBegun seen o v u lane request side es → calls_of es ≡ []
  begun_silent o v u lane request side es b = ap calls_of b.are ∙ calls_on b.before (Begin lane request side ∷ []) (room_silent lane b.before b.room) refl

  begun_replied : (o : S) (v u w : V) (lane : ℕ) (request : Request) (side : Side) (n : Numbered) (es fs : List Event) → Went v u es → HasBegun seen o v u lane request side es → IsFinished seen o u w lane request n fs → HasReplied seen o v w lane request n (es ++ fs)
  begun_replied o v u w lane request side n es fs went b f =
      let c = core_seen C o v in
      let d = core_seen C o u in
      let last = End lane request n.reply in
      let too : v.alone ≡ true → u.alone ≡ true = alone_after seen v u es went in
      record {
        before = es ++ f.before;
        last = last;
        are = ap (λ (xs : List Event). es ++ xs) f.are ∙ sym (append_assoc es f.before (last ∷ []));
        of = of_on (Lane lane) es fs (begun_of o v u lane request side es b) f.of;
        open_still = calls_on es f.before (begun_silent o v u lane request side es b) f.open_still;
        failed = f.failed;
        fault = λ x. let z = f.fault x in (z.0, failed_on seen o v u w z.0 went.seen z.1);
        found = record {
          before = f.found.before;
          rest = f.found.rest;
          since = starts_on v.seen u.seen f.found.before went.seen f.found.since;
          seen = f.found.seen;
          says = record { may = f.found.says.may; asked = refl; entry_is = refl; reply_is = f.found.says.reply_is };
        };
        after = f.after;
        coherent = f.coherent;
        run = λ a. run_on es fs c d (core_seen C o w) (b.run a) (f.run (too a));
        solo = λ a encode.
            let k = f.solo (too a) encode in
            let led : d ≡ after_all c es = leads_to es c d (b.run a) in
            record {
              most = es ++ k.most;
              last = k.last;
              whole = ap (λ (xs : List Event). es ++ xs) k.whole ∙ sym (append_assoc es k.most (k.last ∷ []));
              steps = append (IsStep encode lane request) es k.most c (b.steps a encode) (subst (λ (x : Core). Steps (IsStep encode lane request) x k.most) led k.steps);
              next = subst (λ (x : Core). IsNext encode lane request x k.last) (ap (λ (x : Core). after_all x k.most) led ∙ sym (after_both es k.most c)) k.next;
              answers = k.answers;
            };
      }

  -- ---- where the turn is worn

  start_cut : (o : S) (v w : V) (lane : ℕ) (request : Request) (x : Worn) (es : List Event) → StartSays seen o v w lane request (Err x) es → HasNotReplied seen o v lane request es
  start_cut o v w lane request x es p = record { of = room_of lane es p.0; open_still = room_silent lane es p.0; cut = p.1 }

  finish_cut : (o : S) (v u w : V) (lane : ℕ) (request : Request) (side : Side) (x : Worn) (es fs : List Event) → Went v u es → HasBegun seen o v u lane request side es → FinishSays seen o u w lane request (Err x) fs → HasNotReplied seen o v lane request (es ++ fs)
  finish_cut o v u w lane request side x es fs went b f =
      record {
        of = of_on (Lane lane) es fs (begun_of o v u lane request side es b) f.0;
        open_still = calls_on es fs (begun_silent o v u lane request side es b) f.1;
        cut = λ a encode.
            let c = core_seen C o v in
            let d = core_seen C o u in
            let k = f.2 (alone_after seen v u es went a) encode in
            let led : d ≡ after_all c es = leads_to es c d (b.run a) in
            let to : after_all d k.most ≡ after_all c (es ++ k.most) = ap (λ (x : Core). after_all x k.most) led ∙ sym (after_both es k.most c) in
            record {
              most = es ++ k.most;
              rest = k.rest;
              are = ap (λ (xs : List Event). es ++ xs) k.are ∙ sym (append_assoc es k.most k.rest);
              short = k.short;
              steps = append (IsStep encode lane request) es k.most c (b.steps a encode) (subst (λ (x : Core). Steps (IsStep encode lane request) x k.most) led k.steps);
              run = subst (λ (x : Core). CoreRun c (es ++ k.most) x) to (run_on es k.most c d (after_all d k.most) (b.run a) k.run);
            };
      }

  -- ---- a call for which memory was found

  begins_at : (o : S) (v u : V) (lane : ℕ) (request : Request) (side : Side) (b : Beginning) (es : List Event) → b ≡ Started side → StartSays seen o v u lane request (Ok b) es → HasBegun seen o v u lane request side es
  begins_at o v u lane request side b es is p = subst (λ (x : Beginning). StartSays seen o v u lane request (Ok x) es) is p

  has_job : (c : Core) (lane : ℕ) (old new : Job) (side : Side) (b : Beginning) → b ≡ Started side → JobIs c lane old new (Ok b) → HasJob c lane new
  has_job c lane old new side b is p = subst (λ (x : Beginning). JobIs c lane old new (Ok x)) is p

  pub ended_call : (o : S) (v u : V) (lane : ℕ) (request : Request) (b : Beginning) (n : Numbered) → b ≡ Ended n → Does v u (StartSays seen o v u lane request (Ok b)) → Does v u (PreparedSays seen o v u lane request (Ok n))
  ended_call o v u lane request b n is p =
      record { events = p.events; went = p.went; says = ended_replied o v u lane request n p.events (subst (λ (x : Beginning). StartSays seen o v u lane request (Ok x) p.events) is p.says) }

  pub start_worn : (o : S) (v u : V) (lane : ℕ) (request : Request) (x : Worn) (r : Result Numbered Worn) → IsErr r → Does v u (StartSays seen o v u lane request (Err x)) → Does v u (PreparedSays seen o v u lane request r)
  start_worn o v u lane request x (Ok n) e p = absurd (cc)
  start_worn o v u lane request x (Err y) e p = record { events = p.events; went = p.went; says = start_cut o v u lane request x p.events p.says }

  pub begun_there : (o q : S) (v u : V) (lane : ℕ) (request : Request) (side : Side) (old new : Job) (b : Beginning) → q ≡ o → b ≡ Started side → is_data request.call ≡ true → is_lambda request.call ≡ false → Does v u (StartSays seen o v u lane request (Ok b)) → JobIs (core_seen C o u) lane old new (Ok b) →
      IsBegun (core_seen C q u) lane new
  begun_there o q v u lane request side old new b same is on runs p j =
      let k = begins_at o v u lane request side b p.events is p.says in
      subst (λ (z : S). IsBegun (core_seen C z u) lane new) (sym same) (begun_here (core_seen C o u) lane request side new k.coherent on runs k.start (has_job (core_seen C o u) lane old new side b is j))

  pub asked_there : (o : S) (v u : V) (lane : ℕ) (request : Request) (side : Side) (old new : Job) (b : Beginning) → b ≡ Started side → Does v u (StartSays seen o v u lane request (Ok b)) → JobIs (core_seen C o u) lane old new (Ok b) → new.request ≡ request
  asked_there o v u lane request side old new b is p j =
      let k = begins_at o v u lane request side b p.events is p.says in
      asked_here (core_seen C o u) lane request side new k.start (has_job (core_seen C o u) lane old new side b is j)

  whole : (o : S) (v u w : V) (lane : ℕ) (request : Request) (side : Side) (r : Result Numbered Worn) (es fs : List Event) → Went v u es → HasBegun seen o v u lane request side es → FinishSays seen o u w lane request r fs → PreparedSays seen o v w lane request r (es ++ fs)
  whole o v u w lane request side (Ok n) es fs went b f = begun_replied o v u w lane request side n es fs went b f
  whole o v u w lane request side (Err x) es fs went b f = finish_cut o v u w lane request side x es fs went b f

  pub begun_call : (o q : S) (v u w : V) (lane : ℕ) (request asked : Request) (side : Side) (b : Beginning) (r : Result Numbered Worn) → q ≡ o → asked ≡ request → b ≡ Started side → Does v u (StartSays seen o v u lane request (Ok b)) → Does u w (FinishSays seen q u w lane asked r) → Does v w (PreparedSays seen o v w lane request r)
  begun_call o q v u w lane request asked side b r same asks is p f =
      let k : FinishSays seen o u w lane request r f.events = subst (λ (z : Snapshot (State D Job) × Request). FinishSays seen z.0 u w lane z.1 r f.events) (λ i. (same i, asks i)) f.says in
      record {
        events = p.events ++ f.events;
        went = went_on v u w p.events f.events p.went f.went;
        says = whole o v u w lane request side r p.events f.events p.went (begins_at o v u lane request side b p.events is p.says) k;
      }

  -- ---- any data call

  any_prepared : (o : S) (v w : V) (lane : ℕ) (request : Request) (r : Result Numbered Worn) (es : List Event) → PreparedSays seen o v w lane request r es → DataSays seen o v w lane request r es
  any_prepared o v w lane request (Ok n) es p = inr p
  any_prepared o v w lane request (Err x) es p = p

  pub data_prepared : (o : S) (v w : V) (lane : ℕ) (asked request : Request) (r : Result Numbered Worn) → asked ≡ request → Does v w (PreparedSays seen o v w lane asked r) → Does v w (DataSays seen o v w lane request r)
  data_prepared o v w lane asked request r is p =
      record { events = p.events; went = p.went; says = any_prepared o v w lane request r p.events (subst (λ (x : Request). PreparedSays seen o v w lane x r p.events) is p.says) }

  any_skipped : (o : S) (v w : V) (lane : ℕ) (request : Request) (r : Result Numbered Worn) (es : List Event) → SkipCallSays seen o v w lane request r es → DataSays seen o v w lane request r es
  any_skipped o v w lane request (Ok n) es p = inl p
  any_skipped o v w lane request (Err x) es p =
      record {
        of = subst (AreOf (Lane lane)) (sym p) tt;
        open_still = ap calls_of p;
        cut = λ a encode. subst (IsCutOff encode (core_seen C o v) lane request) (sym p) (record { most = []; rest = []; are = refl; short = lit≤ tt; steps = tt; run = refl });
      }

  pub data_skipped : (o : S) (v w : V) (lane : ℕ) (request : Request) (r : Result Numbered Worn) → Does v w (SkipCallSays seen o v w lane request r) → Does v w (DataSays seen o v w lane request r)
  data_skipped o v w lane request r p = record { events = p.events; went = p.went; says = any_skipped o v w lane request r p.events p.says }

  pub numbered_as : (o q : S) (w : V) (lane : ℕ) (x y : Request) (n : Numbered) → q ≡ o → x ≡ y → IsNumbered q.value.last (calls_of (events_of w.seen)) n.number (record { lane = lane; call = x.call; reply = n.reply }) →
      IsNumbered o.value.last (calls_of (events_of w.seen)) n.number (record { lane = lane; call = y.call; reply = n.reply })
  numbered_as o q w lane x y n same is k =
      subst (λ (z : Snapshot (State D Job) × Request). IsNumbered z.0.value.last (calls_of (events_of w.seen)) n.number (record { lane = lane; call = z.1.call; reply = n.reply })) (λ i. (same i, is i)) k
