-- A call with a function, from its parts.
use Rattle.std.proofs.Common.{◌≡◌, ℕ, true, List, [], ◌∷◌, ◌++◌, Some, refl, sym, ap, ◌∙◌, subst, inl, inr, append_assoc, arith, lit≤}
use Rattle.std.specs.Prelude.{Result, Ok, Err}
use Rattle.std.specs.Result.{IsErr}
use Rattle.std.specs.declared.snapshot.Snapshot.{Snapshot}
use Rattle.turn_cell.specs.declared.view.View.{View}
use Rattle.turn_cell.specs.declared.pass.Worn.{Worn}
use Rattle.flash_die.specs.Dies.{DieView}
use Rattle.dispatcher.specs.declared.side.Side.{Side}
use Rattle.plain_files.specs.declared.calls.Call.{Call}
use Rattle.plain_files.specs.declared.calls.Call.TheVariants.{Readl, Writel}
use Rattle.plain_files.specs.declared.calls.Numbered.{Numbered}
use Rattle.plain_files.specs.declared.calls.Request.{Request}
use Rattle.core_state.specs.declared.actor.Actor.TheVariants.{Lane}
use Rattle.core_state.specs.declared.event.Event.{Event}
use Rattle.core_state.specs.declared.event.Event.TheVariants.{Begin, End}
use Rattle.core_state.specs.State.{Page, Held, Flight, Core}
use Rattle.core_state.specs.Reach.{is_data, is_lambda}
use Rattle.core_state.specs.Dies.{owner}
use Rattle.core_state.specs.Happens.{after_all}
use Rattle.core_state.specs.History.{calls_of}
use Rattle.core_state.proofs.Runs.{leads_to}
use Rattle.core_solo.specs.Alone.{IsAlone}
use Rattle.core_solo.specs.Solo.{Steps, IsStep, IsNext}
use Rattle.core_solo.proofs.Folds.{append, after_both}
use Rattle.system_state.specs.Cores.{core_of}
use Rattle.system_state.specs.declared.state.State.{State}
use Rattle.call_job.specs.declared.job.Job.{Job}
use Rattle.desk_turns.specs.Making.{AreOf}
use Rattle.desk_turns.specs.Passing.{core_seen, Went, Does}
use Rattle.desk_turns.proofs.Went.{of_on, went_on}
use Rattle.data_calls.specs.Gathering.{call_at}
use Rattle.data_calls.specs.Armed.{HasJob}
use Rattle.data_calls.specs.Calls.{SkipCallSays}
use Rattle.data_calls.specs.Cut.{IsCutOff}
use Rattle.data_calls.specs.Steps.{is_marked, ended_event, IsAtStart}
use Rattle.data_calls.specs.Starting.{HasBegun, HasEnded, StartSays, JobIs}
use Rattle.data_calls.specs.BeginAnswer.{Beginning}
use Rattle.data_calls.specs.BeginAnswer.TheVariants.{Ended, Started}
use Rattle.data_calls.proofs.Ending.{starts_on, alone_after}
use Rattle.data_calls.proofs.FlushSteps.{run_on}
use Rattle.data_calls.proofs.Rooming.{room_of, room_silent}
use Rattle.data_calls.proofs.Whole.{end_replies, end_of, marked_of, at_call, calls_on, asked_here}
use Rattle.data_calls.specs.Finishing.{IsBegunAt, AreOfCall, HasEnded as HasFinished, LambdaSays}
use Rattle.data_calls.proofs.Serving.{of_lane, of_both, cut_on}
use Rattle.data_calls.proofs.Marks.{saw_since}
use Rattle.lambda_calls.specs.Kinds.{is_readl_call, is_writel_call}
use Rattle.lambda_calls.specs.Answers.{HasReplied, HasNotReplied, PreparedSays, CallSays}

-- ---- kinds

pub readl_runs : (call : Call) → is_readl_call call ≡ true → is_lambda call ≡ true
readl_runs (Readl file off n function fuel cap param) e = refl
readl_runs _ e = absurd (cc)

pub writel_runs : (call : Call) → is_writel_call call ≡ true → is_lambda call ≡ true
writel_runs (Writel file off n function fuel param input) e = refl
writel_runs _ e = absurd (cc)

pub runs_data : (call : Call) → is_lambda call ≡ true → is_data call ≡ true
runs_data (Readl file off n function fuel cap param) e = refl
runs_data (Writel file off n function fuel param input) e = refl
runs_data _ e = absurd (cc)

-- ---- whose events

-- events of the lane are of this kind, and so are two lists of it, one after the other
pub record Takes (lane : ℕ) (AreMine : List Event → Type 0) : Type 0 where
  pub own : (es : List Event) → AreOf (Lane lane) es → AreMine es
  pub both : (es fs : List Event) → AreMine es → AreMine fs → AreMine (es ++ fs)

pub takes_own : (lane : ℕ) → Takes lane (AreOf (Lane lane))
takes_own lane = record { own = λ es p. p; both = λ es fs p q. of_on (Lane lane) es fs p q }

pub takes_served : (lane : ℕ) → Takes lane (AreOfCall lane)
takes_served lane = record { own = of_lane lane; both = of_both lane }

abbrev pub begun_ok : Beginning → Result Beginning Worn
begun_ok b = Ok b

pub begun_told : (b : Beginning) (side : Side) → b ≡ Started side → begun_ok b ≡ begun_ok (Started side)
begun_told b side is = ap begun_ok is

-- ---- over the core alone

-- a call with a function that has just begun, and its job
pub begun_here : (c : Core) (lane : ℕ) (request : Request) (side : Side) (job : Job) → is_lambda request.call ≡ true → IsAtStart c lane request side → HasJob c lane job → IsBegunAt side c lane job
begun_here c lane request side job runs s j =
    let at : call_at c lane ≡ s.call = at_call c lane s.call s.flies in
    let held : (call_at c lane).phase ≡ Held = ap (λ (f : Flight). f.phase) at ∙ s.held in
    let asked : (call_at c lane).claim.request ≡ request = ap (λ (f : Flight). f.claim.request) at ∙ s.request_is in
    record {
      gathering = record {
        between = record {
          owned = record { flies = s.flies ∙ ap (λ (f : Flight). Some f) (sym at); owns = ap (owner lane) held; mark = s.unmarked };
          none = s.none;
        };
        to = record { below = λ i l w g. absurd (omega arith); above = λ i l w. ap (λ (f : Flight). f.gathered i) at ∙ s.empty i };
        suits = j.suits;
        fresh = j.fresh;
      };
      held = held;
      side_is = ap (λ (f : Flight). f.claim.side) at ∙ s.side_is;
      runs = ap (λ (r : Request). is_lambda r.call) asked ∙ runs;
    }

module _ {D : Type 0} (seen : D → DieView) where
  abbrev C : State D Job → Core
  C = core_of seen

  abbrev S : Type 0
  S = Snapshot (State D Job)

  abbrev V : Type 0
  V = View (Snapshot (State D Job)) Event

  -- ---- it has ended before it began

  ended_of : (o : S) (v w : V) (lane : ℕ) (request : Request) (n : Numbered) (es : List Event) → HasEnded seen o v w lane request n es → AreOf (Lane lane) es
  ended_of o v w lane request n es h =
      subst (AreOf (Lane lane)) (sym h.are) (of_on (Lane lane) h.before (ended_event h.stage lane request n ∷ []) (room_of lane h.before h.room) (end_of h.stage lane request n, tt))

  ended_replied : (o : S) (v w : V) (lane : ℕ) (request : Request) (n : Numbered) (es : List Event) → HasEnded seen o v w lane request n es → HasReplied seen o v w lane request n es
  ended_replied o v w lane request n es h =
      let e = ended_event h.stage lane request n in
      record {
        before = h.before;
        last = e;
        are = h.are;
        open_still = room_silent lane h.before h.room;
        failed = is_marked h.stage;
        fault = λ m. inl (h.fault (marked_of h.stage m)).1;
        found = record { before = h.found.before; rest = h.found.rest; since = h.found.since; seen = h.found.seen; says = end_replies _ lane request n h.stage (λ m. (h.fault m).0) h.found.says };
        after = h.after;
        coherent = h.coherent;
        run = h.run;
        solo = h.solo;
      }

  -- ---- it has begun

  begun_of : (o : S) (v u : V) (lane : ℕ) (request : Request) (side : Side) (es : List Event) → HasBegun seen o v u lane request side es → AreOf (Lane lane) es
  begun_of o v u lane request side es b = subst (AreOf (Lane lane)) (sym b.are) (of_on (Lane lane) b.before (Begin lane request side ∷ []) (room_of lane b.before b.room) (refl, tt))

  begun_silent : (o : S) (v u : V) (lane : ℕ) (request : Request) (side : Side) (es : List Event) → HasBegun seen o v u lane request side es → calls_of es ≡ []
  begun_silent o v u lane request side es b = ap calls_of b.are ∙ calls_on b.before (Begin lane request side ∷ []) (room_silent lane b.before b.room) refl

  begun_replied : (o : S) (v u w : V) (lane : ℕ) (request : Request) (side : Side) (n : Numbered) (es fs : List Event) → Went v u es → HasBegun seen o v u lane request side es → HasFinished seen o u w lane request n fs → HasReplied seen o v w lane request n (es ++ fs)
  begun_replied o v u w lane request side n es fs went b f =
      let c = core_seen C o v in
      let d = core_seen C o u in
      let last = End lane request n.reply in
      let too : v.alone ≡ true → u.alone ≡ true = alone_after seen v u es went in
      record {
        before = es ++ f.before;
        last = last;
        are = ap (λ (xs : List Event). es ++ xs) f.are ∙ sym (append_assoc es f.before (last ∷ []));
        open_still = calls_on es f.before (begun_silent o v u lane request side es b) f.open_still;
        failed = f.failed;
        fault = λ x. inr (saw_since v u w went.seen (f.rose x));
        found = record {
          before = f.found.before;
          rest = f.found.rest;
          since = starts_on v.seen u.seen f.found.before went.seen f.found.since;
          seen = f.found.seen;
          says = record { may = f.found.says.may; asked = refl; entry_is = refl; reply_is = f.found.says.reply_is };
        };
        after = f.after;
        coherent = f.coherent;
        run = λ a. run_on es fs c d (core_seen C o w) (b.run a) (f.run (too a));
        solo = λ a encode.
            let k = f.solo (too a) encode in
            let led : d ≡ after_all c es = leads_to es c d (b.run a) in
            record {
              most = es ++ k.most;
              last = k.last;
              whole = ap (λ (xs : List Event). es ++ xs) k.whole ∙ sym (append_assoc es k.most (k.last ∷ []));
              steps = append (IsStep encode lane request) es k.most c (b.steps a encode) (subst (λ (x : Core). Steps (IsStep encode lane request) x k.most) led k.steps);
              next = subst (λ (x : Core). IsNext encode lane request x k.last) (ap (λ (x : Core). after_all x k.most) led ∙ sym (after_both es k.most c)) k.next;
              answers = k.answers;
            };
      }

  -- ---- where the turn is worn

  start_cut : (o : S) (v w : V) (lane : ℕ) (request : Request) (x : Worn) (es : List Event) → StartSays seen o v w lane request (Err x) es → HasNotReplied seen o v lane request es
  start_cut o v w lane request x es p = record { open_still = room_silent lane es p.0; cut = p.1 }

  finish_cut : (o : S) (v u : V) (lane : ℕ) (request : Request) (side : Side) (es fs : List Event) → Went v u es → HasBegun seen o v u lane request side es → calls_of fs ≡ [] → (u.alone ≡ true → (encode : Core → ℕ → Page) → IsCutOff encode (core_seen C o u) lane request fs) → HasNotReplied seen o v lane request (es ++ fs)
  finish_cut o v u lane request side es fs went b silent cut =
      record {
        open_still = calls_on es fs (begun_silent o v u lane request side es b) silent;
        cut = λ a encode. cut_on encode lane request (core_seen C o v) (core_seen C o u) es fs (b.steps a encode) (b.run a) (cut (alone_after seen v u es went a) encode);
      }

  -- ---- a call for which memory was found

  begins_at : (o : S) (v u : V) (lane : ℕ) (request : Request) (side : Side) (b : Beginning) (es : List Event) → b ≡ Started side → StartSays seen o v u lane request (Ok b) es → HasBegun seen o v u lane request side es
  begins_at o v u lane request side b es is p = subst (λ (x : Beginning). StartSays seen o v u lane request (Ok x) es) is p

  has_job : (c : Core) (lane : ℕ) (old new : Job) (side : Side) (b : Beginning) → b ≡ Started side → JobIs c lane old new (Ok b) → HasJob c lane new
  has_job c lane old new side b is p = subst (λ (x : Beginning). JobIs c lane old new (Ok x)) is p

  -- the same job, handed on
  pub job_as : (c : Core) (lane : ℕ) (old new made : Job) (r : Result Beginning Worn) → made ≡ new → JobIs c lane old new r → JobIs c lane old made r
  job_as c lane old new made r is p = subst (λ (x : Job). JobIs c lane old x r) (sym is) p

  pub ended_call : (M : List Event → Type 0) (o : S) (v u : V) (lane : ℕ) (request : Request) (b : Beginning) (n : Numbered) → Takes lane M → b ≡ Ended n → Does v u (StartSays seen o v u lane request (Ok b)) → Does v u (PreparedSays seen M o v u lane request (Ok n))
  ended_call M o v u lane request b n takes is p =
      let k : HasEnded seen o v u lane request n p.events = subst (λ (x : Beginning). StartSays seen o v u lane request (Ok x) p.events) is p.says in
      record { events = p.events; went = p.went; says = (takes.own p.events (ended_of o v u lane request n p.events k), ended_replied o v u lane request n p.events k) }

  pub start_worn : (M : List Event → Type 0) (o : S) (v u : V) (lane : ℕ) (request : Request) (x : Worn) (r : Result Numbered Worn) → Takes lane M → IsErr r → Does v u (StartSays seen o v u lane request (Err x)) → Does v u (PreparedSays seen M o v u lane request r)
  start_worn M o v u lane request x (Ok n) takes e p = absurd (cc)
  start_worn M o v u lane request x (Err y) takes e p = record { events = p.events; went = p.went; says = (takes.own p.events (room_of lane p.events p.says.0), start_cut o v u lane request x p.events p.says) }

  pub begun_there : (o q : S) (v u : V) (lane : ℕ) (request : Request) (side : Side) (old new : Job) (b : Beginning) → q ≡ o → b ≡ Started side → is_lambda request.call ≡ true → Does v u (StartSays seen o v u lane request (Ok b)) → JobIs (core_seen C o u) lane old new (Ok b) →
      IsBegunAt side (core_seen C q u) lane new
  begun_there o q v u lane request side old new b same is runs p j =
      let k = begins_at o v u lane request side b p.events is p.says in
      subst (λ (z : S). IsBegunAt side (core_seen C z u) lane new) (sym same) (begun_here (core_seen C o u) lane request side new runs k.start (has_job (core_seen C o u) lane old new side b is j))

  pub asked_there : (o : S) (v u : V) (lane : ℕ) (request : Request) (side : Side) (old new : Job) (b : Beginning) → b ≡ Started side → Does v u (StartSays seen o v u lane request (Ok b)) → JobIs (core_seen C o u) lane old new (Ok b) → new.request ≡ request
  asked_there o v u lane request side old new b is p j =
      let k = begins_at o v u lane request side b p.events is p.says in
      asked_here (core_seen C o u) lane request side new k.start (has_job (core_seen C o u) lane old new side b is j)

  whole : (M : List Event → Type 0) (o : S) (v u w : V) (lane : ℕ) (request : Request) (side : Side) (r : Result Numbered Worn) (es fs : List Event) → Takes lane M → Went v u es → Went u w fs → HasBegun seen o v u lane request side es → LambdaSays seen M o u w lane request r fs → PreparedSays seen M o v w lane request r (es ++ fs)
  whole M o v u w lane request side (Ok n) es fs takes went then b f =
      (takes.both es fs (takes.own es (begun_of o v u lane request side es b)) f.0, begun_replied o v u w lane request side n es fs went b f.1)
  whole M o v u w lane request side (Err x) es fs takes went then b f =
      (takes.both es fs (takes.own es (begun_of o v u lane request side es b)) f.0, finish_cut o v u lane request side es fs went b f.1 f.2)

  pub begun_call : (M : List Event → Type 0) (o q : S) (v u w : V) (lane : ℕ) (request asked : Request) (side : Side) (b : Beginning) (r : Result Numbered Worn) → Takes lane M → q ≡ o → asked ≡ request → b ≡ Started side → Does v u (StartSays seen o v u lane request (Ok b)) →
      Does u w (LambdaSays seen M q u w lane asked r) → Does v w (PreparedSays seen M o v w lane request r)
  begun_call M o q v u w lane request asked side b r takes same asks is p f =
      let k : LambdaSays seen M o u w lane request r f.events = subst (λ (z : Snapshot (State D Job) × Request). LambdaSays seen M z.0 u w lane z.1 r f.events) (λ i. (same i, asks i)) f.says in
      record {
        events = p.events ++ f.events;
        went = went_on v u w p.events f.events p.went f.went;
        says = whole M o v u w lane request side r p.events f.events takes p.went f.went (begins_at o v u lane request side b p.events is p.says) k;
      }

  -- ---- any call with a function

  any_prepared : (M : List Event → Type 0) (o : S) (v w : V) (lane : ℕ) (request : Request) (r : Result Numbered Worn) (es : List Event) → PreparedSays seen M o v w lane request r es → CallSays seen M o v w lane request r es
  any_prepared M o v w lane request (Ok n) es p = (p.0, inr p.1)
  any_prepared M o v w lane request (Err x) es p = p

  pub lambda_prepared : (M : List Event → Type 0) (o : S) (v w : V) (lane : ℕ) (asked request : Request) (r : Result Numbered Worn) → asked ≡ request → Does v w (PreparedSays seen M o v w lane asked r) → Does v w (CallSays seen M o v w lane request r)
  lambda_prepared M o v w lane asked request r is p =
      record { events = p.events; went = p.went; says = any_prepared M o v w lane request r p.events (subst (λ (x : Request). PreparedSays seen M o v w lane x r p.events) is p.says) }

  any_skipped : (M : List Event → Type 0) (o : S) (v w : V) (lane : ℕ) (request : Request) (r : Result Numbered Worn) (es : List Event) → Takes lane M → SkipCallSays seen o v w lane request r es → CallSays seen M o v w lane request r es
  any_skipped M o v w lane request (Ok n) es takes p = (takes.own es (subst (AreOf (Lane lane)) (sym p.0.are) (refl, tt)), inl p)
  any_skipped M o v w lane request (Err x) es takes p = (
    takes.own es (subst (AreOf (Lane lane)) (sym p) tt),
    record {
      open_still = ap calls_of p;
      cut = λ a encode. subst (IsCutOff encode (core_seen C o v) lane request) (sym p) (record { most = []; rest = []; are = refl; short = lit≤ tt; steps = tt; run = refl });
    },
  )

  pub lambda_skipped : (M : List Event → Type 0) (o : S) (v w : V) (lane : ℕ) (request : Request) (r : Result Numbered Worn) → Takes lane M → Does v w (SkipCallSays seen o v w lane request r) → Does v w (CallSays seen M o v w lane request r)
  lambda_skipped M o v w lane request r takes p = record { events = p.events; went = p.went; says = any_skipped M o v w lane request r p.events takes p.says }

  pub alone_there : (o q : S) (u : V) (lane : ℕ) (request asked : Request) → q ≡ o → asked ≡ request → IsAlone (core_seen C o u) lane request → IsAlone (core_seen C q u) lane asked
  alone_there o q u lane request asked same is p = subst (λ (z : S × Request). IsAlone (core_seen C z.0 u) lane z.1) (λ i. (sym same i, sym is i)) p

  -- the lane's own events are among those of the call and worker 0
  own_as : (o : S) (v w : V) (lane : ℕ) (request : Request) (r : Result Numbered Worn) (es : List Event) → LambdaSays seen (AreOf (Lane lane)) o v w lane request r es → LambdaSays seen (AreOfCall lane) o v w lane request r es
  own_as o v w lane request (Ok n) es p = (of_lane lane es p.0, p.1)
  own_as o v w lane request (Err x) es p = (of_lane lane es p.0, p.1, p.2)

  pub own_says : (o : S) (v w : V) (lane : ℕ) (request : Request) (r : Result Numbered Worn) → Does v w (LambdaSays seen (AreOf (Lane lane)) o v w lane request r) → Does v w (LambdaSays seen (AreOfCall lane) o v w lane request r)
  own_says o v w lane request r p = record { events = p.events; went = p.went; says = own_as o v w lane request r p.events p.says }
