-- A call that is to begin, step by step.
use Rattle.std.proofs.Common.{◌≡◌, ℕ, ◌+◌, ◌<◌, ◌≤◌, Bool, true, false, List, [], ◌∷◌, ◌++◌, Some, None, length, refl, sym, ap, ◌∙◌, subst, ⊎_elim, append-nil, append_assoc, arith, lit≤}
use Rattle.std.specs.Prelude.{◌⊎◌, is_some, Result, Ok, Err}
use Rattle.std.specs.Result.{IsErr}
use Rattle.std.specs.declared.snapshot.Snapshot.{Snapshot}
use Rattle.turn_cell.specs.declared.view.View.{View}
use Rattle.turn_cell.specs.declared.pass.Worn.{Worn}
use Rattle.turn_cell.specs.Events.{events_of}
use Rattle.turn_cell.specs.History.{entry, StartsWith}
use Rattle.flash_die.specs.Dies.{DieView}
use Rattle.dispatcher.specs.declared.side.Side.{Side}
use Rattle.plain_files.specs.declared.calls.Numbered.{Numbered}
use Rattle.plain_files.specs.declared.calls.Reply.TheVariants.{Fault}
use Rattle.plain_files.specs.declared.calls.Request.{Request}
use Rattle.core_state.specs.declared.actor.Actor.TheVariants.{Lane}
use Rattle.core_state.specs.declared.event.Event.{Event}
use Rattle.core_state.specs.declared.event.Event.TheVariants.{Quick, Skip, Begin, Evict, Demote, FlushOut, FlushIn}
use Rattle.core_state.specs.State.{Page, Shape, Phase, Held, Flight, DieState, Core}
use Rattle.core_state.specs.Reach.{is_data, is_sync, file_for}
use Rattle.core_state.specs.PlainOf.{plain}
use Rattle.core_state.specs.Coherent.{Coherent}
use Rattle.core_state.specs.Happens.{HoldsNone, May, CoreRun, is_homecoming, after, after_all}
use Rattle.core_state.specs.History.{request_of, calls_of}
use Rattle.core_state.proofs.Runs.{leads_to}
use Rattle.plain_files.specs.Plain.{answer}
use Rattle.core_solo.specs.Solo.{Steps, IsStep, IsNext, room_event}
use Rattle.core_solo.specs.Alone.{HasFrames, IsAlone}
use Rattle.core_solo.specs.Left.{call_left}
use Rattle.core_solo.proofs.Bounds.{stepped}
use Rattle.core_solo.proofs.Falls.{outs_home}
use Rattle.core_solo.proofs.Folds.{append}
use Rattle.core_solo.proofs.Nexts.{home_alone, skip_next, quick_next, begin_next}
use Rattle.core_solo.proofs.Rooms.{AllHome}
use Rattle.core_solo.proofs.Steps.{acting_none, acting_held}
use Rattle.system_state.specs.Cores.{core_of}
use Rattle.system_state.specs.declared.state.State.{State}
use Rattle.system_state.specs.declared.not_yet.NotYet.{NotYet}
use Rattle.system_lanes.specs.Waiting.{awaited_still}
use Rattle.call_job.specs.declared.job.Job.{Job}
use Rattle.desk_turns.specs.Passing.{core_after, core_seen, FoundAt, Went, Does}
use Rattle.desk_turns.proofs.Holding.{shapes_kept}
use Rattle.desk_turns.proofs.Went.{went_on, went_none}
use Rattle.call_begins.specs.Cut.{IsCutOff}
use Rattle.call_begins.specs.Flushing.{HasFailed, IsCutShort}
use Rattle.call_begins.specs.Making.{IsIdleWith, IsFree, IsForRoom, IsWhole, MadeRoom, FailedRoom}
use Rattle.call_begins.specs.Words.{IsNumbered}
use Rattle.call_begins.specs.Steps.{is_marked, ended_event, WantsRoom, WaitsForCall, HasStarted, StepSays, OnSays, WaitSays, JobSays}
use Rattle.call_begins.specs.declared.step.Stage.{Stage}
use Rattle.call_begins.specs.declared.step.Stage.TheVariants.{Idle, Marked}
use Rattle.call_begins.specs.declared.step.BeginStep.{BeginStep}
use Rattle.call_begins.specs.declared.step.BeginStep.TheVariants.{Ended as StepEnded, Started as StepStarted, On as StepOn, Waits as StepWaits}
use Rattle.call_begins.proofs.FlushSteps.{failed_on, run_on}
use Rattle.call_begins.proofs.Frees.{follows_keeps}
use Rattle.call_begins.proofs.Ending.{starts_on, alone_after}
use Rattle.call_starts.specs.Sorting.{sorted}
use Rattle.call_starts.specs.Starting.{AreForRoom, IsNextForRoom, AreNext, HasBegun, HasEnded, StartSays, JobIs}
use Rattle.call_starts.specs.declared.start.Beginning.{Beginning}
use Rattle.call_starts.specs.declared.start.Beginning.TheVariants.{Ended, Started}
use Rattle.call_starts.specs.declared.start.Next.{Next}
use Rattle.call_starts.specs.declared.start.Next.TheVariants.{Come, On, Waits}
use Rattle.call_starts.proofs.Rooming.{room_on, whole_makes, for_room, room_step, home_step, whole_steps, never_for_call, never_for_room, never_awaits}

-- ---- answers

abbrev step_ok : BeginStep → Result BeginStep Worn
step_ok s = Ok s

abbrev begun_ok : Beginning → Result Beginning Worn
begun_ok b = Ok b

abbrev pub step_of : Beginning → BeginStep
step_of (Ended n) = StepEnded n
step_of (Started side) = StepStarted side

come_is : (b c : Beginning) → Come b ≡ Come c → b ≡ c
come_is b c e = cc

pub come_of : (r : BeginStep) (x : Next) (b : Beginning) → x ≡ sorted r → x ≡ Come b → r ≡ step_of b
come_of (StepEnded n) x b s e = ap step_of (come_is (Ended n) b (sym s ∙ e))
come_of (StepStarted side) x b s e = ap step_of (come_is (Started side) b (sym s ∙ e))
come_of (StepOn stage) x b s e = absurd (cc)
come_of StepWaits x b s e = absurd (cc)

pub on_of : (r : BeginStep) (x : Next) (stage : Stage) → x ≡ sorted r → x ≡ On stage → r ≡ StepOn stage
on_of (StepEnded n) x stage s e = absurd (cc)
on_of (StepStarted side) x stage s e = absurd (cc)
on_of (StepOn now) x stage s e = let z : now ≡ stage = cc in ap (λ (y : Stage). StepOn y) z
on_of StepWaits x stage s e = absurd (cc)

pub waits_of : (r : BeginStep) (x : Next) → x ≡ sorted r → x ≡ Waits → r ≡ StepWaits
waits_of (StepEnded n) x s e = absurd (cc)
waits_of (StepStarted side) x s e = absurd (cc)
waits_of (StepOn now) x s e = absurd (cc)
waits_of StepWaits x s e = refl

ended_is : (b : Beginning) (n : Numbered) → begun_ok b ≡ begun_ok (Ended n) → b ≡ Ended n
ended_is b n e = cc

-- a call that has ended, by the step that it ended in
pub ended_told : (r : BeginStep) (b : Beginning) (n : Numbered) → r ≡ step_of b → begun_ok b ≡ begun_ok (Ended n) → step_ok r ≡ step_ok (StepEnded n)
ended_told r b n is e = ap step_ok (is ∙ ap step_of (ended_is b n e))

pub job_come : (c : Core) (lane : ℕ) (first old new : Job) (r : BeginStep) (b : Beginning) → r ≡ step_of b → old ≡ first → JobSays c lane old new (Ok r) → JobIs c lane first new (Ok b)
job_come c lane first old new r (Ended n) is same says = (subst (λ (s : BeginStep). JobSays c lane old new (Ok s)) is says) ∙ same
job_come c lane first old new r (Started side) is same says = subst (λ (s : BeginStep). JobSays c lane old new (Ok s)) is says

pub job_worn : (c : Core) (lane : ℕ) (first old new : Job) (x : Worn) (r : Result Beginning Worn) → IsErr r → old ≡ first → JobSays c lane old new (Err x) → JobIs c lane first new r
job_worn c lane first old new x (Ok b) e same says = absurd (cc)
job_worn c lane first old new x (Err y) e same says = says ∙ same

pub job_on : (c : Core) (lane : ℕ) (old new : Job) (r : BeginStep) (stage : Stage) → r ≡ StepOn stage → JobSays c lane old new (Ok r) → new ≡ old
job_on c lane old new r stage is says = subst (λ (s : BeginStep). JobSays c lane old new (Ok s)) is says

pub job_waits : (c : Core) (lane : ℕ) (old new : Job) (r : BeginStep) → r ≡ StepWaits → JobSays c lane old new (Ok r) → new ≡ old
job_waits c lane old new r is says = subst (λ (s : BeginStep). JobSays c lane old new (Ok s)) is says

-- ---- over the core alone

home_idle : (m : Bool) (c : Core) (lane : ℕ) (request : Request) → IsAlone c lane request → IsIdleWith m c lane → AllHome c
home_idle m c lane request alone at = home_alone c lane request alone (subst (HoldsNone c) (sym (acting_none c lane at.idle.idle)) at.none)

some_longer : (e : Event) (es : List Event) → 1 ≤ length (e ∷ es)
some_longer e es = omega arith

one_long : (e : Event) → length (e ∷ []) ≤ 1
one_long e = omega arith

abbrev no_page : Core → ℕ → Page
no_page c n = []

-- what some steps of the call leave of a core in which it is alone
pub leaves_alone : (c d : Core) (lane : ℕ) (request : Request) (es : List Event) → Coherent c → IsAlone c lane request → Steps (IsStep no_page lane request) c es → CoreRun c es d → IsAlone d lane request
leaves_alone c d lane request es h alone steps run = (stepped no_page es c d lane request request h alone steps run).alone

left_falls : (c d : Core) (lane : ℕ) (request : Request) (m n : Bool) (es : List Event) → Coherent c → IsAlone c lane request → IsIdleWith m c lane → IsIdleWith n d lane → 1 ≤ length es → Steps (IsStep no_page lane request) c es → CoreRun c es d → call_left d lane < call_left c lane
left_falls c d lane request m n es h alone at at_d some steps run =
    let s = stepped no_page es c d lane request request h alone steps run in
    let y = outs_home c (home_idle m c lane request alone at) in
    let z = outs_home d (home_idle n d lane request s.alone at_d) in
    let f = s.falls in
    omega arith

-- the event that ends the call keeps all dies as they are
ended_home : (c d : Core) (lane : ℕ) (request : Request) (n : Numbered) (stage : Stage) → CoreRun c (ended_event stage lane request n ∷ []) d → AllHome c → AllHome d
ended_home c d lane request n Idle run home = λ die. ap (λ (x : Core). (x.dies die).out) run.1 ∙ (ap (λ (f : ℕ → DieState). (f die).out) (follows_keeps c (file_for c.names.files request.call) (answer (plain c) request.call).state).dies ∙ home die)
ended_home c d lane request n Marked run home = λ die. ap (λ (x : Core). (x.dies die).out) run.1 ∙ home die

-- the event that ends it is its next one
ended_next : (encode : Core → ℕ → Page) (c d : Core) (lane : ℕ) (request : Request) (n : Numbered) (stage : Stage) → IsIdleWith (is_marked stage) c lane → CoreRun c (ended_event stage lane request n ∷ []) d → IsNext encode lane request c (ended_event stage lane request n)
ended_next encode c d lane request n Idle at run = quick_next encode c lane request n.reply run.0.may
ended_next encode c d lane request n Marked at run = skip_next encode c lane request at.idle.idle at.mark

ended_answers : (stage : Stage) (lane : ℕ) (request : Request) (n : Numbered) → is_some (request_of (ended_event stage lane request n)) ≡ true
ended_answers Idle lane request n = refl
ended_answers Marked lane request n = refl

module _ {D : Type 0} (seen : D → DieView) where
  abbrev C : State D Job → Core
  C = core_of seen

  abbrev S : Type 0
  S = Snapshot (State D Job)

  abbrev V : Type 0
  V = View (Snapshot (State D Job)) Event

  -- ---- events for room, one after the other

  next_later : (o : S) (v u w : V) (lane : ℕ) (es : List Event) → StartsWith w.seen u.seen → w.number ≡ u.number → AreNext seen o v u lane es → AreNext seen o v w lane es
  next_later o v u w lane [] starts number p = tt
  next_later o v u w lane (e ∷ es) starts number p = ((λ no. found_later (p.0 no)), next_later o v u w lane es starts number p.1)
    where
      found_later : FoundAt C o v u e (IsNextForRoom lane e) → FoundAt C o v w e (IsNextForRoom lane e)
      found_later f =
          record {
            before = f.before;
            rest = f.rest ++ starts.0;
            since = f.since;
            seen = starts.1 ∙ (ap (λ z. z ++ starts.0) (f.seen ∙ (λ k. f.before ++ entry (sym number k) e ∷ f.rest)) ∙ append_assoc f.before (entry w.number e ∷ f.rest) starts.0);
            says = f.says;
          }

  found_earlier : (o : S) (v u w : V) (e : Event) (P : Core → Type 0) → StartsWith u.seen v.seen → FoundAt C o u w e P → FoundAt C o v w e P
  found_earlier o v u w e P starts f = record { before = f.before; rest = f.rest; since = starts_on v.seen u.seen f.before starts f.since; seen = f.seen; says = f.says }

  next_earlier : (o : S) (v u w : V) (lane : ℕ) (es : List Event) → StartsWith u.seen v.seen → AreNext seen o u w lane es → AreNext seen o v w lane es
  next_earlier o v u w lane [] starts p = tt
  next_earlier o v u w lane (e ∷ es) starts p = ((λ no. found_earlier o v u w e (IsNextForRoom lane e) starts (p.0 no)), next_earlier o v u w lane es starts p.1)

  next_on : (o : S) (v w : V) (lane : ℕ) (es fs : List Event) → AreNext seen o v w lane es → AreNext seen o v w lane fs → AreNext seen o v w lane (es ++ fs)
  next_on o v w lane [] fs p q = q
  next_on o v w lane (e ∷ es) fs p q = (p.0, next_on o v w lane es fs p.1 q)

  failed_still : (o : S) (v u w : V) (die : ℕ) → StartsWith w.seen u.seen → HasFailed seen o v u die → HasFailed seen o v w die
  failed_still o v u w die starts f = record { h = f.h; since = f.since; until = starts_on f.h u.seen w.seen f.until starts; left = f.left; now = f.now; stood = f.stood; rose = f.rose }

  -- ---- one step of room

  -- Room was made, or a flush has failed.
  record Roomed (o : S) (v w : V) (lane : ℕ) (request : Request) (next : Stage) (es : List Event) : Type 0 where
    room : AreForRoom lane es
    are_next : AreNext seen o v w lane es
    failed : next ≡ Marked → (die : ℕ) × HasFailed seen o v w die
    at : IsIdleWith (is_marked next) (core_seen C o w) lane
    some : 1 ≤ length es
    run : v.alone ≡ true → CoreRun (core_seen C o v) es (core_seen C o w)
    steps : v.alone ≡ true → (encode : Core → ℕ → Page) → Steps (IsStep encode lane request) (core_seen C o v) es

  first_next : (o : S) (v w : V) (lane : ℕ) (side : Side) (e : Event) → FoundAt C o v w e (IsForRoom lane side e) → FoundAt C o v w e (IsNextForRoom lane e)
  first_next o v w lane side e f = record { before = f.before; rest = f.rest; since = f.since; seen = f.seen; says = (side, f.says) }

  whole_next : (o : S) (v w : V) (lane : ℕ) (e : Event) (rest : List Event) → IsWhole lane e rest → AreNext seen o v w lane rest
  whole_next o v w lane (Evict actor side block) rest p = subst (AreNext seen o v w lane) (sym p) tt
  whole_next o v w lane (Demote actor block) rest p = subst (AreNext seen o v w lane) (sym p) tt
  whole_next o v w lane (FlushOut actor die block) rest p = subst (AreNext seen o v w lane) (sym p.1) (λ no. absurd (cc), tt)
  whole_next o v w lane _ rest p = absurd p

  made : (o : S) (v w : V) (lane : ℕ) (request : Request) (side : Side) (es : List Event) → (is_data request.call ≡ true) ⊎ (is_sync request.call ≡ true) → IsFree (core_seen C o v) lane → (v.alone ≡ true → WantsRoom request side (core_seen C o v)) → MadeRoom seen o v w lane side es → Roomed o v w lane request Idle es
  made o v w lane request side es kind free wants m =
      let c = core_seen C o v in
      record {
        room = subst (AreForRoom lane) (sym m.are) (for_room (core_after C o m.found.before) lane side m.event m.found.says, whole_makes lane m.event m.rest m.whole);
        are_next = subst (AreNext seen o v w lane) (sym m.are) ((λ no. first_next o v w lane side m.event m.found), whole_next o v w lane m.event m.rest m.whole);
        failed = λ e. absurd (cc);
        at = m.after;
        some = subst (λ (xs : List Event). 1 ≤ length xs) (sym m.are) (some_longer m.event m.rest);
        run = m.run;
        steps = λ a encode. subst (Steps (IsStep encode lane request) c) (sym m.are) (room_step encode c lane request side m.event kind free (wants a) (m.first a), whole_steps encode c lane request m.event m.rest free.idle.idle m.whole);
      }

  failed_room : (o : S) (v w : V) (lane : ℕ) (request : Request) (side : Side) (es : List Event) → (is_data request.call ≡ true) ⊎ (is_sync request.call ≡ true) → IsFree (core_seen C o v) lane → (v.alone ≡ true → WantsRoom request side (core_seen C o v)) → FailedRoom seen o v w lane side es → Roomed o v w lane request Marked es
  failed_room o v w lane request side es kind free wants m =
      let c = core_seen C o v in
      let out = FlushOut (Lane lane) m.die m.block in
      record {
        room = subst (AreForRoom lane) (sym m.are) (refl, (refl, tt));
        are_next = subst (AreNext seen o v w lane) (sym m.are) ((λ no. first_next o v w lane side out m.found), ((λ no. absurd (cc)), tt));
        failed = λ e. (m.die, m.failed);
        at = m.after;
        some = subst (λ (xs : List Event). 1 ≤ length xs) (sym m.are) (some_longer out (FlushIn (Lane lane) m.die false m.left ∷ []));
        run = m.run;
        steps = λ a encode. subst (Steps (IsStep encode lane request) c) (sym m.are) (room_step encode c lane request side out kind free (wants a) (m.first a), home_step encode (after c out) lane request m.die false m.left free.idle.idle);
      }

  roomed : (o : S) (v w : V) (lane : ℕ) (request : Request) (next : Stage) (es : List Event) → (is_data request.call ≡ true) ⊎ (is_sync request.call ≡ true) → IsFree (core_seen C o v) lane → OnSays seen o v w lane request next es → Roomed o v w lane request next es
  roomed o v w lane request Idle es kind free p = made o v w lane request p.0 es kind free p.1.alone p.2
  roomed o v w lane request Marked es kind free p = failed_room o v w lane request p.0 es kind free p.1.alone p.2

  -- ---- so far

  -- Room was made. Where the pass is alone these are steps of the call, which is still alone.
  pub record Going (o : S) (v u : V) (lane : ℕ) (request : Request) (stage : Stage) (es : List Event) : Type 0 where
    pub room : AreForRoom lane es
    pub are_next : AreNext seen o v u lane es
    pub failed : stage ≡ Marked → (die : ℕ) × HasFailed seen o v u die
    pub at : IsIdleWith (is_marked stage) (core_seen C o u) lane
    pub run : v.alone ≡ true → CoreRun (core_seen C o v) es (core_seen C o u)
    pub steps : v.alone ≡ true → (encode : Core → ℕ → Page) → Steps (IsStep encode lane request) (core_seen C o v) es
    pub alone : v.alone ≡ true → IsAlone (core_seen C o v) lane request → IsAlone (core_seen C o u) lane request

  pub going_none : (o : S) (v : V) (lane : ℕ) (request : Request) → IsFree (core_seen C o v) lane → Does v v (Going o v v lane request Idle)
  going_none o v lane request free =
      record {
        events = [];
        went = went_none v;
        says = record { room = tt; are_next = tt; failed = λ e. absurd (cc); at = free; run = λ a. refl; steps = λ a encode. tt; alone = λ a p. p };
      }

  -- of a request that is the same
  pub asked_as : (q : S) (u w : V) (lane : ℕ) (x y : Request) (stage : Stage) (r : Result BeginStep Worn) → x ≡ y → Does u w (StepSays seen q u w lane x stage r) → Does u w (StepSays seen q u w lane y stage r)
  asked_as q u w lane x y stage r is p = subst (λ (z : Request). Does u w (StepSays seen q u w lane z stage r)) is p

  number_is : (v u : V) (es : List Event) → Went v u es → u.number ≡ v.number
  number_is v u es w = ap (λ (z : V). z.number) w.pass

  told : (o q : S) (u w : V) (lane : ℕ) (request : Request) (stage : Stage) (r s : BeginStep) (fs : List Event) → q ≡ o → r ≡ s → StepSays seen q u w lane request stage (Ok r) fs → StepSays seen o u w lane request stage (Ok s) fs
  told o q u w lane request stage r s fs same is p = subst (λ (z : Snapshot (State D Job) × BeginStep). StepSays seen z.0 u w lane request stage (Ok z.1) fs) (λ i. (same i, is i)) p

  -- the core that the steps led to
  led : (o : S) (v u : V) (es : List Event) → CoreRun (core_seen C o v) es (core_seen C o u) → after_all (core_seen C o v) es ≡ core_seen C o u
  led o v u es r = sym (leads_to es (core_seen C o v) (core_seen C o u) r)

  step_room : (o q : S) (v u w : V) (lane : ℕ) (request : Request) (stage next : Stage) (r : BeginStep) → q ≡ o → r ≡ StepOn next → (is_data request.call ≡ true) ⊎ (is_sync request.call ≡ true) → Does v u (Going o v u lane request stage) → (n : Does u w (StepSays seen q u w lane request stage (Ok r))) →
      Roomed o u w lane request next n.events
  step_room o q v u w lane request stage next r same is kind p n =
      let k = told o q u w lane request stage r (StepOn next) n.events same is n.says in
      roomed o u w lane request next n.events kind (subst (λ (s : Stage). IsIdleWith (is_marked s) (core_seen C o u) lane) k.0 p.says.at) k.1

  pub on_step : (o q : S) (v u w : V) (lane : ℕ) (request : Request) (stage next : Stage) (r : BeginStep) → q ≡ o → r ≡ StepOn next → (is_data request.call ≡ true) ⊎ (is_sync request.call ≡ true) → (u.alone ≡ true → Coherent (core_seen C q u)) → Does v u (Going o v u lane request stage) →
      Does u w (StepSays seen q u w lane request stage (Ok r)) → Does v w (Going o v w lane request next)
  on_step o q v u w lane request stage next r same is kind begins p n =
      let es = p.events in
      let fs = n.events in
      let g = p.says in
      let k = step_room o q v u w lane request stage next r same is kind p n in
      let c = core_seen C o v in
      let d = core_seen C o u in
      let too : v.alone ≡ true → u.alone ≡ true = alone_after seen v u es p.went in
      record {
        events = es ++ fs;
        went = went_on v u w es fs p.went n.went;
        says = record {
          room = room_on lane es fs g.room k.room;
          are_next = next_on o v w lane es fs (next_later o v u w lane es n.went.seen (number_is u w fs n.went) g.are_next) (next_earlier o v u w lane fs p.went.seen k.are_next);
          failed = λ m. let f = k.failed m in (f.0, failed_on seen o v u w f.0 p.went.seen f.1);
          at = k.at;
          run = λ a. run_on es fs c d (core_seen C o w) (g.run a) (k.run (too a));
          steps = λ a encode. append (IsStep encode lane request) es fs c (g.steps a encode) (subst (λ (x : Core). Steps (IsStep encode lane request) x fs) (sym (led o v u es (g.run a))) (k.steps (too a) encode));
          alone = λ a x. leaves_alone d (core_seen C o w) lane request fs (subst (λ (z : S). Coherent (core_seen C z u)) same (begins (too a))) (g.alone a x) (k.steps (too a) no_page) (k.run (too a));
        };
      }

  waits_none : (o : S) (u w : V) (lane : ℕ) (request : Request) (stage : Stage) (fs : List Event) → WaitSays seen o u w lane request stage fs → (fs ≡ []) × IsIdleWith (is_marked stage) (core_seen C o w) lane × (u.alone ≡ true → core_seen C o w ≡ core_seen C o u)
  waits_none o u w lane request Idle fs p = ⊎_elim (λ x. (x.are, x.after, x.same)) (λ x. (x.2.are, x.2.after, x.2.same)) p
  waits_none o u w lane request Marked fs p = (p.are, p.after, p.same)

  pub waits_on : (o q : S) (v u w : V) (lane : ℕ) (request : Request) (stage : Stage) (r : BeginStep) → q ≡ o → r ≡ StepWaits → Does v u (Going o v u lane request stage) → Does u w (StepSays seen q u w lane request stage (Ok r)) → Does v w (Going o v w lane request stage)
  waits_on o q v u w lane request stage r same is p n =
      let es = p.events in
      let fs = n.events in
      let g = p.says in
      let k = waits_none o u w lane request stage fs (told o q u w lane request stage r StepWaits fs same is n.says) in
      let none : es ++ fs ≡ es = ap (λ (xs : List Event). es ++ xs) k.0 ∙ append-nil es in
      let too : v.alone ≡ true → u.alone ≡ true = alone_after seen v u es p.went in
      record {
        events = es ++ fs;
        went = went_on v u w es fs p.went n.went;
        says = subst (Going o v w lane request stage) (sym none) (record {
          room = g.room;
          are_next = next_later o v u w lane es n.went.seen (number_is u w fs n.went) g.are_next;
          failed = λ m. let f = g.failed m in (f.0, failed_still o v u w f.0 n.went.seen f.1);
          at = k.1;
          run = λ a. subst (λ (x : Core). CoreRun (core_seen C o v) es x) (sym (k.2 (too a))) (g.run a);
          steps = g.steps;
          alone = λ a x. subst (λ (d : Core). IsAlone d lane request) (sym (k.2 (too a))) (g.alone a x);
        });
      }

  -- ---- it has come to its begin, or to its end

  ended : (o : S) (v u w : V) (lane : ℕ) (request : Request) (stage : Stage) (n : Numbered) (fs : List Event) → (p : Does v u (Going o v u lane request stage)) → Went u w fs → StepSays seen o u w lane request stage (Ok (StepEnded n)) fs → HasEnded seen o v w lane request n (p.events ++ fs)
  ended o v u w lane request stage n fs p went k =
      let es = p.events in
      let g = p.says in
      let e = ended_event stage lane request n in
      let c = core_seen C o v in
      let d = core_seen C o u in
      let too : v.alone ≡ true → u.alone ≡ true = alone_after seen v u es p.went in
      let all : es ++ fs ≡ es ++ e ∷ [] = ap (λ (xs : List Event). es ++ xs) k.0.are in
      record {
        stage = stage;
        before = es;
        are = all;
        room = g.room;
        next = next_later o v u w lane es went.seen (number_is u w fs went) g.are_next;
        fault = λ m. let f = g.failed m in (k.1 m, (f.0, failed_still o v u w f.0 went.seen f.1));
        found = found_earlier o v u w e (λ (x : Core). May x e) p.went.seen k.0.found;
        after = k.0.after;
        coherent = k.0.coherent;
        run = λ a. run_on es fs c d (core_seen C o w) (g.run a) (k.0.run (too a));
        solo = λ a encode.
            let run : CoreRun d (e ∷ []) (core_seen C o w) = subst (λ (xs : List Event). CoreRun d xs (core_seen C o w)) k.0.are (k.0.run (too a)) in
            record {
              most = es;
              last = e;
              whole = all;
              steps = g.steps a encode;
              next = subst (λ (x : Core). IsNext encode lane request x e) (sym (led o v u es (g.run a))) (ended_next encode d (core_seen C o w) lane request n stage g.at run);
              answers = ended_answers stage lane request n;
            };
      }

  begun : (o : S) (v u w : V) (lane : ℕ) (request : Request) (stage : Stage) (side : Side) (fs : List Event) → (p : Does v u (Going o v u lane request stage)) → Went u w fs → StepSays seen o u w lane request stage (Ok (StepStarted side)) fs → HasBegun seen o v w lane request side (p.events ++ fs)
  begun o v u w lane request stage side fs p went k =
      let es = p.events in
      let g = p.says in
      let e = Begin lane request side in
      let c = core_seen C o v in
      let d = core_seen C o u in
      let too : v.alone ≡ true → u.alone ≡ true = alone_after seen v u es p.went in
      record {
        before = es;
        are = ap (λ (xs : List Event). es ++ xs) k.1.are;
        room = g.room;
        next = next_later o v u w lane es went.seen (number_is u w fs went) g.are_next;
        found = found_earlier o v u w e (λ (x : Core). May x e) p.went.seen k.1.found;
        start = k.1.start;
        coherent = k.1.coherent;
        run = λ a. run_on es fs c d (core_seen C o w) (g.run a) (k.1.run (too a));
        steps = λ a encode. append (IsStep encode lane request) es fs c (g.steps a encode) (subst (λ (x : Core). Steps (IsStep encode lane request) x fs) (sym (led o v u es (g.run a))) (begin_steps o u w lane request side fs k.1 (too a) encode));
      }
    where
      begin_steps : (o : S) (u w : V) (lane : ℕ) (request : Request) (side : Side) (fs : List Event) → HasStarted seen o u w lane request side fs → u.alone ≡ true → (encode : Core → ℕ → Page) → Steps (IsStep encode lane request) (core_seen C o u) fs
      begin_steps o u w lane request side fs s a encode =
          let d = core_seen C o u in
          let run : CoreRun d (Begin lane request side ∷ []) (core_seen C o w) = subst (λ (xs : List Event). CoreRun d xs (core_seen C o w)) s.are (s.run a) in
          subst (Steps (IsStep encode lane request) d) (sym s.are) (record { next = begin_next encode d lane request side run.0.may; open_still = refl }, tt)

  come : (o : S) (v u w : V) (lane : ℕ) (request : Request) (stage : Stage) (b : Beginning) (fs : List Event) → (p : Does v u (Going o v u lane request stage)) → Went u w fs → StepSays seen o u w lane request stage (Ok (step_of b)) fs → StartSays seen o v w lane request (Ok b) (p.events ++ fs)
  come o v u w lane request stage (Ended n) fs p went k = ended o v u w lane request stage n fs p went k
  come o v u w lane request stage (Started side) fs p went k = begun o v u w lane request stage side fs p went k

  pub come_on : (o q : S) (v u w : V) (lane : ℕ) (request : Request) (stage : Stage) (r : BeginStep) (b : Beginning) → q ≡ o → r ≡ step_of b → Does v u (Going o v u lane request stage) → Does u w (StepSays seen q u w lane request stage (Ok r)) → Does v w (StartSays seen o v w lane request (Ok b))
  come_on o q v u w lane request stage r b same is p n =
      record {
        events = p.events ++ n.events;
        went = went_on v u w p.events n.events p.went n.went;
        says = come o v u w lane request stage b n.events p n.went (told o q u w lane request stage r (step_of b) n.events same is n.says);
      }

  cut_room : (lane : ℕ) (fs : List Event) → IsCutShort (Lane lane) fs → AreForRoom lane fs
  cut_room lane fs p = ⊎_elim (λ (e : fs ≡ []). subst (AreForRoom lane) (sym e) tt)
      (λ (z : (die : ℕ) × (block : ℕ) × (fs ≡ FlushOut (Lane lane) die block ∷ [])). subst (AreForRoom lane) (sym z.2) (refl, tt)) p

  cut_short : (lane : ℕ) (fs : List Event) → IsCutShort (Lane lane) fs → length fs ≤ 1
  cut_short lane fs p = ⊎_elim (λ (e : fs ≡ []). subst (λ (xs : List Event). length xs ≤ 1) (sym e) (lit≤ tt))
      (λ (z : (die : ℕ) × (block : ℕ) × (fs ≡ FlushOut (Lane lane) die block ∷ [])). subst (λ (xs : List Event). length xs ≤ 1) (sym z.2) (one_long (FlushOut (Lane lane) z.0 z.1))) p

  pub worn_on : (o q : S) (v u w : V) (lane : ℕ) (request : Request) (stage : Stage) (x : Worn) (r : Result Beginning Worn) → q ≡ o → IsErr r → Does v u (Going o v u lane request stage) → Does u w (StepSays seen q u w lane request stage (Err x)) → Does v w (StartSays seen o v w lane request r)
  worn_on o q v u w lane request stage x (Ok b) same e p n = absurd (cc)
  worn_on o q v u w lane request stage x (Err y) same e p n =
      record { events = p.events ++ n.events; went = went_on v u w p.events n.events p.went n.went; says = (room_on lane p.events n.events p.says.room (cut_room lane n.events n.says), cut) }
    where
      cut : v.alone ≡ true → (encode : Core → ℕ → Page) → IsCutOff encode (core_seen C o v) lane request (p.events ++ n.events)
      cut a encode =
          let c = core_seen C o v in
          let run = p.says.run a in
          record { most = p.events; rest = n.events; are = refl; short = cut_short lane n.events n.says; steps = p.says.steps a encode; run = subst (λ (z : Core). CoreRun c p.events z) (leads_to p.events c (core_seen C o u) run) run }

  -- ---- alone

  pub on_falls : (o q : S) (v u w : V) (lane : ℕ) (request : Request) (stage next : Stage) (r : BeginStep) → q ≡ o → r ≡ StepOn next → (is_data request.call ≡ true) ⊎ (is_sync request.call ≡ true) → (u.alone ≡ true → Coherent (core_seen C q u)) → v.alone ≡ true → IsAlone (core_seen C o v) lane request →
      Does v u (Going o v u lane request stage) → Does u w (StepSays seen q u w lane request stage (Ok r)) → call_left (core_seen C o w) lane < call_left (core_seen C o u) lane
  on_falls o q v u w lane request stage next r same is kind begins a alone p n =
      let k = step_room o q v u w lane request stage next r same is kind p n in
      let too = alone_after seen v u p.events p.went a in
      left_falls (core_seen C o u) (core_seen C o w) lane request (is_marked stage) (is_marked next) n.events (subst (λ (z : S). Coherent (core_seen C z u)) same (begins too)) (p.says.alone a alone) p.says.at k.at k.some (k.steps too no_page) (k.run too)

  shape_at : (o : S) (u : V) → (core_seen C o u).shape ≡ (C o.value).shape
  shape_at o u = shapes_kept (events_of u.seen) (C o.value)

  still_never : (o : S) (u w : V) (lane : ℕ) (request : Request) (stage : Stage) (fs : List Event) → HasFrames (C o.value).shape → u.alone ≡ true → Coherent (core_seen C o u) → IsAlone (core_seen C o u) lane request → IsIdleWith (is_marked stage) (core_seen C o u) lane → WaitSays seen o u w lane request stage fs → ⊥
  still_never o u w lane request Idle fs frames a h alone at p =
      let c = core_seen C o u in
      ⊎_elim (λ x. never_for_call c lane request alone at.idle.idle (subst (WaitsForCall request) (x.same a) x.because))
      (λ x. never_for_room c lane request x.0 h (subst HasFrames (sym (shape_at o u)) frames) alone at (x.1.alone a) (subst (λ (d : Core). room_event d (Lane lane) x.0 ≡ None) (x.2.same a) x.2.because)) p
  still_never o u w lane request Marked fs frames a h alone at p =
      let y = subst (λ (d : Core). (why : NotYet) × (awaited_still d.lanes request.awaits ≡ Some why)) (p.same a) p.because in
      never_awaits (core_seen C o u) lane request y.0 alone y.1

  pub never_waits : (o q : S) (v u w : V) (lane : ℕ) (request : Request) (stage : Stage) (r : BeginStep) → q ≡ o → r ≡ StepWaits → HasFrames (C o.value).shape → (u.alone ≡ true → Coherent (core_seen C q u)) → v.alone ≡ true → IsAlone (core_seen C o v) lane request → Does v u (Going o v u lane request stage) →
      Does u w (StepSays seen q u w lane request stage (Ok r)) → ⊥
  never_waits o q v u w lane request stage r same is frames begins a alone p n =
      let too = alone_after seen v u p.events p.went a in
      still_never o u w lane request stage n.events frames too (subst (λ (z : S). Coherent (core_seen C z u)) same (begins too)) (p.says.alone a alone) p.says.at (told o q u w lane request stage r StepWaits n.events same is n.says)

  -- all dies are at home in the end, and a call that has begun is alone
  begun_alone : (o : S) (v u w : V) (lane : ℕ) (request : Request) (stage : Stage) (side : Side) (fs : List Event) → v.alone ≡ true → Coherent (core_seen C o u) → IsAlone (core_seen C o u) lane request → u.alone ≡ true → StepSays seen o u w lane request stage (Ok (StepStarted side)) fs → IsAlone (core_seen C o w) lane request
  begun_alone o v u w lane request stage side fs a h alone too k =
      let d = core_seen C o u in
      let run : CoreRun d (Begin lane request side ∷ []) (core_seen C o w) = subst (λ (xs : List Event). CoreRun d xs (core_seen C o w)) k.1.are (k.1.run too) in
      leaves_alone d (core_seen C o w) lane request (Begin lane request side ∷ []) h alone (record { next = begin_next no_page d lane request side run.0.may; open_still = refl }, tt) run

  started_is : (b : Beginning) (side : Side) → begun_ok b ≡ begun_ok (Started side) → b ≡ Started side
  started_is b side e = cc

  pub still_alone : (o q : S) (v u w : V) (lane : ℕ) (request : Request) (stage : Stage) (r : BeginStep) (b : Beginning) (side : Side) → q ≡ o → r ≡ step_of b → begun_ok b ≡ begun_ok (Started side) → (u.alone ≡ true → Coherent (core_seen C q u)) → v.alone ≡ true → IsAlone (core_seen C o v) lane request → Does v u (Going o v u lane request stage) →
      Does u w (StepSays seen q u w lane request stage (Ok r)) → IsAlone (core_seen C o w) lane request
  still_alone o q v u w lane request stage r b side same is e begins a alone p n =
      let too = alone_after seen v u p.events p.went a in
      begun_alone o v u w lane request stage side n.events a (subst (λ (z : S). Coherent (core_seen C z u)) same (begins too)) (p.says.alone a alone) too (told o q u w lane request stage r (StepStarted side) n.events same (is ∙ ap step_of (started_is b side e)) n.says)

  pub home_then : (o q : S) (v u w : V) (lane : ℕ) (request : Request) (stage : Stage) (r : BeginStep) (b : Beginning) → q ≡ o → r ≡ step_of b → (u.alone ≡ true → Coherent (core_seen C q u)) → v.alone ≡ true → IsAlone (core_seen C o v) lane request → Does v u (Going o v u lane request stage) →
      Does u w (StepSays seen q u w lane request stage (Ok r)) → AllHome (core_seen C o w)
  home_then o q v u w lane request stage r (Ended m) same is begins a alone p n =
      let too = alone_after seen v u p.events p.went a in
      let d = core_seen C o u in
      let k = told o q u w lane request stage r (StepEnded m) n.events same is n.says in
      ended_home d (core_seen C o w) lane request m stage (subst (λ (xs : List Event). CoreRun d xs (core_seen C o w)) k.0.are (k.0.run too)) (home_idle (is_marked stage) d lane request (p.says.alone a alone) p.says.at)
  home_then o q v u w lane request stage r (Started side) same is begins a alone p n =
      let d = core_seen C o w in
      let x = still_alone o q v u w lane request stage r (Started side) side same is refl begins a alone p n in
      let s = (told o q u w lane request stage r (StepStarted side) n.events same is n.says).1.start in
      home_alone d lane request x (subst (HoldsNone d) (sym (acting_held d lane s.call s.flies s.held)) s.none)

  pub numbered_as : (o q : S) (w : V) (lane : ℕ) (x y : Request) (n : Numbered) → q ≡ o → x ≡ y → IsNumbered q.value.last (calls_of (events_of w.seen)) n.number (record { lane = lane; call = x.call; reply = n.reply }) →
      IsNumbered o.value.last (calls_of (events_of w.seen)) n.number (record { lane = lane; call = y.call; reply = n.reply })
  numbered_as o q w lane x y n same is k =
      subst (λ (z : Snapshot (State D Job) × Request). IsNumbered z.0.value.last (calls_of (events_of w.seen)) n.number (record { lane = lane; call = z.1.call; reply = n.reply })) (λ i. (same i, is i)) k
