-- A `sync`, step by step.
use Rattle.std.proofs.Common.{◌≡◌, ℕ, ◌+◌, ◌*◌, ◌<◌, ◌≤◌, Bool, true, false, List, [], ◌∷◌, ◌++◌, refl, sym, ap, ◌∙◌, subst, ⊎_elim, append-nil, length-append, lit≤, arith}
use Rattle.std.specs.Prelude.{◌≢◌, ◌⊎◌, length, Result, Ok, Err}
use Rattle.std.specs.Result.{IsErr}
use Rattle.std.specs.declared.snapshot.Snapshot.{Snapshot}
use Rattle.turn_cell.specs.declared.view.View.{View}
use Rattle.turn_cell.specs.declared.pass.Worn.{Worn}
use Rattle.turn_cell.specs.History.{StartsWith}
use Rattle.flash_die.specs.Dies.{DieView}
use Rattle.index_lists.specs.Words.{one_if}
use Rattle.plain_files.specs.History.{Entry as CallEntry}
use Rattle.plain_files.specs.declared.calls.Numbered.{Numbered}
use Rattle.plain_files.specs.declared.calls.Request.{Request}
use Rattle.core_state.specs.declared.actor.Actor.TheVariants.{Lane}
use Rattle.core_state.specs.declared.event.Event.{Event}
use Rattle.core_state.specs.declared.event.Event.TheVariants.{End}
use Rattle.core_state.specs.State.{Core}
use Rattle.core_state.specs.Coherent.{Coherent}
use Rattle.core_state.specs.Happens.{HoldsNone, CoreRun, after_all}
use Rattle.core_state.specs.History.{calls_of, failures}
use Rattle.core_state.proofs.Runs.{leads_to}
use Rattle.core_solo.specs.Solo.{Steps, IsStep, IsNext}
use Rattle.core_solo.specs.Alone.{IsAlone}
use Rattle.core_solo.specs.Left.{call_left}
use Rattle.core_solo.proofs.Asks.{calls_both}
use Rattle.core_solo.proofs.Bounds.{stepped, steps_short}
use Rattle.core_solo.proofs.Falls.{outs_home}
use Rattle.core_solo.proofs.Folds.{append}
use Rattle.core_solo.proofs.Nexts.{home_alone}
use Rattle.core_solo.proofs.Rooms.{AllHome}
use Rattle.core_solo.proofs.Steps.{acting_none}
use Rattle.system_state.specs.Cores.{core_of}
use Rattle.system_state.specs.declared.state.State.{State}
use Rattle.system_metas.specs.Encode.{encode}
use Rattle.desk_turns.specs.Making.{AreOf}
use Rattle.desk_turns.specs.Passing.{ActsFor, core_after, core_seen, Turn, Went, Does}
use Rattle.desk_turns.proofs.Holding.{coherent_all}
use Rattle.desk_turns.proofs.Went.{of_on, went_on, went_turn}
use Rattle.quick_calls.specs.Flushing.{HasFailed}
use Rattle.quick_calls.proofs.FlushSteps.{failed_on}
use Rattle.quick_calls.specs.Making.{IsFree}
use Rattle.quick_calls.proofs.Ending.{idle_at, found_alone, starts_on}
use Rattle.sync_calls.specs.Stages.{AtStage, is_failed, quiet_left, HasGoneOn, HasWaited, HasReplied, StepSays}
use Rattle.sync_calls.specs.Sync.{SyncCallSays}
use Rattle.sync_calls.specs.declared.stages.Stage.{Stage}
use Rattle.sync_calls.specs.declared.stages.Stage.TheVariants.{Idle, Flush, Store, Failed}
use Rattle.sync_calls.specs.declared.stages.SyncStep.{SyncStep}
use Rattle.sync_calls.specs.declared.stages.SyncStep.TheVariants.{On, Replied, Waits}
use Rattle.sync_calls.proofs.Stepping.{run_on, home_of}

-- ---- over the core alone

plus_zero : (n : ℕ) → n ≡ 0 + n
plus_zero n = omega arith

failures_both : (es fs : List Event) → failures (es ++ fs) ≡ failures es + failures fs
failures_both [] fs = plus_zero (failures fs)
failures_both (e ∷ es) fs = let k = failures_both es fs in omega arith

-- nobody has a die where the call is alone and its lane has none
pub home_at : (t : Bool) (c : Core) (lane : ℕ) (request : Request) (count : ℕ) (stage : Stage) → IsAlone c lane request → AtStage t c lane request count stage → AllHome c
home_at t c lane request count Idle alone free = home_alone c lane request alone (subst (HoldsNone c) (sym (acting_none c lane free.idle.idle)) free.none)
home_at t c lane request count Flush alone at = home_of false c lane request 0 alone at.0 at.1
home_at t c lane request count (Store number) alone at = home_of false c lane request number alone at.0 at.1
home_at t c lane request count Failed alone at = home_of true c lane request at.1.0 alone at.0 at.1.1

few_quiet : (stage : Stage) → quiet_left stage ≤ 1
few_quiet Idle = omega arith
few_quiet Flush = omega arith
few_quiet (Store number) = omega arith
few_quiet Failed = omega arith

-- what is left: events, and a quiet step
abbrev pub sync_left : Core → ℕ → Stage → ℕ
sync_left c lane stage = 2 * call_left c lane + quiet_left stage

some_events : (es : List Event) → es ≢ [] → 1 ≤ length es
some_events [] ne = absurd (ne refl)
some_events (e ∷ es) ne = omega arith

left_falls : (c d : Core) (lane : ℕ) (request : Request) (count : ℕ) (t u : Bool) (stage next : Stage) (es : List Event) → Coherent c → IsAlone c lane request → AtStage t c lane request count stage → AtStage u d lane request count next → Steps (IsStep encode lane request) c es → CoreRun c es d → (es ≢ []) ⊎ (quiet_left next < quiet_left stage) →
    sync_left d lane next < sync_left c lane stage
left_falls c d lane request count t u stage next es h alone at at_d steps run goes =
    let s = stepped encode es c d lane request request h alone steps run in
    let y = outs_home c (home_at t c lane request count stage alone at) in
    let z = outs_home d (home_at u d lane request count next s.alone at_d) in
    let f = s.falls in
    let q = few_quiet next in
    ⊎_elim (λ ne. let l = some_events es ne in omega arith) (λ l. omega arith) goes

-- ---- answers

abbrev pub reply_ok : Numbered → Result Numbered Worn
reply_ok n = Ok n

abbrev pub step_ok : SyncStep → Result SyncStep Worn
step_ok r = Ok r

same_number : (m n : Numbered) → reply_ok m ≡ reply_ok n → m ≡ n
same_number m n e = cc

-- a call that has ended by a step
pub step_told : (r : SyncStep) (m n : Numbered) → r ≡ Replied m → reply_ok m ≡ reply_ok n → step_ok r ≡ step_ok (Replied n)
step_told r m n is e = ap step_ok (is ∙ ap (λ (x : Numbered). Replied x) (same_number m n e))

module _ {D J : Type 0} (seen : D → DieView) where
  abbrev C : State D J → Core
  C = core_of seen

  -- So far: each event is the lane's and ends no call, and where the pass is alone they are steps of the run of one thread.
  pub record Going (o : Snapshot (State D J)) (v u : View (Snapshot (State D J)) Event) (lane : ℕ) (request : Request) (count : ℕ) (stage : Stage) (es : List Event) : Type 0 where
    pub of : AreOf (Lane lane) es
    pub silent : calls_of es ≡ []
    pub failures_are : failures es ≡ one_if (is_failed stage)
    pub failed : is_failed stage ≡ true → (die : ℕ) × HasFailed seen o v u die
    pub at : AtStage u.alone (core_seen C o u) lane request count stage
    pub coherent : Coherent (core_seen C o u)
    pub begins : v.alone ≡ true → Coherent (core_seen C o v)
    pub steps : v.alone ≡ true → Steps (IsStep encode lane request) (core_seen C o v) es
    pub run : v.alone ≡ true → CoreRun (core_seen C o v) es (core_seen C o u)

  pub going_none : (o : Snapshot (State D J)) (v u : View (Snapshot (State D J)) Event) (lane : ℕ) (request : Request) (count : ℕ) → ActsFor C o v (Lane lane) → IsFree (core_seen C o v) lane → Turn C o v u (λ c es. es ≡ []) → Does v u (Going o v u lane request count Idle)
  going_none o v u lane request count acts free t =
      let P : Core → List Event → Type 0 = λ c es. es ≡ [] in
      let f = core_after C o (v.seen ++ t.between) in
      let is = t.says in
      let end : core_seen C o u ≡ f = subst (λ (es : List Event). CoreRun f es (core_seen C o u)) is t.run in
      record {
        events = t.events;
        went = went_turn C o v u P t;
        says = record {
          of = subst (λ (es : List Event). AreOf (Lane lane) es) (sym is) tt;
          silent = ap calls_of is;
          failures_are = ap failures is;
          failed = λ bad. absurd (cc);
          at = subst (λ (c : Core). IsFree c lane) (sym end) (idle_at seen false o v u lane P t acts free);
          coherent = coherent_all t.events f (core_seen C o u) t.coherent t.run;
          begins = λ a. subst Coherent (found_alone seen o v u P t a) t.coherent;
          steps = λ a. subst (λ (es : List Event). Steps (IsStep encode lane request) (core_seen C o v) es) (sym is) tt;
          run = λ a. subst (λ (c : Core). CoreRun c t.events (core_seen C o u)) (found_alone seen o v u P t a) t.run;
        };
      }

  alone_is : (v u : View (Snapshot (State D J)) Event) (es : List Event) → Went v u es → u.alone ≡ v.alone
  alone_is v u es w = ap (λ (z : View (Snapshot (State D J)) Event). z.alone) w.pass

  -- the core that the steps led to
  led : (o : Snapshot (State D J)) (v u : View (Snapshot (State D J)) Event) (es : List Event) → CoreRun (core_seen C o v) es (core_seen C o u) → after_all (core_seen C o v) es ≡ core_seen C o u
  led o v u es r = sym (leads_to es (core_seen C o v) (core_seen C o u) r)

  told : (o q : Snapshot (State D J)) (u w : View (Snapshot (State D J)) Event) (lane : ℕ) (request : Request) (count : ℕ) (stage : Stage) (r r2 : SyncStep) (fs : List Event) → q ≡ o → r ≡ r2 → StepSays seen q u w lane request count stage (Ok r) fs → StepSays seen o u w lane request count stage (Ok r2) fs
  told o q u w lane request count stage r r2 fs same is p = subst (λ (z : Snapshot (State D J) × SyncStep). StepSays seen z.0 u w lane request count stage (Ok z.1) fs) (λ i. (same i, is i)) p

  -- it went on
  pub on_step : (o q : Snapshot (State D J)) (v u w : View (Snapshot (State D J)) Event) (lane : ℕ) (request : Request) (count : ℕ) (stage next : Stage) (r : SyncStep) → q ≡ o → r ≡ On next → Does v u (Going o v u lane request count stage) → Does u w (StepSays seen q u w lane request count stage (Ok r)) →
      Does v w (Going o v w lane request count next)
  on_step o q v u w lane request count stage next r same is p q' =
      let es = p.events in
      let fs = q'.events in
      let g = p.says in
      let n : HasGoneOn seen o u w lane request count stage next fs = told o q u w lane request count stage r (On next) fs same is q'.says in
      let c = core_seen C o v in
      let too : v.alone ≡ true → u.alone ≡ true = λ a. alone_is v u es p.went ∙ a in
      record {
        events = es ++ fs;
        went = went_on v u w es fs p.went q'.went;
        says = record {
          of = of_on (Lane lane) es fs g.of n.of;
          silent = calls_both es fs ∙ (λ i. g.silent i ++ n.silent i);
          failures_are = failures_both es fs ∙ ((λ i. g.failures_are i + n.failures_are i) ∙ (ap (λ (t : Bool). one_if t + one_if (is_failed next)) n.unfailed ∙ sym (plus_zero (one_if (is_failed next)))));
          failed = λ bad. let f = n.failed bad in (f.0, failed_on seen o v u w f.0 p.went.seen f.1);
          at = subst (λ (t : Bool). AtStage t (core_seen C o w) lane request count next) (sym (alone_is u w fs q'.went)) n.at;
          coherent = n.coherent;
          begins = g.begins;
          steps = λ a. append (IsStep encode lane request) es fs c (g.steps a) (subst (λ (x : Core). Steps (IsStep encode lane request) x fs) (sym (led o v u es (g.run a))) (n.steps (too a)));
          run = λ a. run_on es fs c (core_seen C o u) (core_seen C o w) (g.run a) (n.run (too a));
        };
      }

  -- it waited
  pub waits_on : (o q : Snapshot (State D J)) (v u w : View (Snapshot (State D J)) Event) (lane : ℕ) (request : Request) (count : ℕ) (stage : Stage) (r : SyncStep) → q ≡ o → r ≡ Waits → Does v u (Going o v u lane request count stage) → Does u w (StepSays seen q u w lane request count stage (Ok r)) →
      Does v w (Going o v w lane request count stage)
  waits_on o q v u w lane request count stage r same is p q' =
      let es = p.events in
      let fs = q'.events in
      let g = p.says in
      let n : HasWaited seen o u w lane request count stage fs = told o q u w lane request count stage r Waits fs same is q'.says in
      let none : es ++ fs ≡ es = ap (λ (xs : List Event). es ++ xs) n.are ∙ append-nil es in
      record {
        events = es ++ fs;
        went = went_on v u w es fs p.went q'.went;
        says = subst (Going o v w lane request count stage) (sym none) (record {
          of = g.of;
          silent = g.silent;
          failures_are = g.failures_are;
          failed = λ bad. let f = g.failed bad in (f.0, failed_later o v u w f.0 q'.went.seen f.1);
          at = subst (λ (t : Bool). AtStage t (core_seen C o w) lane request count stage) (sym (alone_is u w fs q'.went)) n.at;
          coherent = n.coherent;
          begins = g.begins;
          steps = g.steps;
          run = λ a. subst (λ (x : Core). CoreRun (core_seen C o v) es x) (sym (n.same (alone_is v u es p.went ∙ a))) (g.run a);
        });
      }
    where
      failed_later : (o : Snapshot (State D J)) (v u w : View (Snapshot (State D J)) Event) (die : ℕ) → StartsWith w.seen u.seen → HasFailed seen o v u die → HasFailed seen o v w die
      failed_later o v u w die starts f = record { h = f.h; since = f.since; until = starts_on f.h u.seen w.seen f.until starts; left = f.left; now = f.now; stood = f.stood; rose = f.rose }

  -- it has ended
  pub reply_on : (o q : Snapshot (State D J)) (v u w : View (Snapshot (State D J)) Event) (lane : ℕ) (request : Request) (count : ℕ) (stage : Stage) (m : Numbered) (r : SyncStep) → q ≡ o → r ≡ Replied m → Does v u (Going o v u lane request count stage) → Does u w (StepSays seen q u w lane request count stage (Ok r)) →
      Does v w (SyncCallSays seen o v w lane request (Ok m))
  reply_on o q v u w lane request count stage m r same is p q' =
      let es = p.events in
      let fs = q'.events in
      let g = p.says in
      let n : HasReplied seen o u w lane request (is_failed stage) m fs = told o q u w lane request count stage r (Replied m) fs same is q'.says in
      let e = End lane request m.reply in
      let entry : CallEntry = record { lane = lane; call = request.call; reply = m.reply } in
      let c = core_seen C o v in
      let too : v.alone ≡ true → u.alone ≡ true = λ a. alone_is v u es p.went ∙ a in
      let found = n.ended.found in
      record {
        events = es ++ fs;
        went = went_on v u w es fs p.went q'.went;
        says = record {
          of = of_on (Lane lane) es fs g.of (subst (λ (xs : List Event). AreOf (Lane lane) xs) (sym n.ended.are) (refl, tt));
          before = es;
          are = ap (λ (xs : List Event). es ++ xs) n.ended.are;
          open_still = g.silent;
          one = calls_both es fs ∙ (λ i. g.silent i ++ calls_of (n.ended.are i));
          fault = is_failed stage;
          reply_is = n.reply_is;
          failures_are = failures_both es fs ∙ ((λ i. g.failures_are i + failures (n.ended.are i)) ∙ plus_none (one_if (is_failed stage)));
          failed = λ bad. let f = g.failed bad in (f.0, record { h = f.1.h; since = f.1.since; until = starts_on f.1.h u.seen w.seen f.1.until q'.went.seen; left = f.1.left; now = f.1.now; stood = f.1.stood; rose = f.1.rose });
          found = record { before = found.before; rest = found.rest; since = starts_on v.seen u.seen found.before p.went.seen found.since; seen = found.seen; says = found.says };
          after = n.ended.after;
          coherent = n.ended.coherent;
          solo = λ a. record {
            most = es;
            last = e;
            whole = ap (λ (xs : List Event). es ++ xs) n.ended.are;
            steps = g.steps a;
            next = subst (λ (x : Core). IsNext encode lane request x e) (sym (led o v u es (g.run a))) (n.next (too a));
            answers = refl;
          };
          run = λ a. run_on es fs c (core_seen C o u) (core_seen C o w) (g.run a) (n.ended.run (too a));
        };
      }
    where
      plus_none : (n : ℕ) → n + 0 ≡ n
      plus_none n = omega arith

  -- the turn is worn
  pub worn_on : (o q : Snapshot (State D J)) (v u w : View (Snapshot (State D J)) Event) (lane : ℕ) (request : Request) (count : ℕ) (stage : Stage) (x : Worn) (r : Result Numbered Worn) → q ≡ o → IsErr r → Does v u (Going o v u lane request count stage) → Does u w (StepSays seen q u w lane request count stage (Err x)) →
      Does v w (SyncCallSays seen o v w lane request r)
  worn_on o q v u w lane request count stage x (Ok y) same e p q' = absurd (cc)
  worn_on o q v u w lane request count stage x (Err y) same e p q' =
      record {
        events = p.events ++ q'.events;
        went = went_on v u w p.events q'.events p.went q'.went;
        says = (
          (of_on (Lane lane) p.events q'.events p.says.of q'.says.0.0, calls_both p.events q'.events ∙ (λ i. p.says.silent i ++ q'.says.0.1 i)),
          λ a f alone idle.
              let k = steps_short encode p.events (core_seen C o v) (core_seen C o u) lane request request f (p.says.begins a) alone idle (p.says.steps a) (p.says.run a) in
              let b = q'.says.1 in
              omega (arith, length-append p.events q'.events),
        );
      }

  pub worn_first : (o : Snapshot (State D J)) (v w : View (Snapshot (State D J)) Event) (lane : ℕ) (request : Request) (r : Result Numbered Worn) → IsErr r → Went v w [] → Does v w (SyncCallSays seen o v w lane request r)
  worn_first o v w lane request (Ok y) e went = absurd (cc)
  worn_first o v w lane request (Err y) e went = record { events = []; went = went; says = ((tt, refl), λ a f alone idle. lit≤ tt) }

  -- ---- alone

  alone_on : (o : Snapshot (State D J)) (v u : View (Snapshot (State D J)) Event) (lane : ℕ) (request : Request) (count : ℕ) (stage : Stage) → v.alone ≡ true → IsAlone (core_seen C o v) lane request → (p : Does v u (Going o v u lane request count stage)) → IsAlone (core_seen C o u) lane request
  alone_on o v u lane request count stage a alone p = (stepped encode p.events (core_seen C o v) (core_seen C o u) lane request request (p.says.begins a) alone (p.says.steps a) (p.says.run a)).alone

  pub on_falls : (o q : Snapshot (State D J)) (v u w : View (Snapshot (State D J)) Event) (lane : ℕ) (request : Request) (count : ℕ) (stage next : Stage) (r : SyncStep) → q ≡ o → r ≡ On next → v.alone ≡ true → IsAlone (core_seen C o v) lane request → Does v u (Going o v u lane request count stage) →
      Does u w (StepSays seen q u w lane request count stage (Ok r)) → sync_left (core_seen C o w) lane next < sync_left (core_seen C o u) lane stage
  on_falls o q v u w lane request count stage next r same is a alone p q' =
      let fs = q'.events in
      let n : HasGoneOn seen o u w lane request count stage next fs = told o q u w lane request count stage r (On next) fs same is q'.says in
      let b = alone_is v u p.events p.went ∙ a in
      left_falls (core_seen C o u) (core_seen C o w) lane request count u.alone u.alone stage next fs p.says.coherent (alone_on o v u lane request count stage a alone p) p.says.at n.at (n.steps b) (n.run b) (n.goes b)

  pub never_waits : (o q : Snapshot (State D J)) (v u w : View (Snapshot (State D J)) Event) (lane : ℕ) (request : Request) (count : ℕ) (stage : Stage) (r : SyncStep) → q ≡ o → r ≡ Waits → v.alone ≡ true → IsAlone (core_seen C o v) lane request → Does v u (Going o v u lane request count stage) →
      Does u w (StepSays seen q u w lane request count stage (Ok r)) → ⊥
  never_waits o q v u w lane request count stage r same is a alone p q' =
      let n : HasWaited seen o u w lane request count stage q'.events = told o q u w lane request count stage r Waits q'.events same is q'.says in
      n.never (alone_is v u p.events p.went ∙ a) (alone_on o v u lane request count stage a alone p)
