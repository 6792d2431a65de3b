-- A worker serves a call over a desk, turn by turn.
use Rattle.std.proofs.Common.{◌≡◌, ℕ, Bool, true, false, List, [], ◌∷◌, ◌++◌, None, refl, sym, ap, ◌∙◌, subst, inr, append-nil, arith}
use Rattle.std.specs.Prelude.{not, Result, Ok, Err, IfOk, IfErr}
use Rattle.std.specs.Result.{IsErr}
use Rattle.std.specs.declared.snapshot.Snapshot.{Snapshot}
use Rattle.index_lists.specs.Words.{first}
use Rattle.turn_cell.specs.declared.view.View.{View}
use Rattle.turn_cell.specs.declared.pass.Worn.{Worn}
use Rattle.flash_die.specs.Dies.{DieView}
use Rattle.core_state.specs.declared.actor.Actor.{Actor}
use Rattle.core_state.specs.declared.actor.Actor.TheVariants.{Worker}
use Rattle.core_state.specs.declared.event.Event.{Event}
use Rattle.core_state.specs.declared.event.Event.TheVariants.{Fetch, Report}
use Rattle.core_state.specs.State.{Page, Claim, Flight, Core}
use Rattle.core_state.specs.LaneEvents.{MayReport, result_of}
use Rattle.core_state.specs.Coherent.{Coherent}
use Rattle.core_state.specs.Happens.{HoldsNone, CoreRun, IsClosing, after, after_all}
use Rattle.core_state.specs.History.{calls_of}
use Rattle.core_state.proofs.Runs.{leads_to}
use Rattle.core_solo.specs.Solo.{Steps, IsStep}
use Rattle.core_solo.proofs.Folds.{append}
use Rattle.core_solo.proofs.Rooms.{AllHome}
use Rattle.system_state.specs.Cores.{core_of}
use Rattle.system_state.specs.Jobs.{view_of}
use Rattle.system_state.specs.declared.not_yet.NotYet.{NotYet}
use Rattle.system_state.specs.declared.state.State.{State}
use Rattle.system_lanes.specs.Leaving.{have_left}
use Rattle.system_lanes.specs.Phases.{flight_in}
use Rattle.call_job.specs.Suits.{Suits}
use Rattle.call_job.specs.declared.job.Job.{Job}
use Rattle.desk_turns.specs.Making.{AreOf}
use Rattle.desk_turns.specs.Passing.{ActsFor, core_after, core_seen, Turn, Went, Does}
use Rattle.desk_turns.proofs.Holding.{coherent_all}
use Rattle.desk_turns.proofs.Later.{none_kept}
use Rattle.desk_turns.proofs.Went.{of_on, went_on, went_none, went_turn, found_turn}
use Rattle.fill_steps.specs.Flushing.{HasFailed}
use Rattle.fill_steps.specs.JobTurns.{SuitsInSpan, FetchSays}
use Rattle.fill_steps.specs.Gathering.{call_at, told_at, IsBetween, HasSpan}
use Rattle.fill_steps.specs.Cut.{IsCutOff}
use Rattle.fill_steps.specs.Spans.{Gathers, SpanSays}
use Rattle.fill_steps.proofs.FlushSteps.{shape_at, acts_on, failed_on}
use Rattle.fill_steps.proofs.Keeping.{again, at_flight, own_worker, unbusy_kept}
use Rattle.fill_steps.proofs.Calls.{owned_kept}
use Rattle.fill_steps.proofs.Callers.{failed_still, found_since, span_reports, mark_reports}
use Rattle.fill_steps.proofs.Trying.{run_on, still_alone}
use Rattle.fill_steps.proofs.Looping.{cut_off, calls_on, home_again, next_later, next_earlier}
use Rattle.drive_worker.specs.Running.{MayRun, RanIf}
use Rattle.drive_worker.specs.Serving.{IsFreeWorker, IsWith, IsFront, ReportsIn, IsReported, FoundNone, BackSays, ServeSays, HasWorked, LoopSays, closes}
use Rattle.drive_worker.specs.declared.serve.Served.{Served}
use Rattle.drive_worker.specs.declared.serve.Served.TheVariants.{One, Empty}
use Rattle.drive_worker.proofs.Calls.{fetch_begins, fetch_claim, fetch_step, cut_on, none_cut, one_front, may_run, ran_reports, mark_suits, report_leaves, report_step, left_closes}

module _ {D : Type 0} (seen : D → DieView) where
  abbrev C : State D Job → Core
  C = core_of seen

  abbrev pub S : Type 0
  S = Snapshot (State D Job)

  abbrev pub V : Type 0
  V = View (Snapshot (State D Job)) Event

  -- ---- what stays

  pub acts_still : (o q : S) (v u : V) (a : Actor) (P : List Event → Type 0) → q ≡ o → Does v u P → ActsFor C o v a → ActsFor C q u a
  acts_still o q v u a P same p acts = subst (λ (z : S). ActsFor C z u a) (sym same) (subst (λ (z : V). ActsFor C o z a) (sym p.went.pass) acts)

  acts_turn : (o q : S) (v u : V) (a : Actor) (P : Core → List Event → Type 0) → q ≡ o → Turn C o v u P → ActsFor C o v a → ActsFor C q u a
  acts_turn o q v u a P same t acts = subst (λ (z : S). ActsFor C z u a) (sym same) (acts_on seen o v u a P t acts)

  -- a free worker is found free
  found_free : (o : S) (v u : V) (worker : ℕ) (P : Core → List Event → Type 0) → (t : Turn C o v u P) → ActsFor C o v (Worker worker) → IsFreeWorker (core_seen C o v) worker → IsFreeWorker (core_after C o (v.seen ++ t.between)) worker
  found_free o v u worker P t acts p =
      let c = core_seen C o v in
      let c2 = core_after C o (v.seen ++ t.between) in
      let same = t.kept (Worker worker) acts (own_worker c worker) in
      record { unbusy = unbusy_kept c c2 worker same p.unbusy; none = none_kept c c2 (Worker worker) t.coherent same (shape_at seen o (v.seen ++ t.between) v.seen) p.none }

  number_on : (o : S) (v u : V) (P : Core → List Event → Type 0) → Turn C o v u P → u.number ≡ v.number
  number_on o v u P t = ap (λ (z : V). z.number) t.pass

  alone_on : (o : S) (v u : V) (P : Core → List Event → Type 0) → Turn C o v u P → v.alone ≡ true → u.alone ≡ true
  alone_on o v u P t a = ap (λ (z : V). z.alone) t.pass ∙ a

  -- ---- the fetch

  abbrev pub Fetched : ℕ → ℕ × Job → Core → List Event → Type 0
  Fetched worker x = FetchSays Suits worker (Ok x)

  fetch_run : (o : S) (v u : V) (worker : ℕ) (x : ℕ × Job) → (t : Turn C o v u (Fetched worker x)) → CoreRun (core_after C o (v.seen ++ t.between)) (Fetch worker x.0 ∷ []) (core_seen C o u)
  fetch_run o v u worker x t = subst (λ (es : List Event). CoreRun (core_after C o (v.seen ++ t.between)) es (core_seen C o u)) t.says.0 t.run

  pub fetched_with : (o q : S) (v u : V) (worker : ℕ) (x : ℕ × Job) → q ≡ o → ActsFor C o v (Worker worker) → IsFreeWorker (core_seen C o v) worker → Turn C o v u (Fetched worker x) → IsWith (core_seen C q u) worker x.0 x.1
  fetched_with o q v u worker x same acts free t =
      let c = core_after C o (v.seen ++ t.between) in
      let run = fetch_run o v u worker x t in
      subst (λ (z : S). IsWith (core_seen C z u) worker x.0 x.1) (sym same)
      (subst (λ (d : Core). IsWith d worker x.0 x.1) (sym run.1)
      (fetch_begins c worker x.0 x.1 t.coherent (found_free o v u worker (Fetched worker x) t acts free).none run.0.may t.says.2))

  pub fetched_acts : (o q : S) (v u : V) (worker : ℕ) (x : ℕ × Job) → q ≡ o → Turn C o v u (Fetched worker x) → ActsFor C o v (Worker worker) → ActsFor C q u (Worker worker)
  fetched_acts o q v u worker x same t acts = acts_turn o q v u (Worker worker) (Fetched worker x) same t acts

  pub fetched_home : (o q : S) (v u : V) (worker : ℕ) (x : ℕ × Job) → q ≡ o → v.alone ≡ true → Turn C o v u (Fetched worker x) → AllHome (core_seen C o v) → AllHome (core_seen C q u)
  fetched_home o q v u worker x same a t home =
      let P = Fetched worker x in
      let run : CoreRun (core_seen C o v) (Fetch worker x.0 ∷ []) (core_seen C o u) = subst (λ (z : Core). CoreRun z (Fetch worker x.0 ∷ []) (core_seen C o u)) (still_alone seen o v u P t a) (fetch_run o v u worker x t) in
      subst (λ (z : S). AllHome (core_seen C z u)) (sym same) (λ die. ap (λ (z : Core). (z.dies die).out) run.1 ∙ home die)

  -- the queue was empty
  pub found_none : (o : S) (v u : V) (worker : ℕ) (y : NotYet) → ActsFor C o v (Worker worker) → IsFreeWorker (core_seen C o v) worker → Turn C o v u (FetchSays Suits worker (Err y)) → Does v u (ServeSays seen o v u worker (Ok (Empty (closes y))))
  found_none o v u worker y acts free t =
      let P = FetchSays Suits worker (Err y) in
      let c = core_after C o (v.seen ++ t.between) in
      let still : core_seen C o u ≡ c = subst (λ (es : List Event). CoreRun c es (core_seen C o u)) t.says.0 t.run in
      record {
        events = t.events;
        went = went_turn C o v u P t;
        says = record {
          are = t.says.0;
          empty = ap (λ (z : Core). z.queue) still ∙ t.says.1;
          closes = ap closes t.says.2 ∙ ap have_left (sym still);
          after = subst (λ (z : Core). IsFreeWorker z worker) (sym still) (found_free o v u worker P t acts free);
          coherent = subst Coherent (sym still) t.coherent;
          run = λ a. subst (λ (z : Core). CoreRun z t.events (core_seen C o u)) (still_alone seen o v u P t a) t.run;
        };
      }

  -- ---- the pages

  -- the worker's call has its pages, or a read for it has failed
  pub record Filled (o : S) (v u : V) (worker lane : ℕ) (failed : Bool) (job : Job) (es : List Event) : Type 0 where
    pub gathers : Gathers seen o v u (Worker worker) lane (λ d. IsBetween failed d (Worker worker) lane) es
    pub span : failed ≡ false → HasSpan (core_seen C o u) (Worker worker) lane job
    pub suits : Suits job (told_at (core_seen C o u) lane)
    pub fault : failed ≡ true → (die : ℕ) × HasFailed seen o v u die

  gathers_as : (o : S) (v u : V) (worker lane : ℕ) (P Q : Core → Type 0) (es : List Event) → Q (core_seen C o u) → Gathers seen o v u (Worker worker) lane P es → Gathers seen o v u (Worker worker) lane Q es
  gathers_as o v u worker lane P Q es q g = record { of = g.of; open_still = g.open_still; next = g.next; call = g.call; says = q; run = g.run; solo = g.solo }

  filled : (o : S) (v u : V) (worker lane : ℕ) (job : Job) (read : Bool) (es : List Event) → (read ≡ false → Suits job (told_at (core_seen C o u) lane)) → SpanSays seen o v u (Worker worker) lane job (Ok read) es → Filled o v u worker lane (not read) job es
  filled o v u worker lane job true es left g =
      record { gathers = gathers_as o v u worker lane (λ d. HasSpan d (Worker worker) lane job) (λ d. IsBetween false d (Worker worker) lane) es g.says.between g; span = λ e. g.says; suits = g.says.suits; fault = λ e. absurd (cc) }
  filled o v u worker lane job false es left g = record { gathers = g.0; span = λ e. absurd (cc); suits = left refl; fault = λ e. g.1 }

  pub does_fill : (o : S) (v u : V) (worker lane : ℕ) (job : Job) (read : Bool) → (read ≡ false → Suits job (told_at (core_seen C o u) lane)) → Does v u (SpanSays seen o v u (Worker worker) lane job (Ok read)) → Does v u (Filled o v u worker lane (not read) job)
  does_fill o v u worker lane job read left p = record { events = p.events; went = p.went; says = filled o v u worker lane job read p.events left p.says }

  pub runs_there : (o : S) (v u : V) (worker lane : ℕ) (old job : Job) (read : Bool) → IsWith (core_seen C o v) worker lane old → Does v u (Filled o v u worker lane (not read) job) → read ≡ true → MayRun job
  runs_there o v u worker lane old job read begun p e = may_run (core_seen C o v) (core_seen C o u) worker lane old job begun p.says.gathers.call (p.says.span (ap not e))

  -- ---- what the report asks

  pub hands_there : (o q : S) (v u : V) (worker lane : ℕ) (failed : Bool) (job : Job) → q ≡ o → Does v u (Filled o v u worker lane failed job) → HoldsNone (core_seen C q u) (Worker worker)
  hands_there o q v u worker lane failed job same p = subst (λ (z : S). HoldsNone (core_seen C z u) (Worker worker)) (sym same) p.says.gathers.says.none

  reports_at : (c : Core) (worker lane : ℕ) (failed : Bool) (job : Job) → (failed ≡ false → HasSpan c (Worker worker) lane job) → IsBetween failed c (Worker worker) lane → MayReport c worker lane
  reports_at c worker lane true job span p = mark_reports c worker lane p
  reports_at c worker lane false job span p = span_reports c worker lane job (span refl)

  pub may_there : (o q : S) (v u : V) (worker lane : ℕ) (failed : Bool) (job : Job) → q ≡ o → Does v u (Filled o v u worker lane failed job) → MayReport (core_seen C q u) worker lane
  may_there o q v u worker lane failed job same p =
      subst (λ (z : S). MayReport (core_seen C z u) worker lane) (sym same) (reports_at (core_seen C o u) worker lane failed job p.says.span p.says.gathers.says)

  abbrev Reports : Core → ℕ → Job → Type 0
  Reports c lane job = SuitsInSpan Suits job (view_of c.names (flight_in c lane (result_of c lane)))

  job_at : (o : S) (v u : V) (worker lane : ℕ) (read : Bool) (old job new : Job) (es : List Event) → IsWith (core_seen C o v) worker lane old → Filled o v u worker lane (not read) job es → RanIf read job new → Coherent (core_seen C o u) → Reports (core_seen C o u) lane new
  job_at o v u worker lane true old job new es begun p ran h =
      let d = core_seen C o u in
      ran_reports d worker lane job new (may_run (core_seen C o v) d worker lane old job begun p.gathers.call (p.span refl)) (p.gathers.call.phase ∙ begun.runs) (p.span refl) ran h
  job_at o v u worker lane false old job new es begun p ran h =
      let d = core_seen C o u in subst (Reports d lane) (sym ran) (mark_suits d worker lane job p.gathers.says p.suits)

  pub job_there : (o q : S) (v u : V) (worker lane : ℕ) (read : Bool) (old job new : Job) → q ≡ o → IsWith (core_seen C o v) worker lane old → Does v u (Filled o v u worker lane (not read) job) → RanIf read job new → Coherent (core_seen C q u) →
      SuitsInSpan Suits new (view_of (core_seen C q u).names (flight_in (core_seen C q u) lane (result_of (core_seen C q u) lane)))
  job_there o q v u worker lane read old job new same begun p ran =
      subst (λ (z : S). Coherent (core_seen C z u) → Reports (core_seen C z u) lane new) (sym same) (job_at o v u worker lane read old job new p.events begun p.says ran)

  -- ---- the report

  abbrev pub Reported : ℕ → ℕ → Core → List Event → Type 0
  Reported worker lane c es = es ≡ Report worker lane ∷ []

  pub handed : (o : S) (v u w : V) (worker lane : ℕ) (failed : Bool) (old job : Job) → ActsFor C o u (Worker worker) → IsWith (core_seen C o v) worker lane old → Does v u (Filled o v u worker lane failed job) → Turn C o u w (Reported worker lane) → Does v w (BackSays seen o v w worker lane (Ok tt))
  handed o v u w worker lane failed old job acts begun p t =
      let P = Reported worker lane in
      let e = Report worker lane in
      let c = core_seen C o v in
      let d = core_seen C o u in
      let f = core_after C o (u.seen ++ t.between) in
      let g = p.says.gathers in
      let own = g.says.owned in
      let went = went_turn C o u w P t in
      let same = t.kept (Worker worker) acts (own_worker d worker) in
      let none = none_kept d f (Worker worker) t.coherent same (shape_at seen o (u.seen ++ t.between) u.seen) g.says.none in
      let run : CoreRun f (e ∷ []) (core_seen C o w) = subst (λ (es : List Event). CoreRun f es (core_seen C o w)) t.says t.run in
      let reports : ReportsIn failed worker lane f = record { may = run.0.may; mark = (owned_kept failed d f (Worker worker) lane same own).mark } in
      let left = report_leaves f worker lane failed t.coherent none reports in
      let next = again d f (Worker worker) lane (call_at d lane) same own.flies own.owns in
      let claim : (call_at f lane).claim ≡ (call_at d lane).claim = ap (λ (x : Flight). x.claim) (at_flight f.calls lane next.call next.flies) ∙ next.same.claim in
      let found = found_turn C o u w w P e (ReportsIn failed worker lane) t t.says reports ([], sym (append-nil w.seen)) (number_on o u w P t) in
      let all : p.events ++ t.events ≡ p.events ++ e ∷ [] = ap (λ es. p.events ++ es) t.says in
      let alone_u : v.alone ≡ true → u.alone ≡ true = λ a. ap (λ (z : V). z.alone) p.went.pass ∙ a in
      record {
        events = p.events ++ t.events;
        went = went_on v u w p.events t.events p.went went;
        says = record {
          pages = p.events;
          are = all;
          of = of_on (Worker worker) p.events t.events g.of (subst (AreOf (Worker worker)) (sym t.says) (refl, tt));
          open_still = calls_on p.events t.events g.open_still (ap calls_of t.says);
          next = next_later seen o v u w (Worker worker) lane p.events went.seen (number_on o u w P t) g.next;
          failed = failed;
          fault = λ x. let z = p.says.fault x in (z.0, failed_still seen o v u w z.0 went.seen z.1);
          report = found_since seen o v u w e (ReportsIn failed worker lane) p.went.seen found;
          reported = subst (IsReported failed lane) (sym run.1) left.0;
          claim = ap (λ (z : Core). (call_at z lane).claim) run.1 ∙ (left.2 ∙ (claim ∙ g.call.claim));
          after = subst (λ (z : Core). IsFreeWorker z worker) (sym run.1) left.1;
          coherent = coherent_all t.events f (core_seen C o w) t.coherent t.run;
          run = λ a. run_on p.events t.events c d (core_seen C o w) (g.run a) (subst (λ (z : Core). CoreRun z t.events (core_seen C o w)) (still_alone seen o u w P t (alone_u a)) t.run);
          solo = λ a encode.
              let to : d ≡ after_all c p.events = leads_to p.events c d (g.run a) in
              let r = (call_at c lane).claim.request in
              let step : IsStep encode lane r d e = report_step encode d worker lane r failed own (g.call.phase ∙ begun.runs) (λ n. (p.says.span n).all) in
              subst (Steps (IsStep encode lane r) c) (sym all)
              (append (IsStep encode lane r) p.events (e ∷ []) c (g.solo a (inr (worker, begun.runs)) encode) (subst (λ (z : Core). IsStep encode lane r z e) to step, tt));
        };
      }

  pub handed_any : (o q : S) (v u w : V) (worker lane : ℕ) (failed : Bool) (old job : Job) (r : Result (Unit {0}) Worn) → q ≡ o → ActsFor C o v (Worker worker) → IsWith (core_seen C o v) worker lane old → Does v u (Filled o v u worker lane failed job) → IfOk r (λ _. Turn C q u w (Reported worker lane)) → IfErr r (λ _. Went u w []) →
      Does v w (BackSays seen o v w worker lane r)
  handed_any o q v u w worker lane failed old job (Ok x) same acts begun p t went =
      handed o v u w worker lane failed old job (acts_still o o v u (Worker worker) (Filled o v u worker lane failed job) refl p acts) begun p (subst (λ (z : S). Turn C z u w (Reported worker lane)) same t)
  handed_any o q v u w worker lane failed old job (Err y) same acts begun p t went =
      record {
        events = p.events ++ [];
        went = went_on v u w p.events [] p.went went;
        says = (
          of_on (Worker worker) p.events [] p.says.gathers.of tt,
          ap calls_of (append-nil p.events) ∙ p.says.gathers.open_still,
          λ a encode. cut_off encode (core_seen C o v) (core_seen C o u) lane (call_at (core_seen C o v) lane).claim.request p.events [] (omega arith) (p.says.gathers.solo a (inr (worker, begun.runs)) encode) (p.says.gathers.run a),
        );
      }

  -- the pages were not all asked for, since the turn is worn
  pub fill_worn : (o : S) (v u : V) (worker lane : ℕ) (old job : Job) (x : Worn) (r : Result (Unit {0}) Worn) → IsErr r → IsWith (core_seen C o v) worker lane old → Does v u (SpanSays seen o v u (Worker worker) lane job (Err x)) → Does v u (BackSays seen o v u worker lane r)
  fill_worn o v u worker lane old job x (Ok y) e begun p = absurd (cc)
  fill_worn o v u worker lane old job x (Err y) e begun p = record { events = p.events; went = p.went; says = (p.says.0, p.says.1, λ a encode. p.says.2 a (inr (worker, begun.runs)) encode) }

  pub back_home : (o : S) (v w : V) (worker lane : ℕ) (r : Result (Unit {0}) Worn) → v.alone ≡ true → AllHome (core_seen C o v) → Does v w (BackSays seen o v w worker lane r) → IfOk r (λ _. (die : ℕ) → ((core_seen C o w).dies die).out ≡ None)
  back_home o v w worker lane (Ok x) a home p = home_again (Worker worker) (core_seen C o v) (core_seen C o w) p.events home (p.says.run a) p.says.of p.says.after.none
  back_home o v w worker lane (Err y) a home p = tt

  -- ---- from the fetch to the report

  pub served : (o q : S) (v u w : V) (worker : ℕ) (x : ℕ × Job) → q ≡ o → Turn C o v u (Fetched worker x) → Does u w (BackSays seen q u w worker x.0 (Ok tt)) → Does v w (ServeSays seen o v w worker (Ok (One x.0)))
  served o q v u w worker x same t p' =
      let P = Fetched worker x in
      let lane = x.0 in
      let e = Fetch worker lane in
      let c = core_seen C o v in
      let d = core_seen C o u in
      let c2 = core_after C o (v.seen ++ t.between) in
      let p : Does u w (BackSays seen o u w worker lane (Ok tt)) = subst (λ (z : S). Does u w (BackSays seen z u w worker lane (Ok tt))) same p' in
      let b = p.says in
      let went = went_turn C o v u P t in
      let run = fetch_run o v u worker x t in
      let all : t.events ++ p.events ≡ e ∷ (b.pages ++ Report worker lane ∷ []) = λ i. t.says.0 i ++ b.are i in
      let one : t.events ++ p.events ≡ e ∷ p.events = ap (λ es. es ++ p.events) t.says.0 in
      let here : v.alone ≡ true → c2 ≡ c = λ a. still_alone seen o v u P t a in
      let first_run : v.alone ≡ true → CoreRun c (e ∷ []) d = λ a. subst (λ (z : Core). CoreRun z (e ∷ []) d) (here a) run in
      let claim : v.alone ≡ true → (call_at d lane).claim ≡ (call_at c lane).claim = λ a. ap (λ (z : Core). (call_at z lane).claim) (first_run a).1 ∙ fetch_claim c worker lane in
      record {
        events = t.events ++ p.events;
        went = went_on v u w t.events p.events went p.went;
        says = record {
          pages = b.pages;
          are = all;
          of = subst (AreOf (Worker worker)) (sym one) (refl, b.of);
          open_still = ap calls_of one ∙ b.open_still;
          fetch = found_turn C o v u w P e (IsFront lane) t t.says.0 t.says.1 p.went.seen (ap (λ (z : V). z.number) p.went.pass ∙ number_on o v u P t);
          next = next_earlier seen o v u w (Worker worker) lane b.pages went.seen b.next;
          failed = b.failed;
          fault = λ m. let z = b.fault m in (z.0, failed_on seen o v u w z.0 went.seen z.1);
          report = found_since seen o v u w (Report worker lane) (ReportsIn b.failed worker lane) went.seen b.report;
          reported = b.reported;
          after = b.after;
          coherent = b.coherent;
          run = λ a. subst (λ (es : List Event). CoreRun c es (core_seen C o w)) (sym one) (run_on (e ∷ []) p.events c d (core_seen C o w) (first_run a) (b.run (alone_on o v u P t a)));
          claim = λ a. b.claim ∙ claim a;
          solo = λ a zero encode.
              let r = (call_at c lane).claim.request in
              let coherent : Coherent c = subst Coherent (here a) t.coherent in
              let step : IsStep encode lane r c e = fetch_step encode c worker lane r coherent (first_run a).0.may zero in
              let rest : Steps (IsStep encode lane r) (after c e) p.events
              = subst (λ (z : Core × Claim). Steps (IsStep encode lane z.1.request) z.0 p.events) (λ i. ((first_run a).1 i, claim a i)) (b.solo (alone_on o v u P t a) encode) in
              subst (Steps (IsStep encode lane r) c) (sym one) (step, rest);
        };
      }

  worn_front : (o : S) (v u w : V) (worker : ℕ) (x : ℕ × Job) (y : Worn) (es : List Event) → Turn C o v u (Fetched worker x) → BackSays seen o u w worker x.0 (Err y) es → v.alone ≡ true → worker ≡ 0 → (lane : ℕ) → IsFront lane (core_seen C o v) → (encode : Core → ℕ → Page) →
      IsCutOff encode (core_seen C o v) lane (call_at (core_seen C o v) lane).claim.request (Fetch worker x.0 ∷ es)
  worn_front o v u w worker x y es t b a zero lane front encode =
      let P = Fetched worker x in
      let e = Fetch worker x.0 in
      let c = core_seen C o v in
      let d = core_seen C o u in
      let here = still_alone seen o v u P t a in
      let run : CoreRun c (e ∷ []) d = subst (λ (z : Core). CoreRun z (e ∷ []) d) here (fetch_run o v u worker x t) in
      let same : x.0 ≡ lane = one_front c.queue x.0 lane (ap (λ (z : Core). first z.queue) (sym here) ∙ t.says.1) front in
      subst (λ (l : ℕ). IsCutOff encode c l (call_at c l).claim.request (e ∷ es)) same
      (cut_on encode c d worker x.0 es (subst Coherent here t.coherent) zero run (b.2 (alone_on o v u P t a) encode))

  pub serve_worn : (o q : S) (v u w : V) (worker : ℕ) (x : ℕ × Job) (y : Worn) (r : Result Served Worn) → IsErr r → q ≡ o → Turn C o v u (Fetched worker x) → Does u w (BackSays seen q u w worker x.0 (Err y)) → Does v w (ServeSays seen o v w worker r)
  serve_worn o q v u w worker x y (Ok z) e same t p = absurd (cc)
  serve_worn o q v u w worker x y (Err z) e same t p' =
      let p : Does u w (BackSays seen o u w worker x.0 (Err y)) = subst (λ (k : S). Does u w (BackSays seen k u w worker x.0 (Err y))) same p' in
      let one : t.events ++ p.events ≡ Fetch worker x.0 ∷ p.events = ap (λ es. es ++ p.events) t.says.0 in
      record {
        events = t.events ++ p.events;
        went = went_on v u w t.events p.events (went_turn C o v u (Fetched worker x) t) p.went;
        says = (
          subst (AreOf (Worker worker)) (sym one) (refl, p.says.0),
          ap calls_of one ∙ p.says.1,
          λ a zero lane front encode.
              subst (IsCutOff encode (core_seen C o v) lane (call_at (core_seen C o v) lane).claim.request) (sym one) (worn_front o v u w worker x y p.events t p.says a zero lane front encode),
        );
      }

  pub fetch_worn : (o : S) (v w : V) (worker : ℕ) (r : Result Served Worn) → IsErr r → Went v w [] → Does v w (ServeSays seen o v w worker r)
  fetch_worn o v w worker (Ok x) e went = absurd (cc)
  fetch_worn o v w worker (Err y) e went =
      record { events = []; went = went; says = (tt, refl, λ a zero lane front encode. none_cut encode (core_seen C o v) lane (call_at (core_seen C o v) lane).claim.request) }

  none_home : (c d : Core) (es : List Event) → es ≡ [] → CoreRun c es d → AllHome c → AllHome d
  none_home c d es is run home = let still : d ≡ c = subst (λ (xs : List Event). CoreRun c xs d) is run in subst AllHome (sym still) home

  pub serve_home : (o : S) (v w : V) (worker : ℕ) (r : Result Served Worn) → v.alone ≡ true → AllHome (core_seen C o v) → Does v w (ServeSays seen o v w worker r) → IfOk r (λ _. (die : ℕ) → ((core_seen C o w).dies die).out ≡ None)
  serve_home o v w worker (Ok (One lane)) a home p = home_again (Worker worker) (core_seen C o v) (core_seen C o w) p.events home (p.says.run a) p.says.of p.says.after.none
  serve_home o v w worker (Ok (Empty closing)) a home p = none_home (core_seen C o v) (core_seen C o w) p.events p.says.are (p.says.run a) home
  serve_home o v w worker (Err y) a home p = tt

  -- ---- the work

  -- so far
  abbrev pub Going : S → V → V → ℕ → Type 0
  Going o v w worker = Does v w (HasWorked seen o w worker (λ c. Unit {0}))

  pub going_none : (o : S) (v : V) (worker : ℕ) → IsFreeWorker (core_seen C o v) worker → Going o v v worker
  going_none o v worker free = record { events = []; went = went_none v; says = record { of = tt; open_still = refl; after = free; says = tt } }

  both : (o : S) (w : V) (worker : ℕ) (P : Core → Type 0) (es fs : List Event) → AreOf (Worker worker) es → calls_of es ≡ [] → HasWorked seen o w worker P fs → HasWorked seen o w worker P (es ++ fs)
  both o w worker P es fs of open_still p = record { of = of_on (Worker worker) es fs of p.of; open_still = calls_on es fs open_still p.open_still; after = p.after; says = p.says }

  -- what a try to serve did
  worked : (o : S) (v w : V) (worker : ℕ) (x : Served) (es : List Event) → ServeSays seen o v w worker (Ok x) es → HasWorked seen o w worker (λ c. Unit {0}) es
  worked o v w worker (One lane) es p = record { of = p.of; open_still = p.open_still; after = p.after; says = tt }
  worked o v w worker (Empty closing) es p = record { of = subst (AreOf (Worker worker)) (sym p.are) tt; open_still = ap calls_of p.are; after = p.after; says = tt }

  pub on_served : (o q : S) (v u w : V) (worker : ℕ) (x : Served) → q ≡ o → Going o v u worker → Does u w (ServeSays seen q u w worker (Ok x)) → Going o v w worker
  on_served o q v u w worker x same p n =
      let k = subst (λ (z : S). ServeSays seen z u w worker (Ok x) n.events) same n.says in
      record { events = p.events ++ n.events; went = went_on v u w p.events n.events p.went n.went; says = both o w worker (λ c. Unit {0}) p.events n.events p.says.of p.says.open_still (worked o u w worker x n.events k) }

  pub on_closing : (o q : S) (v u w : V) (worker : ℕ) (x : Served) → q ≡ o → x ≡ Empty true → Going o v u worker → Does u w (ServeSays seen q u w worker (Ok x)) → Does v w (LoopSays seen o w worker (Ok tt))
  on_closing o q v u w worker x same is p n =
      let k : FoundNone seen o u w worker true n.events = subst (λ (z : S × Served). ServeSays seen z.0 u w worker (Ok z.1) n.events) (λ i. (same i, is i)) n.says in
      let d = core_seen C o w in
      let says : HasWorked seen o w worker (λ c. (c.queue ≡ []) × IsClosing c) n.events
      = record { of = subst (AreOf (Worker worker)) (sym k.are) tt; open_still = ap calls_of k.are; after = k.after; says = (k.empty, left_closes d k.coherent (sym k.closes)) } in
      record { events = p.events ++ n.events; went = went_on v u w p.events n.events p.went n.went; says = both o w worker (λ c. (c.queue ≡ []) × IsClosing c) p.events n.events p.says.of p.says.open_still says }

  pub on_worn : (o q : S) (v u w : V) (worker : ℕ) (x : Worn) (r : Result (Unit {0}) Worn) → IsErr r → Going o v u worker → Does u w (ServeSays seen q u w worker (Err x)) → Does v w (LoopSays seen o w worker r)
  on_worn o q v u w worker x (Ok y) e p n = absurd (cc)
  on_worn o q v u w worker x (Err y) e p n =
      record { events = p.events ++ n.events; went = went_on v u w p.events n.events p.went n.went; says = (of_on (Worker worker) p.events n.events p.says.of n.says.0, calls_on p.events n.events p.says.open_still n.says.1) }
