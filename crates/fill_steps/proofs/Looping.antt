-- All pages of a call, page by page.
use Rattle.std.proofs.Common.{◌≡◌, ℕ, ◌+◌, ◌*◌, ◌-◌, ◌<◌, ◌≤◌, Bool, true, false, List, [], ◌∷◌, ◌++◌, length, Option, Some, None, refl, sym, ap, ◌∙◌, subst, inl, inr, ⊎_elim, arith, append_assoc}
use Rattle.std.specs.Prelude.{is_none, if◌then◌else◌, Result, Ok, Err}
use Rattle.std.specs.Result.{IsErr}
use Rattle.std.specs.declared.snapshot.Snapshot.{Snapshot}
use Rattle.index_lists.specs.Words.{one_if}
use Rattle.turn_cell.specs.declared.view.View.{View}
use Rattle.turn_cell.specs.History.{entry, StartsWith}
use Rattle.turn_cell.specs.declared.pass.Worn.{Worn}
use Rattle.flash_die.specs.Dies.{DieView}
use Rattle.plain_files.specs.History.{Entry}
use Rattle.plain_files.specs.declared.calls.Request.{Request}
use Rattle.core_state.specs.declared.actor.Actor.{Actor}
use Rattle.core_state.specs.declared.event.Event.{Event}
use Rattle.core_state.specs.State.{Page, Claim, Reach, Running, Flight, Core}
use Rattle.core_state.specs.Contents.{is_missing, die_of}
use Rattle.core_state.specs.DieEvents.{is_home}
use Rattle.core_state.specs.Happens.{HoldsNone, CoreRun, actor_of}
use Rattle.core_state.specs.History.{entry_of, and_then, calls_of}
use Rattle.core_state.proofs.Runs.{leads_to}
use Rattle.core_solo.specs.Solo.{Steps, IsStep}
use Rattle.core_solo.proofs.Words.{none_or_some}
use Rattle.core_solo.proofs.Rooms.{AllHome}
use Rattle.core_solo.proofs.Folds.{append}
use Rattle.core_outcomes.proofs.Sent.{run_sent}
use Rattle.system_state.specs.Cores.{core_of}
use Rattle.system_state.specs.declared.state.State.{State}
use Rattle.system_pages.specs.Ways.{way_at}
use Rattle.system_pages.specs.declared.ways.Way.TheVariants.{ByPage, ByDie, Busy}
use Rattle.call_job.specs.declared.job.Job.{Job}
use Rattle.desk_turns.specs.Making.{AreOf}
use Rattle.desk_turns.specs.Passing.{core_seen, FoundAt, Went, Does}
use Rattle.desk_turns.proofs.Went.{of_on, went_on, went_none}
use Rattle.event_turns.proofs.FlushSteps.{failed_on as earlier}
use Rattle.event_turns.specs.Cut.{IsCutOff}
use Rattle.event_turns.specs.PageTurns.{block_at}
use Rattle.fill_steps.specs.Gathering.{call_at, IsBetween, IsGathering, HasSpan, IsSameCall, IsInTurn, IsNextGather, is_away}
use Rattle.fill_steps.specs.Pages.{AreNext}
use Rattle.fill_steps.specs.Spans.{IsSameButPages, Gathers, StepSays, SpanSays}
use Rattle.fill_steps.specs.declared.page.FillStep.{FillStep}
use Rattle.fill_steps.specs.declared.page.FillStep.TheVariants.{Next, Again, Failed, Waits}
use Rattle.fill_steps.proofs.Calls.{same_call_on}
use Rattle.fill_steps.proofs.Trying.{run_on}

-- ---- over the core alone

pub calls_on : (es fs : List Event) → calls_of es ≡ [] → calls_of fs ≡ [] → calls_of (es ++ fs) ≡ []
calls_on [] fs p q = q
calls_on (e ∷ es) fs p q = go (entry_of e) p (λ r. calls_on es fs r q)
  where
    go : (o : Option Entry) → and_then o (calls_of es) ≡ [] → (calls_of es ≡ [] → calls_of (es ++ fs) ≡ []) → and_then o (calls_of (es ++ fs)) ≡ []
    go None p k = k p
    go (Some x) p k = absurd (cc)

-- a call is cut short after these steps
pub cut_off : (encode : Core → ℕ → Page) (c d : Core) (lane : ℕ) (request : Request) (es fs : List Event) → length fs ≤ 1 → Steps (IsStep encode lane request) c es → CoreRun c es d → IsCutOff encode c lane request (es ++ fs)
cut_off encode c d lane request es fs short steps run =
    record { most = es; rest = fs; are = refl; short = short; steps = steps; run = subst (CoreRun c es) (leads_to es c d run) run }

turn_kept : (f g : Flight) → IsSameCall f g → IsInTurn f → IsInTurn g
turn_kept f g s turn =
    ⊎_elim (λ h. inl (s.phase ∙ h.0, ap (λ (z : Claim). z.side) s.claim ∙ h.1))
    (λ (w : (worker : ℕ) × (f.phase ≡ Running worker)). inr (w.0, s.phase ∙ w.1)) turn

of_one : (a : Actor) (xs ys : List Event) (e : Event) → AreOf a (xs ++ e ∷ ys) → actor_of e ≡ a
of_one a [] ys e p = p.0
of_one a (x ∷ xs) ys e p = of_one a xs ys e p.1

-- where one actor alone acted, all dies are at home once it holds none
pub home_again : (a : Actor) (c d : Core) (es : List Event) → AllHome c → CoreRun c es d → AreOf a es → HoldsNone d a → AllHome d
home_again a c d es home r of none die = ⊎_elim (λ n. n)
    (λ o.
    let s = run_sent c d es home r die o.0 o.1 in
    absurd (none die o.0 o.1 (sym s.holder ∙ of_one a s.before s.rest s.event (subst (AreOf a) s.split of)))) (none_or_some (d.dies die).out)

-- then no page waits for its die
not_busy : (c : Core) (at : Option ℕ) (n : ℕ) → AllHome c → way_at c at ≡ Busy n → ⊥
not_busy c None n home e = absurd (cc)
not_busy c (Some b) n home e = go (is_missing (c.blocks b)) (is_home (c.dies (die_of c.shape b))) (ap (λ (o : Option _). is_none o) (home (die_of c.shape b))) e
  where
    go : (t u : Bool) → u ≡ true → (if t then (if u then ByDie (die_of c.shape b) else Busy (die_of c.shape b)) else ByPage) ≡ Busy n → ⊥
    go true true k e = absurd (cc)
    go true false k e = absurd (cc)
    go false u k e = absurd (cc)

-- ---- measures

pub pages_same : (old new : Job) → IsSameButPages old new → new.reach.pages ≡ old.reach.pages
pages_same old new s = ap (λ (j : Job). j.reach.pages) s

pub same_on : (a b c : Job) → IsSameButPages a b → IsSameButPages b c → IsSameButPages a c
same_on a b c p q = q ∙ (λ i. record (p i) { pages = c.pages })

next_less : (p q i : ℕ) (s t : Bool) → q ≡ p → i < p → 2 * (q - (i + 1)) + one_if t < 2 * (p - i) + one_if s
next_less p q i true true e l = omega arith
next_less p q i true false e l = omega arith
next_less p q i false true e l = omega arith
next_less p q i false false e l = omega arith

again_less : (p q i : ℕ) (s t : Bool) → q ≡ p → s ≡ true → t ≡ false → 2 * (q - i) + one_if t < 2 * (p - i) + one_if s
again_less p q i true false e f g = omega arith
again_less p q i true true e f g = absurd (cc)
again_less p q i false t e f g = absurd (cc)

has_span : (c : Core) (a : Actor) (lane i : ℕ) (job : Job) → IsGathering c a lane i job → job.reach.pages ≤ i → HasSpan c a lane job
has_span c a lane i job p l =
    record {
      between = p.between;
      all = λ j m w. let n : j < job.reach.pages = subst (λ (x : Reach). j < x.pages) (sym p.suits.reach) m in p.to.below j (omega arith) m w;
      suits = p.suits;
      fresh = p.fresh;
    }

module _ {D J : Type 0} (seen : D → DieView) where
  abbrev C : State D J → Core
  C = core_of seen

  -- so far
  abbrev pub Going : Snapshot (State D J) → View (Snapshot (State D J)) Event → View (Snapshot (State D J)) Event → Actor → ℕ → ℕ → Job → Type 0
  Going o v w a lane i job = Does v w (Gathers seen o v w a lane (λ d. IsGathering d a lane i job))

  pub going_none : (o : Snapshot (State D J)) (v : View (Snapshot (State D J)) Event) (a : Actor) (lane : ℕ) (job : Job) → IsGathering (core_seen C o v) a lane 0 job → Going o v v a lane 0 job
  going_none o v a lane job p = record { events = []; went = went_none v; says = record { of = tt; open_still = refl; next = tt; call = record { claim = refl; phase = refl }; says = p; run = λ al. refl; solo = λ al turn encode. tt } }

  pub alone_too : (v u : View (Snapshot (State D J)) Event) (es : List Event) → Went v u es → v.alone ≡ true → u.alone ≡ true
  alone_too v u es w a = ap (λ (z : View (Snapshot (State D J)) Event). z.alone) w.pass ∙ a

  -- of events made meanwhile
  pub next_later : (o : Snapshot (State D J)) (v u w : View (Snapshot (State D J)) Event) (a : Actor) (lane : ℕ) (es : List Event) → StartsWith w.seen u.seen → w.number ≡ u.number → AreNext seen o v u a lane es → AreNext seen o v w a lane es
  next_later o v u w a lane [] starts number p = tt
  next_later o v u w a lane (e ∷ es) starts number p = ((λ no. found_later (p.0 no)), next_later o v u w a lane es starts number p.1)
    where
      found_later : FoundAt C o v u e (IsNextGather a lane e) → FoundAt C o v w e (IsNextGather a lane e)
      found_later f =
          record {
            before = f.before;
            rest = f.rest ++ starts.0;
            since = f.since;
            seen = starts.1 ∙ (ap (λ z. z ++ starts.0) (f.seen ∙ (λ k. f.before ++ entry (sym number k) e ∷ f.rest)) ∙ append_assoc f.before (entry w.number e ∷ f.rest) starts.0);
            says = f.says;
          }

  pub next_earlier : (o : Snapshot (State D J)) (v u w : View (Snapshot (State D J)) Event) (a : Actor) (lane : ℕ) (es : List Event) → StartsWith u.seen v.seen → AreNext seen o u w a lane es → AreNext seen o v w a lane es
  next_earlier o v u w a lane [] starts p = tt
  next_earlier o v u w a lane (e ∷ es) starts p = ((λ no. found_earlier (p.0 no)), next_earlier o v u w a lane es starts p.1)
    where
      found_earlier : FoundAt C o u w e (IsNextGather a lane e) → FoundAt C o v w e (IsNextGather a lane e)
      found_earlier f =
          record {
            before = f.before;
            rest = f.rest;
            since = (starts.0 ++ f.since.0, f.since.1 ∙ (ap (λ z. z ++ f.since.0) starts.1 ∙ append_assoc v.seen starts.0 f.since.0));
            seen = f.seen;
            says = f.says;
          }

  next_on : (o : Snapshot (State D J)) (v w : View (Snapshot (State D J)) Event) (a : Actor) (lane : ℕ) (es fs : List Event) → AreNext seen o v w a lane es → AreNext seen o v w a lane fs → AreNext seen o v w a lane (es ++ fs)
  next_on o v w a lane [] fs p q = q
  next_on o v w a lane (e ∷ es) fs p q = (p.0, next_on o v w a lane es fs p.1 q)

  joined : (o : Snapshot (State D J)) (v u w : View (Snapshot (State D J)) Event) (a : Actor) (lane : ℕ) (P Q : Core → Type 0) (es fs : List Event) → Went v u es → Went u w fs → Gathers seen o v u a lane P es → Gathers seen o u w a lane Q fs → Gathers seen o v w a lane Q (es ++ fs)
  joined o v u w a lane P Q es fs went then_went p q =
      let c = core_seen C o v in
      let x = core_seen C o u in
      let f = call_at c lane in
      record {
        of = of_on a es fs p.of q.of;
        open_still = calls_on es fs p.open_still q.open_still;
        next = next_on o v w a lane es fs (next_later o v u w a lane es then_went.seen (ap (λ (z : View (Snapshot (State D J)) Event). z.number) then_went.pass) p.next) (next_earlier o v u w a lane fs went.seen q.next);
        call = same_call_on f (call_at x lane) (call_at (core_seen C o w) lane) p.call q.call;
        says = q.says;
        run = λ al. run_on es fs c x (core_seen C o w) (p.run al) (q.run (alone_too v u es went al));
        solo = λ al turn encode.
            let later = subst (λ (z : Claim). Steps (IsStep encode lane z.request) x fs) p.call.claim (q.solo (alone_too v u es went al) (turn_kept f (call_at x lane) p.call turn) encode) in
            append (IsStep encode lane f.claim.request) es fs c (p.solo al turn encode) (subst (λ (z : Core). Steps (IsStep encode lane f.claim.request) z fs) (leads_to es c x (p.run al)) later);
      }

  abbrev Stepped : Snapshot (State D J) → View (Snapshot (State D J)) Event → View (Snapshot (State D J)) Event → Actor → ℕ → ℕ → Job → FillStep → List Event → Type 0
  Stepped o v w a lane i job r es = StepSays seen o v w a lane i job (Ok r) es

  at_opening : (o q : Snapshot (State D J)) (u w : View (Snapshot (State D J)) Event) (a : Actor) (lane i : ℕ) (job : Job) (r s : FillStep) (es : List Event) → q ≡ o → r ≡ s → StepSays seen q u w a lane i job (Ok r) es → StepSays seen o u w a lane i job (Ok s) es
  at_opening o q u w a lane i job r s es same is p = subst (λ (z : Snapshot (State D J) × FillStep). StepSays seen z.0 u w a lane i job (Ok z.1) es) (λ k. (same k, is k)) p

  pub on_next : (o q : Snapshot (State D J)) (v u w : View (Snapshot (State D J)) Event) (a : Actor) (lane i : ℕ) (old new : Job) (r : FillStep) → q ≡ o → r ≡ Next → Going o v u a lane i old → Does u w (StepSays seen q u w a lane i new (Ok r)) → Going o v w a lane (i + 1) new
  on_next o q v u w a lane i old new r same is p n =
      let k = at_opening o q u w a lane i new r Next n.events same is n.says in
      record { events = p.events ++ n.events; went = went_on v u w p.events n.events p.went n.went; says = joined o v u w a lane (λ d. IsGathering d a lane i old) (λ d. IsGathering d a lane (i + 1) new) p.events n.events p.went n.went p.says k }

  pub on_again : (o q : Snapshot (State D J)) (v u w : View (Snapshot (State D J)) Event) (a : Actor) (lane i : ℕ) (old new : Job) (r : FillStep) → q ≡ o → r ≡ Again → Going o v u a lane i old → Does u w (StepSays seen q u w a lane i new (Ok r)) → Going o v w a lane i new
  on_again o q v u w a lane i old new r same is p n =
      let k = at_opening o q u w a lane i new r Again n.events same is n.says in
      record { events = p.events ++ n.events; went = went_on v u w p.events n.events p.went n.went; says = joined o v u w a lane (λ d. IsGathering d a lane i old) (λ d. IsGathering d a lane i new) p.events n.events p.went n.went p.says k.0 }

  pub on_waits : (o q : Snapshot (State D J)) (v u w : View (Snapshot (State D J)) Event) (a : Actor) (lane i : ℕ) (old new : Job) (r : FillStep) → q ≡ o → r ≡ Waits → Going o v u a lane i old → Does u w (StepSays seen q u w a lane i new (Ok r)) → Going o v w a lane i new
  on_waits o q v u w a lane i old new r same is p n =
      let k = at_opening o q u w a lane i new r Waits n.events same is n.says in
      record { events = p.events ++ n.events; went = went_on v u w p.events n.events p.went n.went; says = joined o v u w a lane (λ d. IsGathering d a lane i old) (λ d. IsGathering d a lane i new) p.events n.events p.went n.went p.says k.0 }

  pub on_failed : (o q : Snapshot (State D J)) (v u w : View (Snapshot (State D J)) Event) (a : Actor) (lane i : ℕ) (old new : Job) (r : FillStep) → q ≡ o → r ≡ Failed → Going o v u a lane i old → Does u w (StepSays seen q u w a lane i new (Ok r)) → Does v w (SpanSays seen o v w a lane new (Ok false))
  on_failed o q v u w a lane i old new r same is p n =
      let k = at_opening o q u w a lane i new r Failed n.events same is n.says in
      record {
        events = p.events ++ n.events;
        went = went_on v u w p.events n.events p.went n.went;
        says = (joined o v u w a lane (λ d. IsGathering d a lane i old) (λ d. IsBetween true d a lane) p.events n.events p.went n.went p.says k.0, (k.1.0, earlier seen o v u w k.1.0 p.went.seen k.1.1));
      }

  pub on_done : (o : Snapshot (State D J)) (v u : View (Snapshot (State D J)) Event) (a : Actor) (lane i : ℕ) (job : Job) → Going o v u a lane i job → job.reach.pages ≤ i → Does v u (SpanSays seen o v u a lane job (Ok true))
  on_done o v u a lane i job p l =
      let g = p.says in
      record { events = p.events; went = p.went; says = record { of = g.of; open_still = g.open_still; next = g.next; call = g.call; says = has_span (core_seen C o u) a lane i job g.says l; run = g.run; solo = g.solo } }

  pub on_worn : (o q : Snapshot (State D J)) (v u w : View (Snapshot (State D J)) Event) (a : Actor) (lane i : ℕ) (old new : Job) (x : Worn) (r : Result Bool Worn) → IsErr r → Going o v u a lane i old → Does u w (StepSays seen q u w a lane i new (Err x)) → Does v w (SpanSays seen o v w a lane new r)
  on_worn o q v u w a lane i old new x (Ok y) e p n = absurd (cc)
  on_worn o q v u w a lane i old new x (Err y) e p n =
      record {
        events = p.events ++ n.events;
        went = went_on v u w p.events n.events p.went n.went;
        says = (
          of_on a p.events n.events p.says.of n.says.0,
          calls_on p.events n.events p.says.open_still n.says.1,
          λ al turn encode. cut_off encode (core_seen C o v) (core_seen C o u) lane (call_at (core_seen C o v) lane).claim.request p.events n.events n.says.2 (p.says.solo al turn encode) (p.says.run al),
        );
      }

  -- ---- alone

  pub home_on : (o : Snapshot (State D J)) (v u : View (Snapshot (State D J)) Event) (a : Actor) (lane i : ℕ) (job : Job) → v.alone ≡ true → AllHome (core_seen C o v) → Going o v u a lane i job → AllHome (core_seen C o u)
  home_on o v u a lane i job al home p = home_again a (core_seen C o v) (core_seen C o u) p.events home (p.says.run al) p.says.of p.says.says.between.none

  pub failed_home : (o : Snapshot (State D J)) (v w : View (Snapshot (State D J)) Event) (a : Actor) (lane : ℕ) (job : Job) → v.alone ≡ true → AllHome (core_seen C o v) → Does v w (SpanSays seen o v w a lane job (Ok false)) → AllHome (core_seen C o w)
  failed_home o v w a lane job al home p = home_again a (core_seen C o v) (core_seen C o w) p.events home (p.says.0.run al) p.says.0.of p.says.0.says.none

  pub never_waits : (o q : Snapshot (State D J)) (v u w : View (Snapshot (State D J)) Event) (a : Actor) (lane i : ℕ) (old new : Job) (r : FillStep) → q ≡ o → r ≡ Waits → v.alone ≡ true → AllHome (core_seen C o v) → Going o v u a lane i old → Does u w (StepSays seen q u w a lane i new (Ok r)) → ⊥
  never_waits o q v u w a lane i old new r same is al home p n =
      let k = at_opening o q u w a lane i new r Waits n.events same is n.says in
      not_busy (core_seen C o w) (block_at (core_seen C o w) lane i) k.2.0 (home_on o v w a lane i new al home (on_waits o q v u w a lane i old new r same is p n)) k.2.1

  abbrev pub left_at : Snapshot (State D J) → View (Snapshot (State D J)) Event → ℕ → ℕ → Job → ℕ
  left_at o w lane i job = 2 * (job.reach.pages - i) + one_if (is_away (core_seen C o w) lane i)

  pub next_falls : (q p : Snapshot (State D J)) (u w : View (Snapshot (State D J)) Event) (lane i : ℕ) (old new : Job) → IsSameButPages old new → i < old.reach.pages → left_at q w lane (i + 1) new < left_at p u lane i old
  next_falls q p u w lane i old new same l = next_less old.reach.pages new.reach.pages i (is_away (core_seen C p u) lane i) (is_away (core_seen C q w) lane (i + 1)) (pages_same old new same) l

  pub again_falls : (q z : Snapshot (State D J)) (v u w : View (Snapshot (State D J)) Event) (a : Actor) (lane i : ℕ) (old new : Job) (r : FillStep) (o : Snapshot (State D J)) → z ≡ q → r ≡ Again → v.alone ≡ true → Going o v u a lane i old → IsSameButPages old new → Does u w (StepSays seen q u w a lane i new (Ok r)) → left_at z w lane i new < left_at q u lane i old
  again_falls q z v u w a lane i old new r o same is al p s n =
      let k = at_opening q q u w a lane i new r Again n.events refl is n.says in
      let b = alone_too v u p.events p.went al in
      again_less old.reach.pages new.reach.pages i (is_away (core_seen C q u) lane i) (is_away (core_seen C z w) lane i) (pages_same old new s) (k.1.was b) (subst (λ (y : Snapshot (State D J)). is_away (core_seen C y w) lane i ≡ false) (sym same) (k.1.now b))
