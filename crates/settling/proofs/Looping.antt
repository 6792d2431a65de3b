-- The last sync, step by step.
use Rattle.std.proofs.Common.{◌≡◌, ℕ, ◌+◌, ◌<◌, ◌≤◌, Bool, true, false, List, [], ◌∷◌, ◌++◌, Option, Some, None, refl, sym, ap, ◌∙◌, subst, ⊎_elim, append-nil, append_assoc, length-append, arith}
use Rattle.std.specs.Prelude.{length, is_some, is_none, slice_get, option_map, Result, Ok, Err}
use Rattle.std.specs.Result.{IsErr}
use Rattle.std.specs.declared.snapshot.Snapshot.{Snapshot}
use Rattle.page_base.specs.Drive.{meta_pages}
use Rattle.turn_cell.specs.declared.view.View.{View}
use Rattle.turn_cell.specs.declared.pass.Worn.{Worn}
use Rattle.flash_die.specs.Dies.{DieView}
use Rattle.core_state.specs.declared.actor.Actor.{Actor}
use Rattle.core_state.specs.declared.actor.Actor.TheVariants.{Closer}
use Rattle.core_state.specs.declared.event.Event.{Event}
use Rattle.core_state.specs.declared.event.Event.TheVariants.{FlushOut}
use Rattle.core_state.specs.State.{Core}
use Rattle.core_state.specs.Contents.{die_of}
use Rattle.core_state.specs.DieEvents.{is_home}
use Rattle.core_state.specs.Coherent.{Coherent}
use Rattle.core_state.specs.Happens.{HoldsNone, CoreRun, actor_of, after, after_all}
use Rattle.core_state.specs.History.{is_failure}
use Rattle.core_state.proofs.Runs.{leads_to}
use Rattle.core_stores.proofs.Folds.{run_keeps}
use Rattle.core_solo.specs.Solo.{Steps, IsSyncStep, IsSyncNext, IsStored, SyncEnds, SyncFails}
use Rattle.core_solo.specs.Alone.{dies_out}
use Rattle.core_solo.specs.Settling.{sync_left}
use Rattle.core_solo.proofs.Words.{none_or_some}
use Rattle.core_solo.proofs.Rooms.{AllHome}
use Rattle.core_solo.proofs.Flights.{flush_there_of}
use Rattle.core_solo.proofs.Folds.{append, after_both}
use Rattle.core_solo.proofs.Falls.{outs_home}
use Rattle.core_solo.proofs.Closing.{at_home, step_settles, sync_stepped, sync_outs, left_most}
use Rattle.core_outcomes.proofs.Sent.{run_sent}
use Rattle.core_closing.specs.Kept.{MaySettle, IsStoredSoFar}
use Rattle.core_closing.proofs.Keeps.{all_stored}
use Rattle.system_state.specs.Cores.{core_of}
use Rattle.system_state.specs.declared.state.State.{State}
use Rattle.system_state.specs.declared.not_yet.NotYet.TheVariants.{DieBusy}
use Rattle.system_dies.specs.Going.{flush_refusal}
use Rattle.system_metas.specs.Encode.{encode}
use Rattle.desk_turns.specs.Making.{AreOf}
use Rattle.desk_turns.specs.Passing.{core_seen, Went, Does}
use Rattle.desk_turns.proofs.Went.{of_on, went_on, went_none}
use Rattle.page_steps.specs.Flushing.{IsBusy}
use Rattle.page_steps.proofs.FlushSteps.{failed_on as earlier}
use Rattle.settling.specs.Next.{IsPageAway, IsStopped}
use Rattle.settling.specs.Steps.{WroteNext, WroteNone, StepSays, StaysStored}
use Rattle.settling.specs.Settle.{HasSettled, HasNotSettled, SettleSays}
use Rattle.settling.specs.declared.step.SettleStep.{SettleStep}
use Rattle.settling.specs.declared.step.SettleStep.TheVariants.{On, Done, Failed, Waits}
use Rattle.settling.specs.declared.last_sync.Settled.{Settled}
use Rattle.settling.specs.declared.last_sync.Settled.TheVariants.{Done as AllDone, Failed as OneFailed}
use Rattle.settling.proofs.Stepping.{run_on}

-- ---- over the core alone

of_one : (a : Actor) (xs ys : List Event) (e : Event) → AreOf a (xs ++ e ∷ ys) → actor_of e ≡ a
of_one a [] ys e p = p.0
of_one a (x ∷ xs) ys e p = of_one a xs ys e p.1

-- where only the closer acted, all dies are at home once it holds none
pub home_again : (c d : Core) (es : List Event) → AllHome c → CoreRun c es d → AreOf Closer es → HoldsNone d Closer → AllHome d
home_again c d es home r of none die = ⊎_elim (λ n. n)
    (λ o.
    let s = run_sent c d es home r die o.0 o.1 in
    absurd (none die o.0 o.1 (sym s.holder ∙ of_one Closer s.before s.rest s.event (subst (AreOf Closer) s.split of)))) (none_or_some (d.dies die).out)

-- two steps of the last sync leave less to do
two_fall : (c d : Core) (out home : Event) → Coherent c → MaySettle c → AllHome c → CoreRun c (out ∷ home ∷ []) d → IsSyncStep encode c out → IsSyncStep encode (after c out) home → AllHome d → sync_left d < sync_left c
two_fall c d out home h p at r one two home_d =
    let c1 = after c out in
    let s1 = step_settles encode c out h (at_home c c p.closing at p.most) one r.0 in
    let h1 = run_keeps c c1 (out ∷ []) h (r.0, refl) in
    let s2 = step_settles encode c1 home h1 s1.settling two r.1.0 in
    let f2 = subst (λ (z : Core). sync_left z + dies_out c1 + 1 ≤ sync_left c1 + dies_out z) (sym r.1.1) s2.falls in
    let f1 = s1.falls in
    let z = outs_home c at in
    let y = outs_home d home_d in
    omega arith

-- a write can go out where all dies are at home
some_unclean : (c : Core) (us : List ℕ) (die : ℕ) → flush_refusal c us ≡ DieBusy die → is_some (slice_get us 0) ≡ true
some_unclean c [] die e = absurd (cc)
some_unclean c (b ∷ bs) die e = refl

not_stopped : (c : Core) (die : ℕ) → AllHome c → IsStopped die c → ⊥
not_stopped c die home stopped = ⊎_elim
    (λ (busy : IsBusy die c). flush_there_of c Closer home (some_unclean c c.unclean die busy.1) (ap (λ (o : Option ℕ). option_map (λ b. FlushOut Closer (die_of c.shape b) b) o) busy.0))
    (λ (away : IsPageAway die c). let a = away.away in let b : is_home (c.dies die) ≡ true = ap is_none (home die) in absurd (cc)) stopped

module _ {D J : Type 0} (seen : D → DieView) where
  abbrev C : State D J → Core
  C = core_of seen

  -- so far: each event is the closer's, and where the pass is alone they are steps of the last sync
  pub record Going (o : Snapshot (State D J)) (v w : View (Snapshot (State D J)) Event) (es : List Event) : Type 0 where
    pub of : AreOf Closer es
    pub ready : MaySettle (core_seen C o w)
    pub stays : StaysStored seen o v w
    pub steps : v.alone ≡ true → Steps (IsSyncStep encode) (core_seen C o v) es
    pub run : v.alone ≡ true → CoreRun (core_seen C o v) es (core_seen C o w)

  pub going_none : (o : Snapshot (State D J)) (v : View (Snapshot (State D J)) Event) → MaySettle (core_seen C o v) → Does v v (Going o v v)
  going_none o v p = record { events = []; went = went_none v; says = record { of = tt; ready = p; stays = λ y. y; steps = λ a. tt; run = λ a. refl } }

  alone_too : (v u : View (Snapshot (State D J)) Event) (es : List Event) → Went v u es → v.alone ≡ true → u.alone ≡ true
  alone_too v u es w a = ap (λ (z : View (Snapshot (State D J)) Event). z.alone) w.pass ∙ a

  -- the core that the steps led to
  led : (o : Snapshot (State D J)) (v u : View (Snapshot (State D J)) Event) (es : List Event) → CoreRun (core_seen C o v) es (core_seen C o u) → after_all (core_seen C o v) es ≡ core_seen C o u
  led o v u es r = sym (leads_to es (core_seen C o v) (core_seen C o u) r)

  on_going : (o : Snapshot (State D J)) (v u w : View (Snapshot (State D J)) Event) (es fs : List Event) → Went v u es → Going o v u es → WroteNext seen o u w true fs → Going o v w (es ++ fs)
  on_going o v u w es fs went g n =
      record {
        of = of_on Closer es fs g.of n.of;
        ready = n.ready;
        stays = λ y. n.stays (g.stays y);
        steps = λ a.
            let s = n.solo (alone_too v u es went a) in
            append (IsSyncStep encode) es fs (core_seen C o v) (g.steps a)
            (subst (λ (c : Core). Steps (IsSyncStep encode) c fs) (sym (led o v u es (g.run a)))
            (subst (λ (xs : List Event). Steps (IsSyncStep encode) (core_seen C o u) xs) (sym n.are) (s.0, (record { next = s.1; good = n.fails }, tt))));
        run = λ a. run_on es fs (core_seen C o v) (core_seen C o u) (core_seen C o w) (g.run a) (n.run (alone_too v u es went a));
      }

  -- a step was made
  pub on_step : (o q : Snapshot (State D J)) (v u w : View (Snapshot (State D J)) Event) (r : SettleStep) → q ≡ o → r ≡ On → Does v u (Going o v u) → Does u w (StepSays seen q u w (Ok r)) → Does v w (Going o v w)
  on_step o q v u w r same is p q' =
      let n : WroteNext seen o u w true q'.events = subst (λ (z : Snapshot (State D J) × SettleStep). StepSays seen z.0 u w (Ok z.1) q'.events) (λ i. (same i, is i)) q'.says in
      record { events = p.events ++ q'.events; went = went_on v u w p.events q'.events p.went q'.went; says = on_going o v u w p.events q'.events p.went p.says n }

  -- none could be made yet
  pub waits_on : (o q : Snapshot (State D J)) (v u w : View (Snapshot (State D J)) Event) (r : SettleStep) → q ≡ o → r ≡ Waits → Does v u (Going o v u) → Does u w (StepSays seen q u w (Ok r)) → Does v w (Going o v w)
  waits_on o q v u w r same is p q' =
      let n : WroteNone seen o u w _ q'.events = subst (λ (z : Snapshot (State D J) × SettleStep). StepSays seen z.0 u w (Ok z.1) q'.events) (λ i. (same i, is i)) q'.says in
      let none : p.events ++ q'.events ≡ p.events = ap (λ (xs : List Event). p.events ++ xs) n.are ∙ append-nil p.events in
      record {
        events = p.events ++ q'.events;
        went = went_on v u w p.events q'.events p.went q'.went;
        says = subst (Going o v w) (sym none) (record {
          of = p.says.of;
          ready = n.ready;
          stays = λ y. n.stays (p.says.stays y);
          steps = p.says.steps;
          run = λ a. subst (λ (c : Core). CoreRun (core_seen C o v) p.events c) (sym (n.same (alone_too v u p.events p.went a))) (p.says.run a);
        });
      }

  -- all is stored
  pub done_on : (o q : Snapshot (State D J)) (v u w : View (Snapshot (State D J)) Event) (r : SettleStep) → q ≡ o → r ≡ Done → Does v u (Going o v u) → Does u w (StepSays seen q u w (Ok r)) → Does v w (SettleSays seen o v w (Ok AllDone))
  done_on o q v u w r same is p q' =
      let n = subst (λ (z : Snapshot (State D J) × SettleStep). StepSays seen z.0 u w (Ok z.1) q'.events) (λ i. (same i, is i)) q'.says in
      let k = n.0 in
      let none : p.events ++ q'.events ≡ p.events = ap (λ (xs : List Event). p.events ++ xs) k.are ∙ append-nil p.events in
      record {
        events = p.events ++ q'.events;
        went = went_on v u w p.events q'.events p.went q'.went;
        says = subst (HasSettled seen o v w) (sym none) (record {
          of = p.says.of;
          stored = k.because;
          unfailed = n.1;
          all = λ y. all_stored encode (core_seen C o w) k.coherent k.ready.closing (k.stays (p.says.stays y)) k.because;
          ready = k.ready;
          solo = λ a. record { steps = p.says.steps a; stored = subst IsStored (k.same (alone_too v u p.events p.went a) ∙ sym (led o v u p.events (p.says.run a))) k.because };
        });
      }

  fails_from : (o : Snapshot (State D J)) (v u w : View (Snapshot (State D J)) Event) (es fs : List Event) → Went v u es → Going o v u es → (n : WroteNext seen o u w false fs) → v.alone ≡ true → SyncFails encode (core_seen C o v) (es ++ fs)
  fails_from o v u w es fs went g n a =
      let s = n.solo (alone_too v u es went a) in
      let c = core_seen C o v in
      let x = core_seen C o u in
      let to = led o v u es (g.run a) in
      let then : after_all c (es ++ n.out ∷ []) ≡ after x n.out = after_both es (n.out ∷ []) c ∙ ap (λ (z : Core). after z n.out) to in
      record {
        most = es ++ n.out ∷ [];
        last = n.home;
        whole = ap (λ (xs : List Event). es ++ xs) n.are ∙ sym (append_assoc es (n.out ∷ []) (n.home ∷ []));
        steps = append (IsSyncStep encode) es (n.out ∷ []) c (g.steps a) (subst (λ (z : Core). Steps (IsSyncStep encode) z (n.out ∷ [])) (sym to) (s.0, tt));
        next = subst (λ (z : Core). IsSyncNext encode z n.home) (sym then) s.1;
        failed = n.fails;
      }

  -- a write failed
  pub failed_on : (o q : Snapshot (State D J)) (v u w : View (Snapshot (State D J)) Event) (r : SettleStep) → q ≡ o → r ≡ Failed → Does v u (Going o v u) → Does u w (StepSays seen q u w (Ok r)) → Does v w (SettleSays seen o v w (Ok OneFailed))
  failed_on o q v u w r same is p q' =
      let n : WroteNext seen o u w false q'.events = subst (λ (z : Snapshot (State D J) × SettleStep). StepSays seen z.0 u w (Ok z.1) q'.events) (λ i. (same i, is i)) q'.says in
      let f = n.failed refl in
      record {
        events = p.events ++ q'.events;
        went = went_on v u w p.events q'.events p.went q'.went;
        says = record {
          of = of_on Closer p.events q'.events p.says.of n.of;
          last = f.0;
          failed = (f.1.0, earlier seen o v u w f.1.0 p.went.seen f.1.1);
          ready = n.ready;
          solo = fails_from o v u w p.events q'.events p.went p.says n;
        };
      }

  -- the turn is worn
  pub worn_on : (o q : Snapshot (State D J)) (v u w : View (Snapshot (State D J)) Event) (x : Worn) (r : Result Settled Worn) → q ≡ o → IsErr r → Does v u (Going o v u) → Does u w (StepSays seen q u w (Err x)) → Does v w (SettleSays seen o v w r)
  worn_on o q v u w x (Ok y) same e p q' = absurd (cc)
  worn_on o q v u w x (Err y) same e p q' =
      record {
        events = p.events ++ q'.events;
        went = went_on v u w p.events q'.events p.went q'.went;
        says = (
          of_on Closer p.events q'.events p.says.of q'.says.0,
          λ a f h s.
              let k = sync_stepped encode p.events (core_seen C o v) (core_seen C o u) h s (p.says.steps a) (p.says.run a) in
              let n = k.falls in
              let b = sync_outs (core_seen C o u) k.coherent k.settling in
              let m = left_most (core_seen C o v) f h in
              let l = q'.says.1 in
              omega (arith, length-append p.events q'.events),
        );
      }

  -- ---- alone

  pub home_on : (o : Snapshot (State D J)) (v u : View (Snapshot (State D J)) Event) → v.alone ≡ true → AllHome (core_seen C o v) → Does v u (Going o v u) → AllHome (core_seen C o u)
  home_on o v u a home p = home_again (core_seen C o v) (core_seen C o u) p.events home (p.says.run a) p.says.of p.says.ready.none

  pub on_falls : (o q : Snapshot (State D J)) (v u w : View (Snapshot (State D J)) Event) (r : SettleStep) → q ≡ o → r ≡ On → v.alone ≡ true → AllHome (core_seen C o v) → Does v u (Going o v u) → Does u w (StepSays seen q u w (Ok r)) →
      sync_left (core_seen C o w) < sync_left (core_seen C o u)
  on_falls o q v u w r same is a home p q' =
      let n : WroteNext seen o u w true q'.events = subst (λ (z : Snapshot (State D J) × SettleStep). StepSays seen z.0 u w (Ok z.1) q'.events) (λ i. (same i, is i)) q'.says in
      let b = alone_too v u p.events p.went a in
      let c = core_seen C o u in
      let d = core_seen C o w in
      let at = home_on o v u a home p in
      let s = n.solo b in
      two_fall c d n.out n.home n.begins p.says.ready at (subst (λ (es : List Event). CoreRun c es d) n.are (n.run b)) s.0 (record { next = s.1; good = n.fails }) (home_again c d q'.events at (n.run b) n.of n.ready.none)

  pub failed_home : (o q : Snapshot (State D J)) (v u w : View (Snapshot (State D J)) Event) (r : SettleStep) → q ≡ o → r ≡ Failed → v.alone ≡ true → AllHome (core_seen C o v) → Does v u (Going o v u) → Does u w (StepSays seen q u w (Ok r)) → AllHome (core_seen C o w)
  failed_home o q v u w r same is a home p q' =
      let n : WroteNext seen o u w false q'.events = subst (λ (z : Snapshot (State D J) × SettleStep). StepSays seen z.0 u w (Ok z.1) q'.events) (λ i. (same i, is i)) q'.says in
      home_again (core_seen C o u) (core_seen C o w) q'.events (home_on o v u a home p) (n.run (alone_too v u p.events p.went a)) n.of n.ready.none

  pub done_home : (o q : Snapshot (State D J)) (v u w : View (Snapshot (State D J)) Event) (r : SettleStep) → q ≡ o → r ≡ Done → v.alone ≡ true → AllHome (core_seen C o v) → Does v u (Going o v u) → Does u w (StepSays seen q u w (Ok r)) → AllHome (core_seen C o w)
  done_home o q v u w r same is a home p q' =
      let n = subst (λ (z : Snapshot (State D J) × SettleStep). StepSays seen z.0 u w (Ok z.1) q'.events) (λ i. (same i, is i)) q'.says in
      let k = n.0 in
      subst AllHome (sym (k.same (alone_too v u p.events p.went a))) (home_on o v u a home p)

  -- nobody else has a die out
  pub never_waits : (o q : Snapshot (State D J)) (v u w : View (Snapshot (State D J)) Event) (r : SettleStep) → q ≡ o → r ≡ Waits → v.alone ≡ true → AllHome (core_seen C o v) → Does v u (Going o v u) → Does u w (StepSays seen q u w (Ok r)) → ⊥
  never_waits o q v u w r same is a home p q' =
      let n : WroteNone seen o u w (λ c. (die : ℕ) × IsStopped die c) q'.events = subst (λ (z : Snapshot (State D J) × SettleStep). StepSays seen z.0 u w (Ok z.1) q'.events) (λ i. (same i, is i)) q'.says in
      let at : AllHome (core_seen C o w) = subst AllHome (sym (n.same (alone_too v u p.events p.went a))) (home_on o v u a home p) in
      not_stopped (core_seen C o w) n.because.0 at n.because.1
