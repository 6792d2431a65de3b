-- A run of one thread is there whose dies fail by any plans.
use Rattle.std.proofs.Common.{◌≡◌, ℕ, zero, suc, ◌+◌, ◌<◌, ◌≤◌, Bool, true, false, List, [], ◌∷◌, ◌++◌, Option, Some, None, length, refl, sym, ap, ◌∙◌, subst, inl, inr, ⊎_elim, arith, append_assoc}
use Rattle.std.specs.Prelude.{◌==◌, is_some, map}
use Rattle.std.specs.List.{range_with_len}
use Rattle.index_lists.specs.Words.{one_if}
use Rattle.flash_die.specs.Dies.{PlanView}
use Rattle.plain_files.specs.declared.calls.Request.{Request}
use Rattle.plain_files.specs.History.{Entry}
use Rattle.core_state.specs.declared.actor.Actor.TheVariants.{Closer}
use Rattle.core_state.specs.declared.event.Event.{Event}
use Rattle.core_state.specs.declared.event.Event.TheVariants.{Enter, Leave}
use Rattle.core_state.specs.State.{Page, Shape, LaneState, Flight, DieState, Core}
use Rattle.core_state.specs.Opening.{new_lane}
use Rattle.core_state.specs.Coherent.{Coherent}
use Rattle.core_state.specs.Happens.{CoreRun, Happens, after, after_all}
use Rattle.core_state.specs.History.{IsPlannedFrom, request_of, is_failure}
use Rattle.core_solo.specs.Solo.{IsNext, IsStep, SoloCall, SoloLines, Script, SoloRun, enters, leaves, acting, call_event, sync_event, IsSyncNext, IsSyncStep, IsStored, SyncEnds, SyncFails, SoloSync, SoloEnd}
use Rattle.core_solo.specs.Alone.{OpeningFrames, HasFrames, IsEncoding, IsAlone, IsAtRest, dies_out}
use Rattle.core_solo.specs.Left.{call_left}
use Rattle.core_solo.specs.Settling.{IsFresh, IsSettling, SettlesOn, lines_of, AreInOrder, sync_left}
use Rattle.core_lemmas.proofs.Words.{nothing}
use Rattle.core_stores.proofs.Folds.{run_keeps}
use Rattle.core_solo.proofs.Words.{true_or_false}
use Rattle.core_solo.proofs.Goes.{goes_on}
use Rattle.core_solo.proofs.Steps.{fits_of, alone_after}
use Rattle.core_solo.proofs.Costs.{falls_after}
use Rattle.core_solo.proofs.Bounds.{outs_most}
use Rattle.core_solo.proofs.Rests.{shape_all, rest_alone}
use Rattle.core_solo.proofs.Calls.{call_rest, line_low}
use Rattle.core_solo.proofs.Closing.{settles_on, step_settles, sync_outs}
use Rattle.core_solo.proofs.Folds.{after_both}
use Rattle.core_solo.proofs.Asks.{call_tells}
use Rattle.core_solo.proofs.Exists.{AllClear, run_join}
use Rattle.core_solo.proofs.Whole.{entered_all, parts_of}
use Rattle.system_state.specs.Stands.{failing}
use Rattle.core_plans.specs.Failing.{LeavesFrom}
use Rattle.core_plans.specs.Running.{RunsAsPlanned}
use Rattle.core_plans.proofs.Alike.{AsSaid, later}
use Rattle.core_plans.proofs.Plans.{Made, Fits, next, decides}
use Rattle.core_plans.proofs.Answering.{answered, still_next, still_happens, still_fits}
use Rattle.core_solo.specs.Served.{starved_of}
use Rattle.core_plans.proofs.Starved.{starved_both, call_fed, starved_lines}
use Rattle.core_plans.proofs.Lanes.{run_ends_of, ends_in, one_entry, lines_more, has_frames, waits_for, enters_happen, leaves_happen, enters_keep, call_clear}

none_of : {A : Type 0} (o : Option A) → is_some o ≡ false → o ≡ None
none_of None e = refl
none_of (Some x) e = absurd (cc)

append_nil : (xs : List Event) → xs ++ [] ≡ xs
append_nil [] = refl
append_nil (x ∷ xs) = ap (λ (ys : List Event). x ∷ ys) (append_nil xs)

module _ (plans : ℕ → PlanView) (left : ℕ → ℕ → Page) (paged : (d n : ℕ) → length (left d n) ≡ 4096) where
  abbrev Said : Made → List Event → Type 0
  Said s es = AsSaid (next plans left) (Fits plans left) (decides plans left) s es

  abbrev made_after : Made → List Event → Made
  made_after s es = later (next plans left) (Fits plans left) (decides plans left) s es

  said_join : (xs ys : List Event) (s : Made) → Said s xs → Said (made_after s xs) ys → Said s (xs ++ ys)
  said_join [] ys s a b = b
  said_join (x ∷ xs) ys s a b = (a.0, said_join xs ys (next plans left s x) a.1 b)

  planned_of : (es : List Event) (s : Made) → Said s es → (d : ℕ) → IsPlannedFrom d (failing (plans d)) (s.reads d) (s.writes d) es
  planned_of [] s a d = tt
  planned_of (e ∷ es) s a d = ((a.0 d).read, (a.0 d).write, planned_of es (next plans left s e) a.1 d)

  leaves_of : (es : List Event) (s : Made) → Said s es → (d : ℕ) → LeavesFrom d (left d) (s.writes d) es
  leaves_of [] s a d = tt
  leaves_of (e ∷ es) s a d = ((a.0 d).spoilt, leaves_of es (next plans left s e) a.1 d)

  -- ---- a call

  record CallEnds (encode : Core → ℕ → Page) (c : Core) (lane : ℕ) (request : Request) (s : Made) : Type 0 where
    events : List Event
    call : SoloCall encode c lane request events
    run : CoreRun c events (after_all c events)
    said : Said s events

  prepended : (encode : Core → ℕ → Page) (c : Core) (lane : ℕ) (request : Request) (s : Made) (e : Event) → IsStep encode lane request c e → Happens c e (after c e) → Fits plans left s e → CallEnds encode (after c e) lane request (next plans left s e) → CallEnds encode c lane request s
  prepended encode c lane request s e step h fits k = record {
    events = e ∷ k.events;
    call = record {
      most = e ∷ k.call.most;
      last = k.call.last;
      whole = ap (λ (xs : List Event). e ∷ xs) k.call.whole;
      steps = (step, k.call.steps);
      next = k.call.next;
      answers = k.call.answers;
    };
    run = (h, k.run);
    said = (fits, k.said);
  }

  ended_now : (encode : Core → ℕ → Page) (c : Core) (lane : ℕ) (request : Request) (s : Made) (e : Event) → IsNext encode lane request c e → Happens c e (after c e) → Fits plans left s e → is_some (request_of e) ≡ true → CallEnds encode c lane request s
  ended_now encode c lane request s e n h fits answers = record {
    events = e ∷ [];
    call = record { most = []; last = e; whole = refl; steps = tt; next = n; answers = answers };
    run = (h, refl);
    said = (fits, tt);
  }

  -- the next event, as the plans answer
  record Goes (encode : Core → ℕ → Page) (c : Core) (lane : ℕ) (request : Request) (s : Made) : Type 0 where
    event : Event
    is_next : IsNext encode lane request c event
    happens : Happens c event (after c event)
    fits : Fits plans left s event

  goes : (encode : Core → ℕ → Page) (c : Core) (lane : ℕ) (request : Request) (s : Made) → IsEncoding encode → HasFrames c.shape → Coherent c → IsAlone c lane request → Goes encode c lane request s
  goes encode c lane request s whole frames h alone =
      let g = goes_on encode c lane request whole frames h alone in
      record {
        event = answered plans left s g.event;
        is_next = still_next plans left s (acting lane (c.calls lane)) (call_event encode c lane request (c.calls lane)) g.event g.next;
        happens = still_happens plans left paged s c g.event g.happens;
        fits = still_fits plans left s g.event;
      }

  call_in : (n : ℕ) (encode : Core → ℕ → Page) (c : Core) (lane : ℕ) (request : Request) (s : Made) → IsEncoding encode → HasFrames c.shape → Coherent c → IsAlone c lane request → call_left c lane + 1 ≤ n + dies_out c → CallEnds encode c lane request s
  call_in zero encode c lane request s whole frames h alone l =
      let g = goes encode c lane request s whole frames h alone in
      ⊎_elim (λ answers. ended_now encode c lane request s g.event g.is_next g.happens g.fits answers)
      (λ no.
      let none = none_of (request_of g.event) no in
      let fit = fits_of encode c lane request g.event g.is_next in
      let a2 = alone_after g.event c lane request h alone fit g.happens none in
      let less = falls_after g.event c lane request h alone fit g.happens none in
      let h2 = run_keeps c (after c g.event) (g.event ∷ []) h (g.happens, refl) in
      let most = outs_most (after c g.event) lane request h2 a2 in
      absurd (omega arith)) (true_or_false (is_some (request_of g.event)))
  call_in (suc n) encode c lane request s whole frames h alone l =
      let g = goes encode c lane request s whole frames h alone in
      ⊎_elim (λ answers. ended_now encode c lane request s g.event g.is_next g.happens g.fits answers)
      (λ no.
      let none = none_of (request_of g.event) no in
      let fit = fits_of encode c lane request g.event g.is_next in
      let a2 = alone_after g.event c lane request h alone fit g.happens none in
      let less = falls_after g.event c lane request h alone fit g.happens none in
      let h2 = run_keeps c (after c g.event) (g.event ∷ []) h (g.happens, refl) in
      let f2 = subst HasFrames (sym (shape_all (g.event ∷ []) c)) frames in
      prepended encode c lane request s g.event (record { next = g.is_next; open_still = none }) g.happens g.fits (call_in n encode (after c g.event) lane request (next plans left s g.event) whole f2 h2 a2 (omega arith))) (true_or_false (is_some (request_of g.event)))

  call_ends : (encode : Core → ℕ → Page) (c : Core) (lane : ℕ) (request : Request) (s : Made) → IsEncoding encode → HasFrames c.shape → Coherent c → IsAlone c lane request → CallEnds encode c lane request s
  call_ends encode c lane request s whole frames h alone = call_in (call_left c lane + 1) encode c lane request s whole frames h alone (omega arith)

  -- ---- the last sync

  record SettleEnds (encode : Core → ℕ → Page) (c : Core) (s : Made) : Type 0 where
    events : List Event
    sync : SoloSync encode c events
    run : CoreRun c events (after_all c events)
    said : Said s events

  sync_more : (encode : Core → ℕ → Page) (c : Core) (s : Made) (e : Event) → IsSyncStep encode c e → Happens c e (after c e) → Fits plans left s e → SettleEnds encode (after c e) (next plans left s e) → SettleEnds encode c s
  sync_more encode c s e step k fits rest = record {
    events = e ∷ rest.events;
    sync = ⊎_elim
        (λ (ends : SyncEnds encode (after c e) rest.events). inl (record { steps = (step, ends.steps); stored = ends.stored }))
        (λ (fails : SyncFails encode (after c e) rest.events). inr (record { most = e ∷ fails.most; last = fails.last; whole = ap (λ (xs : List Event). e ∷ xs) fails.whole; steps = (step, fails.steps); next = fails.next; failed = fails.failed })) rest.sync;
    run = (k, rest.run);
    said = (fits, rest.said);
  }

  sync_failed : (encode : Core → ℕ → Page) (c : Core) (s : Made) (e : Event) → IsSyncNext encode c e → Happens c e (after c e) → Fits plans left s e → is_failure e ≡ true → SettleEnds encode c s
  sync_failed encode c s e n k fits failed = record {
    events = e ∷ [];
    sync = inr (record { most = []; last = e; whole = refl; steps = tt; next = n; failed = failed });
    run = (k, refl);
    said = (fits, tt);
  }

  sync_stored : (encode : Core → ℕ → Page) (c : Core) (s : Made) → IsStored c → SettleEnds encode c s
  sync_stored encode c s stored = record { events = []; sync = inl (record { steps = tt; stored = stored }); run = refl; said = tt }

  record SyncGoes (encode : Core → ℕ → Page) (c : Core) (s : Made) : Type 0 where
    event : Event
    is_next : IsSyncNext encode c event
    happens : Happens c event (after c event)
    fits : Fits plans left s event

  sync_goes : (encode : Core → ℕ → Page) (c : Core) (s : Made) → SettlesOn encode c → SyncGoes encode c s
  sync_goes encode c s g = record {
    event = answered plans left s g.event;
    is_next = still_next plans left s Closer (sync_event encode c Closer c.closer) g.event g.next;
    happens = still_happens plans left paged s c g.event g.happens;
    fits = still_fits plans left s g.event;
  }

  settles_in : (n : ℕ) (encode : Core → ℕ → Page) (c : Core) (s : Made) → IsEncoding encode → Coherent c → IsSettling c → sync_left c + 1 ≤ n + dies_out c → SettleEnds encode c s
  settles_in zero encode c s whole h z l = ⊎_elim
      (λ stored. sync_stored encode c s stored)
      (λ on.
      let g = sync_goes encode c s on in
      ⊎_elim (λ failed. sync_failed encode c s g.event g.is_next g.happens g.fits failed)
      (λ good.
      let k = step_settles encode c g.event h z (record { next = g.is_next; good = good }) g.happens in
      let h2 = run_keeps c (after c g.event) (g.event ∷ []) h (g.happens, refl) in
      let a = k.falls in
      let b = sync_outs (after c g.event) h2 k.settling in
      absurd (omega arith)) (true_or_false (is_failure g.event))) (settles_on encode c whole h z)
  settles_in (suc n) encode c s whole h z l = ⊎_elim
      (λ stored. sync_stored encode c s stored)
      (λ on.
      let g = sync_goes encode c s on in
      ⊎_elim (λ failed. sync_failed encode c s g.event g.is_next g.happens g.fits failed)
      (λ good.
      let step : IsSyncStep encode c g.event = record { next = g.is_next; good = good } in
      let k = step_settles encode c g.event h z step g.happens in
      let h2 = run_keeps c (after c g.event) (g.event ∷ []) h (g.happens, refl) in
      let a = k.falls in
      sync_more encode c s g.event step g.happens g.fits (settles_in n encode (after c g.event) (next plans left s g.event) whole h2 k.settling (omega arith))) (true_or_false (is_failure g.event))) (settles_on encode c whole h z)

  settle_ends : (encode : Core → ℕ → Page) (c : Core) (s : Made) → IsEncoding encode → Coherent c → IsSettling c → SettleEnds encode c s
  settle_ends encode c s whole h z = settles_in (sync_left c + 1) encode c s whole h z (omega arith)

  -- ---- lines

  record LinesEnd (encode : Core → ℕ → Page) (c : Core) (script : Script) (lines : List (ℕ × ℕ)) (s : Made) : Type 0 where
    events : List Event
    lines_are : SoloLines encode c script lines events
    run : CoreRun c events (after_all c events)
    rest : IsAtRest (after_all c events)
    clear : AllClear (after_all c events)
    said : Said s events
    fed : starved_of events ≡ map (λ (line : ℕ × ℕ). false) lines

  lines_end : (encode : Core → ℕ → Page) (script : Script) (lines before : List (ℕ × ℕ)) (c : Core) (s : Made) → IsEncoding encode → OpeningFrames c.shape → length script.lanes ≡ c.shape.lanes → Coherent c → IsAtRest c → AllClear c → ((l : ℕ) → (c.lanes l).ended ≡ lines_of l before) →
      AreInOrder script → script.order ≡ before ++ lines → LinesEnd encode c script lines s
  lines_end encode script [] before c s whole f wide h rest clear ended order at = record { events = []; lines_are = refl; run = refl; rest = rest; clear = clear; said = tt; fed = refl }
  lines_end encode script (line ∷ lines) before c s whole f wide h rest clear ended order at =
      let o = order before lines line at in
      let within : line.0 < c.shape.lanes = subst (λ (n : ℕ). line.0 < n) wide (line_low script.lanes line o.request o.asks) in
      let k = call_ends encode c line.0 o.request s whole (has_frames c.shape f) h (rest_alone c line.0 o.request rest within (waits_for c before o.request.awaits ended o.waits)) in
      let own = k.events in
      let c2 = after_all c own in
      let z = shape_all own c in
      let t = call_tells encode own c c2 line.0 o.request h (λ x e. absurd (nothing (c.calls line.0) x (rest.still line.0) e)) (inr k.call) k.run in
      let more = lines_end encode script lines (before ++ line ∷ []) c2 (made_after s own) whole (subst OpeningFrames (sym z) f) (wide ∙ ap (λ (w : Shape). w.lanes) (sym z)) (run_keeps c c2 own h k.run)
      (call_rest encode own c c2 line.0 o.request h rest within k.call k.run) (call_clear encode own c line.0 o.request h rest within clear k.call k.run)
      (λ l.
      let a = run_ends_of own c l in
      let b = ap (λ (xs : List Entry). ends_in l xs) t.whole in
      let d = one_entry l t.entry in
      let e = ap (λ (w : ℕ). one_if (w == l)) t.lane_is in
      let g = ended l in
      let m = lines_more l before line in
      omega arith)
      order (at ∙ sym (append_assoc before (line ∷ []) lines)) in
      record {
        events = own ++ more.events;
        lines_are = (own, more.events, refl, record { request = o.request; asks = o.asks; answered = inr k.call }, more.lines_are);
        run = run_join own more.events c k.run more.run;
        rest = subst IsAtRest (sym (after_both own more.events c)) more.rest;
        clear = subst AllClear (sym (after_both own more.events c)) more.clear;
        said = said_join own more.events s k.said more.said;
        fed = starved_both own more.events ∙ (ap (λ (bs : List Bool). bs ++ starved_of more.events) (call_fed encode own c c2 line.0 o.request h rest k.call k.run) ∙ ap (λ (bs : List Bool). false ∷ bs) more.fed);
      }

  enters_said : (n a : ℕ) (s : Made) → Said s (map (λ lane. Enter lane) (range_with_len a n))
  enters_said zero a s = tt
  enters_said (suc n) a s = ((λ d. record { read = tt; write = tt; spoilt = tt }), enters_said n (a + 1) (next plans left s (Enter a)))

  leaves_said : (n a : ℕ) (s : Made) → Said s (map (λ lane. Leave lane) (range_with_len a n))
  leaves_said zero a s = tt
  leaves_said (suc n) a s = ((λ d. record { read = tt; write = tt; spoilt = tt }), leaves_said n (a + 1) (next plans left s (Leave a)))

  -- ---- all of it

  record EndIs (encode : Core → ℕ → Page) (last : Bool) (c : Core) (s : Made) : Type 0 where
    events : List Event
    ending : SoloEnd encode last c events
    run : CoreRun c events (after_all c events)
    said : Said s events

  end_is : (encode : Core → ℕ → Page) (last : Bool) (c : Core) (s : Made) → IsEncoding encode → Coherent c → IsSettling c → EndIs encode last c s
  end_is encode true c s whole h z = let k = settle_ends encode c s whole h z in record { events = k.events; ending = k.sync; run = k.run; said = k.said }
  end_is encode false c s whole h z = record { events = []; ending = refl; run = refl; said = tt }

  pub run_ends : (encode : Core → ℕ → Page) (c0 : Core) (script : Script) (last : Bool) → IsEncoding encode → OpeningFrames c0.shape → length script.lanes ≡ c0.shape.lanes → Coherent c0 → IsFresh c0 → ((l : ℕ) → c0.lanes l ≡ new_lane) → AreInOrder script → RunsAsPlanned encode plans left c0 script last
  run_ends encode c0 script last whole f wide h fresh new order =
      let n = c0.shape.lanes in
      let start = after_all c0 (enters n) in
      let s = shape_all (enters n) c0 in
      let s0 : Made = record { reads = λ d. (plans d).reads; writes = λ d. (plans d).writes } in
      let s1 = made_after s0 (enters n) in
      let e = entered_all n 0 c0 in
      let enter = enters_happen n 0 c0 (omega arith) fresh.home (λ l p. ap (λ (w : LaneState). w.stage) (new l)) in
      let h1 = run_keeps c0 start (enters n) h enter in
      let rest : IsAtRest start = record {
        inside = λ l p. let q : l < n = subst (λ (w : Shape). l < w.lanes) s p in e.moved l (omega arith) (omega arith);
        still = λ l. ap (λ (w : ℕ → Option Flight). w l) e.calls ∙ fresh.still l;
        home = λ die. ap (λ (w : ℕ → DieState). (w die).out) e.dies ∙ fresh.home die;
      } in
      let k = lines_end encode script script.order [] start s1 whole (subst OpeningFrames (sym s) f) (wide ∙ ap (λ (w : Shape). w.lanes) (sym s)) h1 rest
      (λ l. (enters_keep n 0 c0 l).0 ∙ ap (λ (w : LaneState). w.mark) (new l)) (λ l. (enters_keep n 0 c0 l).1 ∙ ap (λ (w : LaneState). w.ended) (new l)) order refl in
      let middle = after_all start k.events in
      let t : middle.shape ≡ c0.shape = shape_all k.events start ∙ s in
      let low : 0 + n ≤ middle.shape.lanes = subst (λ (w : Shape). 0 + n ≤ w.lanes) (sym t) (omega arith) in
      let leave = leaves_happen n 0 middle low k.rest.home k.rest.still k.clear (λ l p q. k.rest.inside l (subst (λ (w : Shape). l < w.lanes) (sym t) (omega arith))) in
      let to_end = run_join k.events (leaves n) start k.run leave in
      let all = run_join (enters n) (k.events ++ leaves n) c0 enter to_end in
      let end = after_all c0 (enters n ++ (k.events ++ leaves n)) in
      let p = parts_of encode c0 end script k.events [] f wide h fresh k.lines_are
      (subst (λ (xs : List Event). CoreRun c0 (enters n ++ (k.events ++ xs)) end) (sym (append_nil (leaves n))) all) in
      let at : p.end ≡ end =
      p.left ∙ (ap (λ (w : Core). after_all (after_all w k.events) (leaves n)) p.entered
      ∙ (sym (after_both k.events (leaves n) start) ∙ sym (after_both (enters n) (k.events ++ leaves n) c0))) in
      let s2 = made_after s1 k.events in
      let s3 = made_after s2 (leaves n) in
      let z = end_is encode last end s3 whole (subst Coherent at p.end_coherent) (subst IsSettling at p.settles) in
      let joined = run_join (enters n ++ (k.events ++ leaves n)) z.events c0 all z.run in
      let same : (enters n ++ (k.events ++ leaves n)) ++ z.events ≡ enters n ++ (k.events ++ (leaves n ++ z.events)) =
      append_assoc (enters n) (k.events ++ leaves n) z.events ∙ ap (λ (xs : List Event). enters n ++ xs) (append_assoc k.events (leaves n) z.events) in
      let said = said_join (enters n) (k.events ++ (leaves n ++ z.events)) s0 (enters_said n 0 s0)
      (said_join k.events (leaves n ++ z.events) s1 k.said (said_join (leaves n) z.events s2 (leaves_said n 0 s2) z.said)) in
      let events = enters n ++ (k.events ++ (leaves n ++ z.events)) in
      let run : SoloRun encode c0 script last events (after_all c0 events) = record {
        lines = k.events;
        settling = z.events;
        parts = refl;
        calls = k.lines_are;
        ending = z.ending;
        run = subst (λ (xs : List Event). CoreRun c0 xs (after_all c0 xs)) same joined;
      } in
      record {
        events = events;
        run = run;
        planned = planned_of events s0 said;
        leaves = leaves_of events s0 said;
        fed = starved_lines encode c0 (after_all c0 events) script last events run ∙ k.fed;
      }
