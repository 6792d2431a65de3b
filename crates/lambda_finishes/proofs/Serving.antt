-- A call over the only pass goes into the queue, serves its own job as worker 0, and ends.
use Rattle.std.proofs.Common.{◌≡◌, ℕ, ◌≤◌, true, List, [], ◌∷◌, ◌++◌, length, Some, None, refl, sym, ap, ◌∙◌, subst, inl, inr, append_assoc, lit≤}
use Rattle.std.specs.Prelude.{Result, Ok, Err, IfOk}
use Rattle.std.specs.Result.{IsErr}
use Rattle.std.specs.declared.snapshot.Snapshot.{Snapshot}
use Rattle.index_lists.specs.Words.{first}
use Rattle.turn_cell.specs.declared.view.View.{View}
use Rattle.turn_cell.specs.declared.pass.Worn.{Worn}
use Rattle.turn_cell.specs.Events.{events_of}
use Rattle.flash_die.specs.Dies.{DieView}
use Rattle.dispatcher.specs.declared.side.Side.TheVariants.{Drive}
use Rattle.plain_files.specs.declared.calls.Numbered.{Numbered}
use Rattle.plain_files.specs.declared.calls.Request.{Request}
use Rattle.core_state.specs.declared.actor.Actor.{Actor}
use Rattle.core_state.specs.declared.actor.Actor.TheVariants.{Lane, Worker}
use Rattle.core_state.specs.declared.event.Event.{Event}
use Rattle.core_state.specs.declared.event.Event.TheVariants.{Submit, Fetch}
use Rattle.core_state.specs.State.{Page, Claim, Phase, Held, Queued, Running, Reported, Flight, Core}
use Rattle.core_state.specs.LaneEvents.{MayFetch}
use Rattle.core_state.specs.EndEvent.{is_reported}
use Rattle.core_state.specs.Coherent.{Coherent}
use Rattle.core_state.specs.Happens.{HoldsNone, CoreRun, after, after_all}
use Rattle.core_state.specs.History.{calls_of}
use Rattle.core_state.proofs.Runs.{leads_to}
use Rattle.core_solo.specs.Alone.{IsAlone}
use Rattle.core_solo.specs.Solo.{Steps, IsStep}
use Rattle.core_solo.proofs.Folds.{append}
use Rattle.core_solo.proofs.Keeps.{flown, only_lane, queued_lane_is}
use Rattle.core_solo.proofs.Bounds.{stepped}
use Rattle.system_state.specs.Cores.{core_of}
use Rattle.system_state.specs.declared.state.State.{State}
use Rattle.desk_turns.specs.Making.{AreOf}
use Rattle.desk_turns.specs.Passing.{ActsFor, core_after, core_seen, Turn, Went, Does}
use Rattle.desk_turns.proofs.Went.{went_on}
use Rattle.call_job.specs.declared.job.Job.{Job}
use Rattle.call_finishes.specs.Gathering.{call_at}
use Rattle.call_finishes.specs.Cut.{IsCutOff}
use Rattle.call_finishes.specs.Words.{IsNumbered}
use Rattle.call_finishes.proofs.FlushSteps.{leaves}
use Rattle.call_finishes.proofs.Looping.{cut_off, calls_on, home_again}
use Rattle.call_finishes.proofs.Trying.{run_on, still_alone}
use Rattle.drive_worker.specs.Serving.{IsFreeWorker, HasServed, ServeSays}
use Rattle.drive_worker.specs.declared.serve.Served.{Served}
use Rattle.drive_worker.specs.declared.serve.Served.TheVariants.{One, Empty}
use Rattle.lambda_finishes.specs.Finishing.{IsBegunAt, AreOfCall, LambdaSays}
use Rattle.lambda_finishes.specs.Waiting.{IsOut, CollectedSays}
use Rattle.lambda_finishes.proofs.Sending.{Sent, queued, does_send, ended}

abbrev pub AllHome : Core → Type 0
AllHome c = (die : ℕ) → (c.dies die).out ≡ None

-- ---- events

pub of_lane : (lane : ℕ) (es : List Event) → AreOf (Lane lane) es → AreOfCall lane es
of_lane lane [] p = tt
of_lane lane (e ∷ es) p = (inl p.0, of_lane lane es p.1)

of_worker : (lane : ℕ) (es : List Event) → AreOf (Worker 0) es → AreOfCall lane es
of_worker lane [] p = tt
of_worker lane (e ∷ es) p = (inr p.0, of_worker lane es p.1)

pub of_both : (lane : ℕ) (es fs : List Event) → AreOfCall lane es → AreOfCall lane fs → AreOfCall lane (es ++ fs)
of_both lane [] fs p q = q
of_both lane (e ∷ es) fs p q = (p.0, of_both lane es fs p.1 q)

-- steps, and then a call that was cut short
pub cut_on : (encode : Core → ℕ → Page) (lane : ℕ) (request : Request) (c d : Core) (es fs : List Event) → Steps (IsStep encode lane request) c es → CoreRun c es d → IsCutOff encode d lane request fs → IsCutOff encode c lane request (es ++ fs)
cut_on encode lane request c d es fs steps run b =
    let to : d ≡ after_all c es = leads_to es c d run in
    let all = run_on es b.most c d (after_all d b.most) run b.run in
    record {
      most = es ++ b.most;
      rest = b.rest;
      are = ap (λ xs. es ++ xs) b.are ∙ sym (append_assoc es b.most b.rest);
      short = b.short;
      steps = append (IsStep encode lane request) es b.most c steps (subst (λ (z : Core). Steps (IsStep encode lane request) z b.most) to b.steps);
      run = subst (CoreRun c (es ++ b.most)) (leads_to (es ++ b.most) c (after_all d b.most) all) all;
    }

-- ---- over the core alone

none_home : (c : Core) (a : Actor) → AllHome c → HoldsNone c a
none_home c a home = λ die out is. let z = home die in absurd (cc)

-- the lane's call waits in the queue, alone
pub record IsInQueue (c : Core) (lane : ℕ) (request : Request) : Type 0 where
  pub coherent : Coherent c
  pub alone : IsAlone c lane request
  pub flies : c.calls lane ≡ Some (call_at c lane)
  pub phase : (call_at c lane).phase ≡ Queued
  pub full : c.queue ≡ [] → ⊥
  pub home : AllHome c

pub free_worker : (c : Core) (lane : ℕ) (request : Request) → IsInQueue c lane request → IsFreeWorker c 0
free_worker c lane request p = record { unbusy = busy; none = none_home c (Worker 0) p.home }
  where
    busy : (l : ℕ) (x : Flight) → c.calls l ≡ Some x → x.phase ≡ Running 0 → ⊥
    busy l x flies runs =
        let is : l ≡ lane = only_lane c lane request p.alone l x flies in
        let there : Some x ≡ Some (call_at c lane) = sym flies ∙ (ap c.calls is ∙ p.flies) in
        let same : x ≡ call_at c lane = cc in
        let z : Running 0 ≡ Queued = sym runs ∙ (ap (λ (f : Flight). f.phase) same ∙ p.phase) in
        absurd (cc)

front_is : (c : Core) (lane l : ℕ) (rest : List ℕ) (request : Request) → IsInQueue c lane request → c.queue ≡ l ∷ rest → l ≡ lane
front_is c lane l rest request p e = (queued_lane_is c lane request p.coherent p.alone l rest e).0

pub at_front : (c : Core) (lane : ℕ) (request : Request) → IsInQueue c lane request → first c.queue ≡ Some lane
at_front c lane request p = go c.queue refl
  where
    go : (q : List ℕ) → c.queue ≡ q → first c.queue ≡ Some lane
    go [] e = absurd (p.full e)
    go (l ∷ rest) e = ap first e ∙ ap (λ n. Some n) (front_is c lane l rest request p e)

not_empty : (xs : List ℕ) (l : ℕ) → xs ++ l ∷ [] ≡ [] → ⊥
not_empty [] l e = absurd (cc)
not_empty (x ∷ xs) l e = absurd (cc)

held_not : (p : Phase) → p ≡ Held → is_reported p ≡ true → ⊥
held_not Held e r = absurd (cc)
held_not Queued e r = absurd (cc)
held_not (Running w) e r = absurd (cc)
held_not (Reported x) e r = absurd (cc)

module _ {D : Type 0} (seen : D → DieView) where
  abbrev C : State D Job → Core
  C = core_of seen

  abbrev S : Type 0
  S = Snapshot (State D Job)

  abbrev V : Type 0
  V = View (Snapshot (State D Job)) Event

  -- ---- it goes into the queue

  pub in_queue_now : (o : S) (v u : V) (lane : ℕ) (job : Job) → v.alone ≡ true → ActsFor C o v (Lane lane) → IsBegunAt Drive (core_seen C o v) lane job → IsAlone (core_seen C o v) lane job.request → AllHome (core_seen C o v) → Turn C o v u (λ c es. es ≡ Submit lane ∷ []) →
      IsInQueue (core_seen C o u) lane job.request
  in_queue_now o v u lane job al acts b alone home t =
      let P = λ (c : Core) (es : List Event). es ≡ Submit lane ∷ [] in
      let c = core_seen C o v in
      let d = core_seen C o u in
      let k = queued seen o v u lane job acts b t in
      let p = does_send seen o v u lane job acts b t in
      let here = still_alone seen o v u P t al in
      let h : Coherent c = subst Coherent here t.coherent in
      let s = stepped (λ (x : Core) (n : ℕ). []) p.events c d lane job.request job.request h alone (p.says.1.solo al (λ (x : Core) (n : ℕ). [])) (p.says.1.run al) in
      let to : d ≡ after (core_after C o (v.seen ++ t.between)) (Submit lane) = leaves seen o v u P (Submit lane) t t.says in
      let to_c : d ≡ after c (Submit lane) = to ∙ ap (λ (z : Core). after z (Submit lane)) here in
      let flies : d.calls lane ≡ Some k.0.away.call = k.0.away.flies in
      record {
        coherent = s.coherent;
        alone = s.alone;
        flies = flown d.calls lane k.0.away.call flies;
        phase = k.1;
        full = λ e. not_empty c.queue lane (sym (ap (λ (z : Core). z.queue) to_c) ∙ e);
        home = λ die. ap (λ (z : Core). (z.dies die).out) to_c ∙ home die;
      }

  -- ---- it is served

  -- the call was served, and these events were made for it
  pub record Back (o : S) (v u : V) (lane : ℕ) (request : Request) (es : List Event) : Type 0 where
    pub of : AreOfCall lane es
    pub sent : Sent seen o v u lane request es
    pub reported : is_reported (call_at (core_seen C o u) lane).phase ≡ true
    pub home : AllHome (core_seen C o u)

  back_one : (o : S) (v u x : V) (lane : ℕ) (request : Request) (es fs : List Event) → v.alone ≡ true → u.alone ≡ true → AreOf (Lane lane) es → Sent seen o v u lane request es → IsInQueue (core_seen C o u) lane request → AllHome (core_seen C o x) → HasServed seen o u x 0 lane fs → Back o v x lane request (es ++ fs)
  back_one o v u x lane request es fs al alu of s q home k =
      let c = core_seen C o v in
      let d = core_seen C o u in
      let e = core_seen C o x in
      let asks : (call_at d lane).claim.request ≡ request = s.out.request_is in
      let rep : is_reported (call_at e lane).phase ≡ true = ap is_reported k.reported.phase in
      record {
        of = of_both lane es fs (of_lane lane es of) (of_worker lane fs k.of);
        sent = record {
          clear = s.clear;
          open_still = calls_on es fs s.open_still k.open_still;
          out = record {
            away = record { call = call_at e lane; flies = k.reported.flies; not_held = λ h. held_not (call_at e lane).phase h rep };
            none = none_home e (Lane lane) home;
            request_is = ap (λ (z : Claim). z.request) (k.claim alu) ∙ asks;
          };
          run = λ a. run_on es fs c d e (s.run a) (k.run alu);
          solo = λ a encode.
              let to : d ≡ after_all c es = leads_to es c d (s.run a) in
              let later = subst (λ (r : Request). Steps (IsStep encode lane r) d fs) asks (k.solo alu refl encode) in
              append (IsStep encode lane request) es fs c (s.solo a encode) (subst (λ (z : Core). Steps (IsStep encode lane request) z fs) to later);
        };
        reported = rep;
        home = home;
      }

  fetched_lane : (c d : Core) (lane l : ℕ) (request : Request) (rest fs : List Event) → fs ≡ Fetch 0 l ∷ rest → CoreRun c fs d → IsInQueue c lane request → l ≡ lane
  fetched_lane c d lane l request rest fs is run q =
      let r : CoreRun c (Fetch 0 l ∷ rest) d = subst (λ (es : List Event). CoreRun c es d) is run in
      let may : MayFetch c 0 l = r.0.may in
      front_is c lane l may.rest request q may.first

  abbrev Was : S → V → V → ℕ → Request → Type 0
  Was o v u lane request = Does v u (λ es. AreOf (Lane lane) es × Sent seen o v u lane request es)

  alone_on : (v u : V) (es : List Event) → Went v u es → v.alone ≡ true → u.alone ≡ true
  alone_on v u es went a = ap (λ (z : V). z.alone) went.pass ∙ a

  served_says : (o : S) (v u x : V) (lane : ℕ) (request : Request) (served : Served) (fs : List Event) → v.alone ≡ true → (p : Was o v u lane request) → IsInQueue (core_seen C o u) lane request → AllHome (core_seen C o x) → ServeSays seen o u x 0 (Ok served) fs → Back o v x lane request (p.events ++ fs)
  served_says o v u x lane request (One l) fs al p q home k =
      let alu = alone_on v u p.events p.went al in
      let is : l ≡ lane = fetched_lane (core_seen C o u) (core_seen C o x) lane l request _ fs k.are (k.run alu) q in
      back_one o v u x lane request p.events fs al alu p.says.0 p.says.1 q home (subst (λ (n : ℕ). HasServed seen o u x 0 n fs) is k)
  served_says o v u x lane request (Empty closing) fs al p q home k =
      let alu = alone_on v u p.events p.went al in
      let r : CoreRun (core_seen C o u) [] (core_seen C o x) = subst (λ (es : List Event). CoreRun (core_seen C o u) es (core_seen C o x)) k.are (k.run alu) in
      absurd (q.full (sym (ap (λ (z : Core). z.queue) r) ∙ k.empty))

  pub does_serve : (o q : S) (v u x : V) (lane : ℕ) (request : Request) (served : Served) → q ≡ o → v.alone ≡ true → Was o v u lane request → IsInQueue (core_seen C o u) lane request → AllHome (core_seen C q x) → Does u x (ServeSays seen q u x 0 (Ok served)) → Does v x (Back o v x lane request)
  does_serve o q v u x lane request served same al p w home k =
      let at = subst (λ (z : S). ServeSays seen z u x 0 (Ok served) k.events) same k.says in
      record {
        events = p.events ++ k.events;
        went = went_on v u x p.events k.events p.went k.went;
        says = served_says o v u x lane request served k.events al p w (subst (λ (z : S). AllHome (core_seen C z x)) same home) at;
      }

  pub serve_worn : (o q : S) (v u x : V) (lane : ℕ) (request : Request) (y : Worn) (r : Result Numbered Worn) → IsErr r → q ≡ o → v.alone ≡ true → Was o v u lane request → IsInQueue (core_seen C o u) lane request → Does u x (ServeSays seen q u x 0 (Err y)) →
      Does v x (LambdaSays seen (AreOfCall lane) o v x lane request r)
  serve_worn o q v u x lane request y (Ok n) e same al p w k = absurd (cc)
  serve_worn o q v u x lane request y (Err z) e same al p w k =
      let at = subst (λ (s : S). ServeSays seen s u x 0 (Err y) k.events) same k.says in
      let alu = alone_on v u p.events p.went al in
      let s = p.says.1 in
      record {
        events = p.events ++ k.events;
        went = went_on v u x p.events k.events p.went k.went;
        says = (
          of_both lane p.events k.events (of_lane lane p.events p.says.0) (of_worker lane k.events at.0),
          calls_on p.events k.events s.open_still at.1,
          λ a encode.
              cut_on encode lane request (core_seen C o v) (core_seen C o u) p.events k.events (s.solo a encode) (s.run a)
              (subst (λ (r : Request). IsCutOff encode (core_seen C o u) lane r k.events) s.out.request_is (at.2 alu refl lane (at_front (core_seen C o u) lane request w) encode)),
        );
      }

  -- in the opening as the desk has it then
  pub free_there : (o q : S) (u : V) (lane : ℕ) (request : Request) → q ≡ o → IsInQueue (core_seen C o u) lane request → IsFreeWorker (core_seen C q u) 0
  free_there o q u lane request same w = subst (λ (z : S). IsFreeWorker (core_seen C z u) 0) (sym same) (free_worker (core_seen C o u) lane request w)

  pub home_there : (o q : S) (u : V) (lane : ℕ) (request : Request) → q ≡ o → IsInQueue (core_seen C o u) lane request → AllHome (core_seen C q u)
  home_there o q u lane request same w = subst (λ (z : S). AllHome (core_seen C z u)) (sym same) w.home

  -- it did not come into the queue
  pub submit_worn : (o : S) (v w : V) (lane : ℕ) (request : Request) (r : Result Numbered Worn) → IsErr r → Went v w [] → Does v w (LambdaSays seen (AreOfCall lane) o v w lane request r)
  submit_worn o v w lane request (Ok n) e went = absurd (cc)
  submit_worn o v w lane request (Err x) e went = record { events = []; went = went; says = (tt, refl, λ al encode. cut_off encode (core_seen C o v) (core_seen C o v) lane request [] [] (lit≤ tt) tt refl) }

  -- ---- and ends

  pub out_back : (o q : S) (v u : V) (lane : ℕ) (request : Request) → q ≡ o → Does v u (Back o v u lane request) → IsOut (core_seen C q u) lane (call_at (core_seen C q u) lane).claim.request
  out_back o q v u lane request same p =
      subst (λ (z : S). IsOut (core_seen C z u) lane (call_at (core_seen C z u) lane).claim.request) (sym same) (record { away = p.says.sent.out.away; none = p.says.sent.out.none; request_is = refl })

  pub reported_back : (o q : S) (v u : V) (lane : ℕ) (request : Request) → q ≡ o → Does v u (Back o v u lane request) → is_reported (call_at (core_seen C q u) lane).phase ≡ true
  reported_back o q v u lane request same p = subst (λ (z : S). is_reported (call_at (core_seen C z u) lane).phase ≡ true) (sym same) p.says.reported

  asks_back : (o q : S) (v u : V) (lane : ℕ) (request : Request) → q ≡ o → Does v u (Back o v u lane request) → (call_at (core_seen C q u) lane).claim.request ≡ request
  asks_back o q v u lane request same p = subst (λ (z : S). (call_at (core_seen C z u) lane).claim.request ≡ request) (sym same) p.says.sent.out.request_is

  says_back : (o : S) (v u w : V) (lane : ℕ) (request : Request) (r : Result Numbered Worn) → Does v u (Back o v u lane request) → Does u w (CollectedSays seen o u w lane request r) → Does v w (LambdaSays seen (AreOfCall lane) o v w lane request r)
  says_back o v u w lane request (Ok n) p k =
      record {
        events = p.events ++ k.events;
        went = went_on v u w p.events k.events p.went k.went;
        says = (of_both lane p.events k.events p.says.of (subst (AreOfCall lane) (sym k.says.are) (inl refl, tt)), ended seen o v u w lane request n p.events k.events p.went p.says.sent k.says);
      }
  says_back o v u w lane request (Err x) p k =
      record {
        events = p.events ++ k.events;
        went = went_on v u w p.events k.events p.went k.went;
        says = (
          of_both lane p.events k.events p.says.of (subst (AreOfCall lane) (sym k.says) tt),
          calls_on p.events k.events p.says.sent.open_still (ap calls_of k.says),
          λ al encode. cut_off encode (core_seen C o v) (core_seen C o u) lane request p.events k.events (subst (λ (es : List Event). length es ≤ 1) (sym k.says) (lit≤ tt)) (p.says.sent.solo al encode) (p.says.sent.run al),
        );
      }

  pub solo_says : (o q : S) (v u w : V) (lane : ℕ) (request : Request) (r : Result Numbered Worn) → q ≡ o → Does v u (Back o v u lane request) → Does u w (CollectedSays seen q u w lane (call_at (core_seen C q u) lane).claim.request r) → Does v w (LambdaSays seen (AreOfCall lane) o v w lane request r)
  solo_says o q v u w lane request r same p k =
      says_back o v u w lane request r p
      (subst (λ (z : S). Does u w (CollectedSays seen z u w lane request r)) same (subst (λ (y : Request). Does u w (CollectedSays seen q u w lane y r)) (asks_back o q v u lane request same p) k))

  pub number_back : (o q : S) (v u w : V) (lane : ℕ) (request : Request) (n : Numbered) → q ≡ o → Does v u (Back o v u lane request) →
      IsNumbered q.value.last (calls_of (events_of w.seen)) n.number (record { lane = lane; call = (call_at (core_seen C q u) lane).claim.request.call; reply = n.reply }) →
      IsNumbered o.value.last (calls_of (events_of w.seen)) n.number (record { lane = lane; call = request.call; reply = n.reply })
  number_back o q v u w lane request n same p k =
      subst (λ (z : S). IsNumbered z.value.last (calls_of (events_of w.seen)) n.number (record { lane = lane; call = request.call; reply = n.reply })) same
      (subst (λ (y : Request). IsNumbered q.value.last (calls_of (events_of w.seen)) n.number (record { lane = lane; call = y.call; reply = n.reply })) (asks_back o q v u lane request same p) k)

  home_of : (o : S) (v u w : V) (lane : ℕ) (request : Request) (r : Result Numbered Worn) → v.alone ≡ true → Does v u (Back o v u lane request) → Does u w (CollectedSays seen o u w lane request r) → IfOk r (λ _. AllHome (core_seen C o w))
  home_of o v u w lane request (Ok n) al p k =
      let alu = alone_on v u p.events p.went al in
      home_again (Lane lane) (core_seen C o u) (core_seen C o w) k.events p.says.home (k.says.run alu) (subst (AreOf (Lane lane)) (sym k.says.are) (refl, tt)) k.says.after.none
  home_of o v u w lane request (Err x) al p k = tt

  pub home_back : (o q : S) (v u w : V) (lane : ℕ) (request : Request) (r : Result Numbered Worn) → q ≡ o → v.alone ≡ true → Does v u (Back o v u lane request) → Does u w (CollectedSays seen q u w lane (call_at (core_seen C q u) lane).claim.request r) → IfOk r (λ _. AllHome (core_seen C o w))
  home_back o q v u w lane request r same al p k =
      home_of o v u w lane request r al p
      (subst (λ (z : S). Does u w (CollectedSays seen z u w lane request r)) same (subst (λ (y : Request). Does u w (CollectedSays seen q u w lane y r)) (asks_back o q v u lane request same p) k))
