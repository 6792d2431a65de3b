-- A call that has gathered its pages ends.
use Rattle.std.proofs.Common.{◌≡◌, ℕ, ◌<◌, Bool, true, false, List, [], ◌∷◌, ◌++◌, Option, Some, None, refl, sym, ap, ◌∙◌, subst, inl, inr, ⊎_elim, append-nil, lit≤}
use Rattle.std.specs.Prelude.{map, ◌⊎◌, ◌&&◌, not, is_some, is_none, if◌then◌else◌, Result, Ok, Err, IfOk, IfErr}
use Rattle.std.specs.Result.{IsErr}
use Rattle.std.specs.declared.snapshot.Snapshot.{Snapshot}
use Rattle.turn_cell.specs.declared.book.Entry.{Entry}
use Rattle.turn_cell.specs.declared.view.View.{View}
use Rattle.turn_cell.specs.declared.pass.Worn.{Worn}
use Rattle.turn_cell.specs.Events.{events_of}
use Rattle.turn_cell.specs.History.{StartsWith, entry}
use Rattle.index_lists.proofs.Puts.{put-same}
use Rattle.flash_die.specs.Dies.{DieView}
use Rattle.dispatcher.specs.declared.side.Side.TheVariants.{Host}
use Rattle.plain_files.specs.declared.calls.Call.{Call}
use Rattle.plain_files.specs.declared.calls.Call.TheVariants.{Sync}
use Rattle.plain_files.specs.declared.calls.Numbered.{Numbered}
use Rattle.plain_files.specs.declared.calls.Reply.{Reply}
use Rattle.plain_files.specs.declared.calls.Reply.TheVariants.{Fault}
use Rattle.plain_files.specs.declared.calls.Request.{Request}
use Rattle.plain_files.specs.Plain.{answer}
use Rattle.core_state.specs.declared.actor.Actor.{Actor}
use Rattle.core_state.specs.declared.actor.Actor.TheVariants.{Lane}
use Rattle.core_state.specs.declared.event.Event.{Event}
use Rattle.core_state.specs.declared.event.Event.TheVariants.{End}
use Rattle.core_state.specs.State.{Page, Shape, LaneState, Inside, Held, Claim, Flight, DieState, Core}
use Rattle.core_state.specs.Reach.{is_data, is_lambda, is_sync, gathers}
use Rattle.core_state.specs.PlainOf.{plain}
use Rattle.core_state.specs.PageEvents.{flight_at}
use Rattle.core_state.specs.LaneEvents.{HasGathered, replied}
use Rattle.core_state.specs.EndEvent.{MayEnd}
use Rattle.core_state.specs.Coherent.{Coherent}
use Rattle.core_state.specs.Happens.{HoldsNone, CoreRun, after, after_all}
use Rattle.core_state.specs.History.{calls_of}
use Rattle.core_state.proofs.Runs.{leads_to}
use Rattle.core_history.proofs.Faults.{ended_lanes}
use Rattle.core_solo.specs.Solo.{Steps, IsStep, IsNext, page_to_gather, end_event}
use Rattle.core_solo.proofs.Rests.{ended_is}
use Rattle.core_solo.proofs.Nexts.{end_next_host}
use Rattle.system_state.specs.Cores.{core_of}
use Rattle.system_state.specs.declared.state.State.{State}
use Rattle.call_job.specs.Ends.{HasRun}
use Rattle.call_job.specs.Suits.{Suits}
use Rattle.call_job.specs.declared.job.Job.{Job}
use Rattle.job_turns.specs.Ended.{CanEnd}
use Rattle.job_turns.specs.Finishing.{EndSays}
use Rattle.desk_turns.specs.Making.{AreOf}
use Rattle.desk_turns.specs.Passing.{ActsFor, core_after, core_seen, Turn, Went, Does}
use Rattle.desk_turns.proofs.Holding.{coherent_all}
use Rattle.desk_turns.proofs.Later.{none_kept}
use Rattle.desk_turns.proofs.Went.{of_on, went_on, went_turn, found_turn}
use Rattle.job_turns.specs.Flushing.{HasFailed}
use Rattle.job_turns.specs.Making.{IsFree}
use Rattle.job_turns.specs.Words.{IsNumbered}
use Rattle.job_turns.proofs.FlushSteps.{shape_at}
use Rattle.job_turns.proofs.Keeping.{at_flight, own_flying}
use Rattle.fill_steps.specs.Gathering.{call_at, told_at, IsBetween}
use Rattle.fill_steps.specs.Cut.{IsCutOff}
use Rattle.fill_steps.specs.Spans.{IsSameButPages, Gathers, SpanSays}
use Rattle.fill_steps.proofs.Calls.{owned_kept}
use Rattle.fill_steps.proofs.Callers.{none_left, starts_on, failed_still, found_since}
use Rattle.fill_steps.proofs.Trying.{run_on, still_alone}
use Rattle.fill_steps.proofs.Looping.{cut_off, home_again}
use Rattle.call_finishes.specs.Finishing.{IsBegun, EndsIn, FinishSays}
use Rattle.call_finishes.proofs.Marks.{saw_failure}

-- ---- over the core alone

data_no_sync : (k : Call) → is_data k ≡ true → is_sync k ≡ false
data_no_sync Sync e = absurd (cc)
data_no_sync k e = refl

-- its lane is free then
pub free_ended : (c : Core) (lane : ℕ) (request : Request) (reply : Reply) → HoldsNone c (Lane lane) → (lane < c.shape.lanes) × ((c.lanes lane).stage ≡ Inside) → IsFree (after c (End lane request reply)) lane
free_ended c lane request reply none turn =
    let k = ended_is c lane (flight_at c.calls lane) reply in
    let row : ((after c (End lane request reply)).lanes lane) ≡ replied (c.lanes lane) = ap (λ (f : ℕ → LaneState). f lane) (ended_lanes c lane (flight_at c.calls lane) reply) ∙ put-same c.lanes lane (replied (c.lanes lane)) in
    record {
      idle = record {
        within = subst (λ (z : Shape). lane < z.lanes) (sym k.shape) turn.0;
        inside = ap (λ (x : LaneState). x.stage) row ∙ turn.1;
        idle = ap (λ (f : ℕ → Option Flight). f lane) k.calls ∙ put-same c.calls lane None;
      };
      mark = ap (λ (x : LaneState). x.mark) row;
      none = λ die out e. none die out (sym (ap (λ (f : ℕ → DieState). (f die).out) k.dies) ∙ e);
    }

-- the lane's call has gathered its pages, or a read for it has failed
pub record IsFilled (failed : Bool) (c : Core) (lane : ℕ) (job : Job) : Type 0 where
  pub between : IsBetween failed c (Lane lane) lane
  pub all : failed ≡ false → HasGathered (call_at c lane)
  pub suits : Suits job (told_at c lane)
  pub held : (call_at c lane).phase ≡ Held
  pub host : (call_at c lane).claim.side ≡ Host
  pub no_sync : is_sync (call_at c lane).claim.request.call ≡ false
  pub ran : Coherent c → failed ≡ false → HasRun c (call_at c lane) job

-- The lane's call is a data call that is held at the host, without a mark, and the job is for its request.
pub record IsAtHost (c : Core) (lane : ℕ) (job : Job) : Type 0 where
  pub mark : (c.lanes lane).mark ≡ false
  pub held : (call_at c lane).phase ≡ Held
  pub host : (call_at c lane).claim.side ≡ Host
  pub is_on_file : is_data (call_at c lane).claim.request.call ≡ true
  pub request : job.request ≡ (call_at c lane).claim.request

can_end : (m : Bool) (c : Core) (lane : ℕ) (job : Job) → IsFilled m c lane job → CanEnd c lane job
can_end m c lane job p =
    record {
      call = call_at c lane;
      flies = p.between.owned.flies;
      at_end = inl (p.held, p.host);
      suits = p.suits;
      all = λ u. p.all (sym p.between.owned.mark ∙ u);
      synced = λ u s. let z = p.no_sync in absurd (cc);
      ran = λ h u. p.ran h (sym p.between.owned.mark ∙ u);
    }

-- the End is the next event of the run of one thread
end_next : (encode : Core → ℕ → Page) (m : Bool) (c : Core) (lane : ℕ) (request : Request) (n : Numbered) (job : Job) → IsFilled m c lane job → EndsIn m lane request n c → IsNext encode lane request c (End lane request n.reply)
end_next encode m c lane request n job p e =
    let x = e.may.call in
    let at : call_at c lane ≡ x = at_flight c.calls lane x e.may.flies in
    let is : End lane request n.reply ≡ end_event c lane x =
    ap (λ (r : Reply). End lane request r) (e.reply_is ∙ ap (λ (b : Bool). if b then Fault else (answer (plain c) request.call).reply) (sym e.mark))
    ∙ ap (λ (r : Request). End lane r (if (c.lanes lane).mark then Fault else (answer (plain c) r.call).reply)) e.may.request_is in
    let none : ((c.lanes lane).mark ≡ true) ⊎ (page_to_gather x ≡ None) = left m e.mark (λ u. none_left x (subst HasGathered at (p.all u))) in
    subst (IsNext encode lane request c) (sym is)
    (end_next_host encode c lane request x e.may.flies (ap (λ (f : Flight). f.phase) (sym at) ∙ p.held) (ap (λ (f : Flight). f.claim.side) (sym at) ∙ p.host) none
    (inr (λ s. let z : is_sync x.claim.request.call ≡ false = ap (λ (f : Flight). is_sync f.claim.request.call) (sym at) ∙ p.no_sync in absurd (cc))))
  where
    left : (m : Bool) → (c.lanes lane).mark ≡ m → (m ≡ false → page_to_gather e.may.call ≡ None) → ((c.lanes lane).mark ≡ true) ⊎ (page_to_gather e.may.call ≡ None)
    left true is k = inl is
    left false is k = inr (k refl)

pub begun_at_host : (c : Core) (lane : ℕ) (job : Job) → IsBegun c lane job → IsAtHost c lane job
begun_at_host c lane job b = record { mark = b.gathering.between.owned.mark; held = b.held; host = b.host; is_on_file = b.is_on_file; request = b.gathering.suits.request }

module _ {D : Type 0} (seen : D → DieView) where
  abbrev C : State D Job → Core
  C = core_of seen

  abbrev S : Type 0
  S = Snapshot (State D Job)

  abbrev V : Type 0
  V = View (Snapshot (State D Job)) Event

  -- what is known between the two
  pub record Filled (o : S) (v u : V) (lane : ℕ) (failed : Bool) (job : Job) (es : List Event) : Type 0 where
    pub of : AreOf (Lane lane) es
    pub open_still : calls_of es ≡ []
    pub clear : ((core_seen C o v).lanes lane).mark ≡ false
    pub now : IsFilled failed (core_seen C o u) lane job
    pub fault : failed ≡ true → (die : ℕ) × HasFailed seen o v u die
    pub run : v.alone ≡ true → CoreRun (core_seen C o v) es (core_seen C o u)
    pub solo : v.alone ≡ true → (encode : Core → ℕ → Page) → Steps (IsStep encode lane job.request) (core_seen C o v) es

  -- a call that is held at the host, and what gathered its pages, with the job that it has then
  pub filled_from : (o : S) (v u : V) (lane : ℕ) (job : Job) (P : Core → Type 0) (failed : Bool) (es : List Event) → IsAtHost (core_seen C o v) lane job → Gathers seen o v u (Lane lane) lane P es → IsBetween failed (core_seen C o u) (Lane lane) lane →
      (failed ≡ false → HasGathered (call_at (core_seen C o u) lane)) → Suits job (told_at (core_seen C o u) lane) → (Coherent (core_seen C o u) → failed ≡ false → HasRun (core_seen C o u) (call_at (core_seen C o u) lane) job) →
      (failed ≡ true → (die : ℕ) × HasFailed seen o v u die) → Filled o v u lane failed job es
  filled_from o v u lane job P failed es b g between all suits ran fault =
      let c = core_seen C o v in
      record {
        of = g.of;
        open_still = g.open_still;
        clear = b.mark;
        now = record {
          between = between;
          all = all;
          suits = suits;
          held = g.call.phase ∙ b.held;
          host = ap (λ (z : Claim). z.side) g.call.claim ∙ b.host;
          no_sync = ap (λ (z : Claim). is_sync z.request.call) g.call.claim ∙ data_no_sync (call_at c lane).claim.request.call b.is_on_file;
          ran = ran;
        };
        fault = fault;
        run = g.run;
        solo = λ al encode. subst (λ (r : Request). Steps (IsStep encode lane r) c es) (sym b.request) (g.solo al (inl (b.held, b.host)) encode);
      }

  filled_by : (o : S) (v u : V) (lane : ℕ) (old new : Job) (P : Core → Type 0) (failed : Bool) (es : List Event) → IsBegun (core_seen C o v) lane old → IsSameButPages old new → Gathers seen o v u (Lane lane) lane P es → IsBetween failed (core_seen C o u) (Lane lane) lane →
      (failed ≡ false → HasGathered (call_at (core_seen C o u) lane)) → Suits new (told_at (core_seen C o u) lane) → (failed ≡ true → (die : ℕ) × HasFailed seen o v u die) → Filled o v u lane failed new es
  filled_by o v u lane old new P failed es b same g between all suits fault =
      let c = core_seen C o v in
      let none : is_lambda (call_at (core_seen C o u) lane).claim.request.call ≡ false = ap (λ (z : Claim). is_lambda z.request.call) g.call.claim ∙ b.runs_not in
      filled_from o v u lane new P failed es
      (record { mark = b.gathering.between.owned.mark; held = b.held; host = b.host; is_on_file = b.is_on_file; request = ap (λ (j : Job). j.request) same ∙ b.gathering.suits.request })
      g between all suits (λ h f l. absurd (cc)) fault

  filled : (o : S) (v u : V) (lane : ℕ) (old new : Job) (good : Bool) (es : List Event) → IsBegun (core_seen C o v) lane old → IsSameButPages old new → (good ≡ false → Suits new (told_at (core_seen C o u) lane)) → SpanSays seen o v u (Lane lane) lane new (Ok good) es → Filled o v u lane (not good) new es
  filled o v u lane old new true es b same left g =
      filled_by o v u lane old new _ false es b same g g.says.between (λ e. g.says.all) g.says.suits (λ e. absurd (cc))
  filled o v u lane old new false es b same left g =
      filled_by o v u lane old new _ true es b same g.0 g.0.says (λ e. absurd (cc)) (left refl) (λ e. g.1)

  pub does_fill : (o : S) (v u : V) (lane : ℕ) (old new : Job) (good : Bool) → IsBegun (core_seen C o v) lane old → IsSameButPages old new → (good ≡ false → Suits new (told_at (core_seen C o u) lane)) → Does v u (SpanSays seen o v u (Lane lane) lane new (Ok good)) → Does v u (Filled o v u lane (not good) new)
  does_fill o v u lane old new good b same left p = record { events = p.events; went = p.went; says = filled o v u lane old new good p.events b same left p.says }

  -- ---- what the end asks

  pub acts_still : (o q : S) (v u : V) (a : Actor) (P : List Event → Type 0) → q ≡ o → Does v u P → ActsFor C o v a → ActsFor C q u a
  acts_still o q v u a P same p acts = subst (λ (z : S). ActsFor C z u a) (sym same) (subst (λ (z : V). ActsFor C o z a) (sym p.went.pass) acts)

  pub ends_there : (o q : S) (v u : V) (lane : ℕ) (m : Bool) (job : Job) → q ≡ o → Does v u (Filled o v u lane m job) → CanEnd (core_seen C q u) lane job
  ends_there o q v u lane m job same p = subst (λ (z : S). CanEnd (core_seen C z u) lane job) (sym same) (can_end m (core_seen C o u) lane job p.says.now)

  pub held_there : (o q : S) (v u : V) (lane : ℕ) (m : Bool) (job : Job) → q ≡ o → Does v u (Filled o v u lane m job) → (call_at (core_seen C q u) lane).phase ≡ Held
  held_there o q v u lane m job same p = subst (λ (z : S). (call_at (core_seen C z u) lane).phase ≡ Held) (sym same) p.says.now.held

  pub none_there : (o q : S) (v u : V) (lane : ℕ) (m : Bool) (job : Job) → q ≡ o → Does v u (Filled o v u lane m job) → HoldsNone (core_seen C q u) (Lane lane)
  none_there o q v u lane m job same p = subst (λ (z : S). HoldsNone (core_seen C z u) (Lane lane)) (sym same) p.says.now.between.none

  -- ---- the end

  ends_in : (o : S) (v u w : V) (lane : ℕ) (m : Bool) (job : Job) (n : Numbered) → ActsFor C o u (Lane lane) → IsFilled m (core_seen C o u) lane job → (t : Turn C o u w (EndSays lane job.request n)) → MayEnd (core_after C o (u.seen ++ t.between)) lane job.request n.reply → EndsIn m lane job.request n (core_after C o (u.seen ++ t.between))
  ends_in o v u w lane m job n acts p t may =
      let d = core_seen C o u in
      let f = core_after C o (u.seen ++ t.between) in
      let k = p.between.owned in
      let same = t.kept (Lane lane) acts (own_flying d (Lane lane) lane (call_at d lane) k.flies k.owns) in
      let mark : (f.lanes lane).mark ≡ m = (owned_kept m d f (Lane lane) lane same k).mark in
      record { may = may; mark = mark; reply_is = t.says.reply_is ∙ ap (λ (b : Bool). if b then Fault else (answer (plain f) job.request.call).reply) mark }

  finished : (o : S) (v u w : V) (lane : ℕ) (m : Bool) (job : Job) (n : Numbered) → ActsFor C o v (Lane lane) → Does v u (Filled o v u lane m job) → Turn C o u w (EndSays lane job.request n) → Does v w (FinishSays seen o v w lane job.request (Ok n))
  finished o v u w lane m job n acts p t =
      let P = EndSays lane job.request n in
      let e = End lane job.request n.reply in
      let c = core_seen C o v in
      let d = core_seen C o u in
      let f = core_after C o (u.seen ++ t.between) in
      let is = t.says.are in
      let went = went_turn C o u w P t in
      let acts_u = subst (λ (z : V). ActsFor C o z (Lane lane)) (sym p.went.pass) acts in
      let k = p.says.now.between in
      let same = t.kept (Lane lane) acts_u (own_flying d (Lane lane) lane (call_at d lane) k.owned.flies k.owned.owns) in
      let none = none_kept d f (Lane lane) t.coherent same (shape_at seen o (u.seen ++ t.between) u.seen) k.none in
      let run : CoreRun f (e ∷ []) (core_seen C o w) = subst (λ (es : List Event). CoreRun f es (core_seen C o w)) is t.run in
      let may = run.0.may in
      let ends = ends_in o v u w lane m job n acts_u p.says.now t may in
      let number : w.number ≡ u.number = ap (λ (z : V). z.number) went.pass in
      let found = found_turn C o u w w P e (EndsIn m lane job.request n) t is ends ([], sym (append-nil w.seen)) number in
      let all : p.events ++ t.events ≡ p.events ++ e ∷ [] = ap (λ es. p.events ++ es) is in
      let alone_u : v.alone ≡ true → u.alone ≡ true = λ a. ap (λ (z : V). z.alone) p.went.pass ∙ a in
      record {
        events = p.events ++ t.events;
        went = went_on v u w p.events t.events p.went went;
        says = record {
          before = p.events;
          are = all;
          of = of_on (Lane lane) p.events t.events p.says.of (subst (AreOf (Lane lane)) (sym is) (refl, tt));
          open_still = p.says.open_still;
          failed = m;
          fault = λ x. let z = p.says.fault x in (z.0, failed_still seen o v u w z.0 went.seen z.1);
          rose = λ x. saw_failure C o v w lane (u.seen ++ t.between) (starts_on v.seen u.seen (u.seen ++ t.between) p.went.seen (t.between, refl)) (map (entry u.number) t.events, t.seen) t.begins p.says.clear (ends.mark ∙ x);
          found = found_since seen o v u w e (EndsIn m lane job.request n) p.went.seen found;
          after = subst (λ (z : Core). IsFree z lane) (sym run.1) (free_ended f lane job.request n.reply none (t.coherent.dies.in_turn lane may.call may.flies));
          coherent = coherent_all t.events f (core_seen C o w) t.coherent t.run;
          run = λ a. run_on p.events t.events c d (core_seen C o w) (p.says.run a) (subst (λ (z : Core). CoreRun z t.events (core_seen C o w)) (still_alone seen o u w P t (alone_u a)) t.run);
          solo = λ a encode.
              let here : f ≡ d = still_alone seen o u w P t (alone_u a) in
              let to : d ≡ after_all c p.events = leads_to p.events c d (p.says.run a) in
              record {
                most = p.events;
                last = e;
                whole = all;
                steps = p.says.solo a encode;
                next = subst (λ (z : Core). IsNext encode lane job.request z e) to (end_next encode m d lane job.request n job p.says.now (subst (EndsIn m lane job.request n) here ends));
                answers = refl;
              };
        };
      }

  pub finish_on : (o q : S) (v u w : V) (lane : ℕ) (m : Bool) (old new : Job) (n : Numbered) → q ≡ o → new.request ≡ old.request → ActsFor C o v (Lane lane) → Does v u (Filled o v u lane m new) → Turn C q u w (EndSays lane new.request n) → Does v w (FinishSays seen o v w lane old.request (Ok n))
  finish_on o q v u w lane m old new n same request acts p t =
      subst (λ (r : Request). Does v w (FinishSays seen o v w lane r (Ok n))) request (finished o v u w lane m new n acts p (subst (λ (z : S). Turn C z u w (EndSays lane new.request n)) same t))

  pub finish_any : (o q : S) (v u w : V) (lane : ℕ) (m : Bool) (old new : Job) (r : Result Numbered Worn) → q ≡ o → new.request ≡ old.request → ActsFor C o v (Lane lane) → Does v u (Filled o v u lane m new) → IfOk r (λ n. Turn C q u w (EndSays lane new.request n)) → IfErr r (λ _. Went u w []) →
      Does v w (FinishSays seen o v w lane old.request r)
  finish_any o q v u w lane m old new (Ok n) same request acts p t went = finish_on o q v u w lane m old new n same request acts p t
  finish_any o q v u w lane m old new (Err x) same request acts p t went =
      record {
        events = p.events ++ [];
        went = went_on v u w p.events [] p.went went;
        says = (
          of_on (Lane lane) p.events [] p.says.of tt,
          ap calls_of (append-nil p.events) ∙ p.says.open_still,
          λ al encode.
              let c = core_seen C o v in
              cut_off encode c (core_seen C o u) lane old.request p.events [] (lit≤ tt) (subst (λ (y : Request). Steps (IsStep encode lane y) c p.events) request (p.says.solo al encode)) (p.says.run al),
        );
      }

  -- where the turn is worn while the pages are gathered
  pub fill_worn : (o : S) (v u : V) (lane : ℕ) (old new : Job) (x : Worn) (r : Result Numbered Worn) → IsErr r → IsAtHost (core_seen C o v) lane old → Does v u (SpanSays seen o v u (Lane lane) lane new (Err x)) → Does v u (FinishSays seen o v u lane old.request r)
  fill_worn o v u lane old new x (Ok n) e b p = absurd (cc)
  fill_worn o v u lane old new x (Err y) e b p =
      record {
        events = p.events;
        went = p.went;
        says = (p.says.0, p.says.1, λ al encode. subst (λ (y : Request). IsCutOff encode (core_seen C o v) lane y p.events) (sym b.request) (p.says.2 al (inl (b.held, b.host)) encode));
      }

  pub numbered_as : (o q : S) (w : V) (lane : ℕ) (x y : Request) (n : Numbered) → q ≡ o → x ≡ y → IsNumbered q.value.last (calls_of (events_of w.seen)) n.number (record { lane = lane; call = x.call; reply = n.reply }) →
      IsNumbered o.value.last (calls_of (events_of w.seen)) n.number (record { lane = lane; call = y.call; reply = n.reply })
  numbered_as o q w lane x y n same is k =
      subst (λ (z : Snapshot (State D Job) × Request). IsNumbered z.0.value.last (calls_of (events_of w.seen)) n.number (record { lane = lane; call = z.1.call; reply = n.reply })) (λ i. (same i, is i)) k

  pub home_after : (o : S) (v w : V) (lane : ℕ) (request : Request) (r : Result Numbered Worn) → v.alone ≡ true → ((die : ℕ) → ((core_seen C o v).dies die).out ≡ None) → Does v w (FinishSays seen o v w lane request r) → IfOk r (λ _. (die : ℕ) → ((core_seen C o w).dies die).out ≡ None)
  home_after o v w lane request (Ok n) al home p = home_again (Lane lane) (core_seen C o v) (core_seen C o w) p.events home (p.says.run al) p.says.of p.says.after.none
  home_after o v w lane request (Err x) al home p = tt
