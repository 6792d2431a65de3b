-- A call goes into the queue, and ends once it is reported.
use Rattle.std.proofs.Common.{◌≡◌, ℕ, Bool, true, false, List, [], ◌∷◌, ◌++◌, Option, Some, refl, sym, ap, ◌∙◌, subst, length, ◌≤◌, lit≤, ⊎_elim, append-nil, arith}
use Rattle.std.specs.Prelude.{if◌then◌else◌, Result, Ok, Err}
use Rattle.std.specs.Result.{IsErr}
use Rattle.std.specs.declared.snapshot.Snapshot.{Snapshot}
use Rattle.index_lists.proofs.Puts.{put-same}
use Rattle.turn_cell.specs.declared.view.View.{View}
use Rattle.turn_cell.specs.declared.pass.Worn.{Worn}
use Rattle.turn_cell.specs.Events.{events_of}
use Rattle.turn_cell.specs.History.{entry}
use Rattle.flash_die.specs.Dies.{DieView}
use Rattle.sbpf_insn.specs.Machine.{Outcome}
use Rattle.dispatcher.specs.declared.side.Side.TheVariants.{Drive}
use Rattle.plain_files.specs.declared.calls.Numbered.{Numbered}
use Rattle.plain_files.specs.declared.calls.Reply.{Reply}
use Rattle.plain_files.specs.declared.calls.Reply.TheVariants.{Fault}
use Rattle.plain_files.specs.declared.calls.Request.{Request}
use Rattle.plain_files.specs.Plain.{answer}
use Rattle.core_state.specs.declared.actor.Actor.TheVariants.{Lane}
use Rattle.core_state.specs.declared.event.Event.{Event}
use Rattle.core_state.specs.declared.event.Event.TheVariants.{Submit, End}
use Rattle.core_state.specs.State.{Page, Claim, Phase, Held, Queued, Running, Reported, Flight, Core}
use Rattle.core_state.specs.PlainOf.{plain}
use Rattle.core_state.specs.LaneEvents.{MaySubmit}
use Rattle.core_state.specs.EndEvent.{is_reported}
use Rattle.core_state.specs.Happens.{HoldsNone, CoreRun, after, after_all}
use Rattle.core_state.specs.History.{calls_of}
use Rattle.core_state.proofs.Runs.{leads_to}
use Rattle.core_solo.specs.Solo.{Steps, IsStep, IsNext, end_event}
use Rattle.core_solo.proofs.Nexts.{submit_next, end_next_drive}
use Rattle.system_state.specs.Cores.{core_of}
use Rattle.system_state.specs.Jobs.{view_of}
use Rattle.system_state.specs.declared.state.State.{State}
use Rattle.desk_turns.specs.Making.{AreOf}
use Rattle.desk_turns.specs.Passing.{ActsFor, core_after, core_seen, Turn, Went, Does}
use Rattle.desk_turns.proofs.Later.{none_kept}
use Rattle.desk_turns.proofs.Went.{of_on, went_on, went_turn}
use Rattle.call_job.specs.Suits.{Suits}
use Rattle.call_job.specs.declared.job.Job.{Job}
use Rattle.call_job.proofs.Kept.{suits_kept, suits_in_phase}
use Rattle.call_finishes.specs.Gathering.{call_at}
use Rattle.call_finishes.specs.JobTurns.{SuitsInSpan}
use Rattle.call_finishes.specs.Words.{IsNumbered}
use Rattle.call_finishes.specs.Finishing.{EndsIn}
use Rattle.call_finishes.proofs.Marks.{saw_failure}
use Rattle.call_finishes.proofs.Callers.{starts_on}
use Rattle.call_finishes.proofs.Looping.{cut_off}
use Rattle.call_finishes.proofs.Trying.{run_on, still_alone}
use Rattle.call_finishes.proofs.FlushSteps.{shape_at, leaves}
use Rattle.call_finishes.proofs.Keeping.{again, at_flight, own_flying}
use Rattle.lambda_finishes.specs.Finishing.{IsBegunAt, HasEnded, LambdaSays}
use Rattle.lambda_finishes.specs.Waiting.{IsOut, IsCollected, CollectedSays}

-- ---- over the core alone

pub may_submit : (c : Core) (lane : ℕ) (job : Job) → IsBegunAt Drive c lane job → MaySubmit c lane
may_submit c lane job b =
    record {
      call = call_at c lane;
      flies = b.gathering.between.owned.flies;
      held = b.held;
      drive = b.side_is;
      unmarked = b.gathering.between.owned.mark;
      empty = λ i l. b.gathering.to.above i (omega arith) l;
    }

pub suits_queued : (c : Core) (lane : ℕ) (job : Job) → IsBegunAt Drive c lane job → SuitsInSpan Suits job (view_of c.names (record (call_at c lane) { phase = Queued }))
suits_queued c lane job b = λ w s.
    suits_kept job (view_of c.names (record (call_at c lane) { phase = Queued })) w
    (record { claim = s.call.claim; code = s.code; readable = s.readable; phase = s.call.phase; gathered = s.call.gathered })
    (suits_in_phase job c.names (call_at c lane) Queued b.gathering.fresh b.gathering.suits)

-- a call that waits in the queue
out_queued : (c : Core) (lane : ℕ) (request : Request) → (call_at c lane).claim.request ≡ request → HoldsNone c (Lane lane) → IsOut (after c (Submit lane)) lane request × ((call_at (after c (Submit lane)) lane).phase ≡ Queued)
out_queued c lane request is none =
    let x : Flight = record (call_at c lane) { phase = Queued } in
    let flies : (after c (Submit lane)).calls lane ≡ Some x = put-same c.calls lane (Some x) in
    let at : call_at (after c (Submit lane)) lane ≡ x = at_flight (after c (Submit lane)).calls lane x flies in (
      record { away = record { call = x; flies = flies; not_held = λ e. let z : Queued ≡ Held = e in absurd (cc) }; none = none; request_is = ap (λ (f : Flight). f.claim.request) at ∙ is },
      ap (λ (f : Flight). f.phase) at,
    )

reported_as : (p : Phase) → is_reported p ≡ true → (r : Option Outcome) × (p ≡ Reported r)
reported_as Held e = absurd (cc)
reported_as Queued e = absurd (cc)
reported_as (Running w) e = absurd (cc)
reported_as (Reported r) e = (r, refl)

same_call : (o : Option Flight) (f g : Flight) → o ≡ Some f → o ≡ Some g → f ≡ g
same_call o f g a b = cc

-- the End of a reported call is the next event of the run of one thread
end_away : (encode : Core → ℕ → Page) (c : Core) (lane : ℕ) (request : Request) (n : Numbered) (failed : Bool) → IsOut c lane request → EndsIn failed lane request n c → IsNext encode lane request c (End lane request n.reply)
end_away encode c lane request n failed out e =
    let x = e.may.call in
    let same : out.away.call ≡ x = same_call (c.calls lane) out.away.call x out.away.flies e.may.flies in
    let r = ⊎_elim (λ (h : (x.phase ≡ Held) × _). absurd (out.away.not_held (ap (λ (f : Flight). f.phase) same ∙ h.0))) (λ (t : is_reported x.phase ≡ true). reported_as x.phase t) e.may.at_end in
    let is : End lane request n.reply ≡ end_event c lane x =
    ap (λ (y : Reply). End lane request y) (e.reply_is ∙ ap (λ (b : Bool). if b then Fault else (answer (plain c) request.call).reply) (sym e.mark))
    ∙ ap (λ (q : Request). End lane q (if (c.lanes lane).mark then Fault else (answer (plain c) q.call).reply)) e.may.request_is in
    subst (IsNext encode lane request c) (sym is) (end_next_drive encode c lane request x r.0 e.may.flies r.1)

module _ {D : Type 0} (seen : D → DieView) where
  abbrev C : State D Job → Core
  C = core_of seen

  abbrev S : Type 0
  S = Snapshot (State D Job)

  abbrev V : Type 0
  V = View (Snapshot (State D Job)) Event

  -- the call has gone into the drive's hands, and these events were made for it
  pub record Sent (o : S) (v u : V) (lane : ℕ) (request : Request) (es : List Event) : Type 0 where
    pub clear : ((core_seen C o v).lanes lane).mark ≡ false
    pub open_still : calls_of es ≡ []
    pub out : IsOut (core_seen C o u) lane request
    pub run : v.alone ≡ true → CoreRun (core_seen C o v) es (core_seen C o u)
    pub solo : v.alone ≡ true → (encode : Core → ℕ → Page) → Steps (IsStep encode lane request) (core_seen C o v) es

  -- ---- it goes into the queue

  pub queued : (o : S) (v u : V) (lane : ℕ) (job : Job) → ActsFor C o v (Lane lane) → IsBegunAt Drive (core_seen C o v) lane job → Turn C o v u (λ c es. es ≡ Submit lane ∷ []) → IsOut (core_seen C o u) lane job.request × ((call_at (core_seen C o u) lane).phase ≡ Queued)
  queued o v u lane job acts b t =
      let P = λ (c : Core) (es : List Event). es ≡ Submit lane ∷ [] in
      let c = core_seen C o v in
      let f = core_after C o (v.seen ++ t.between) in
      let k = b.gathering.between.owned in
      let same = t.kept (Lane lane) acts (own_flying c (Lane lane) lane (call_at c lane) k.flies k.owns) in
      let g = again c f (Lane lane) lane (call_at c lane) same k.flies k.owns in
      let none = none_kept c f (Lane lane) t.coherent same (shape_at seen o (v.seen ++ t.between) v.seen) b.gathering.between.none in
      let asks : (call_at f lane).claim.request ≡ job.request = ap (λ (x : Flight). x.claim.request) (at_flight f.calls lane g.call g.flies) ∙ (ap (λ (z : Claim). z.request) g.same.claim ∙ sym b.gathering.suits.request) in
      subst (λ (d : Core). IsOut d lane job.request × ((call_at d lane).phase ≡ Queued)) (sym (leaves seen o v u P (Submit lane) t t.says)) (out_queued f lane job.request asks none)

  sent : (o : S) (v u : V) (lane : ℕ) (job : Job) → ActsFor C o v (Lane lane) → IsBegunAt Drive (core_seen C o v) lane job → (t : Turn C o v u (λ c es. es ≡ Submit lane ∷ [])) → Sent o v u lane job.request t.events
  sent o v u lane job acts b t =
      let P = λ (c : Core) (es : List Event). es ≡ Submit lane ∷ [] in
      let c = core_seen C o v in
      record {
        clear = b.gathering.between.owned.mark;
        open_still = ap calls_of t.says;
        out = (queued o v u lane job acts b t).0;
        run = λ al. subst (λ (z : Core). CoreRun z t.events (core_seen C o u)) (still_alone seen o v u P t al) t.run;
        solo = λ al encode.
            subst (λ (es : List Event). Steps (IsStep encode lane job.request) c es) (sym t.says)
            (record { next = submit_next encode c lane job.request (call_at c lane) b.gathering.between.owned.flies b.held b.side_is; open_still = refl }, tt);
      }

  pub does_send : (o : S) (v u : V) (lane : ℕ) (job : Job) → ActsFor C o v (Lane lane) → IsBegunAt Drive (core_seen C o v) lane job → Turn C o v u (λ c es. es ≡ Submit lane ∷ []) → Does v u (λ es. AreOf (Lane lane) es × Sent o v u lane job.request es)
  does_send o v u lane job acts b t =
      record {
        events = t.events;
        went = went_turn C o v u (λ (c : Core) (es : List Event). es ≡ Submit lane ∷ []) t;
        says = (subst (AreOf (Lane lane)) (sym t.says) (refl, tt), sent o v u lane job acts b t);
      }

  -- ---- and ends

  pub ended : (o : S) (v u w : V) (lane : ℕ) (request : Request) (n : Numbered) (es fs : List Event) → Went v u es → Sent o v u lane request es → IsCollected seen o u w lane request n fs → HasEnded seen o v w lane request n (es ++ fs)
  ended o v u w lane request n es fs went s k =
      let c = core_seen C o v in
      let x = core_seen C o u in
      let are : es ++ fs ≡ es ++ End lane request n.reply ∷ [] = ap (λ z. es ++ z) k.are in
      let alone_u : v.alone ≡ true → u.alone ≡ true = λ a. ap (λ (z : V). z.alone) went.pass ∙ a in
      let since = starts_on v.seen u.seen k.found.before went.seen k.found.since in
      record {
        before = es;
        are = are;
        open_still = s.open_still;
        failed = k.failed;
        rose = λ m. saw_failure C o v w lane k.found.before since (entry w.number (End lane request n.reply) ∷ k.found.rest, k.found.seen) k.begins s.clear (k.found.says.mark ∙ m);
        found = record { before = k.found.before; rest = k.found.rest; since = since; seen = k.found.seen; says = k.found.says };
        after = k.after;
        coherent = k.coherent;
        run = λ al. run_on es fs c x (core_seen C o w) (s.run al) (k.run (alone_u al));
        solo = λ al encode.
            let to : x ≡ after_all c es = leads_to es c x (s.run al) in
            record {
              most = es;
              last = End lane request n.reply;
              whole = are;
              steps = s.solo al encode;
              next = subst (λ (z : Core). IsNext encode lane request z (End lane request n.reply)) to (end_away encode x lane request n k.failed s.out (k.here (alone_u al)));
              answers = refl;
            };
      }

  -- where a lane waits for its call
  pub drive_says : (o q : S) (v u w : V) (lane : ℕ) (request : Request) (r : Result Numbered Worn) → q ≡ o → Does v u (λ es. AreOf (Lane lane) es × Sent o v u lane request es) → Does u w (CollectedSays seen q u w lane request r) → Does v w (LambdaSays seen (AreOf (Lane lane)) o v w lane request r)
  drive_says o q v u w lane request (Ok n) same p k =
      let k2 : IsCollected seen o u w lane request n k.events = subst (λ (z : S). IsCollected seen z u w lane request n k.events) same k.says in
      record {
        events = p.events ++ k.events;
        went = went_on v u w p.events k.events p.went k.went;
        says = (of_on (Lane lane) p.events k.events p.says.0 (subst (AreOf (Lane lane)) (sym k2.are) (refl, tt)), ended o v u w lane request n p.events k.events p.went p.says.1 k2);
      }
  drive_says o q v u w lane request (Err x) same p k =
      let all : p.events ++ k.events ≡ p.events = ap (λ z. p.events ++ z) k.says ∙ append-nil p.events in
      record {
        events = p.events ++ k.events;
        went = went_on v u w p.events k.events p.went k.went;
        says = (
          subst (AreOf (Lane lane)) (sym all) p.says.0,
          ap calls_of all ∙ p.says.1.open_still,
          λ al encode. cut_off encode (core_seen C o v) (core_seen C o u) lane request p.events k.events (subst (λ (es : List Event). length es ≤ 1) (sym k.says) (lit≤ tt)) (p.says.1.solo al encode) (p.says.1.run al),
        );
      }

  pub out_after : (o q : S) (v u : V) (lane : ℕ) (request : Request) → q ≡ o → Does v u (λ es. AreOf (Lane lane) es × Sent o v u lane request es) → IsOut (core_seen C q u) lane (call_at (core_seen C q u) lane).claim.request
  out_after o q v u lane request same p =
      subst (λ (z : S). IsOut (core_seen C z u) lane (call_at (core_seen C z u) lane).claim.request) (sym same) (record { away = p.says.1.out.away; none = p.says.1.out.none; request_is = refl })

  asks_after : (o q : S) (v u : V) (lane : ℕ) (request : Request) → q ≡ o → Does v u (λ es. AreOf (Lane lane) es × Sent o v u lane request es) → (call_at (core_seen C q u) lane).claim.request ≡ request
  asks_after o q v u lane request same p = subst (λ (z : S). (call_at (core_seen C z u) lane).claim.request ≡ request) (sym same) p.says.1.out.request_is

  pub drive_on : (o q : S) (v u w : V) (lane : ℕ) (request : Request) (r : Result Numbered Worn) → q ≡ o → Does v u (λ es. AreOf (Lane lane) es × Sent o v u lane request es) → Does u w (CollectedSays seen q u w lane (call_at (core_seen C q u) lane).claim.request r) →
      Does v w (LambdaSays seen (AreOf (Lane lane)) o v w lane request r)
  drive_on o q v u w lane request r same p k =
      drive_says o q v u w lane request r same p (subst (λ (y : Request). Does u w (CollectedSays seen q u w lane y r)) (asks_after o q v u lane request same p) k)

  pub number_after : (o q : S) (v u w : V) (lane : ℕ) (request : Request) (n : Numbered) → q ≡ o → Does v u (λ es. AreOf (Lane lane) es × Sent o v u lane request es) →
      IsNumbered q.value.last (calls_of (events_of w.seen)) n.number (record { lane = lane; call = (call_at (core_seen C q u) lane).claim.request.call; reply = n.reply }) →
      IsNumbered o.value.last (calls_of (events_of w.seen)) n.number (record { lane = lane; call = request.call; reply = n.reply })
  number_after o q v u w lane request n same p k =
      subst (λ (z : S). IsNumbered z.value.last (calls_of (events_of w.seen)) n.number (record { lane = lane; call = request.call; reply = n.reply })) same
      (subst (λ (y : Request). IsNumbered q.value.last (calls_of (events_of w.seen)) n.number (record { lane = lane; call = y.call; reply = n.reply })) (asks_after o q v u lane request same p) k)

  -- it did not come into the queue
  pub sent_worn : (o : S) (v w : V) (lane : ℕ) (request : Request) (r : Result Numbered Worn) → IsErr r → Went v w [] → Does v w (LambdaSays seen (AreOf (Lane lane)) o v w lane request r)
  sent_worn o v w lane request (Ok n) e went = absurd (cc)
  sent_worn o v w lane request (Err x) e went = record { events = []; went = went; says = (tt, refl, λ al encode. cut_off encode (core_seen C o v) (core_seen C o v) lane request [] [] (lit≤ tt) tt refl) }
