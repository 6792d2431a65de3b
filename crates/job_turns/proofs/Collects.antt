-- What a lane knows of a call in other hands, and what a turn did in which it was to be collected.
use Rattle.std.proofs.Common.{◌≡◌, ℕ, ◌+◌, ◌<◌, ◌≤◌, Bool, true, false, List, [], ◌∷◌, ◌++◌, Option, Some, None, refl, sym, ap, ◌∙◌, subst, arith}
use Rattle.std.specs.Prelude.{◌≢◌, if◌then◌else◌, is_some, nat_lt, Result, Ok, Err, IfOk, IfErr}
use Rattle.std.proofs.lemmas.Bool.Decides.{nat_tests}
use Rattle.turn_cell.specs.declared.book.Entry.{Entry}
use Rattle.turn_cell.specs.declared.pass.Worn.{Worn}
use Rattle.turn_cell.specs.Events.{events_of}
use Rattle.turn_cell.specs.History.{entry}
use Rattle.turn_cell.specs.Steps.{Sees, Others, IsStood}
use Rattle.plain_files.specs.declared.calls.Numbered.{Numbered}
use Rattle.flash_die.specs.Dies.{DieView}
use Rattle.core_state.specs.declared.actor.Actor.{Actor}
use Rattle.core_state.specs.declared.actor.Actor.TheVariants.{Lane}
use Rattle.core_state.specs.declared.event.Event.{Event}
use Rattle.core_state.specs.declared.event.Event.TheVariants.{End}
use Rattle.core_state.specs.State.{Page, Shape, Block, Places, LaneState, Claim, Phase, Held, Queued, Running, Reported, Flight, Errand, ToFill, ToFlush, ToMeta, Out, DieState, Core}
use Rattle.core_state.specs.Contents.{flashes, die_pages}
use Rattle.core_state.specs.Dies.{IsErrand}
use Rattle.core_state.specs.PageEvents.{flight_at}
use Rattle.core_state.specs.EndEvent.{is_reported}
use Rattle.core_state.specs.Happens.{HoldsNone}
use Rattle.core_state.specs.Hold.{HeldDie, SeenCall, is_actor, is_held, die_held}
use Rattle.core_state.specs.History.{calls_of}
use Rattle.core_state.proofs.Runs.{leads_to}
use Rattle.core_hold.proofs.Actors.{is_itself, not_actor}
use Rattle.system_state.specs.Cores.{core_of}
use Rattle.system_state.specs.Jobs.{JobView}
use Rattle.system_state.specs.Stands.{Stands}
use Rattle.system_state.specs.declared.not_yet.NotYet.{NotYet}
use Rattle.system_state.specs.declared.not_yet.NotYet.TheVariants.{Unfinished}
use Rattle.system_state.specs.declared.state.State.{State}
use Rattle.system_ends.specs.Landed.{IsAway, reply_at}
use Rattle.desk_turns.specs.Passing.{May, ActsFor, core_seen, Turn}
use Rattle.desk_turns.proofs.Holding.{shapes_kept, coherent_all}
use Rattle.desk_turns.proofs.Turning.{is_after}
use Rattle.desk_turns.proofs.Went.{if_err}
use Rattle.job_events.specs.Words.{IsNumbered}
use Rattle.job_events.specs.SystemOf.{System}
use Rattle.job_events.proofs.FlushTurning.{if_ok}
use Rattle.job_events.proofs.Keeping.{at_flight}
use Rattle.job_events.proofs.Numbering.{numbered}
use Rattle.job_events.proofs.Taking.{O, V, Known, Found, DidAt, stood, coherent_seen, more, one_at, none_at}
use Rattle.job_events.proofs.Waiting.{StillSees, SeenAgain, sees_found, seen_again, still_away}
use Rattle.call_job.specs.Suits.{Suits}
use Rattle.call_job.specs.declared.job.Job.{Job}
use Rattle.job_turns.specs.Collecting.{StillWaits, CollectSays}

-- ---- the lane's dies

within_of : (shape : Shape) (places : Places) (blocks : ℕ → Block) (lanes : ℕ → LaneState) (calls : ℕ → Option Flight) (die : ℕ) (holder : Actor) (errand : Errand) → 1 ≤ shape.dies → IsErrand shape places blocks lanes calls die holder errand → die < shape.dies
within_of shape places blocks lanes calls die holder (ToFill lane i) l e = let z = e.on_die in omega arith
within_of shape places blocks lanes calls die holder (ToFlush b version page) l e = let z = e.1 in omega arith
within_of shape places blocks lanes calls die holder (ToMeta number bytes) l e = let z = e.1 in omega arith

held_here : (a : Actor) (x : DieState) (pages : List Page) (out : Out) → x.out ≡ Some out → is_actor a out.holder ≡ true → is_some (die_held a x pages x.out) ≡ true
held_here a x pages out e t = ap (λ (o : Option Out). is_some {T = HeldDie} (die_held a x pages o)) e ∙ ap (λ (b : Bool). is_some {T = HeldDie} (if b then Some (record { errand = out.errand; pages = pages; fills = x.fills; writes = x.writes; failed = x.failed }) else None)) t

not_held : (a : Actor) (x : DieState) (pages : List Page) (o : Option Out) → ((out : Out) → o ≡ Some out → out.holder ≢ a) → is_some (die_held a x pages o) ≡ false
not_held a x pages None none = refl
not_held a x pages (Some out) none = ap (λ (b : Bool). is_some {T = HeldDie} (if b then Some (record { errand = out.errand; pages = pages; fills = x.fills; writes = x.writes; failed = x.failed }) else None)) (not_actor a out.holder (λ e. none out refl (sym e)))

pub none_waits : (c c2 : Core) (lane : ℕ) → StillWaits c c2 lane → HoldsNone c (Lane lane) → HoldsNone c2 (Lane lane)
none_waits c c2 lane w none = λ die out e f.
    let a : Actor = Lane lane in
    let h = w.coherent in
    let within : die < c2.shape.dies = within_of c2.shape c2.places c2.blocks c2.lanes c2.calls die out.holder out.errand h.placed.drive.some_dies (h.dies.right die out e) in
    let within' : die < c.shape.dies = subst (λ (z : Shape). die < z.dies) w.shape within in
    let mine : is_actor a out.holder ≡ true = ap (is_actor a) f ∙ is_itself a in
    let t : nat_lt die c2.shape.dies ≡ true = grind (arith, nat_tests) in
    let t' : nat_lt die c.shape.dies ≡ true = grind (arith, nat_tests) in
    let k = ap (λ (x : ℕ → Option HeldDie). is_some (x die)) w.dies in
    let here = ap (λ (b : Bool). is_some (if b then die_held a (c2.dies die) (die_pages c2.shape c2.meta (flashes c2.blocks) die) (c2.dies die).out else None)) t ∙ held_here a (c2.dies die) (die_pages c2.shape c2.meta (flashes c2.blocks) die) out e mine in
    let there = ap (λ (b : Bool). is_some (if b then die_held a (c.dies die) (die_pages c.shape c.meta (flashes c.blocks) die) (c.dies die).out else None)) t' ∙ not_held a (c.dies die) (die_pages c.shape c.meta (flashes c.blocks) die) (c.dies die).out (λ o i. none die o i) in
    absurd (cc)

-- ---- its call

handed_on : (p : Phase) → p ≢ Held → is_held p ≡ false
handed_on Held n = absurd (n refl)
handed_on Queued n = refl
handed_on (Running worker) n = refl
handed_on (Reported result) n = refl

sees : (c c2 : Core) (lane : ℕ) → StillWaits c c2 lane → StillSees c c2 (Lane lane)
sees c c2 lane w = record { dies = w.dies; lane = w.row; seen = w.seen }

again : (c c2 : Core) (lane : ℕ) → StillWaits c c2 lane → (a : IsAway c lane) → SeenAgain c c2 lane a.call
again c c2 lane w a = seen_again c c2 lane a.call (sees c c2 lane w) a.flies

pub away_waits : (c c2 : Core) (lane : ℕ) → StillWaits c c2 lane → IsAway c lane → IsAway c2 lane
away_waits c c2 lane w a =
    let g = again c c2 lane w a in
    let away : is_held g.call.phase ≡ false = still_away c c2 lane a.call g (handed_on a.call.phase a.not_held) in
    record { call = g.call; flies = g.flies; not_held = λ e. let z : is_held g.call.phase ≡ true = ap is_held e in absurd (cc) }

pub claim_waits : (c c2 : Core) (lane : ℕ) → StillWaits c c2 lane → IsAway c lane → (flight_at c2.calls lane).claim ≡ (flight_at c.calls lane).claim
claim_waits c c2 lane w a =
    let g = again c c2 lane w a in
    ap (λ (x : Flight). x.claim) (at_flight c2.calls lane g.call g.flies)
    ∙ (ap (λ (x : SeenCall). x.claim) g.seen ∙ sym (ap (λ (x : Flight). x.claim) (at_flight c.calls lane a.call a.flies)))

-- ---- the book that was taken

module _ {D J : Type 0} (seen : D → DieView) (suits : J → JobView → Type 0) where
  pub waits_found : (s : State D J) (p q : O seen suits) (v u : V seen suits) (lane : ℕ) → Found seen suits s p q v u (Lane lane) → StillWaits (core_seen (core_of seen) q v) (core_of seen s) lane
  waits_found s p q v u lane f =
      let k = sees_found seen suits s p q v u (Lane lane) f in
      let es = events_of f.2.0.1.0 in
      let c = core_seen (core_of seen) q v in
      let r = more seen suits s p q v u (Lane lane) f in
      record {
        dies = k.dies;
        row = k.lane;
        seen = k.seen;
        shape = ap (λ (z : Core). z.shape) (leads_to es c (core_of seen s) r) ∙ shapes_kept es c;
        coherent = coherent_all es c (core_of seen s) (coherent_seen seen suits s p q v u (Lane lane) f) r;
      }

  -- where no book was handed out, some book stands for what was seen
  pub worn_waits : {A : Type 0} → (r : Result A Worn) (p q : O seen suits) (v u : V seen suits) (lane : ℕ) → p ≡ q → IsStood (λ (b : System D J) (o : O seen suits) (h : List (Entry Event)). Known seen suits b.state o.value h) p u → Sees v u → Others (May (core_of seen)) q v u → (v.alone ≡ true → u.seen ≡ v.seen) →
      ActsFor (core_of seen) q v (Lane lane) → IfErr r (λ _. StillWaits (core_seen (core_of seen) q v) (core_seen (core_of seen) q u) lane)
  worn_waits r p q v u lane same stands sees others alone acts =
      let s : State D J = stands.0.state in
      let f : Found seen suits s p q v u (Lane lane) = (same, stands.1, sees, others, alone, acts) in
      let at : core_of seen s ≡ core_seen (core_of seen) q u = is_after (core_of seen) (Stands seen suits) (λ s o h k. k.run) (λ s o h k. k.coherent) s q u.seen (stood seen suits s p q v u (Lane lane) f) in
      if_err r (subst (λ (z : Core). StillWaits (core_seen (core_of seen) q v) z lane) at (waits_found s p q v u lane f))

-- ---- the turn

module _ {D : Type 0} (seen : D → DieView) where
  pub collect_did : (before : Core) (lane : ℕ) (s t : State D Job) (p : O seen Suits) (u : V seen Suits) (r : Result (Numbered × Job) NotYet) → Known seen Suits s p.value u.seen → StillWaits before (core_of seen s) lane → IsAway before lane →
      IfOk r (λ x. is_reported (flight_at (core_of seen s).calls lane).phase ≡ true) → IfOk r (λ x. x.0.number ≡ s.last + 1) → IfOk r (λ x. x.0.reply ≡ reply_at (core_of seen s) lane x.1.request) →
      IfOk r (λ x. x.1.request ≡ (flight_at (core_of seen s).calls lane).claim.request) → IfOk r (λ x. (o : State D Job) (h : List (Entry Event)) (n : ℕ) → Known seen Suits s o h → Known seen Suits t o (h ++ entry n (End lane x.1.request x.0.reply) ∷ [])) →
      IfErr r (λ y. (is_reported (flight_at (core_of seen s).calls lane).phase ≡ false) × (y ≡ Unfinished lane)) → IfErr r (λ y. t ≡ s) → DidAt seen Suits (Lane lane) t p u (CollectSays before lane r (core_of seen s))
  collect_did before lane s t p u (Ok x) known waits away reported number reply request stands unfinished same =
      one_at seen Suits (Lane lane) t p u (End lane x.1.request x.0.reply) (CollectSays before lane (Ok x) (core_of seen s)) refl (stands p.value u.seen u.number known)
      (record {
        are = refl;
        reported = reported;
        request_is = request ∙ ap (λ (k : Claim). k.request) (claim_waits before (core_of seen s) lane waits away);
        reply_is = reply;
        answered = record { number = number; ends = refl };
        waits = waits;
      })
  collect_did before lane s t p u (Err y) known waits away reported number reply request stands unfinished same =
      none_at seen Suits (Lane lane) s t p u (CollectSays before lane (Err y) (core_of seen s)) known same (refl, unfinished.0, unfinished.1, waits)

  pub collect_numbered : (before : Core) (lane : ℕ) (o : O seen Suits) (v w : V seen Suits) (r : Result (Result (Numbered × Job) NotYet) Worn) (n : Numbered) (job : Job) → r ≡ Ok (Ok (n, job)) → IfOk r (λ x. Turn (core_of seen) o v w (CollectSays before lane x)) →
      IsNumbered o.value.last (calls_of (events_of w.seen)) n.number (record { lane = lane; call = job.request.call; reply = n.reply })
  collect_numbered before lane o v w r n job is did =
      let t = if_ok (λ x. Turn (core_of seen) o v w (CollectSays before lane x)) r (Ok (n, job)) is did in
      numbered (core_of seen) o v w (CollectSays before lane (Ok (n, job))) (End lane job.request n.reply) lane job.request.call n t t.says.are t.says.answered
