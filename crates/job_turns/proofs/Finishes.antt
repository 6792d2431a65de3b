-- That a held call may end holds again in the book that was taken.
use Rattle.std.proofs.Common.{◌≡◌, ℕ, ◌<◌, true, Option, Some, None, refl, sym, ap, ◌∙◌, subst}
use Rattle.std.specs.Prelude.{◌⊎◌, is_some, Result, Ok, IfOk}
use Rattle.std.specs.declared.snapshot.Snapshot.{Snapshot}
use Rattle.page_base.specs.Bytes.{zero_page}
use Rattle.page_base.specs.Drive.{meta_pages}
use Rattle.turn_cell.specs.declared.view.View.{View}
use Rattle.turn_cell.specs.declared.pass.Worn.{Worn}
use Rattle.turn_cell.specs.Events.{events_of}
use Rattle.coherence.specs.Changes.{page_or}
use Rattle.dispatcher.specs.declared.side.Side.TheVariants.{Host}
use Rattle.plain_files.specs.declared.calls.Call.{Call}
use Rattle.plain_files.specs.declared.calls.Call.TheVariants.{Write, Append}
use Rattle.plain_files.specs.declared.calls.Numbered.{Numbered}
use Rattle.plain_files.specs.declared.calls.Request.{Request}
use Rattle.flash_die.specs.Dies.{DieView}
use Rattle.core_state.specs.declared.actor.Actor.{Actor}
use Rattle.core_state.specs.declared.actor.Actor.TheVariants.{Lane}
use Rattle.core_state.specs.declared.event.Event.{Event}
use Rattle.core_state.specs.declared.event.Event.TheVariants.{End}
use Rattle.core_state.specs.State.{Page, Shape, Claim, Phase, Held, Flight, Core, Reach}
use Rattle.core_state.specs.Contents.{contents, page_of, span_block}
use Rattle.core_state.specs.Reach.{gathers, is_lambda, is_sync}
use Rattle.core_state.specs.PlainOf.{plain, outcome_of}
use Rattle.core_state.specs.Dies.{owner}
use Rattle.core_state.specs.PageEvents.{flight_at}
use Rattle.core_state.specs.LaneEvents.{HasGathered}
use Rattle.core_state.specs.EndEvent.{IsAtEnd, is_reported}
use Rattle.core_state.specs.Coherent.{Coherent}
use Rattle.core_state.specs.Hold.{SeenCall, hold}
use Rattle.core_state.specs.History.{calls_of}
use Rattle.core_outcomes.specs.Known.{gathered_page, outcome_on}
use Rattle.core_outcomes.proofs.Outcomes.{outcome_is, flight_outcome}
use Rattle.system_state.specs.Cores.{core_of}
use Rattle.system_state.specs.Jobs.{view_of}
use Rattle.system_state.specs.declared.state.State.{State}
use Rattle.desk_turns.specs.Passing.{Turn}
use Rattle.job_events.specs.Words.{IsNumbered}
use Rattle.job_events.proofs.FlushTurning.{if_ok}
use Rattle.job_events.proofs.Keeping.{Again, again, at_flight}
use Rattle.job_events.proofs.Numbering.{numbered}
use Rattle.call_job.specs.Views.{TellsSame}
use Rattle.call_job.specs.declared.job.Job.{Job}
use Rattle.call_job.proofs.Kept.{suits_kept}
use Rattle.job_events.specs.Ended.{CanEnd}
use Rattle.job_turns.specs.Finishing.{EndSays}

-- ---- what its function gives

lambda_gathers : (k : Call) (r : Reach) (i : ℕ) → is_lambda k ≡ true → gathers k r i ≡ true
lambda_gathers (Write name off b) r i e = absurd (cc)
lambda_gathers (Append name b) r i e = absurd (cc)
lambda_gathers k r i e = refl

page_gathered : (o : Option Page) (q : Page) → is_some o ≡ true → ((p : Page) → o ≡ Some p → p ≡ q) → page_or o zero_page ≡ q
page_gathered None q e h = absurd (cc)
page_gathered (Some p) q e h = h p refl

-- the run of its function over the pages that it has gathered ends so in both cores
outcome_again : (c c2 : Core) (a : Actor) (lane : ℕ) (f : Flight) (g : Again c c2 a lane f) → Coherent c → Coherent c2 → c.calls lane ≡ Some f → HasGathered f → outcome_of (plain c2) g.call.claim.request.call ≡ outcome_of (plain c) f.claim.request.call
outcome_again c c2 a lane f g h h2 flies all =
    outcome_is c2 lane g.call (gathered_page f.gathered) h2 g.flies
    (λ k i l.
    let m : i < f.claim.reach.pages = subst (λ (x : Claim). i < x.reach.pages) g.same.claim l in
    let runs : is_lambda f.claim.request.call ≡ true = subst (λ (x : Claim). is_lambda x.request.call ≡ true) g.same.claim k in
    page_gathered (f.gathered i) (page_of (contents c2.blocks) (span_block c2.places g.call.claim i)) (all i m (lambda_gathers f.claim.request.call f.claim.reach i runs))
    (λ p q. h2.gathered.pages_are lane g.call g.flies i p l (g.same.gathered i m ∙ q)))
    ∙ (ap (λ (x : SeenCall). outcome_on x (gathered_page f.gathered)) g.seen ∙ sym (flight_outcome c lane f h flies all))

-- ---- the call

gathered_again : (c c2 : Core) (a : Actor) (lane : ℕ) (f : Flight) (g : Again c c2 a lane f) → HasGathered f → HasGathered g.call
gathered_again c c2 a lane f g all = λ i l w.
    let m : i < f.claim.reach.pages = subst (λ (x : Claim). i < x.reach.pages) g.same.claim l in
    let v : gathers f.claim.request.call f.claim.reach i ≡ true = subst (λ (x : Claim). gathers x.request.call x.reach i ≡ true) g.same.claim w in
    ap (λ (o : Option Page). is_some o) (g.same.gathered i m) ∙ all i m v

-- its job is told the same
pub tells_again : (c c2 : Core) (a : Actor) (lane : ℕ) (f : Flight) (g : Again c c2 a lane f) → TellsSame (view_of c.names f) (view_of c2.names g.call)
tells_again c c2 a lane f g =
    record {
      claim = g.same.claim;
      code = ap (λ (x : SeenCall). x.code) g.seen;
      readable = ap (λ (x : SeenCall). x.readable) g.seen;
      phase = g.same.phase;
      gathered = g.same.gathered;
    }

at_end_again : (f g : Flight) → g.claim ≡ f.claim → g.phase ≡ f.phase → IsAtEnd f → IsAtEnd g
at_end_again f g claim phase e =
    subst (λ (z : Phase). ((z ≡ Held) × (g.claim.side ≡ Host)) ⊎ (is_reported z ≡ true)) (sym phase)
    (subst (λ (z : Claim). ((f.phase ≡ Held) × (z.side ≡ Host)) ⊎ (is_reported f.phase ≡ true)) (sym claim) e)

pub held_call : (c : Core) (lane : ℕ) (job : Job) → (flight_at c.calls lane).phase ≡ Held → (e : CanEnd c lane job) → e.call.phase ≡ Held
held_call c lane job held e = ap (λ (x : Flight). x.phase) (sym (at_flight c.calls lane e.call e.flies)) ∙ held

pub held_kept : (c c2 : Core) (lane : ℕ) (job : Job) → hold c2 (Lane lane) ≡ hold c (Lane lane) → (flight_at c.calls lane).phase ≡ Held → CanEnd c lane job → (flight_at c2.calls lane).phase ≡ Held
held_kept c c2 lane job same held e =
    let k = held_call c lane job held e in
    let g = again c c2 (Lane lane) lane e.call same e.flies (ap (owner lane) k) in
    ap (λ (x : Flight). x.phase) (at_flight c2.calls lane g.call g.flies) ∙ (g.same.phase ∙ k)

pub ends_kept : (c c2 : Core) (lane : ℕ) (job : Job) → Coherent c → Coherent c2 → hold c2 (Lane lane) ≡ hold c (Lane lane) → c2.shape ≡ c.shape → (flight_at c.calls lane).phase ≡ Held → CanEnd c lane job → CanEnd c2 lane job
ends_kept c c2 lane job h h2 same shape held e =
    let g = again c c2 (Lane lane) lane e.call same e.flies (ap (owner lane) (held_call c lane job held e)) in
    record {
      call = g.call;
      flies = g.flies;
      at_end = at_end_again e.call g.call g.same.claim g.same.phase e.at_end;
      suits = suits_kept job (view_of c.names e.call) (view_of c2.names g.call) (tells_again c c2 (Lane lane) lane e.call g) e.suits;
      all = λ unmarked. gathered_again c c2 (Lane lane) lane e.call g (e.all (sym g.mark ∙ unmarked));
      synced = λ unmarked sync. g.same.meta ∙ (e.synced (sym g.mark ∙ unmarked) (subst (λ (x : Claim). is_sync x.request.call ≡ true) g.same.claim sync) ∙ sym (ap (λ (x : Shape). meta_pages x.blocks) shape));
      ran = λ k unmarked runs.
          let here = sym g.mark ∙ unmarked in
          e.ran h here (subst (λ (x : Claim). is_lambda x.request.call ≡ true) g.same.claim runs) ∙ ap Some (sym (outcome_again c c2 (Lane lane) lane e.call g h h2 e.flies (e.all here)));
    }

module _ {D : Type 0} (seen : D → DieView) where
  abbrev V : Type 0
  V = View (Snapshot (State D Job)) Event

  pub end_numbered : (lane : ℕ) (request : Request) (o : Snapshot (State D Job)) (v w : V) (r : Result Numbered Worn) (n : Numbered) → r ≡ Ok n → IfOk r (λ x. Turn (core_of seen) o v w (EndSays lane request x)) →
      IsNumbered o.value.last (calls_of (events_of w.seen)) n.number (record { lane = lane; call = request.call; reply = n.reply })
  end_numbered lane request o v w r n is did =
      let t = if_ok (λ x. Turn (core_of seen) o v w (EndSays lane request x)) r n is did in
      numbered (core_of seen) o v w (EndSays lane request n) (End lane request n.reply) lane request.call n t t.says.are t.says.answered
