-- Submit, Fetch and Report.
use Rattle.std.proofs.Common.{◌≡◌, ℕ, Bool, false, Option, Some, None, refl, sym, ap, ◌∙◌, subst, inl, inr, ⊎_elim}
use Rattle.std.specs.Prelude.{◌≢◌, ◌⊎◌, if◌then◌else◌, is_some}
use mathlib.Core.Path.{fun_ext}
use Rattle.index_lists.specs.Words.{put, count}
use Rattle.index_lists.proofs.Counts.{same_or_not, count-here}
use Rattle.index_lists.proofs.Puts.{put-same, put-other}
use Rattle.core_quick.specs.Actor.{Actor}
use Rattle.core_quick.specs.Actor.TheVariants.{Lane, Worker, Flusher, Closer}
use Rattle.core_quick.specs.Event.TheVariants.{Submit, Fetch}
use Rattle.core_quick.specs.State.{Page, Names, Places, LaneState, Phase, Held, Queued, Running, Flight, Core}
use Rattle.core_quick.specs.Contents.{contents}
use Rattle.core_quick.specs.Frames.{is_queued}
use Rattle.core_quick.specs.LaneEvents.{result_of}
use Rattle.core_quick.specs.Hold.{is_owner, is_held, SeenCall, seen_call, call_seen, OwnedCall, owned_call, call_owned, hold}
use Rattle.core_quick.proofs.Calls.{phased}
use Rattle.core_quick.proofs.Phases.{flight_is, InQueue, queued_call_of, true_of}
use Rattle.core_hold.specs.Keeps.{KeepsHolds, owned_in, with_report, HandsBack}
use Rattle.core_hold.proofs.Actors.{is_itself, not_owner, unowned, not_seeing, lane_sees}
use Rattle.core_hold.proofs.Views.{same_hold, lane_other_call, lane_flies, seen_by, seen_put, unseen, owned_by, owned_put, not_owned}

-- an actor is the lane or not
lane_or_not : (a : Actor) (lane : ℕ) → (a ≡ Lane lane) ⊎ (a ≢ Lane lane)
lane_or_not (Lane l) lane = ⊎_elim (λ (e : l ≡ lane). inl (ap (λ (k : ℕ). Lane k) e)) (λ (d : l ≢ lane). inr (λ e. d (cc))) (same_or_not l lane)
lane_or_not (Worker w) lane = inr (λ e. cc)
lane_or_not (Flusher f) lane = inr (λ e. cc)
lane_or_not Closer lane = inr (λ e. cc)

-- ---- a call in another phase, which somebody neither owned nor owns

abbrev in_new_phase : Core → ℕ → Flight → Phase → Core
in_new_phase c lane call phase = record c { calls = put c.calls lane (Some (phased call phase)) }

others_phase : (c : Core) (lane : ℕ) (call : Flight) (phase : Phase) (a : Actor) → c.calls lane ≡ Some call → a ≢ Lane lane → is_owner a lane call.phase ≡ false → is_owner a lane phase ≡ false → hold (in_new_phase c lane call phase) a ≡ hold c a
others_phase c lane call phase a e n before now =
    let call2 = phased call phase in
    let pages = contents c.blocks in
    same_hold (hold (in_new_phase c lane call phase) a) (hold c a) refl (lane_other_call c.lanes c.calls lane (Some call2) a n)
    (seen_put c.names c.places pages a c.calls lane (Some call2)
    (unseen c.names c.places pages a lane call2 (not_seeing a lane phase n now) ∙ sym (ap (call_seen c.names c.places pages a lane) e ∙ unseen c.names c.places pages a lane call (not_seeing a lane call.phase n before))))
    (owned_put c.lanes a c.calls lane (Some call2)
    (not_owned (c.lanes lane) a lane call2 now ∙ sym (ap (call_owned (c.lanes lane) a lane) e ∙ not_owned (c.lanes lane) a lane call before))) refl

pub submit_holds : (lane : ℕ) → KeepsHolds (Submit lane)
submit_holds lane c c2 a h s n =
    ap (λ (k : Core). hold k a) s.leaves
    ∙ subst (λ (f : Flight). hold (in_new_phase c lane f Queued) a ≡ hold c a) (sym (flight_is c.calls lane s.may.call s.may.flies))
    (others_phase c lane s.may.call Queued a s.may.flies n (ap (is_owner a lane) s.may.held ∙ not_owner a (Lane lane) lane Held refl n) (unowned a lane Queued refl))

-- ---- what the call's lane sees of it, held neither before nor after

abbrev seen_with : Names → Places → (ℕ → Page) → Flight → Bool → SeenCall
seen_with names places pages call held = record (seen_call names places pages call) { held = held }

lane_still_sees : (names : Names) (places : Places) (pages : ℕ → Page) (lane : ℕ) (call : Flight) (phase : Phase) → is_held call.phase ≡ false → is_held phase ≡ false →
    call_seen names places pages (Lane lane) lane (Some (phased call phase)) ≡ call_seen names places pages (Lane lane) lane (Some call)
lane_still_sees names places pages lane call phase before now =
    ap (λ (t : Bool). if t then Some (seen_with names places pages call (is_held phase)) else None) (lane_sees lane phase)
    ∙ (ap (λ (held : Bool). Some (seen_with names places pages call held)) (now ∙ sym before)
    ∙ sym (ap (λ (t : Bool). if t then Some (seen_call names places pages call) else None) (lane_sees lane call.phase)))

lane_seen_phase : (c : Core) (lane : ℕ) (call : Flight) (phase : Phase) → c.calls lane ≡ Some call → is_held call.phase ≡ false → is_held phase ≡ false →
    seen_by c.names c.places (contents c.blocks) (Lane lane) (put c.calls lane (Some (phased call phase))) ≡ seen_by c.names c.places (contents c.blocks) (Lane lane) c.calls
lane_seen_phase c lane call phase e before now =
    seen_put c.names c.places (contents c.blocks) (Lane lane) c.calls lane (Some (phased call phase))
    (lane_still_sees c.names c.places (contents c.blocks) lane call phase before now ∙ sym (ap (call_seen c.names c.places (contents c.blocks) (Lane lane) lane) e))

still_flies : (c : Core) (lane : ℕ) (call call2 : Flight) (a : Actor) → c.calls lane ≡ Some call → is_some (Some call2) ≡ is_some (c.calls lane)
still_flies c lane call call2 a e = sym (ap is_some e)

-- ---- Fetch

-- the lane of a call that is fetched sees it, and owns it neither before nor after
fetched_lane : (c : Core) (worker lane : ℕ) (call : Flight) → c.calls lane ≡ Some call → call.phase ≡ Queued → hold (in_new_phase c lane call (Running worker)) (Lane lane) ≡ hold c (Lane lane)
fetched_lane c worker lane call e queued =
    let call2 = phased call (Running worker) in
    same_hold (hold (in_new_phase c lane call (Running worker)) (Lane lane)) (hold c (Lane lane)) refl
    (lane_flies c.lanes c.calls lane (Some call2) (Lane lane) (sym (ap is_some e)))
    (lane_seen_phase c lane call (Running worker) e (ap is_held queued) refl)
    (owned_put c.lanes (Lane lane) c.calls lane (Some call2)
    (not_owned (c.lanes lane) (Lane lane) lane call2 refl
    ∙ sym (ap (call_owned (c.lanes lane) (Lane lane) lane) e ∙ not_owned (c.lanes lane) (Lane lane) lane call (ap (is_owner (Lane lane) lane) queued)))) refl

pub fetch_holds : (worker lane : ℕ) → KeepsHolds (Fetch worker lane)
fetch_holds worker lane c c2 a h s n =
    let q : InQueue (c.calls lane) = queued_call_of (c.calls lane) (true_of (is_queued (c.calls lane)) (count lane s.may.rest) (sym (count-here lane s.may.rest) ∙ (ap (count lane) (sym s.may.first) ∙ h.orders.queued.lists lane))) in
    ap (λ (k : Core). hold k a) s.leaves
    ∙ subst (λ (f : Flight). hold (in_new_phase c lane f (Running worker)) a ≡ hold c a) (sym (flight_is c.calls lane q.call q.flies))
    (⊎_elim
    (λ (same : a ≡ Lane lane). subst (λ (b : Actor). hold (in_new_phase c lane q.call (Running worker)) b ≡ hold c b) (sym same) (fetched_lane c worker lane q.call q.flies q.phase))
    (λ (other : a ≢ Lane lane). others_phase c lane q.call (Running worker) a q.flies other (ap (is_owner a lane) q.phase) (not_owner a (Worker worker) lane (Running worker) refl n))
    (lane_or_not a lane))

-- ---- Report

worker_owns : (lane worker : ℕ) (l : LaneState) (o : Option Flight) (call : Flight) → o ≡ Some call → call.phase ≡ Running worker → call_owned l (Worker worker) lane o ≡ Some (owned_call l call)
worker_owns lane worker l o call e runs =
    ap (call_owned l (Worker worker) lane) e
    ∙ ap (λ (t : Bool). if t then Some (owned_call l call) else None) (ap (is_owner (Worker worker) lane) runs ∙ is_itself (Worker worker))

-- the lane owns its call as the worker did, in its new phase
handed : (c : Core) (worker lane : ℕ) (call : Flight) → c.calls lane ≡ Some call → call.phase ≡ Running worker →
    owned_by c.lanes (Lane lane) (put c.calls lane (Some (phased call (result_of c lane)))) ≡ put (hold c (Lane lane)).owned lane (owned_in (result_of c lane) ((hold c (Worker worker)).owned lane))
handed c worker lane call e runs = fun_ext (λ j. ⊎_elim (at j) (elsewhere j) (same_or_not j lane))
  where
    phase : Phase
    phase = result_of c lane

    calls : ℕ → Option Flight
    calls = put c.calls lane (Some (phased call (result_of c lane)))

    row : ℕ → Option OwnedCall
    row = put (hold c (Lane lane)).owned lane (owned_in (result_of c lane) ((hold c (Worker worker)).owned lane))

    here : owned_by c.lanes (Lane lane) calls lane ≡ row lane
    here =
        ap (call_owned (c.lanes lane) (Lane lane) lane) (put-same c.calls lane (Some (phased call (result_of c lane))))
        ∙ (ap (λ (t : Bool). if t then Some (owned_call (c.lanes lane) (phased call (result_of c lane))) else None) (is_itself (Lane lane))
        ∙ (sym (ap (owned_in (result_of c lane)) (worker_owns lane worker (c.lanes lane) (c.calls lane) call e runs))
        ∙ sym (put-same (hold c (Lane lane)).owned lane (owned_in (result_of c lane) ((hold c (Worker worker)).owned lane)))))

    at : (j : ℕ) → j ≡ lane → owned_by c.lanes (Lane lane) calls j ≡ row j
    at j s = subst (λ (k : ℕ). owned_by c.lanes (Lane lane) calls k ≡ row k) (sym s) here

    elsewhere : (j : ℕ) → j ≢ lane → owned_by c.lanes (Lane lane) calls j ≡ row j
    elsewhere j d =
        ap (call_owned (c.lanes j) (Lane lane) j) (put-other c.calls lane (Some (phased call (result_of c lane))) j d)
        ∙ sym (put-other (hold c (Lane lane)).owned lane (owned_in (result_of c lane) ((hold c (Worker worker)).owned lane)) j d)

lane_after_report : (c : Core) (worker lane : ℕ) (call : Flight) → c.calls lane ≡ Some call → call.phase ≡ Running worker → hold (in_new_phase c lane call (result_of c lane)) (Lane lane) ≡ with_report c worker lane
lane_after_report c worker lane call e runs =
    same_hold (hold (in_new_phase c lane call (result_of c lane)) (Lane lane)) (with_report c worker lane) refl
    (lane_flies c.lanes c.calls lane (Some (phased call (result_of c lane))) (Lane lane) (sym (ap is_some e)))
    (lane_seen_phase c lane call (result_of c lane) e (ap is_held runs) refl)
    (handed c worker lane call e runs) refl

pub report_hands_back : (worker lane : ℕ) → HandsBack worker lane
report_hands_back worker lane = record {
  adds = λ c c2 h s.
      ap (λ (k : Core). hold k (Lane lane)) s.leaves
      ∙ subst (λ (f : Flight). hold (in_new_phase c lane f (result_of c lane)) (Lane lane) ≡ with_report c worker lane) (sym (flight_is c.calls lane s.may.call s.may.flies))
      (lane_after_report c worker lane s.may.call s.may.flies s.may.runs);
  others = λ c c2 a h s n m.
      ap (λ (k : Core). hold k a) s.leaves
      ∙ subst (λ (f : Flight). hold (in_new_phase c lane f (result_of c lane)) a ≡ hold c a) (sym (flight_is c.calls lane s.may.call s.may.flies))
      (others_phase c lane s.may.call (result_of c lane) a s.may.flies m
      (ap (is_owner a lane) s.may.runs ∙ not_owner a (Worker worker) lane (Running worker) refl n) (not_owner a (Lane lane) lane (result_of c lane) refl m));
}
