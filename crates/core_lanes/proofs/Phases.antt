-- Submit, Fetch and Report.
use Rattle.std.proofs.Common.{◌≡◌, ℕ, ◌+◌, ◌<◌, Bool, true, false, List, [], ◌∷◌, ◌++◌, Option, Some, None, refl, sym, ap, ◌∙◌, subst, ⊎_elim, arith}
use Rattle.std.specs.Prelude.{◌≢◌, if◌then◌else◌, unwrap_or}
use Rattle.dispatcher.specs.declared.side.Side.TheVariants.{Host}
use Rattle.index_lists.specs.Words.{put, count, one_if, without}
use Rattle.index_lists.proofs.Counts.{same_or_not, count-here}
use Rattle.sbpf_insn.specs.Machine.{Outcome}
use Rattle.core_lemmas.specs.Actor.TheVariants.{Lane, Worker}
use Rattle.core_lemmas.specs.Words.{Lists}
use Rattle.core_lemmas.specs.State.{Phase, Held, Queued, Running, Reported, Flight, Out, Core}
use Rattle.core_lemmas.specs.Contents.{contents}
use Rattle.core_lemmas.specs.PlainOf.{plain, outcome_of}
use Rattle.core_lemmas.specs.Frames.{in_queue, is_queued}
use Rattle.core_lemmas.specs.Dies.{owner, IsResult}
use Rattle.core_lemmas.specs.InFlight.{Locked}
use Rattle.core_lemmas.specs.Coherent.{Coherent}
use Rattle.core_lemmas.specs.PageEvents.{no_flight, flight_at}
use Rattle.core_lemmas.specs.LaneEvents.{in_phase, result_of, submitted, fetched, reported, MaySubmit, MayFetch, MayReport}
use Rattle.core_lemmas.specs.Happens.{HoldsNone}
use Rattle.core_lemmas.proofs.Words.{same_some, lists_push, lists_without, lists_same}
use Rattle.core_lemmas.proofs.Calls.{claims_put, phased, lent_phase, frames_phase, dies_call, in_flight_call, gathered_call, queued_call, is_queued_put, is_queued_here}

-- the lane's call, which is there
pub flight_is : (calls : ℕ → Option Flight) (lane : ℕ) (call : Flight) → calls lane ≡ Some call → flight_at calls lane ≡ call
flight_is calls lane call e = ap (λ (o : Option Flight). unwrap_or o no_flight) e

phase_is : (calls : ℕ → Option Flight) (lane : ℕ) (call : Flight) (phase : Phase) → calls lane ≡ Some call → in_phase calls lane phase ≡ put calls lane (Some (phased call phase))
phase_is calls lane call phase e = ap (λ (f : Flight). put calls lane (Some (phased f phase))) (flight_is calls lane call e)

-- a call in another phase, where no die is out for it
pub phase_keeps : (c : Core) (lane : ℕ) (call : Flight) (phase : Phase) (queue2 : List ℕ) → c.calls lane ≡ Some call →
    ((die : ℕ) (out : Out) → (c.dies die).out ≡ Some out → owner lane call.phase ≡ Some out.holder → ⊥) →
    (call.claim.side ≡ Host → phase ≡ Held) →
    Lists queue2 (λ l. is_queued (put c.calls lane (Some (phased call phase)) l)) →
    (phase ≡ Queued → (c.lanes lane).mark ≡ false) →
    (phase ≡ Queued → (i : ℕ) → i < call.claim.reach.pages → call.gathered i ≡ None) →
    ((w : ℕ) → phase ≡ Running w → (l : ℕ) (x : Flight) → l ≢ lane → c.calls l ≡ Some x → x.phase ≡ Running w → ⊥) →
    ((c.lanes lane).mark ≡ false → IsResult (plain c) call.claim.request.call phase) →
    Coherent c → Coherent (record c { calls = put c.calls lane (Some (phased call phase)); queue = queue2 })
phase_keeps c lane call phase queue2 e free held lists unmarked empty alone result h = record {
  placed = h.placed;
  copies = h.copies;
  clean = h.clean;
  unclean = h.unclean;
  lent = lent_phase c.places c.calls c.blocks lane call phase e h.lent;
  locked = subst (Locked c.names) (sym (claims_put c.calls lane call (phased call phase) e refl)) h.locked;
  in_flight = in_flight_call c.names (plain c) c.calls lane call (phased call phase) e refl held h.in_flight;
  tails = h.tails;
  frames = frames_phase c.shape c.places c.blocks c.host_order c.drive_order c.calls lane call phase e (h.dies.in_turn lane call e).0 h.frames;
  orders = record { ordered = h.orders.ordered; queued = queued_call c.queue queue2 c.lanes c.calls lane (phased call phase) lists unmarked empty alone h.orders.queued };
  dies = dies_call c.shape c.places c.blocks c.lanes c.calls c.dies lane call (phased call phase) e refl free h.dies;
  gathered = gathered_call c.places (contents c.blocks) (plain c) c.lanes c.calls lane (phased call phase) (h.gathered.pages_are lane call e) result h.gathered;
}

queued_was : (calls : ℕ → Option Flight) (lane : ℕ) (call : Flight) → calls lane ≡ Some call → is_queued (calls lane) ≡ in_queue call.phase
queued_was calls lane call e = ap is_queued e

pub submit_keeps : (c : Core) (lane : ℕ) → Coherent c → HoldsNone c (Lane lane) → MaySubmit c lane → Coherent (submitted c lane)
submit_keeps c lane h free may =
    let call = may.call in
    let e = may.flies in
    subst (λ (calls : ℕ → Option Flight). Coherent (record c { calls = calls; queue = c.queue ++ lane ∷ [] })) (sym (phase_is c.calls lane call Queued e))
    (phase_keeps c lane call Queued (c.queue ++ lane ∷ []) e
    (λ die out o q. let p : Some (Lane lane) ≡ Some out.holder = ap (owner lane) (sym may.held) ∙ q in free die out o (same_some _ _ _ refl (sym p)))
    (λ s. let d = may.drive in absurd (cc))
    (lists_push c.queue (λ l. is_queued (c.calls l)) (λ l. is_queued (put c.calls lane (Some (phased call Queued)) l)) lane
    (queued_was c.calls lane call e ∙ ap in_queue may.held) (is_queued_here c.calls lane (phased call Queued)) (is_queued_put c.calls lane (phased call Queued)) h.orders.queued.lists)
    (λ q. may.unmarked) (λ q. may.empty) (λ w q. absurd (cc)) (λ m. tt) h)

in_queue_is : (phase : Phase) → in_queue phase ≡ true → phase ≡ Queued
in_queue_is Held e = absurd (cc)
in_queue_is Queued e = refl
in_queue_is (Running w) e = absurd (cc)
in_queue_is (Reported r) e = absurd (cc)

-- a call that is queued
pub record InQueue (o : Option Flight) : Type 0 where
  pub call : Flight
  pub flies : o ≡ Some call
  pub phase : call.phase ≡ Queued

pub queued_call_of : (o : Option Flight) → is_queued o ≡ true → InQueue o
queued_call_of None e = absurd (cc)
queued_call_of (Some call) e = record { call = call; flies = refl; phase = in_queue_is call.phase e }

pub true_of : (t : Bool) (n : ℕ) → n + 1 ≡ one_if t → t ≡ true
true_of true n e = refl
true_of false n e = absurd (omega arith)

pub fetch_keeps : (c : Core) (worker lane : ℕ) → Coherent c → MayFetch c worker lane → Coherent (fetched c worker lane)
fetch_keeps c worker lane h may =
    let q : InQueue (c.calls lane) = queued_call_of (c.calls lane) (true_of (is_queued (c.calls lane)) (count lane may.rest) (sym (count-here lane may.rest) ∙ (ap (count lane) (sym may.first) ∙ h.orders.queued.lists lane))) in
    let call = q.call in
    let e = q.flies in
    subst (λ (calls : ℕ → Option Flight). Coherent (record c { calls = calls; queue = without lane c.queue })) (sym (phase_is c.calls lane call (Running worker) e))
    (phase_keeps c lane call (Running worker) (without lane c.queue) e
    (λ die out o p. let s : None ≡ Some out.holder = ap (owner lane) (sym q.phase) ∙ p in cc)
    (λ s. let k = h.in_flight.host lane call e s in let p = q.phase in absurd (cc))
    (lists_without c.queue (λ l. is_queued (c.calls l)) (λ l. is_queued (put c.calls lane (Some (phased call (Running worker))) l)) lane
    (is_queued_here c.calls lane (phased call (Running worker))) (is_queued_put c.calls lane (phased call (Running worker))) h.orders.queued.lists)
    (λ s. absurd (cc)) (λ s. absurd (cc))
    (λ w s l x d f p. let k : worker ≡ w = cc in may.free l x f (p ∙ ap Running (sym k)))
    (λ m. tt) h)

unmarked_result : (m : Bool) (o : Outcome) → m ≡ false → (if m then None else Some o) ≡ Some o
unmarked_result true o e = absurd (cc)
unmarked_result false o e = refl

pub report_keeps : (c : Core) (worker lane : ℕ) → Coherent c → HoldsNone c (Worker worker) → MayReport c worker lane → Coherent (reported c lane)
report_keeps c worker lane h free may =
    let call = may.call in
    let e = may.flies in
    let phase = result_of c lane in
    subst (λ (calls : ℕ → Option Flight). Coherent (record c { calls = calls })) (sym (phase_is c.calls lane call phase e))
    (phase_keeps c lane call phase c.queue e
    (λ die out o q. let p : Some (Worker worker) ≡ Some out.holder = ap (owner lane) (sym may.runs) ∙ q in free die out o (same_some _ _ _ refl (sym p)))
    (λ s. let k = h.in_flight.host lane call e s in let p = may.runs in absurd (cc))
    (lists_same c.queue (λ l. is_queued (c.calls l)) (λ l. is_queued (put c.calls lane (Some (phased call phase)) l))
    (λ j. ⊎_elim (λ (s : j ≡ lane). ap (λ (k : ℕ). is_queued (put c.calls lane (Some (phased call phase)) k)) s ∙ (is_queued_here c.calls lane (phased call phase) ∙ (ap in_queue (sym may.runs) ∙ (sym (queued_was c.calls lane call e) ∙ ap (λ (k : ℕ). is_queued (c.calls k)) (sym s)))))
    (λ (d : j ≢ lane). is_queued_put c.calls lane (phased call phase) j d) (same_or_not j lane))
    h.orders.queued.lists)
    (λ s. absurd (cc)) (λ s. absurd (cc)) (λ w s. absurd (cc))
    (λ m. unmarked_result (c.lanes lane).mark (outcome_of (plain c) (flight_at c.calls lane).claim.request.call) m ∙ ap (λ (f : Flight). Some (outcome_of (plain c) f.claim.request.call)) (flight_is c.calls lane call e))
    h)
