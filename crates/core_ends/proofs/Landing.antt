-- A call is no longer in flight.
use Rattle.std.proofs.Common.{◌≡◌, ℕ, ◌+◌, ◌<◌, false, List, Option, Some, None, refl, sym, ap, ◌∙◌, subst, arith}
use Rattle.std.specs.Prelude.{◌≢◌}
use Rattle.dispatcher.specs.declared.side.Side.{Side}
use Rattle.index_lists.specs.Words.{one_if}
use Rattle.index_lists.proofs.Puts.{put-other, put-each}
use Rattle.core_quick.specs.Plain.{State}
use Rattle.core_quick.specs.Actor.{Actor}
use Rattle.core_quick.specs.Actor.TheVariants.{Lane, Worker, Flusher, Closer}
use Rattle.core_quick.specs.State.{Page, Shape, Block, Names, Places, LaneState, Claim, Flight, Errand, ToFill, ToFlush, ToMeta, Out, DieState}
use Rattle.core_quick.specs.InFlight.{claim_of, claims, AreThere, Locked, IsRight, InFlight}
use Rattle.core_quick.specs.Frames.{frames_of, used, in_queue, is_queued, AreQueued}
use Rattle.core_quick.specs.Dies.{owner, MayFlush, MaySync, IsErrand, Dies, Gathered}
use Rattle.core_quick.proofs.Words.{same_some, sum_to-put}
use Rattle.core_quick.proofs.Calls.{without_call, still_there, other_there}

pub still_claimed : (calls : ℕ → Option Flight) (lane l : ℕ) (a : Claim) → claims (without_call calls lane) l ≡ Some a → claims calls l ≡ Some a
still_claimed calls lane l a = put-each (λ (l : ℕ) (o : Option Flight). claim_of o ≡ Some a → claims calls l ≡ Some a) calls lane None (λ e. absurd (cc)) (λ l d e. e) l

-- ---- frames

-- the frames of the call that is gone are free
pub used_gone : (side : Side) (shape : Shape) (xs : List ℕ) (calls : ℕ → Option Flight) (lane : ℕ) (call : Flight) → calls lane ≡ Some call → lane < shape.lanes →
    used side shape xs (without_call calls lane) + frames_of side (Some call) ≡ used side shape xs calls
used_gone side shape xs calls lane call e l =
    let a = sum_to-put (frames_of side) calls lane None shape.lanes l in
    let k = ap (frames_of side) e in
    omega arith

-- ---- locks and claims

pub locked_gone : (names names2 : Names) (calls : ℕ → Option Flight) (lane : ℕ) → ((a : Claim) → AreThere names a → AreThere names2 a) → Locked names (claims calls) → Locked names2 (claims (without_call calls lane))
locked_gone names names2 calls lane more h = record {
  apart = λ l m a b page e f. h.apart l m a b page (still_claimed calls lane l a e) (still_claimed calls lane m b f);
  there = λ l a e. more a (h.there l a (still_claimed calls lane l a e));
}

pub in_flight_gone : (names names2 : Names) (plain : State) (calls : ℕ → Option Flight) (lane : ℕ) → ((a : Claim) → IsRight names plain a → IsRight names2 plain a) → InFlight names plain calls → InFlight names2 plain (without_call calls lane)
in_flight_gone names names2 plain calls lane more h = record {
  right = λ l a e. more a (h.right l a (still_claimed calls lane l a e));
  host = λ l x e. h.host l x (still_there calls lane l x e).1;
}

-- ---- the queue

pub queued_gone : (queue : List ℕ) (lanes lanes2 : ℕ → LaneState) (calls : ℕ → Option Flight) (lane : ℕ) (call : Flight) → calls lane ≡ Some call → in_queue call.phase ≡ false → ((l : ℕ) → l ≢ lane → lanes2 l ≡ lanes l) → AreQueued queue lanes calls → AreQueued queue lanes2 (without_call calls lane)
queued_gone queue lanes lanes2 calls lane call e idle same h = record {
  lists = λ j. h.lists j ∙ ap one_if (sym (put-each (λ (l : ℕ) (o : Option Flight). is_queued o ≡ is_queued (calls l)) calls lane None (sym (ap is_queued e ∙ idle)) (λ l d. refl) j));
  unmarked = λ l x f p. let k = still_there calls lane l x f in ap (λ (s : LaneState). s.mark) (same l k.0) ∙ h.unmarked l x k.1 p;
  empty = λ l x f. h.empty l x (still_there calls lane l x f).1;
  one_each = λ l m w a b f g. h.one_each l m w a b (still_there calls lane l a f).1 (still_there calls lane m b g).1;
}

-- ---- dies

pub errand_gone : (shape : Shape) (places : Places) (blocks : ℕ → Block) (lanes lanes2 : ℕ → LaneState) (calls : ℕ → Option Flight) (lane : ℕ) (die : ℕ) (holder : Actor) (errand : Errand) → ((lane2 i : ℕ) → errand ≡ ToFill lane2 i → lane2 ≢ lane) → holder ≢ Lane lane → ((l : ℕ) → l ≢ lane → lanes2 l ≡ lanes l) →
    IsErrand shape places blocks lanes calls die holder errand → IsErrand shape places blocks lanes2 (without_call calls lane) die holder errand
errand_gone shape places blocks lanes lanes2 calls lane die holder (ToFill l i) others free same h =
    record { call = h.call; flies = other_there calls lane l h.call (others l i refl) h.flies; owns = h.owns; within = h.within; gathered = h.gathered; b = h.b; block = h.block; on_die = h.on_die; written = h.written; clean = h.clean; away = h.away }
errand_gone shape places blocks lanes lanes2 calls lane die holder (ToFlush b version page) others free same h = (h.0, h.1, h.2, flushes holder free h.3)
  where
    flushes : (a : Actor) → a ≢ Lane lane → MayFlush lanes calls a → MayFlush lanes2 (without_call calls lane) a
    flushes (Lane l) d m =
        let n : l ≢ lane = λ s. d (ap Lane s) in
        record {
          inside = ap (λ (s : LaneState). s.stage) (same l n) ∙ m.inside;
          sync = λ q. let s = m.sync (λ z. q (put-other calls lane None l n ∙ z)) in record { flight = s.flight; flies = other_there calls lane l s.flight n s.flies; sync = s.sync };
        }
    flushes (Worker w) d m = m
    flushes (Flusher f) d m = m
    flushes Closer d m = m
errand_gone shape places blocks lanes lanes2 calls lane die holder (ToMeta number bytes) others free same h = (h.0, h.1, metas holder free h.2)
  where
    metas : (a : Actor) → a ≢ Lane lane → MaySync calls a → MaySync (without_call calls lane) a
    metas (Lane l) d s = record { flight = s.flight; flies = other_there calls lane l s.flight (λ q. d (ap Lane q)) s.flies; sync = s.sync }
    metas (Worker w) d m = m
    metas (Flusher f) d m = m
    metas Closer d m = m

pub dies_gone : (shape : Shape) (places : Places) (blocks : ℕ → Block) (lanes lanes2 : ℕ → LaneState) (calls : ℕ → Option Flight) (dies : ℕ → DieState) (lane : ℕ) (call : Flight) → calls lane ≡ Some call → owner lane call.phase ≡ Some (Lane lane) →
    ((die : ℕ) (out : Out) → (dies die).out ≡ Some out → out.holder ≢ Lane lane) → ((l : ℕ) → l ≢ lane → lanes2 l ≡ lanes l) → Dies shape places blocks lanes calls dies → Dies shape places blocks lanes2 (without_call calls lane) dies
dies_gone shape places blocks lanes lanes2 calls dies lane call e owns free same h = record {
  right = λ die out o. errand_gone shape places blocks lanes lanes2 calls lane die out.holder out.errand (λ lane2 i q. fill die out o lane2 i q) (free die out o) same (h.right die out o);
  one_each = h.one_each;
  in_turn = λ l x f. let k = still_there calls lane l x f in let t = h.in_turn l x k.1 in (t.0, ap (λ (s : LaneState). s.stage) (same l k.0) ∙ t.1);
}
  where
    -- a fill of the call would be its owner's, who holds no die
    fill : (die : ℕ) (out : Out) → (dies die).out ≡ Some out → (lane2 i : ℕ) → out.errand ≡ ToFill lane2 i → lane2 ≢ lane
    fill die out o lane2 i q s =
        let f = subst (λ (k : Errand). IsErrand shape places blocks lanes calls die out.holder k) q (h.right die out o) in
        let same_call : f.call ≡ call = same_some (calls lane) f.call call (ap calls (sym s) ∙ f.flies) e in
        let owned : owner lane call.phase ≡ Some out.holder = ap (λ (w : Flight). owner lane w.phase) (sym same_call) ∙ (ap (λ (k : ℕ). owner k f.call.phase) (sym s) ∙ f.owns) in
        free die out o (same_some (owner lane call.phase) out.holder (Lane lane) owned owns)

-- ---- gathered pages and results

pub gathered_gone : (places : Places) (pages : ℕ → Page) (plain : State) (lanes lanes2 : ℕ → LaneState) (calls : ℕ → Option Flight) (lane : ℕ) → ((l : ℕ) → l ≢ lane → lanes2 l ≡ lanes l) → Gathered places pages plain lanes calls → Gathered places pages plain lanes2 (without_call calls lane)
gathered_gone places pages plain lanes lanes2 calls lane same h = record {
  pages_are = λ l x e. h.pages_are l x (still_there calls lane l x e).1;
  results = λ l x e m. let k = still_there calls lane l x e in h.results l x k.1 (ap (λ (s : LaneState). s.mark) (sym (same l k.0)) ∙ m);
}
