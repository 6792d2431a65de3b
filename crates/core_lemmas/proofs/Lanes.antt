-- What a change of a lane without a call keeps.
use Rattle.std.proofs.Common.{◌≡◌, ℕ, false, List, Option, Some, None, refl, sym, ap, ◌∙◌, ⊎_elim}
use Rattle.std.specs.Prelude.{◌≢◌, ◌⊎◌}
use Rattle.index_lists.specs.Words.{put}
use Rattle.index_lists.proofs.Counts.{same_or_not}
use Rattle.index_lists.proofs.Puts.{put-same, put-other, put-each}
use Rattle.core_state.specs.Plain.{State}
use Rattle.core_state.specs.declared.actor.Actor.{Actor}
use Rattle.core_state.specs.declared.actor.Actor.TheVariants.{Lane, Worker, Flusher, Closer}
use Rattle.core_state.specs.State.{Page, Shape, Block, Places, LaneState, Inside, Queued, Flight, Errand, ToFill, ToFlush, ToMeta, Out, DieState}
use Rattle.core_state.specs.Frames.{AreQueued}
use Rattle.core_state.specs.Dies.{MayFlush, IsErrand, Dies, Gathered}
use Rattle.core_lemmas.proofs.Words.{nothing}

pub queued_lane : (queue : List ℕ) (lanes : ℕ → LaneState) (calls : ℕ → Option Flight) (lane : ℕ) (x : LaneState) → calls lane ≡ None → AreQueued queue lanes calls → AreQueued queue (put lanes lane x) calls
queued_lane queue lanes calls lane x none h = record {
  lists = h.lists;
  unmarked = λ l call e p. ap (λ (s : LaneState). s.mark) (put-other lanes lane x l (λ same. nothing (calls lane) call none (ap calls (sym same) ∙ e))) ∙ h.unmarked l call e p;
  empty = h.empty;
  one_each = h.one_each;
}

pub gathered_lane : (places : Places) (pages : ℕ → Page) (plain : State) (lanes : ℕ → LaneState) (calls : ℕ → Option Flight) (lane : ℕ) (x : LaneState) → calls lane ≡ None →
    Gathered places pages plain lanes calls → Gathered places pages plain (put lanes lane x) calls
gathered_lane places pages plain lanes calls lane x none h = record {
  pages_are = h.pages_are;
  results = λ l call e m. h.results l call e (ap (λ (s : LaneState). s.mark) (sym (put-other lanes lane x l (λ same. nothing (calls lane) call none (ap calls (sym same) ∙ e)))) ∙ m);
}

-- a lane that stays inside, or holds no die
pub may_flush_lane : (lanes : ℕ → LaneState) (calls : ℕ → Option Flight) (lane : ℕ) (x : LaneState) (holder : Actor) → (x.stage ≡ Inside) ⊎ (holder ≢ Lane lane) → MayFlush lanes calls holder → MayFlush (put lanes lane x) calls holder
may_flush_lane lanes calls lane x (Lane l) stays h = record {
  inside = ⊎_elim (λ (same : l ≡ lane). ⊎_elim (λ (i : x.stage ≡ Inside). ap (λ (s : LaneState). s.stage) (ap (put lanes lane x) same ∙ put-same lanes lane x) ∙ i) (λ n. absurd (n (ap Lane same))) stays)
      (λ (d : l ≢ lane). ap (λ (s : LaneState). s.stage) (put-other lanes lane x l d) ∙ h.inside) (same_or_not l lane);
  sync = h.sync;
}
may_flush_lane lanes calls lane x (Worker w) stays h = h
may_flush_lane lanes calls lane x (Flusher f) stays h = h
may_flush_lane lanes calls lane x Closer stays h = h

pub errand_lane : (shape : Shape) (places : Places) (blocks : ℕ → Block) (lanes : ℕ → LaneState) (calls : ℕ → Option Flight) (lane : ℕ) (x : LaneState) (die : ℕ) (holder : Actor) (errand : Errand) →
    (x.stage ≡ Inside) ⊎ (holder ≢ Lane lane) → IsErrand shape places blocks lanes calls die holder errand → IsErrand shape places blocks (put lanes lane x) calls die holder errand
errand_lane shape places blocks lanes calls lane x die holder (ToFill l i) stays h = h
errand_lane shape places blocks lanes calls lane x die holder (ToFlush b version page) stays h = (h.0, h.1, h.2, may_flush_lane lanes calls lane x holder stays h.3)
errand_lane shape places blocks lanes calls lane x die holder (ToMeta number bytes) stays h = h

pub dies_lane : (shape : Shape) (places : Places) (blocks : ℕ → Block) (lanes : ℕ → LaneState) (calls : ℕ → Option Flight) (dies : ℕ → DieState) (lane : ℕ) (x : LaneState) → calls lane ≡ None →
    ((die : ℕ) (out : Out) → (dies die).out ≡ Some out → (x.stage ≡ Inside) ⊎ (out.holder ≢ Lane lane)) → Dies shape places blocks lanes calls dies → Dies shape places blocks (put lanes lane x) calls dies
dies_lane shape places blocks lanes calls dies lane x none stays h = record {
  right = λ die out e. errand_lane shape places blocks lanes calls lane x die out.holder out.errand (stays die out e) (h.right die out e);
  one_each = h.one_each;
  in_turn = λ l call e.
      let k = h.in_turn l call e in
      (k.0, ap (λ (s : LaneState). s.stage) (put-other lanes lane x l (λ same. nothing (calls lane) call none (ap calls (sym same) ∙ e))) ∙ k.1);
}

-- ---- a lane is marked: it stays where it is, and its call isn't queued

pub queued_mark : (queue : List ℕ) (lanes : ℕ → LaneState) (calls : ℕ → Option Flight) (lane : ℕ) (x : LaneState) → ((call : Flight) → calls lane ≡ Some call → call.phase ≢ Queued) → AreQueued queue lanes calls → AreQueued queue (put lanes lane x) calls
queued_mark queue lanes calls lane x waits h = record {
  lists = h.lists;
  unmarked = λ l call e p. ap (λ (s : LaneState). s.mark) (put-other lanes lane x l (λ same. waits call (ap calls (sym same) ∙ e) p)) ∙ h.unmarked l call e p;
  empty = h.empty;
  one_each = h.one_each;
}

pub gathered_mark : (places : Places) (pages : ℕ → Page) (plain : State) (lanes : ℕ → LaneState) (calls : ℕ → Option Flight) (lane : ℕ) (x : LaneState) → (x.mark ≡ false → (lanes lane).mark ≡ false) →
    Gathered places pages plain lanes calls → Gathered places pages plain (put lanes lane x) calls
gathered_mark places pages plain lanes calls lane x less h = record {
  pages_are = h.pages_are;
  results = λ l call e m. h.results l call e (⊎_elim
      (λ (same : l ≡ lane). ap (λ (k : ℕ). (lanes k).mark) same ∙ less (ap (λ (s : LaneState). s.mark) (sym (ap (put lanes lane x) same ∙ put-same lanes lane x)) ∙ m))
      (λ (d : l ≢ lane). ap (λ (s : LaneState). s.mark) (sym (put-other lanes lane x l d)) ∙ m) (same_or_not l lane));
}

stage_kept : (lanes : ℕ → LaneState) (lane : ℕ) (x : LaneState) → x.stage ≡ (lanes lane).stage → (l : ℕ) → (put lanes lane x l).stage ≡ (lanes l).stage
stage_kept lanes lane x same = put-each (λ (l : ℕ) (s : LaneState). s.stage ≡ (lanes l).stage) lanes lane x same (λ l d. refl)

errand_mark : (shape : Shape) (places : Places) (blocks : ℕ → Block) (lanes : ℕ → LaneState) (calls : ℕ → Option Flight) (lane : ℕ) (x : LaneState) (die : ℕ) (holder : Actor) (errand : Errand) →
    x.stage ≡ (lanes lane).stage → IsErrand shape places blocks lanes calls die holder errand → IsErrand shape places blocks (put lanes lane x) calls die holder errand
errand_mark shape places blocks lanes calls lane x die holder (ToFill l i) same h = h
errand_mark shape places blocks lanes calls lane x die holder (ToFlush b version page) same h = (h.0, h.1, h.2, flushes holder h.3)
  where
    flushes : (a : Actor) → MayFlush lanes calls a → MayFlush (put lanes lane x) calls a
    flushes (Lane l) m = record { inside = stage_kept lanes lane x same l ∙ m.inside; sync = m.sync }
    flushes (Worker w) m = m
    flushes (Flusher f) m = m
    flushes Closer m = m
errand_mark shape places blocks lanes calls lane x die holder (ToMeta number bytes) same h = h

pub dies_mark : (shape : Shape) (places : Places) (blocks : ℕ → Block) (lanes : ℕ → LaneState) (calls : ℕ → Option Flight) (dies : ℕ → DieState) (lane : ℕ) (x : LaneState) → x.stage ≡ (lanes lane).stage →
    Dies shape places blocks lanes calls dies → Dies shape places blocks (put lanes lane x) calls dies
dies_mark shape places blocks lanes calls dies lane x same h = record {
  right = λ die out e. errand_mark shape places blocks lanes calls lane x die out.holder out.errand same (h.right die out e);
  one_each = h.one_each;
  in_turn = λ l call e. let k = h.in_turn l call e in (k.0, stage_kept lanes lane x same l ∙ k.1);
}
