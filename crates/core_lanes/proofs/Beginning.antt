-- Begin.
use Rattle.std.proofs.Common.{◌≡◌, ℕ, ◌<◌, Bool, true, false, Option, Some, None, refl, sym, ap, ◌∙◌, subst, inl, inr, ⊎_elim}
use Rattle.std.specs.Prelude.{◌≢◌, ◌⊎◌, ◌||◌, nat_lt, if◌then◌else◌, is_some}
use Rattle.dispatcher.specs.declared.side.Side.{Side}
use Rattle.dispatcher.specs.declared.side.Side.TheVariants.{Host, Drive}
use Rattle.index_lists.specs.Words.{put}
use Rattle.index_lists.proofs.Counts.{same_or_not}
use Rattle.index_lists.proofs.Puts.{put-same, put-other, put-some}
use Rattle.core_lemmas.specs.Request.{Request}
use Rattle.core_lemmas.specs.Actor.{Actor}
use Rattle.core_lemmas.specs.Actor.TheVariants.{Lane, Worker, Flusher, Closer}
use Rattle.core_lemmas.specs.State.{Shape, Block, Places, LaneState, Inside, Mode, Shared, Exclusive, Claim, NoFrame, Reserved, OnLoan, Held, Flight, Errand, ToFill, ToFlush, ToMeta, Out, DieState, Core}
use Rattle.core_lemmas.specs.Contents.{contents, span_block, copy_at, is_blank}
use Rattle.core_lemmas.specs.Reach.{by_mode, is_lambda, claim_for}
use Rattle.core_lemmas.specs.PlainOf.{plain}
use Rattle.core_lemmas.specs.Sides.{frame_for}
use Rattle.core_lemmas.specs.InFlight.{claim_of, claims, IsLoanOf, Lent, IsRight}
use Rattle.core_lemmas.specs.Frames.{is_queued}
use Rattle.core_lemmas.specs.Dies.{MayFlush, MaySync, IsErrand, Dies}
use Rattle.core_lemmas.specs.Coherent.{Coherent}
use Rattle.core_lemmas.specs.LaneEvents.{first_frame, first_flight, begun, MayBegin}
use Rattle.core_lemmas.specs.Happens.{HoldsNone}
use Rattle.core_lemmas.proofs.Words.{nothing, same_some, lists_same}
use Rattle.core_lemmas.proofs.Calls.{is_queued_put, is_queued_here, gathered_call, queued_call}

-- ---- a new call of a lane that has none

-- the calls that there were are there
still : (calls : ℕ → Option Flight) (lane : ℕ) (new : Flight) → calls lane ≡ None → (l : ℕ) (x : Flight) → calls l ≡ Some x → put calls lane (Some new) l ≡ Some x
still calls lane new none l x e = put-other calls lane (Some new) l (λ same. nothing (calls lane) x none (ap calls (sym same) ∙ e)) ∙ e

lent_new : (places : Places) (calls : ℕ → Option Flight) (blocks : ℕ → Block) (lane : ℕ) (new : Flight) → calls lane ≡ None → ((i : ℕ) → new.frame i ≢ OnLoan) → Lent places calls blocks → Lent places (put calls lane (Some new)) blocks
lent_new places calls blocks lane new none unlent h = record {
  alone = h.alone;
  held = λ b loan l.
      let o = h.held b loan l in
      record { call = o.call; flies = still calls lane new none loan.lane o.call o.flies; mode = o.mode; i = o.i; within = o.within; block = o.block; gathered = o.gathered; frame = o.frame };
  loans = put-some (λ (l : ℕ) (x : Flight). (i : ℕ) → i < x.claim.reach.pages → x.frame i ≡ OnLoan → IsLoanOf places blocks l x.claim i) calls lane new (λ i l f. absurd (unlent i f)) (λ l x d f. h.loans l x f);
}

claim_new : (calls : ℕ → Option Flight) (lane : ℕ) (new : Flight) (l : ℕ) (a : Claim) → claims (put calls lane (Some new)) l ≡ Some a → ((l ≡ lane) × (a ≡ new.claim)) ⊎ (claims calls l ≡ Some a)
claim_new calls lane new l a e = ⊎_elim
    (λ (same : l ≡ lane). inl (same, sym (same_some (Some new.claim) new.claim a refl (sym (ap claim_of (ap (put calls lane (Some new)) same ∙ put-same calls lane (Some new))) ∙ e))))
    (λ (d : l ≢ lane). inr (sym (ap claim_of (put-other calls lane (Some new) l d)) ∙ e)) (same_or_not l lane)

errand_new : (shape : Shape) (places : Places) (blocks : ℕ → Block) (lanes : ℕ → LaneState) (calls : ℕ → Option Flight) (lane : ℕ) (new : Flight) (die : ℕ) (holder : Actor) (errand : Errand) → calls lane ≡ None → holder ≢ Lane lane →
    IsErrand shape places blocks lanes calls die holder errand → IsErrand shape places blocks lanes (put calls lane (Some new)) die holder errand
errand_new shape places blocks lanes calls lane new die holder (ToFill l i) none free h =
    record { call = h.call; flies = still calls lane new none l h.call h.flies; owns = h.owns; within = h.within; gathered = h.gathered; b = h.b; block = h.block; on_die = h.on_die; written = h.written; clean = h.clean; away = h.away }
errand_new shape places blocks lanes calls lane new die holder (ToFlush b version page) none free h = (h.0, h.1, h.2, flushes holder free h.3)
  where
    flushes : (a : Actor) → a ≢ Lane lane → MayFlush lanes calls a → MayFlush lanes (put calls lane (Some new)) a
    flushes (Lane l) other m =
        let d : l ≢ lane = λ same. other (ap Lane same) in
        record { inside = m.inside; sync = λ q. let s = m.sync (λ n. q (put-other calls lane (Some new) l d ∙ n)) in record { flight = s.flight; flies = put-other calls lane (Some new) l d ∙ s.flies; sync = s.sync } }
    flushes (Worker w) other m = m
    flushes (Flusher f) other m = m
    flushes Closer other m = m
errand_new shape places blocks lanes calls lane new die holder (ToMeta number bytes) none free h = (h.0, h.1, metas holder h.2)
  where
    metas : (a : Actor) → MaySync calls a → MaySync (put calls lane (Some new)) a
    metas (Lane l) s = record { flight = s.flight; flies = still calls lane new none l s.flight s.flies; sync = s.sync }
    metas (Worker w) m = m
    metas (Flusher f) m = m
    metas Closer m = m

dies_new : (shape : Shape) (places : Places) (blocks : ℕ → Block) (lanes : ℕ → LaneState) (calls : ℕ → Option Flight) (dies : ℕ → DieState) (lane : ℕ) (new : Flight) → calls lane ≡ None → lane < shape.lanes → (lanes lane).stage ≡ Inside →
    ((die : ℕ) (out : Out) → (dies die).out ≡ Some out → out.holder ≢ Lane lane) → Dies shape places blocks lanes calls dies → Dies shape places blocks lanes (put calls lane (Some new)) dies
dies_new shape places blocks lanes calls dies lane new none within inside free h = record {
  right = λ die out o. errand_new shape places blocks lanes calls lane new die out.holder out.errand none (free die out o) (h.right die out o);
  one_each = h.one_each;
  in_turn = put-some (λ (l : ℕ) (x : Flight). (l < shape.lanes) × ((lanes l).stage ≡ Inside)) calls lane new (within, inside) (λ l x d f. h.in_turn l x f);
}

-- ---- what Begin gives the call

frame_unlent : (mode : Mode) (side : Side) (blocks : ℕ → Block) (at : Option ℕ) → frame_for mode side blocks at ≢ OnLoan
frame_unlent Shared side blocks None e = cc
frame_unlent Exclusive side blocks None e = cc
frame_unlent mode side blocks (Some b) e = go (is_some (copy_at side (blocks b)) || by_mode mode (is_blank (blocks b)) false) e
  where
    go : (t : Bool) → (if t then NoFrame else Reserved) ≡ OnLoan → ⊥
    go true e = cc
    go false e = cc

first_unlent : (blocks : ℕ → Block) (places : Places) (claim : Claim) (i : ℕ) → first_frame blocks places claim i ≢ OnLoan
first_unlent blocks places claim i e = go (nat_lt i claim.reach.pages) e
  where
    go : (t : Bool) → (if t then frame_for claim.reach.mode claim.side blocks (span_block places claim i) else NoFrame) ≡ OnLoan → ⊥
    go true f = frame_unlent claim.reach.mode claim.side blocks (span_block places claim i) f
    go false f = cc

drive_lambda : (t : Bool) (x : Side) → (if t then x else Host) ≡ Drive → t ≡ true
drive_lambda true x e = refl
drive_lambda false x e = absurd (cc)

pub begin_keeps : (c : Core) (lane : ℕ) (request : Request) (side : Side) → Coherent c → HoldsNone c (Lane lane) → MayBegin c lane request side → Coherent (begun c lane request side)
begin_keeps c lane request side h free may =
    let claim = claim_for c.names.files request side in
    let new = first_flight c.blocks c.places claim in
    let none = may.ready.idle.idle in
    record {
      placed = h.placed;
      copies = h.copies;
      clean = h.clean;
      unclean = h.unclean;
      lent = lent_new c.places c.calls c.blocks lane new none (first_unlent c.blocks c.places claim) h.lent;
      locked = may.locked;
      in_flight = record {
        right = λ l a e. ⊎_elim
            (λ u. subst (λ (k : Claim). IsRight c.names (plain c) k) (sym u.1) (record {
              kind = may.kind;
              same = refl;
              not_early = may.not_early;
              drive = λ s. drive_lambda (is_lambda request.call) _ (sym may.side_is ∙ s);
            }))
            (λ u. h.in_flight.right l a u) (claim_new c.calls lane new l a e);
        host = put-some (λ (l : ℕ) (x : Flight). x.claim.side ≡ Host → x.phase ≡ Held) c.calls lane new (λ s. refl) (λ l x d f. h.in_flight.host l x f);
      };
      tails = h.tails;
      frames = may.frames;
      orders = record {
        ordered = h.orders.ordered;
        queued = queued_call c.queue c.queue c.lanes c.calls lane new
            (lists_same c.queue (λ l. is_queued (c.calls l)) (λ l. is_queued (put c.calls lane (Some new) l))
            (λ j. ⊎_elim (λ (s : j ≡ lane). ap (λ (k : ℕ). is_queued (put c.calls lane (Some new) k)) s ∙ (is_queued_here c.calls lane new ∙ (sym (ap is_queued none) ∙ ap (λ (k : ℕ). is_queued (c.calls k)) (sym s))))
            (λ (d : j ≢ lane). is_queued_put c.calls lane new j d) (same_or_not j lane)) h.orders.queued.lists)
            (λ s. absurd (cc)) (λ s. absurd (cc)) (λ w s. absurd (cc)) h.orders.queued;
      };
      dies = dies_new c.shape c.places c.blocks c.lanes c.calls c.dies lane new none may.ready.idle.within may.ready.idle.inside free h.dies;
      gathered = gathered_call c.places (contents c.blocks) (plain c) c.lanes c.calls lane new (λ i p l e. absurd (cc)) (λ m. tt) h.gathered;
    }
