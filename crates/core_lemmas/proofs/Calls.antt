-- What a change of one call in flight keeps, where its claim stays.
use Rattle.std.proofs.Common.{◌≡◌, ℕ, ◌+◌, ◌<◌, true, false, List, Option, Some, None, refl, sym, ap, ◌∙◌, subst, inl, inr, ⊎_elim, arith}
use Rattle.std.specs.Prelude.{◌≢◌, ◌⊎◌}
use mathlib.Core.Path.{fun_ext}
use Rattle.dispatcher.specs.declared.side.Side.{Side}
use Rattle.dispatcher.specs.declared.side.Side.TheVariants.{Host, Drive}
use Rattle.index_lists.specs.Words.{put, one_if}
use Rattle.index_lists.proofs.Counts.{same_or_not}
use Rattle.index_lists.proofs.Puts.{put-same, put-other, put-each, put-some}
use Rattle.core_state.specs.Plain.{State}
use Rattle.core_state.specs.declared.actor.Actor.{Actor}
use Rattle.core_state.specs.declared.actor.Actor.TheVariants.{Lane, Worker, Flusher, Closer}
use Rattle.core_state.specs.Words.{Lists}
use Rattle.core_state.specs.State.{Page, Shape, Loan, Block, Names, Places, LaneState, Inside, Claim, OnLoan, Phase, Held, Queued, Running, Reported, Flight, Errand, ToFill, ToFlush, ToMeta, Out, DieState}
use Rattle.core_state.specs.Contents.{page_of, span_block}
use Rattle.core_state.specs.Reach.{is_sync}
use Rattle.core_state.specs.InFlight.{claim_of, claims, IsLentTo, IsLoanOf, Lent, IsRight, InFlight}
use Rattle.core_state.specs.Frames.{frames_of, used, HasFrameFor, Frames, in_queue, is_queued, AreQueued}
use Rattle.core_state.specs.Dies.{owner, IsSyncing, MayFlush, MaySync, IsErrand, Dies, AreGathered, IsResult, Gathered}
use Rattle.core_state.specs.EndEvent.{IsAtEnd, is_reported}
use Rattle.core_lemmas.proofs.Words.{nothing, same_some, sum_to-put}

-- the claims stay
pub claims_put : (calls : ℕ → Option Flight) (lane : ℕ) (call call2 : Flight) → calls lane ≡ Some call → call2.claim ≡ call.claim → claims (put calls lane (Some call2)) ≡ claims calls
claims_put calls lane call call2 e same =
    fun_ext (put-each (λ (j : ℕ) (w : Option Flight). claim_of w ≡ claim_of (calls j)) calls lane (Some call2) (ap Some same ∙ sym (ap claim_of e)) (λ j n. refl))

-- what a lane's call is, after the change
pub is_put : (calls : ℕ → Option Flight) (lane : ℕ) (call2 : Flight) (l : ℕ) (x : Flight) → put calls lane (Some call2) l ≡ Some x → ((l ≡ lane) × (x ≡ call2)) ⊎ ((l ≢ lane) × (calls l ≡ Some x))
is_put calls lane call2 l x e = ⊎_elim (λ (same : l ≡ lane). inl (same, same_some (put calls lane (Some call2) l) x call2 e (ap (put calls lane (Some call2)) same ∙ put-same calls lane (Some call2)))) (λ (d : l ≢ lane). inr (d, sym (put-other calls lane (Some call2) l d) ∙ e)) (same_or_not l lane)

-- ---- loans

pub loans_call : (places : Places) (calls : ℕ → Option Flight) (blocks : ℕ → Block) (lane : ℕ) (call call2 : Flight) → calls lane ≡ Some call → call2.claim ≡ call.claim →
    ((i : ℕ) → i < call.claim.reach.pages → call.frame i ≡ OnLoan → (call2.frame i ≡ OnLoan) × (call2.gathered i ≡ call.gathered i)) →
    ((i : ℕ) → i < call.claim.reach.pages → call2.frame i ≡ OnLoan → IsLoanOf places blocks lane call.claim i) →
    Lent places calls blocks → Lent places (put calls lane (Some call2)) blocks
loans_call places calls blocks lane call call2 e same keeps new h = record {
  alone = h.alone;
  held = λ b loan l. held b loan (h.held b loan l);
  loans = put-some (λ (l : ℕ) (x : Flight). (i : ℕ) → i < x.claim.reach.pages → x.frame i ≡ OnLoan → IsLoanOf places blocks l x.claim i) calls lane call2
      (subst (λ (k : Claim). (i : ℕ) → i < k.reach.pages → call2.frame i ≡ OnLoan → IsLoanOf places blocks lane k i) (sym same) new) (λ l x d f. h.loans l x f);
}
  where
    held : (b : ℕ) (loan : Loan) → IsLentTo places calls b loan → IsLentTo places (put calls lane (Some call2)) b loan
    held b loan old = ⊎_elim at elsewhere (same_or_not loan.lane lane)
      where
        elsewhere : loan.lane ≢ lane → IsLentTo places (put calls lane (Some call2)) b loan
        elsewhere d = record { call = old.call; flies = put-other calls lane (Some call2) loan.lane d ∙ old.flies; mode = old.mode; i = old.i; within = old.within; block = old.block; gathered = old.gathered; frame = old.frame }

        at : loan.lane ≡ lane → IsLentTo places (put calls lane (Some call2)) b loan
        at d =
            let s : old.call ≡ call = same_some (calls lane) old.call call (ap calls (sym d) ∙ old.flies) e in
            let t : old.call.claim ≡ call2.claim = ap (λ (w : Flight). w.claim) s ∙ sym same in
            let k = keeps old.i (subst (λ (w : Flight). old.i < w.claim.reach.pages) s old.within) (ap (λ (w : Flight). w.frame old.i) (sym s) ∙ old.frame) in
            record {
              call = call2;
              flies = ap (put calls lane (Some call2)) d ∙ put-same calls lane (Some call2);
              mode = ap (λ (w : Claim). w.reach.mode) (sym t) ∙ old.mode;
              i = old.i;
              within = subst (λ (w : Claim). old.i < w.reach.pages) t old.within;
              block = ap (λ (w : Claim). span_block places w old.i) (sym t) ∙ old.block;
              gathered = k.1 ∙ (ap (λ (w : Flight). w.gathered old.i) (sym s) ∙ old.gathered);
              frame = k.0;
            }

-- ---- frames

-- the frames in use
pub used_call : (side : Side) (shape : Shape) (xs : List ℕ) (calls : ℕ → Option Flight) (lane : ℕ) (call call2 : Flight) → calls lane ≡ Some call → lane < shape.lanes →
    used side shape xs (put calls lane (Some call2)) + frames_of side (Some call) ≡ used side shape xs calls + frames_of side (Some call2)
used_call side shape xs calls lane call call2 e l =
    let a = sum_to-put (frames_of side) calls lane (Some call2) shape.lanes l in
    let k = ap (frames_of side) e in
    omega arith

-- what each call has for its pages
pub has_frames_call : (places : Places) (calls : ℕ → Option Flight) (blocks : ℕ → Block) (lane : ℕ) (call2 : Flight) →
    ((i : ℕ) → i < call2.claim.reach.pages → HasFrameFor call2.claim.reach.mode call2.claim.side blocks (span_block places call2.claim i) (call2.frame i)) →
    ((l : ℕ) (x : Flight) → calls l ≡ Some x → (i : ℕ) → i < x.claim.reach.pages → HasFrameFor x.claim.reach.mode x.claim.side blocks (span_block places x.claim i) (x.frame i)) →
    (l : ℕ) (x : Flight) → put calls lane (Some call2) l ≡ Some x → (i : ℕ) → i < x.claim.reach.pages → HasFrameFor x.claim.reach.mode x.claim.side blocks (span_block places x.claim i) (x.frame i)
has_frames_call places calls blocks lane call2 new h =
    put-some (λ (l : ℕ) (x : Flight). (i : ℕ) → i < x.claim.reach.pages → HasFrameFor x.claim.reach.mode x.claim.side blocks (span_block places x.claim i) (x.frame i)) calls lane call2 new (λ l x d f. h l x f)

-- ---- the phase alone

-- the call in another phase
abbrev pub phased : Flight → Phase → Flight
phased call phase = record call { phase = phase }

pub lent_phase : (places : Places) (calls : ℕ → Option Flight) (blocks : ℕ → Block) (lane : ℕ) (call : Flight) (phase : Phase) → calls lane ≡ Some call → Lent places calls blocks → Lent places (put calls lane (Some (phased call phase))) blocks
lent_phase places calls blocks lane call phase e h = loans_call places calls blocks lane call (phased call phase) e refl (λ i l f. (f, refl)) (λ i l f. h.loans lane call e i l f) h

pub frames_phase : (shape : Shape) (places : Places) (blocks : ℕ → Block) (hosts drives : List ℕ) (calls : ℕ → Option Flight) (lane : ℕ) (call : Flight) (phase : Phase) → calls lane ≡ Some call → lane < shape.lanes →
    Frames shape places blocks hosts drives calls → Frames shape places blocks hosts drives (put calls lane (Some (phased call phase)))
frames_phase shape places blocks hosts drives calls lane call phase e l h = record {
  host = let k = used_call Host shape hosts calls lane call (phased call phase) e l in let o = h.host in omega arith;
  drive = let k = used_call Drive shape drives calls lane call (phased call phase) e l in let o = h.drive in omega arith;
  each = has_frames_call places calls blocks lane (phased call phase) (h.each lane call e) h.each;
}

pub pages_phase : (places : Places) (pages : ℕ → Page) (calls : ℕ → Option Flight) (lane : ℕ) (call : Flight) (phase : Phase) → calls lane ≡ Some call → AreGathered places pages calls → AreGathered places pages (put calls lane (Some (phased call phase)))
pages_phase places pages calls lane call phase e h =
    put-some (λ (l : ℕ) (x : Flight). (i : ℕ) (p : Page) → i < x.claim.reach.pages → x.gathered i ≡ Some p → p ≡ page_of pages (span_block places x.claim i)) calls lane (phased call phase) (h lane call e) (λ l x d f. h l x f)

-- ---- dies, where a call changes that its holder owns, or whose owner holds no die

-- no die is out for the lane's call: the fills of others stay
pub errand_call : (shape : Shape) (places : Places) (blocks : ℕ → Block) (lanes : ℕ → LaneState) (calls : ℕ → Option Flight) (lane : ℕ) (call call2 : Flight) (die : ℕ) (holder : Actor) (errand : Errand) →
    calls lane ≡ Some call → call2.claim ≡ call.claim → (owner lane call.phase ≡ Some holder → ⊥) →
    IsErrand shape places blocks lanes calls die holder errand → IsErrand shape places blocks lanes (put calls lane (Some call2)) die holder errand
errand_call shape places blocks lanes calls lane call call2 die holder (ToFill l j) e same free h =
    record { call = h.call; flies = put-other calls lane (Some call2) l elsewhere ∙ h.flies; owns = h.owns; within = h.within; gathered = h.gathered; b = h.b; block = h.block; on_die = h.on_die; written = h.written; clean = h.clean; away = h.away }
  where
    elsewhere : l ≢ lane
    elsewhere n =
        let s : call ≡ h.call = same_some (calls lane) call h.call e (ap calls (sym n) ∙ h.flies) in
        free (ap (λ (w : Flight). owner lane w.phase) s ∙ (ap (λ (k : ℕ). owner k h.call.phase) (sym n) ∙ h.owns))
errand_call shape places blocks lanes calls lane call call2 die holder (ToFlush b version page) e same free h = (h.0, h.1, h.2, flushes holder h.3)
  where
    syncs : (l : ℕ) → IsSyncing (calls l) → IsSyncing (put calls lane (Some call2) l)
    syncs l s = ⊎_elim
        (λ (d : l ≡ lane).
        let t : s.flight ≡ call = same_some (calls lane) s.flight call (ap calls (sym d) ∙ s.flies) e in
        record { flight = call2; flies = ap (put calls lane (Some call2)) d ∙ put-same calls lane (Some call2); sync = ap (λ (k : Claim). is_sync k.request.call) (same ∙ sym (ap (λ (w : Flight). w.claim) t)) ∙ s.sync })
        (λ (d : l ≢ lane). record { flight = s.flight; flies = put-other calls lane (Some call2) l d ∙ s.flies; sync = s.sync }) (same_or_not l lane)

    some : (o : Option Flight) → ((o ≡ None) ⊎ (o ≢ None))
    some None = inl refl
    some (Some x) = inr (λ q. cc)

    flushes : (a : Actor) → MayFlush lanes calls a → MayFlush lanes (put calls lane (Some call2)) a
    flushes (Lane l) m = record {
      inside = m.inside;
      sync = λ q. ⊎_elim (λ (n : calls l ≡ None). ⊎_elim (λ (d : l ≡ lane). absurd (nothing (calls lane) call (ap calls (sym d) ∙ n) e)) (λ (d : l ≢ lane). absurd (q (put-other calls lane (Some call2) l d ∙ n))) (same_or_not l lane)) (λ (n : calls l ≢ None). syncs l (m.sync n)) (some (calls l));
    }
    flushes (Worker w) m = m
    flushes (Flusher f) m = m
    flushes Closer m = m
errand_call shape places blocks lanes calls lane call call2 die holder (ToMeta number bytes) e same free h = (h.0, h.1, metas holder h.2)
  where
    metas : (a : Actor) → MaySync calls a → MaySync (put calls lane (Some call2)) a
    metas (Lane l) s = ⊎_elim
        (λ (d : l ≡ lane).
        let t : s.flight ≡ call = same_some (calls lane) s.flight call (ap calls (sym d) ∙ s.flies) e in
        record { flight = call2; flies = ap (put calls lane (Some call2)) d ∙ put-same calls lane (Some call2); sync = ap (λ (k : Claim). is_sync k.request.call) (same ∙ sym (ap (λ (w : Flight). w.claim) t)) ∙ s.sync })
        (λ (d : l ≢ lane). record { flight = s.flight; flies = put-other calls lane (Some call2) l d ∙ s.flies; sync = s.sync }) (same_or_not l lane)
    metas (Worker w) m = m
    metas (Flusher f) m = m
    metas Closer m = m

pub dies_call : (shape : Shape) (places : Places) (blocks : ℕ → Block) (lanes : ℕ → LaneState) (calls : ℕ → Option Flight) (dies : ℕ → DieState) (lane : ℕ) (call call2 : Flight) → calls lane ≡ Some call → call2.claim ≡ call.claim →
    ((die : ℕ) (out : Out) → (dies die).out ≡ Some out → owner lane call.phase ≡ Some out.holder → ⊥) → Dies shape places blocks lanes calls dies → Dies shape places blocks lanes (put calls lane (Some call2)) dies
dies_call shape places blocks lanes calls dies lane call call2 e same free h = record {
  right = λ die out o. errand_call shape places blocks lanes calls lane call call2 die out.holder out.errand e same (free die out o) (h.right die out o);
  one_each = h.one_each;
  in_turn = put-some (λ (l : ℕ) (x : Flight). (l < shape.lanes) × ((lanes l).stage ≡ Inside)) calls lane call2 (h.in_turn lane call e) (λ l x d f. h.in_turn l x f);
}

-- ---- the other conditions

pub in_flight_call : (names : Names) (plain : State) (calls : ℕ → Option Flight) (lane : ℕ) (call call2 : Flight) → calls lane ≡ Some call → call2.claim ≡ call.claim → (call2.claim.side ≡ Host → call2.phase ≡ Held) →
    InFlight names plain calls → InFlight names plain (put calls lane (Some call2))
in_flight_call names plain calls lane call call2 e same held h = record {
  right = subst (λ (held : ℕ → Option Claim). (l : ℕ) (a : Claim) → held l ≡ Some a → IsRight names plain a) (sym (claims_put calls lane call call2 e same)) h.right;
  host = put-some (λ (l : ℕ) (x : Flight). x.claim.side ≡ Host → x.phase ≡ Held) calls lane call2 held (λ l x d f. h.host l x f);
}

pub gathered_call : (places : Places) (pages : ℕ → Page) (plain : State) (lanes : ℕ → LaneState) (calls : ℕ → Option Flight) (lane : ℕ) (call2 : Flight) →
    ((i : ℕ) (p : Page) → i < call2.claim.reach.pages → call2.gathered i ≡ Some p → p ≡ page_of pages (span_block places call2.claim i)) →
    ((lanes lane).mark ≡ false → IsResult plain call2.claim.request.call call2.phase) →
    Gathered places pages plain lanes calls → Gathered places pages plain lanes (put calls lane (Some call2))
gathered_call places pages plain lanes calls lane call2 new result h = record {
  pages_are = put-some (λ (l : ℕ) (x : Flight). (i : ℕ) (p : Page) → i < x.claim.reach.pages → x.gathered i ≡ Some p → p ≡ page_of pages (span_block places x.claim i)) calls lane call2 new (λ l x d f. h.pages_are l x f);
  results = put-some (λ (l : ℕ) (x : Flight). (lanes l).mark ≡ false → IsResult plain x.claim.request.call x.phase) calls lane call2 result (λ l x d f. h.results l x f);
}

-- the queue, where a call changes
pub queued_call : (queue queue2 : List ℕ) (lanes : ℕ → LaneState) (calls : ℕ → Option Flight) (lane : ℕ) (call2 : Flight) →
    Lists queue2 (λ l. is_queued (put calls lane (Some call2) l)) →
    (call2.phase ≡ Queued → (lanes lane).mark ≡ false) →
    (call2.phase ≡ Queued → (i : ℕ) → i < call2.claim.reach.pages → call2.gathered i ≡ None) →
    ((w : ℕ) → call2.phase ≡ Running w → (l : ℕ) (x : Flight) → l ≢ lane → calls l ≡ Some x → x.phase ≡ Running w → ⊥) →
    AreQueued queue lanes calls → AreQueued queue2 lanes (put calls lane (Some call2))
queued_call queue queue2 lanes calls lane call2 lists unmarked empty alone h = record {
  lists = lists;
  unmarked = put-some (λ (l : ℕ) (x : Flight). x.phase ≡ Queued → (lanes l).mark ≡ false) calls lane call2 unmarked (λ l x d f. h.unmarked l x f);
  empty = put-some (λ (l : ℕ) (x : Flight). x.phase ≡ Queued → (i : ℕ) → i < x.claim.reach.pages → x.gathered i ≡ None) calls lane call2 empty (λ l x d f. h.empty l x f);
  one_each = λ l m w a b e f p q. ⊎_elim
      (λ u. ⊎_elim (λ v. u.0 ∙ sym v.0) (λ v. absurd (alone w (ap (λ (x : Flight). x.phase) (sym u.1) ∙ p) m b (v.0) v.1 q)) (is_put calls lane call2 m b f))
      (λ u. ⊎_elim (λ v. absurd (alone w (ap (λ (x : Flight). x.phase) (sym v.1) ∙ q) l a (u.0) u.1 p)) (λ v. h.one_each l m w a b u.1 v.1 p q) (is_put calls lane call2 m b f))
      (is_put calls lane call2 l a e);
}

-- whether a lane's call is queued, after a change
pub is_queued_put : (calls : ℕ → Option Flight) (lane : ℕ) (call2 : Flight) (l : ℕ) → l ≢ lane → is_queued (put calls lane (Some call2) l) ≡ is_queued (calls l)
is_queued_put calls lane call2 l d = ap is_queued (put-other calls lane (Some call2) l d)

pub is_queued_here : (calls : ℕ → Option Flight) (lane : ℕ) (call2 : Flight) → is_queued (put calls lane (Some call2) lane) ≡ in_queue call2.phase
is_queued_here calls lane call2 = ap is_queued (put-same calls lane (Some call2))

-- the queue, where a call that isn't queued stays in its phase
pub queued_same : (queue : List ℕ) (lanes : ℕ → LaneState) (calls : ℕ → Option Flight) (lane : ℕ) (call call2 : Flight) → calls lane ≡ Some call → call2.phase ≡ call.phase → call.phase ≢ Queued →
    AreQueued queue lanes calls → AreQueued queue lanes (put calls lane (Some call2))
queued_same queue lanes calls lane call call2 e same waits h =
    queued_call queue queue lanes calls lane call2
    (λ j. h.lists j ∙ ap one_if (sym (⊎_elim
    (λ (s : j ≡ lane). ap (λ (k : ℕ). is_queued (put calls lane (Some call2) k)) s ∙ (is_queued_here calls lane call2 ∙ (ap in_queue same ∙ (sym (ap is_queued e) ∙ ap (λ (k : ℕ). is_queued (calls k)) (sym s)))))
    (λ (d : j ≢ lane). is_queued_put calls lane call2 j d) (same_or_not j lane))))
    (λ q. absurd (waits (sym same ∙ q))) (λ q. absurd (waits (sym same ∙ q)))
    (λ w q l x d f p. d (h.one_each l lane w x call f e p (sym same ∙ q))) h

-- ---- a call that ends

-- the calls without that of the lane
abbrev pub without_call : (ℕ → Option Flight) → ℕ → ℕ → Option Flight
without_call calls lane = put calls lane None

-- a call that is still there is another lane's, and was there
pub still_there : (calls : ℕ → Option Flight) (lane l : ℕ) (x : Flight) → without_call calls lane l ≡ Some x → (l ≢ lane) × (calls l ≡ Some x)
still_there calls lane l x e = ⊎_elim
    (λ (s : l ≡ lane). absurd (nothing (without_call calls lane l) x (ap (without_call calls lane) s ∙ put-same calls lane None) e))
    (λ (d : l ≢ lane). (d, sym (put-other calls lane None l d) ∙ e)) (same_or_not l lane)

pub other_there : (calls : ℕ → Option Flight) (lane l : ℕ) (x : Flight) → l ≢ lane → calls l ≡ Some x → without_call calls lane l ≡ Some x
other_there calls lane l x d e = put-other calls lane None l d ∙ e

-- a call at its end is its lane's
pub end_owned : (lane : ℕ) (call : Flight) → IsAtEnd call → owner lane call.phase ≡ Some (Lane lane)
end_owned lane call at = ⊎_elim (λ a. ap (owner lane) a.0) (λ r. go call.phase r) at
  where
    go : (phase : Phase) → is_reported phase ≡ true → owner lane phase ≡ Some (Lane lane)
    go Held r = absurd (cc)
    go Queued r = absurd (cc)
    go (Running w) r = absurd (cc)
    go (Reported result) r = refl
