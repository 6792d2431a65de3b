-- What a change of one block keeps.
use Rattle.std.proofs.Common.{◌≡◌, ℕ, ◌<◌, ◌≤◌, true, Option, Some, None, refl, sym, ap, ◌∙◌, subst, ⊎_elim}
use Rattle.std.specs.Prelude.{◌≢◌}
use mathlib.Core.Path.{fun_ext}
use Rattle.index_lists.specs.Words.{put}
use Rattle.index_lists.proofs.Counts.{same_or_not}
use Rattle.index_lists.proofs.Puts.{put-other, put-each}
use Rattle.core_state.specs.declared.actor.Actor.{Actor}
use Rattle.core_state.specs.State.{Page, Shape, Loan, Block, Names, Places, LaneState, Claim, Flight, Errand, ToFill, ToFlush, ToMeta, DieState}
use Rattle.core_state.specs.Contents.{InNeitherCache, IsAway, IsBlank, content, contents, span_block, die_of}
use Rattle.core_state.specs.Sound.{IsKept}
use Rattle.core_state.specs.Placed.{IsFree, Placed}
use Rattle.core_state.specs.InFlight.{IsLentTo, IsLoanOf, Lent}
use Rattle.core_state.specs.Frames.{HasFrame, HasFrameFor}
use Rattle.core_state.specs.Dies.{IsFill, IsFlush, IsErrand, Dies}

-- all but copies and loan is as before
pub record KeepsRest (x y : Block) : Type 0 where
  pub content : content y ≡ content x
  pub flash : y.flash ≡ x.flash
  pub clean : y.clean ≡ x.clean
  pub written : y.written ≡ x.written
  pub version : y.version ≡ x.version

-- what holds of each block still does, where it holds of the new one
pub each_block : (P : ℕ → Block → Type 0) (blocks : ℕ → Block) (b : ℕ) (y : Block) → P b y → ((j : ℕ) → P j (blocks j)) → (j : ℕ) → P j (put blocks b y j)
each_block P blocks b y here h = put-each P blocks b y here (λ j n. h j)

pub contents_put : (blocks : ℕ → Block) (b : ℕ) (y : Block) → content y ≡ content (blocks b) → contents (put blocks b y) ≡ contents blocks
contents_put blocks b y same = fun_ext (each_block (λ (j : ℕ) (w : Block). content w ≡ content (blocks j)) blocks b y same (λ j. refl))

pub kept_rest : (x y : Block) → KeepsRest x y → IsKept x → IsKept y
kept_rest x y k h = record {
  written = λ c w. k.flash ∙ (h.written (sym k.clean ∙ c) (sym k.written ∙ w) ∙ sym k.content);
  unwritten = λ c w. k.content ∙ h.unwritten (sym k.clean ∙ c) (sym k.written ∙ w);
}

pub flush_rest : (x y : Block) (v : ℕ) (p : Page) → KeepsRest x y → IsFlush x v p → IsFlush y v p
flush_rest x y v p k h = record {
  whole = h.whole;
  older = subst (λ (n : ℕ). v ≤ n) (sym k.version) h.older;
  same = λ e. let s = h.same (e ∙ k.version) in (k.clean ∙ s.0, s.1 ∙ sym k.content);
  newer = λ n c. k.written ∙ h.newer (λ e. n (e ∙ sym k.version)) (sym k.clean ∙ c);
}

pub placed_put : (shape : Shape) (names : Names) (places : Places) (blocks : ℕ → Block) (b : ℕ) (y : Block) → (IsFree places b → IsBlank y) → Placed shape names places blocks → Placed shape names places (put blocks b y)
placed_put shape names places blocks b y free h = record {
  drive = h.drive;
  have = h.have;
  free = each_block (λ (j : ℕ) (w : Block). IsFree places j → IsBlank w) blocks b y free h.free;
  named = h.named;
}

-- a block with a place isn't free
pub placed_not_free : (places : Places) (id p b : ℕ) → places id p ≡ Some b → IsFree places b → ⊥
placed_not_free places id p b at free = free id p at

-- ---- loans, where the block's own stays

pub lent_put : (places : Places) (calls : ℕ → Option Flight) (blocks : ℕ → Block) (b : ℕ) (y : Block) → y.lent ≡ (blocks b).lent → ((loan : Loan) → y.lent ≡ Some loan → InNeitherCache y) → Lent places calls blocks → Lent places calls (put blocks b y)
lent_put places calls blocks b y same alone h = record {
  alone = each_block (λ (j : ℕ) (w : Block). (loan : Loan) → w.lent ≡ Some loan → InNeitherCache w) blocks b y alone h.alone;
  held = each_block (λ (j : ℕ) (w : Block). (loan : Loan) → w.lent ≡ Some loan → IsLentTo places calls j loan) blocks b y (λ loan e. h.held b loan (sym same ∙ e)) h.held;
  loans = λ lane call e i l f. loan (h.loans lane call e i l f);
}
  where
    kept : (j : ℕ) → (put blocks b y j).lent ≡ (blocks j).lent
    kept = each_block (λ (j : ℕ) (w : Block). w.lent ≡ (blocks j).lent) blocks b y same (λ j. refl)

    loan : {lane i : ℕ} {claim : Claim} → IsLoanOf places blocks lane claim i → IsLoanOf places (put blocks b y) lane claim i
    loan o = record { b = o.b; loan = o.loan; block = o.block; lent = kept o.b ∙ o.lent; lane_is = o.lane_is }

-- ---- frames, asked of the calls that have the block in their span

pub has_frames_put : (places : Places) (calls : ℕ → Option Flight) (blocks : ℕ → Block) (b : ℕ) (y : Block) →
    ((l : ℕ) (x : Flight) → calls l ≡ Some x → (i : ℕ) → i < x.claim.reach.pages → span_block places x.claim i ≡ Some b →
    HasFrameFor x.claim.reach.mode x.claim.side blocks (Some b) (x.frame i) → HasFrameFor x.claim.reach.mode x.claim.side (put blocks b y) (Some b) (x.frame i)) →
    ((l : ℕ) (x : Flight) → calls l ≡ Some x → (i : ℕ) → i < x.claim.reach.pages → HasFrameFor x.claim.reach.mode x.claim.side blocks (span_block places x.claim i) (x.frame i)) →
    (l : ℕ) (x : Flight) → calls l ≡ Some x → (i : ℕ) → i < x.claim.reach.pages → HasFrameFor x.claim.reach.mode x.claim.side (put blocks b y) (span_block places x.claim i) (x.frame i)
has_frames_put places calls blocks b y new h l x e i k = go (span_block places x.claim i) refl (h l x e i k)
  where
    go : (at : Option ℕ) → span_block places x.claim i ≡ at → HasFrameFor x.claim.reach.mode x.claim.side blocks at (x.frame i) → HasFrameFor x.claim.reach.mode x.claim.side (put blocks b y) at (x.frame i)
    go None at f = f
    go (Some j) at f = ⊎_elim
        (λ (s : j ≡ b). subst (λ (k : ℕ). HasFrameFor x.claim.reach.mode x.claim.side (put blocks b y) (Some k) (x.frame i)) (sym s)
        (new l x e i k (at ∙ ap Some s) (subst (λ (k : ℕ). HasFrameFor x.claim.reach.mode x.claim.side blocks (Some k) (x.frame i)) s f)))
        (λ (d : j ≢ b). subst (λ (w : Block). HasFrame x.claim.reach.mode x.claim.side w (x.frame i)) (sym (put-other blocks b y j d)) f)
        (same_or_not j b)

-- ---- dies

pub errand_blocks : (shape : Shape) (places : Places) (blocks blocks2 : ℕ → Block) (lanes : ℕ → LaneState) (calls : ℕ → Option Flight) (die : ℕ) (holder : Actor) (errand : Errand) →
    ((lane i : ℕ) → IsFill shape places blocks calls die holder lane i → IsFill shape places blocks2 calls die holder lane i) →
    ((b v : ℕ) (p : Page) → die_of shape b ≡ die → IsFlush (blocks b) v p → IsFlush (blocks2 b) v p) →
    IsErrand shape places blocks lanes calls die holder errand → IsErrand shape places blocks2 lanes calls die holder errand
errand_blocks shape places blocks blocks2 lanes calls die holder (ToFill lane i) fills flushes h = fills lane i h
errand_blocks shape places blocks blocks2 lanes calls die holder (ToFlush b v p) fills flushes h = (h.0, h.1, flushes b v p h.1 h.2, h.3)
errand_blocks shape places blocks blocks2 lanes calls die holder (ToMeta number bytes) fills flushes h = h

-- a fill stays where its block does
pub fill_stays : (shape : Shape) (places : Places) (blocks blocks2 : ℕ → Block) (calls : ℕ → Option Flight) (die : ℕ) (holder : Actor) (lane i : ℕ) → (f : IsFill shape places blocks calls die holder lane i) → blocks2 f.b ≡ blocks f.b → IsFill shape places blocks2 calls die holder lane i
fill_stays shape places blocks blocks2 calls die holder lane i f same = record {
  call = f.call;
  flies = f.flies;
  owns = f.owns;
  within = f.within;
  gathered = f.gathered;
  b = f.b;
  block = f.block;
  on_die = f.on_die;
  written = ap (λ (w : Block). w.written) same ∙ f.written;
  clean = ap (λ (w : Block). w.clean) same ∙ f.clean;
  away = subst IsAway (sym same) f.away;
}

-- a block that no die is out to fill keeps what it is but copies and loan
pub dies_put : (shape : Shape) (places : Places) (blocks : ℕ → Block) (lanes : ℕ → LaneState) (calls : ℕ → Option Flight) (dies : ℕ → DieState) (b : ℕ) (y : Block) → KeepsRest (blocks b) y → (IsAway (blocks b) → (blocks b).written ≡ true → ⊥) →
    Dies shape places blocks lanes calls dies → Dies shape places (put blocks b y) lanes calls dies
dies_put shape places blocks lanes calls dies b y keeps unfilled h = record {
  right = λ die out e. errand_blocks shape places blocks (put blocks b y) lanes calls die out.holder out.errand
      (λ lane i f. fill_stays shape places blocks (put blocks b y) calls die out.holder lane i f (put-other blocks b y f.b (λ s. unfilled (subst (λ (k : ℕ). IsAway (blocks k)) s f.away) (ap (λ (k : ℕ). (blocks k).written) (sym s) ∙ f.written))))
      (λ j v p on f. each_block (λ (j : ℕ) (w : Block). IsFlush (blocks j) v p → IsFlush w v p) blocks b y (flush_rest (blocks b) y v p keeps) (λ j g. g) j f) (h.right die out e);
  one_each = h.one_each;
  in_turn = h.in_turn;
}
