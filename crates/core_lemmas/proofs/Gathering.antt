-- What a page that a call gathers keeps: the call and the page's block change together.
use Rattle.std.proofs.Common.{◌≡◌, ℕ, ◌+◌, ◌<◌, Bool, true, false, List, Option, Some, None, refl, sym, ap, ◌∙◌, subst, arith}
use Rattle.std.specs.Prelude.{◌≢◌, if◌then◌else◌}
use Rattle.dispatcher.specs.declared.side.Side.{Side}
use Rattle.index_lists.specs.Words.{put}
use Rattle.index_lists.proofs.Puts.{put-other, put-some}
use Rattle.core_state.specs.State.{Page, Shape, Block, Places, LaneState, Frame, Flight, DieState}
use Rattle.core_state.specs.Contents.{page_of, span_block, die_of}
use Rattle.core_state.specs.Frames.{weight, is_side, frames_of, used, HasFrameFor}
use Rattle.core_state.specs.Dies.{IsFlush, Dies}
use Rattle.core_lemmas.proofs.Words.{nothing, sum_to-put}
use Rattle.core_lemmas.proofs.Calls.{used_call}
use Rattle.core_lemmas.proofs.Blocks.{errand_blocks, fill_stays}

-- the call with these pages, and this frame at a place
abbrev pub framed : Flight → (ℕ → Option Page) → ℕ → Frame → Flight
framed call pages i frame = record call { gathered = pages; frame = put call.frame i frame }

-- the weight at a side
abbrev pub weight_at : Side → Flight → Frame → ℕ
weight_at side call frame = if is_side side call.claim.side then weight frame else 0

frames_change : (side : Side) (call : Flight) (pages : ℕ → Option Page) (i : ℕ) (frame : Frame) → i < call.claim.reach.pages → (t : Bool) → is_side side call.claim.side ≡ t →
    frames_of side (Some (framed call pages i frame)) + (if t then weight (call.frame i) else 0) ≡ frames_of side (Some call) + (if t then weight frame else 0)
frames_change side call pages i frame within true e = rw e (sum_to-put weight call.frame i frame call.claim.reach.pages within)
frames_change side call pages i frame within false e = rw e refl

-- the frames in use
pub used_framed : (side : Side) (shape : Shape) (xs : List ℕ) (calls : ℕ → Option Flight) (lane : ℕ) (call : Flight) (pages : ℕ → Option Page) (i : ℕ) (frame : Frame) → calls lane ≡ Some call → lane < shape.lanes → i < call.claim.reach.pages →
    used side shape xs (put calls lane (Some (framed call pages i frame))) + weight_at side call (call.frame i) ≡ used side shape xs calls + weight_at side call frame
used_framed side shape xs calls lane call pages i frame e l within =
    let k = used_call side shape xs calls lane call (framed call pages i frame) e l in
    let f = frames_change side call pages i frame within (is_side side call.claim.side) refl in
    omega arith

-- what each call has for its pages, where one call and blocks change
pub has_frames_both : (places : Places) (calls : ℕ → Option Flight) (blocks2 : ℕ → Block) (lane : ℕ) (call2 : Flight) →
    ((i : ℕ) → i < call2.claim.reach.pages → HasFrameFor call2.claim.reach.mode call2.claim.side blocks2 (span_block places call2.claim i) (call2.frame i)) →
    ((l : ℕ) (x : Flight) → l ≢ lane → calls l ≡ Some x → (i : ℕ) → i < x.claim.reach.pages → HasFrameFor x.claim.reach.mode x.claim.side blocks2 (span_block places x.claim i) (x.frame i)) →
    (l : ℕ) (x : Flight) → put calls lane (Some call2) l ≡ Some x → (i : ℕ) → i < x.claim.reach.pages → HasFrameFor x.claim.reach.mode x.claim.side blocks2 (span_block places x.claim i) (x.frame i)
has_frames_both places calls blocks2 lane call2 own others =
    put-some (λ (l : ℕ) (x : Flight). (i : ℕ) → i < x.claim.reach.pages → HasFrameFor x.claim.reach.mode x.claim.side blocks2 (span_block places x.claim i) (x.frame i)) calls lane call2 own others

-- the gathered pages, with one more
pub pages_more : (row : ℕ → Option ℕ) (contents : ℕ → Page) (gathered : ℕ → Option Page) (n i : ℕ) (page : Page) → page ≡ page_of contents (row i) →
    ((j : ℕ) (p : Page) → j < n → gathered j ≡ Some p → p ≡ page_of contents (row j)) → (j : ℕ) (p : Page) → j < n → put gathered i (Some page) j ≡ Some p → p ≡ page_of contents (row j)
pages_more row contents gathered n i page new h j p l e =
    put-some (λ (j : ℕ) (p : Page). j < n → p ≡ page_of contents (row j)) gathered i page (λ l. new) (λ j p d f l. h j p l f) j p e l

-- dies, where a block changes that no other die than this one, which is at home, has
pub dies_at_home : (shape : Shape) (places : Places) (blocks : ℕ → Block) (lanes : ℕ → LaneState) (calls : ℕ → Option Flight) (dies : ℕ → DieState) (b : ℕ) (y : Block) → (dies (die_of shape b)).out ≡ None →
    Dies shape places blocks lanes calls dies → Dies shape places (put blocks b y) lanes calls dies
dies_at_home shape places blocks lanes calls dies b y home h = record {
  right = λ die out e.
      let other : (j : ℕ) → die_of shape j ≡ die → j ≢ b = λ j on s. nothing (dies (die_of shape b)).out out home (ap (λ (k : ℕ). (dies k).out) (sym (ap (die_of shape) s) ∙ on) ∙ e) in
      errand_blocks shape places blocks (put blocks b y) lanes calls die out.holder out.errand
      (λ lane i f. fill_stays shape places blocks (put blocks b y) calls die out.holder lane i f (put-other blocks b y f.b (other f.b f.on_die)))
      (λ j v p on f. subst (λ (w : Block). IsFlush w v p) (sym (put-other blocks b y j (other j on))) f) (h.right die out e);
  one_each = h.one_each;
  in_turn = h.in_turn;
}
