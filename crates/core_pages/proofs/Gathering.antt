-- A page goes to a call: the call and the page's block change together.
use Rattle.std.proofs.Common.{◌≡◌, ℕ, ◌<◌, ◌≤◌, true, false, List, Option, Some, None, refl, sym, ap, ◌∙◌, subst}
use Rattle.std.specs.Prelude.{◌≢◌, is_some}
use Rattle.dispatcher.specs.declared.side.Side.{Side}
use Rattle.dispatcher.specs.declared.side.Side.TheVariants.{Host, Drive}
use Rattle.index_lists.specs.Words.{put}
use Rattle.index_lists.proofs.Puts.{put-same}
use Rattle.core_lanes.specs.Actor.{Actor}
use Rattle.core_lanes.specs.State.{Page, Block, Mode, Shared, Claim, Frame, NoFrame, Reserved, OnLoan, Phase, Held, Queued, Running, Reported, Flight, Out, Core}
use Rattle.core_lanes.specs.Contents.{copy_at, IsBlank, contents, page_of, span_block}
use Rattle.core_lanes.specs.PlainOf.{plain, plain_of}
use Rattle.core_lanes.specs.Sound.{HasCopies, IsKept, IsInHand}
use Rattle.core_lanes.specs.Placed.{IsFree, Tails}
use Rattle.core_lanes.specs.InFlight.{Lent, Locked, InFlight}
use Rattle.core_lanes.specs.Frames.{used, HasFrame, HasFrameFor, AreOrdered}
use Rattle.core_lanes.specs.Dies.{owner, Dies, IsResult, Gathered}
use Rattle.core_lanes.specs.Coherent.{Coherent}
use Rattle.core_lanes.proofs.Calls.{claims_put, dies_call, in_flight_call, gathered_call, queued_same}
use Rattle.core_lanes.proofs.Blocks.{KeepsRest, each_block, contents_put, kept_rest, placed_put, has_frames_put}
use Rattle.core_lanes.proofs.Words.{same_some}

-- a call that somebody owns isn't queued
pub owned_waits : (lane : ℕ) (phase : Phase) (actor : Actor) → owner lane phase ≡ Some actor → phase ≢ Queued
owned_waits lane Held actor e q = cc
owned_waits lane Queued actor e q = cc
owned_waits lane (Running w) actor e q = cc
owned_waits lane (Reported r) actor e q = cc

-- what the call becomes: its claim and phase stay
pub record IsSameCall (call call2 : Flight) : Type 0 where
  pub claim : call2.claim ≡ call.claim
  pub phase : call2.phase ≡ call.phase

-- the call alone changes
pub call_keeps : (c : Core) (lane : ℕ) (actor : Actor) (call call2 : Flight) → c.calls lane ≡ Some call → IsSameCall call call2 → owner lane call.phase ≡ Some actor →
    ((die : ℕ) (out : Out) → (c.dies die).out ≡ Some out → out.holder ≢ actor) →
    Lent c.places (put c.calls lane (Some call2)) c.blocks →
    used Host c.shape c.host_order (put c.calls lane (Some call2)) ≤ c.shape.host_frames →
    used Drive c.shape c.drive_order (put c.calls lane (Some call2)) ≤ c.shape.drive_frames →
    ((l : ℕ) (x : Flight) → put c.calls lane (Some call2) l ≡ Some x → (i : ℕ) → i < x.claim.reach.pages → HasFrameFor x.claim.reach.mode x.claim.side c.blocks (span_block c.places x.claim i) (x.frame i)) →
    ((j : ℕ) (p : Page) → j < call2.claim.reach.pages → call2.gathered j ≡ Some p → p ≡ page_of (contents c.blocks) (span_block c.places call2.claim j)) →
    Coherent c → Coherent (record c { calls = put c.calls lane (Some call2) })
call_keeps c lane actor call call2 e same owns free lent host drive each pages h = record {
  placed = h.placed;
  copies = h.copies;
  clean = h.clean;
  unclean = h.unclean;
  lent = lent;
  locked = subst (Locked c.names) (sym (claims_put c.calls lane call call2 e same.claim)) h.locked;
  in_flight = in_flight_call c.names (plain c) c.calls lane call call2 e same.claim (λ s. same.phase ∙ h.in_flight.host lane call e (ap (λ (k : Claim). k.side) (sym same.claim) ∙ s)) h.in_flight;
  tails = h.tails;
  frames = record { host = host; drive = drive; each = each };
  orders = record { ordered = h.orders.ordered; queued = queued_same c.queue c.lanes c.calls lane call call2 e same.phase (owned_waits lane call.phase actor owns) h.orders.queued };
  dies = dies_call c.shape c.places c.blocks c.lanes c.calls c.dies lane call call2 e same.claim (λ die out o q. free die out o (same_some (owner lane call.phase) out.holder actor q owns)) h.dies;
  gathered = gathered_call c.places (contents c.blocks) (plain c) c.lanes c.calls lane call2 pages (λ m. results m) h.gathered;
}
  where
    results : (c.lanes lane).mark ≡ false → IsResult (plain c) call2.claim.request.call call2.phase
    results m = subst (λ (p : Phase). IsResult (plain c) call2.claim.request.call p) (sym same.phase) (subst (λ (k : Claim). IsResult (plain c) k.request.call call.phase) (sym same.claim) (h.gathered.results lane call e m))

-- the call and a block of its span change
pub gather_keeps : (c : Core) (lane b : ℕ) (actor : Actor) (call call2 : Flight) (y : Block) (hosts drives uncleans : List ℕ) → c.calls lane ≡ Some call → IsSameCall call call2 → owner lane call.phase ≡ Some actor →
    ((die : ℕ) (out : Out) → (c.dies die).out ≡ Some out → out.holder ≢ actor) →
    KeepsRest (c.blocks b) y → HasCopies y → IsInHand y → (IsFree c.places b → ⊥) →
    Lent c.places (put c.calls lane (Some call2)) (put c.blocks b y) →
    used Host c.shape hosts (put c.calls lane (Some call2)) ≤ c.shape.host_frames →
    used Drive c.shape drives (put c.calls lane (Some call2)) ≤ c.shape.drive_frames →
    ((l : ℕ) (x : Flight) → put c.calls lane (Some call2) l ≡ Some x → (i : ℕ) → i < x.claim.reach.pages → HasFrameFor x.claim.reach.mode x.claim.side (put c.blocks b y) (span_block c.places x.claim i) (x.frame i)) →
    AreOrdered (put c.blocks b y) hosts drives uncleans →
    Dies c.shape c.places (put c.blocks b y) c.lanes c.calls c.dies →
    ((j : ℕ) (p : Page) → j < call2.claim.reach.pages → call2.gathered j ≡ Some p → p ≡ page_of (contents c.blocks) (span_block c.places call2.claim j)) →
    Coherent c → Coherent (record c { calls = put c.calls lane (Some call2); blocks = put c.blocks b y; host_order = hosts; drive_order = drives; unclean = uncleans })
gather_keeps c lane b actor call call2 y hosts drives uncleans e same owns free keeps copies hand placed lent host drive each ordered dies pages h =
    let kept = contents_put c.blocks b y keeps.content in
    record {
      placed = placed_put c.shape c.names c.places c.blocks b y (λ f. absurd (placed f)) h.placed;
      copies = each_block (λ (j : ℕ) (w : Block). HasCopies w) c.blocks b y copies h.copies;
      clean = each_block (λ (j : ℕ) (w : Block). IsKept w) c.blocks b y (kept_rest (c.blocks b) y keeps (h.clean b)) h.clean;
      unclean = each_block (λ (j : ℕ) (w : Block). IsInHand w) c.blocks b y hand h.unclean;
      lent = lent;
      locked = subst (Locked c.names) (sym (claims_put c.calls lane call call2 e same.claim)) h.locked;
      in_flight = subst (λ (pages : ℕ → Page). InFlight c.names (plain_of c.shape c.names c.places pages) (put c.calls lane (Some call2))) (sym kept)
          (in_flight_call c.names (plain c) c.calls lane call call2 e same.claim (λ s. same.phase ∙ h.in_flight.host lane call e (ap (λ (k : Claim). k.side) (sym same.claim) ∙ s)) h.in_flight);
      tails = subst (λ (pages : ℕ → Page). Tails c.names c.places pages) (sym kept) h.tails;
      frames = record { host = host; drive = drive; each = each };
      orders = record { ordered = ordered; queued = queued_same c.queue c.lanes c.calls lane call call2 e same.phase (owned_waits lane call.phase actor owns) h.orders.queued };
      dies = dies_call c.shape c.places (put c.blocks b y) c.lanes c.calls c.dies lane call call2 e same.claim (λ die out o q. free die out o (same_some (owner lane call.phase) out.holder actor q owns)) dies;
      gathered = subst (λ (pages : ℕ → Page). Gathered c.places pages (plain_of c.shape c.names c.places pages) c.lanes (put c.calls lane (Some call2))) (sym kept)
          (gathered_call c.places (contents c.blocks) (plain c) c.lanes c.calls lane call2 pages (λ m. results m) h.gathered);
    }
  where
    results : (c.lanes lane).mark ≡ false → IsResult (plain c) call2.claim.request.call call2.phase
    results m = subst (λ (p : Phase). IsResult (plain c) call2.claim.request.call p) (sym same.phase) (subst (λ (k : Claim). IsResult (plain c) k.request.call call.phase) (sym same.claim) (h.gathered.results lane call e m))

-- ---- frames

-- a block that gains copies, or stays blank
pub record GainsCopies (x y : Block) : Type 0 where
  pub more : (side : Side) → is_some (copy_at side x) ≡ true → is_some (copy_at side y) ≡ true
  pub blank : IsBlank x → IsBlank y

none_less : (o p : Option Page) → (is_some o ≡ true → is_some p ≡ true) → p ≡ None → o ≡ None
none_less None p f e = refl
none_less (Some q) p f e = absurd (go p e (f refl))
  where
    go : (p : Option Page) → p ≡ None → is_some p ≡ true → ⊥
    go None e t = cc
    go (Some r) e t = cc

pub gains_frame : (mode : Mode) (side : Side) (frame : Frame) (x y : Block) → GainsCopies x y → HasFrame mode side x frame → HasFrame mode side y frame
gains_frame mode side frame x y g h = record {
  exclusive = λ m n. g.more side (h.exclusive m n);
  shared = λ m n none. g.blank (h.shared m n (none_less (copy_at side x) (copy_at side y) (g.more side) none));
}

-- all calls as they were, over the block that gains
pub gained : (c : Core) (b : ℕ) (y : Block) → GainsCopies (c.blocks b) y → Coherent c →
    (l : ℕ) (x : Flight) → c.calls l ≡ Some x → (i : ℕ) → i < x.claim.reach.pages → HasFrameFor x.claim.reach.mode x.claim.side (put c.blocks b y) (span_block c.places x.claim i) (x.frame i)
gained c b y g h = has_frames_put c.places c.calls c.blocks b y
    (λ l x e i k at f. subst (λ (w : Block). HasFrame x.claim.reach.mode x.claim.side w (x.frame i)) (sym (put-same c.blocks b y)) (gains_frame x.claim.reach.mode x.claim.side (x.frame i) (c.blocks b) y g f)) h.frames.each

-- a shared call whose page isn't blank and has no copy at its side has a frame for it
pub is_reserved : (side : Side) (x : Block) (frame : Frame) → HasFrame Shared side x frame → copy_at side x ≡ None → (IsBlank x → ⊥) → frame ≡ Reserved
is_reserved side x NoFrame h none busy = absurd (busy (h.shared refl (λ q. cc) none))
is_reserved side x Reserved h none busy = refl
is_reserved side x OnLoan h none busy = absurd (busy (h.shared refl (λ q. cc) none))

-- what a call has for a page of its span whose block is this
pub frame_at : (c : Core) (lane i b : ℕ) (call : Flight) → Coherent c → c.calls lane ≡ Some call → i < call.claim.reach.pages → span_block c.places call.claim i ≡ Some b → HasFrame call.claim.reach.mode call.claim.side (c.blocks b) (call.frame i)
frame_at c lane i b call h e within at = subst (λ (o : Option ℕ). HasFrameFor call.claim.reach.mode call.claim.side c.blocks o (call.frame i)) at (h.frames.each lane call e i within)
