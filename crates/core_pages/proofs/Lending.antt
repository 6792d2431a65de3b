-- A page of the span of an exclusive call is lent to it.
use Rattle.std.proofs.Common.{◌≡◌, ℕ, ◌+◌, ◌<◌, ◌≤◌, List, length, Option, Some, None, refl, sym, ap, ◌∙◌, subst, ⊎_elim, arith}
use Rattle.std.specs.Prelude.{◌≢◌, if◌then◌else◌}
use Rattle.dispatcher.specs.declared.side.Side.{Side}
use Rattle.dispatcher.specs.declared.side.Side.TheVariants.{Host, Drive}
use Rattle.index_lists.specs.Words.{put}
use Rattle.index_lists.proofs.Counts.{same_or_not}
use Rattle.index_lists.proofs.Puts.{put-same, put-other, put-each, put-some}
use Rattle.core_lanes.specs.Actor.{Actor}
use Rattle.core_lanes.specs.State.{Page, Loan, Block, Mode, Shared, Exclusive, Claim, Frame, NoFrame, OnLoan, Flight, Out, Core}
use Rattle.core_lanes.specs.Contents.{InNeitherCache, content, contents, page_of, lent_page, span_block}
use Rattle.core_lanes.specs.Changes.{page_or}
use Rattle.page_base.specs.Bytes.{zero_page}
use Rattle.core_lanes.specs.PlainOf.{plain}
use Rattle.core_lanes.specs.Sound.{HasCopies}
use Rattle.core_lanes.specs.InFlight.{IsLentTo, IsLoanOf}
use Rattle.core_lanes.specs.Frames.{used, HasFrame, HasFrameFor, AreOrdered}
use Rattle.core_lanes.specs.Dies.{owner, Dies}
use Rattle.core_lanes.specs.Coherent.{Coherent}
use Rattle.core_lanes.specs.PageEvents.{with_gathered}
use Rattle.core_lanes.proofs.Words.{nothing, same_some}
use Rattle.core_lanes.proofs.Blocks.{each_block, placed_not_free}
use Rattle.core_lanes.proofs.Gathering.{has_frames_both, pages_more}
use Rattle.core_lanes.proofs.Spans.{only_span}
use Rattle.core_pages.proofs.Gathering.{gather_keeps}

-- the page at place i of the span of this exclusive call, whose block is b, is still to be gathered, and is lent to nobody
pub record IsLendable (c : Core) (lane i b : ℕ) (actor : Actor) (call : Flight) : Type 0 where
  pub flies : c.calls lane ≡ Some call
  pub owns : owner lane call.phase ≡ Some actor
  pub within : i < call.claim.reach.pages
  pub missing : call.gathered i ≡ None
  pub block : span_block c.places call.claim i ≡ Some b
  pub mode : call.claim.reach.mode ≡ Exclusive
  pub unlent : (c.blocks b).lent ≡ None
  pub free : (die : ℕ) (out : Out) → (c.dies die).out ≡ Some out → out.holder ≢ actor

-- the loan
abbrev pub loan_to : ℕ → Page → Loan
loan_to lane page = record { lane = lane; page = page }

-- the block after it: lent, without a copy
pub record IsNowLent (x y : Block) (lane : ℕ) (page : Page) : Type 0 where
  pub host : y.host ≡ None
  pub drive : y.drive ≡ None
  pub lent : y.lent ≡ Some (loan_to lane page)
  pub holds : page ≡ content x
  pub flash : y.flash ≡ x.flash
  pub clean : y.clean ≡ x.clean
  pub written : y.written ≡ x.written
  pub version : y.version ≡ x.version

lent_content : (x y : Block) (lane : ℕ) (page : Page) → IsNowLent x y lane page → content y ≡ content x
lent_content x y lane page n = ap (λ (o : Option Loan). page_or (lent_page o) (page_or y.host (page_or y.drive (if y.written then y.flash else zero_page)))) n.lent ∙ n.holds

lent_copies : (x y : Block) (lane : ℕ) (page : Page) → IsNowLent x y lane page → HasCopies x → HasCopies y
lent_copies x y lane page n h =
    let same = lent_content x y lane page n in
    record {
      host = λ p e. absurd (nothing y.host p n.host e);
      drive = λ p e. absurd (nothing y.drive p n.drive e);
      lent = λ loan e. ap (λ (l : Loan). l.page) (same_some y.lent loan (loan_to lane page) e n.lent) ∙ (n.holds ∙ sym same);
      whole = ap length same ∙ h.whole;
      flash = ap length n.flash ∙ h.flash;
    }

frame_elsewhere : (mode : Mode) (side : Side) (blocks : ℕ → Block) (b : ℕ) (y : Block) (at : Option ℕ) (frame : Frame) → at ≢ Some b → HasFrameFor mode side blocks at frame → HasFrameFor mode side (put blocks b y) at frame
frame_elsewhere mode side blocks b y None frame d h = h
frame_elsewhere mode side blocks b y (Some j) frame d h = subst (λ (w : Block). HasFrame mode side w frame) (sym (put-other blocks b y j (λ s. d (ap Some s)))) h

pub lend_keeps : (c : Core) (lane i b : ℕ) (actor : Actor) (call : Flight) (page : Page) (y : Block) (hosts drives uncleans : List ℕ) → Coherent c → IsLendable c lane i b actor call → IsNowLent (c.blocks b) y lane page →
    used Host c.shape hosts (put c.calls lane (Some (with_gathered call i page OnLoan))) ≤ c.shape.host_frames →
    used Drive c.shape drives (put c.calls lane (Some (with_gathered call i page OnLoan))) ≤ c.shape.drive_frames →
    AreOrdered (put c.blocks b y) hosts drives uncleans → Dies c.shape c.places (put c.blocks b y) c.lanes c.calls c.dies →
    Coherent (record c { calls = put c.calls lane (Some (with_gathered call i page OnLoan)); blocks = put c.blocks b y; host_order = hosts; drive_order = drives; unclean = uncleans })
lend_keeps c lane i b actor call page y hosts drives uncleans h r n host drive ordered dies =
    gather_keeps c lane b actor call call2 y hosts drives uncleans r.flies (record { claim = refl; phase = refl }) r.owns r.free
    (record { content = lent_content x y lane page n; flash = n.flash; clean = n.clean; written = n.written; version = n.version })
    (lent_copies x y lane page n (h.copies b)) (λ f away. nothing y.lent (loan_to lane page) away.lent n.lent)
    (placed_not_free c.places call.claim.file (call.claim.reach.first + i) b r.block)
    (record { alone = alone; held = held; loans = loans })
    host drive
    (has_frames_both c.places c.calls (put c.blocks b y) lane call2 own others)
    ordered dies
    (pages_more (span_block c.places call.claim) (contents c.blocks) call.gathered call.claim.reach.pages i page (n.holds ∙ ap (page_of (contents c.blocks)) (sym r.block)) (h.gathered.pages_are lane call r.flies)) h
  where
    x : Block
    x = c.blocks b

    call2 : Flight
    call2 = with_gathered call i page OnLoan

    -- no other page of a span has the block
    only_here : (j : ℕ) → span_block c.places call.claim j ≡ Some b → j ≡ i
    only_here j at = let s = (h.placed.have.apart _ _ _ _ b at r.block).1 in omega arith

    only_this : (l : ℕ) (z : Flight) → l ≢ lane → c.calls l ≡ Some z → (j : ℕ) → j < z.claim.reach.pages → span_block c.places z.claim j ≢ Some b
    only_this l z d e j k at = only_span c.shape c.names c.places c.blocks (plain c) c.calls h.placed h.in_flight h.locked.apart lane l call z r.flies e (λ s. d (sym s)) r.mode i j b r.within k r.block at

    own : (j : ℕ) → j < call.claim.reach.pages → HasFrameFor call.claim.reach.mode call.claim.side (put c.blocks b y) (span_block c.places call.claim j) (put call.frame i OnLoan j)
    own = put-each (λ (j : ℕ) (f : Frame). j < call.claim.reach.pages → HasFrameFor call.claim.reach.mode call.claim.side (put c.blocks b y) (span_block c.places call.claim j) f) call.frame i OnLoan
        (λ l. subst (λ (o : Option ℕ). HasFrameFor call.claim.reach.mode call.claim.side (put c.blocks b y) o OnLoan) (sym r.block)
        (record { exclusive = λ m q. absurd (no_frame q); shared = λ m q. absurd (not_both call.claim.reach.mode m r.mode) }))
        (λ j d l. frame_elsewhere call.claim.reach.mode call.claim.side c.blocks b y (span_block c.places call.claim j) (call.frame j) (λ at. d (only_here j at)) (h.frames.each lane call r.flies j l))
      where
        no_frame : OnLoan ≡ NoFrame → ⊥
        no_frame e = cc

        not_both : (m : Mode) → m ≡ Shared → m ≡ Exclusive → ⊥
        not_both m e f = cc

    others : (l : ℕ) (z : Flight) → l ≢ lane → c.calls l ≡ Some z → (j : ℕ) → j < z.claim.reach.pages → HasFrameFor z.claim.reach.mode z.claim.side (put c.blocks b y) (span_block c.places z.claim j) (z.frame j)
    others l z d e j k = frame_elsewhere z.claim.reach.mode z.claim.side c.blocks b y (span_block c.places z.claim j) (z.frame j) (only_this l z d e j k) (h.frames.each l z e j k)

    alone : (j : ℕ) (loan : Loan) → (put c.blocks b y j).lent ≡ Some loan → InNeitherCache (put c.blocks b y j)
    alone = each_block (λ (j : ℕ) (w : Block). (loan : Loan) → w.lent ≡ Some loan → InNeitherCache w) c.blocks b y (λ loan e. record { host = n.host; drive = n.drive }) h.lent.alone

    new_loan : (loan : Loan) → loan ≡ loan_to lane page → IsLentTo c.places (put c.calls lane (Some call2)) b loan
    new_loan loan s =
        record {
          call = call2;
          flies = ap (λ (l : Loan). put c.calls lane (Some call2) l.lane) s ∙ put-same c.calls lane (Some call2);
          mode = r.mode;
          i = i;
          within = r.within;
          block = r.block;
          gathered = put-same call.gathered i (Some page) ∙ ap (λ (l : Loan). Some l.page) (sym s);
          frame = put-same call.frame i OnLoan;
        }

    old_loan : (j : ℕ) (loan : Loan) → IsLentTo c.places c.calls j loan → IsLentTo c.places (put c.calls lane (Some call2)) j loan
    old_loan j loan old = ⊎_elim
        (λ (d : loan.lane ≡ lane).
        let s : old.call ≡ call = same_some (c.calls lane) old.call call (ap c.calls (sym d) ∙ old.flies) r.flies in
        let has : call.gathered old.i ≡ Some loan.page = ap (λ (w : Flight). w.gathered old.i) (sym s) ∙ old.gathered in
        let apart : old.i ≢ i = λ q. nothing (call.gathered i) loan.page r.missing (ap call.gathered (sym q) ∙ has) in
        record {
          call = call2;
          flies = ap (put c.calls lane (Some call2)) d ∙ put-same c.calls lane (Some call2);
          mode = ap (λ (w : Flight). w.claim.reach.mode) (sym s) ∙ old.mode;
          i = old.i;
          within = subst (λ (w : Flight). old.i < w.claim.reach.pages) s old.within;
          block = ap (λ (w : Flight). span_block c.places w.claim old.i) (sym s) ∙ old.block;
          gathered = put-other call.gathered i (Some page) old.i apart ∙ has;
          frame = put-other call.frame i OnLoan old.i apart ∙ (ap (λ (w : Flight). w.frame old.i) (sym s) ∙ old.frame);
        })
        (λ (d : loan.lane ≢ lane). record { call = old.call; flies = put-other c.calls lane (Some call2) loan.lane d ∙ old.flies; mode = old.mode; i = old.i; within = old.within; block = old.block; gathered = old.gathered; frame = old.frame })
        (same_or_not loan.lane lane)

    held : (j : ℕ) (loan : Loan) → (put c.blocks b y j).lent ≡ Some loan → IsLentTo c.places (put c.calls lane (Some call2)) j loan
    held = each_block (λ (j : ℕ) (w : Block). (loan : Loan) → w.lent ≡ Some loan → IsLentTo c.places (put c.calls lane (Some call2)) j loan) c.blocks b y
        (λ loan e. new_loan loan (same_some y.lent loan (loan_to lane page) e n.lent)) (λ j loan e. old_loan j loan (h.lent.held j loan e))

    kept_loan : (l : ℕ) (claim : Claim) (j : ℕ) → IsLoanOf c.places c.blocks l claim j → IsLoanOf c.places (put c.blocks b y) l claim j
    kept_loan l claim j o = record {
      b = o.b;
      loan = o.loan;
      block = o.block;
      lent = ap (λ (w : Block). w.lent) (put-other c.blocks b y o.b (λ s. nothing x.lent o.loan r.unlent (ap (λ (k : ℕ). (c.blocks k).lent) (sym s) ∙ o.lent))) ∙ o.lent;
      lane_is = o.lane_is;
    }

    loans : (l : ℕ) (z : Flight) → put c.calls lane (Some call2) l ≡ Some z → (j : ℕ) → j < z.claim.reach.pages → z.frame j ≡ OnLoan → IsLoanOf c.places (put c.blocks b y) l z.claim j
    loans = put-some (λ (l : ℕ) (z : Flight). (j : ℕ) → j < z.claim.reach.pages → z.frame j ≡ OnLoan → IsLoanOf c.places (put c.blocks b y) l z.claim j) c.calls lane call2
        (put-each (λ (j : ℕ) (f : Frame). j < call.claim.reach.pages → f ≡ OnLoan → IsLoanOf c.places (put c.blocks b y) lane call.claim j) call.frame i OnLoan
        (λ l e. record { b = b; loan = loan_to lane page; block = r.block; lent = ap (λ (w : Block). w.lent) (put-same c.blocks b y) ∙ n.lent; lane_is = refl })
        (λ j d l e. kept_loan lane call.claim j (h.lent.loans lane call r.flies j l e)))
        (λ l z d e j k f. kept_loan l z.claim j (h.lent.loans l z e j k f))
