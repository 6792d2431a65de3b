-- FlushIn: a die comes home from the write of a block's page.
use Rattle.std.proofs.Common.{◌≡◌, ℕ, ◌<◌, Bool, true, false, List, length, Option, Some, None, refl, sym, ap, ◌∙◌, subst, arith}
use Rattle.std.specs.Prelude.{◌≢◌, ◌&&◌, ◌||◌, ◌==◌, not, is_some}
use Rattle.std.proofs.lemmas.Bool.Decides.{nat_tests}
use Rattle.dispatcher.specs.declared.side.Side.{Side}
use Rattle.core_lanes.specs.Paired.{by_side}
use Rattle.index_lists.specs.Words.{put, without}
use Rattle.index_lists.proofs.Puts.{put-same}
use Rattle.core_lanes.specs.Actor.{Actor}
use Rattle.core_lanes.specs.Actor.TheVariants.{Lane, Worker, Flusher, Closer}
use Rattle.core_lanes.specs.Words.{Lists}
use Rattle.core_lanes.specs.State.{Page, Loan, Block, Mode, Frame, Queued, Flight, ToFlush, Out, DieState, Core}
use Rattle.core_lanes.specs.Contents.{IsBlank, copy_at, content, is_unclean, die_of}
use Rattle.core_lanes.specs.PlainOf.{plain_of}
use Rattle.core_lanes.specs.Sound.{HasCopies, IsKept, IsInHand}
use Rattle.core_lanes.specs.Placed.{Tails}
use Rattle.core_lanes.specs.InFlight.{InFlight}
use Rattle.core_lanes.specs.Frames.{HasFrame}
use Rattle.core_lanes.specs.Dies.{IsFlush, MayFlush, Gathered}
use Rattle.core_lanes.specs.Coherent.{Coherent}
use Rattle.core_lanes.specs.DieEvents.{written_page, home_written, marked_by, IsLeft, flushed_block, flushed_of, flushed_by, flushed, MayFlushIn}
use Rattle.core_lanes.proofs.Words.{nothing, same_some, lists_without, lists_same}
use Rattle.core_lanes.proofs.Blocks.{each_block, contents_put, placed_put, lent_put, has_frames_put}
use Rattle.core_lanes.proofs.Gathering.{dies_at_home}
use Rattle.core_lanes.proofs.Metas.{home_keeps, marked_keeps, sync_held}
use Rattle.core_pages.proofs.Idle.{test_put, test_here, test_same}

-- ---- a block's flash page and flags change

-- what the new block is: its content and copies are as before, and it holds as it should
pub record IsFlushed (x y : Block) : Type 0 where
  pub content : content y ≡ content x
  host : y.host ≡ x.host
  drive : y.drive ≡ x.drive
  lent : y.lent ≡ x.lent
  flash : length y.flash ≡ 4096
  kept : IsKept y
  hand : IsInHand y
  blank : IsBlank x → IsBlank y

copies_of : (x y : Block) → IsFlushed x y → HasCopies x → HasCopies y
copies_of x y f h = record {
  host = λ p e. h.host p (sym f.host ∙ e) ∙ sym f.content;
  drive = λ p e. h.drive p (sym f.drive ∙ e) ∙ sym f.content;
  lent = λ loan e. h.lent loan (sym f.lent ∙ e) ∙ sym f.content;
  whole = ap length f.content ∙ h.whole;
  flash = f.flash;
}

same_copy : (side : Side) (x y : Block) → y.host ≡ x.host → y.drive ≡ x.drive → copy_at side y ≡ copy_at side x
same_copy side x y e f = ap (λ (h : Option Page). by_side side h y.drive) e ∙ ap (λ (d : Option Page). by_side side x.host d) f

flash_keeps : (c : Core) (b : ℕ) (y : Block) (uncleans : List ℕ) → IsFlushed (c.blocks b) y → (c.dies (die_of c.shape b)).out ≡ None → Lists uncleans (λ j. is_unclean (put c.blocks b y j)) →
    Coherent c → Coherent (record c { blocks = put c.blocks b y; unclean = uncleans })
flash_keeps c b y uncleans f home unclean h =
    let kept = contents_put c.blocks b y f.content in
    record {
      placed = placed_put c.shape c.names c.places c.blocks b y (λ free. f.blank (h.placed.free b free)) h.placed;
      copies = each_block (λ (j : ℕ) (w : Block). HasCopies w) c.blocks b y (copies_of (c.blocks b) y f (h.copies b)) h.copies;
      clean = each_block (λ (j : ℕ) (w : Block). IsKept w) c.blocks b y f.kept h.clean;
      unclean = each_block (λ (j : ℕ) (w : Block). IsInHand w) c.blocks b y f.hand h.unclean;
      lent = lent_put c.places c.calls c.blocks b y f.lent (λ loan e. let n = h.lent.alone b loan (sym f.lent ∙ e) in record { host = f.host ∙ n.host; drive = f.drive ∙ n.drive }) h.lent;
      locked = h.locked;
      in_flight = subst (λ (pages : ℕ → Page). InFlight c.names (plain_of c.shape c.names c.places pages) c.calls) (sym kept) h.in_flight;
      tails = subst (λ (pages : ℕ → Page). Tails c.names c.places pages) (sym kept) h.tails;
      frames = record {
        host = h.frames.host;
        drive = h.frames.drive;
        each = has_frames_put c.places c.calls c.blocks b y
            (λ l x e i k at g. subst (λ (w : Block). HasFrame x.claim.reach.mode x.claim.side w (x.frame i)) (sym (put-same c.blocks b y)) (framed x.claim.reach.mode x.claim.side (x.frame i) g)) h.frames.each;
      };
      orders = record {
        ordered = record {
          host = lists_same c.host_order (λ j. is_some (c.blocks j).host) (λ j. is_some (put c.blocks b y j).host) (test_same c.blocks b y (λ w. is_some w.host) (ap is_some f.host)) h.orders.ordered.host;
          drive = lists_same c.drive_order (λ j. is_some (c.blocks j).drive) (λ j. is_some (put c.blocks b y j).drive) (test_same c.blocks b y (λ w. is_some w.drive) (ap is_some f.drive)) h.orders.ordered.drive;
          unclean = unclean;
        };
        queued = h.orders.queued;
      };
      dies = dies_at_home c.shape c.places c.blocks c.lanes c.calls c.dies b y home h.dies;
      gathered = subst (λ (pages : ℕ → Page). Gathered c.places pages (plain_of c.shape c.names c.places pages) c.lanes c.calls) (sym kept) h.gathered;
    }
  where
    framed : (mode : Mode) (side : Side) (frame : Frame) → HasFrame mode side (c.blocks b) frame → HasFrame mode side y frame
    framed mode side frame g =
        let same = same_copy side (c.blocks b) y f.host f.drive in
        record {
          exclusive = λ m n. ap is_some same ∙ g.exclusive m n;
          shared = λ m n none. f.blank (g.shared m n (sym same ∙ none));
        }

-- ---- what a flush leaves

-- it was of the page as it is: the block is written and clean
now_flushed : (x : Block) (page : Page) → x.clean ≡ false → page ≡ content x → HasCopies x → IsInHand x → IsFlushed x (flushed_block page true x)
now_flushed x page unclean same h hand =
    let k : content (flushed_block page true x) ≡ content x = kept x.lent x.host x.drive refl refl refl in
    record {
      content = k;
      host = refl;
      drive = refl;
      lent = refl;
      flash = ap length same ∙ h.whole;
      kept = record { written = λ c w. same ∙ sym k; unwritten = λ c w. absurd (or_true x.written w) };
      hand = λ e away. or_true x.clean e;
      blank = λ b. let t = b.clean in absurd (cc);
    }
  where
    or_true : (t : Bool) → (t || true) ≡ false → ⊥
    or_true true e = cc
    or_true false e = cc

    kept : (l : Option Loan) (o d : Option Page) → x.lent ≡ l → x.host ≡ o → x.drive ≡ d → content (flushed_block page true x) ≡ content x
    kept l o d el eo ed = grind arith

-- it was of an older page, or failed: nothing but flash changed
only_flash : (x : Block) (flash : Page) → (x.clean ≡ true → x.written ≡ false) → length flash ≡ 4096 → IsKept x → IsInHand x → IsFlushed x (flushed_block flash false x)
only_flash x flash low whole kept hand =
    let clean : (x.clean || false) ≡ x.clean = or_same x.clean in
    let written : (x.written || false) ≡ x.written = or_same x.written in
    let k : content (flushed_block flash false x) ≡ content x = same in
    record {
      content = k;
      host = refl;
      drive = refl;
      lent = refl;
      flash = whole;
      kept = record { written = λ c w. let t = low (sym clean ∙ c) in let u = sym written ∙ w in absurd (cc); unwritten = λ c w. k ∙ kept.unwritten (sym clean ∙ c) (sym written ∙ w) };
      hand = λ e away. hand (sym clean ∙ e) (record { host = away.host; drive = away.drive; lent = away.lent });
      blank = λ b. record { away = record { host = b.away.host; drive = b.away.drive; lent = b.away.lent }; clean = clean ∙ b.clean; written = written ∙ b.written };
    }
  where
    or_same : (t : Bool) → (t || false) ≡ t
    or_same true = refl
    or_same false = refl

    same : content (flushed_block flash false x) ≡ content x
    same = go x.clean x.lent x.host x.drive refl refl refl refl
      where
        go : (t : Bool) (l : Option Loan) (o d : Option Page) → x.clean ≡ t → x.lent ≡ l → x.host ≡ o → x.drive ≡ d → content (flushed_block flash false x) ≡ content x
        go true l o d ec el eo ed = let n = low ec in grind arith
        go false None None None ec el eo ed = absurd (hand ec (record { host = eo; drive = ed; lent = el }))
        go false l o d ec el eo ed = grind arith

-- ---- FlushIn

queued_no : (c : Core) (actor : Actor) → Coherent c → MayFlush c.lanes c.calls actor → (l : ℕ) → actor ≡ Lane l → (call : Flight) → c.calls l ≡ Some call → call.phase ≢ Queued
queued_no c (Lane k) h m l same call e q =
    let s = m.sync (λ n. nothing (c.calls k) call n (ap c.calls (lane_is k l same) ∙ e)) in
    let f : s.flight ≡ call = same_some (c.calls k) s.flight call s.flies (ap c.calls (lane_is k l same) ∙ e) in
    let held = sync_held c k s.flight h s.flies s.sync in
    let p = ap (λ (w : Flight). w.phase) f in
    cc
  where
    lane_is : (k l : ℕ) → Lane k ≡ Lane l → k ≡ l
    lane_is k l e = cc
queued_no c (Worker w) h m l same call e q = cc
queued_no c (Flusher f) h m l same call e q = cc
queued_no c Closer h m l same call e q = cc

-- the acting lane is marked, if a lane acts
marked_by_keeps : (c : Core) (actor : Actor) (failed : Bool) → ((l : ℕ) → actor ≡ Lane l → (call : Flight) → c.calls l ≡ Some call → call.phase ≢ Queued) → Coherent c → Coherent (record c { lanes = marked_by actor failed c.lanes })
marked_by_keeps c (Lane l) failed waits h = marked_keeps c l failed (waits l refl) h
marked_by_keeps c (Worker w) failed waits h = h
marked_by_keeps c (Flusher f) failed waits h = h
marked_by_keeps c Closer failed waits h = h

same_unclean : (x : Block) (flash : Page) → is_unclean (flushed_block flash false x) ≡ is_unclean x
same_unclean x flash = go x.clean refl
  where
    go : (t : Bool) → x.clean ≡ t → is_unclean (flushed_block flash false x) ≡ is_unclean x
    go true e = grind arith
    go false e = grind arith

clean_now : (x : Block) (page : Page) → is_unclean (flushed_block page true x) ≡ false
clean_now x page = go x.clean refl
  where
    go : (t : Bool) → x.clean ≡ t → is_unclean (flushed_block page true x) ≡ false
    go true e = grind arith
    go false e = grind arith

-- the block that a flush leaves
pub flushed_is : (c : Core) (actor : Actor) (die : ℕ) (good : Bool) (left : Page) (b version : ℕ) (page : Page) → Coherent c → (c.dies die).out ≡ Some (record { holder = actor; errand = ToFlush b version page }) → IsLeft good left →
    IsFlushed (c.blocks b) (flushed_block (written_page good page left) (good && (version == (c.blocks b).version)) (c.blocks b))
flushed_is c actor die good left b version page h o is_left = go good (version == (c.blocks b).version) refl refl
  where
    x : Block
    x = c.blocks b

    right : (b < c.shape.blocks) × (die_of c.shape b ≡ die) × IsFlush (c.blocks b) version page × MayFlush c.lanes c.calls actor
    right = h.dies.right die (record { holder = actor; errand = ToFlush b version page }) o

    equal : (a b : ℕ) → (a == b) ≡ true → a ≡ b
    equal a b e = grind (arith, nat_tests)

    unequal : (a b : ℕ) → (a == b) ≡ false → a ≢ b
    unequal a b e = grind (arith, nat_tests)

    low : (u : Bool) → (version == x.version) ≡ u → x.clean ≡ true → x.written ≡ false
    low true e c = let s = (right.2.same (equal version x.version e)).0 in absurd (cc)
    low false e c = right.2.newer (unequal version x.version e) c

    go : (t u : Bool) → good ≡ t → (version == x.version) ≡ u → IsFlushed x (flushed_block (written_page t page left) (t && u) x)
    go true true eg eu = let s = right.2.same (equal version x.version eu) in now_flushed x page s.0 s.1 (h.copies b) (h.unclean b)
    go true false eg eu = only_flash x page (low false eu) right.2.whole (h.clean b) (h.unclean b)
    go false u eg eu = only_flash x left (low u eu) (is_left.failed eg) (h.clean b) (h.unclean b)

flush_in_of : (c : Core) (actor : Actor) (die : ℕ) (good : Bool) (left : Page) (b version : ℕ) (page : Page) → Coherent c → (c.dies die).out ≡ Some (record { holder = actor; errand = ToFlush b version page }) → IsLeft good left →
    Coherent (flushed_of c actor die good left b page (good && (version == (c.blocks b).version)))
flush_in_of c actor die good left b version page h o is_left =
    go (good && (version == (c.blocks b).version)) (flushed_is c actor die good left b version page h o is_left)
  where
    right : (b < c.shape.blocks) × (die_of c.shape b ≡ die) × IsFlush (c.blocks b) version page × MayFlush c.lanes c.calls actor
    right = h.dies.right die (record { holder = actor; errand = ToFlush b version page }) o

    -- the core after the die came home
    base : Core
    base = record c { dies = put c.dies die (home_written (c.dies die) good); lanes = marked_by actor (not good) c.lanes }

    coherent : Coherent base
    coherent = marked_by_keeps (record c { dies = put c.dies die (home_written (c.dies die) good) }) actor (not good) (queued_no c actor h right.3) (home_keeps c die (home_written (c.dies die) good) c.meta c.closer refl h)

    home : (base.dies (die_of c.shape b)).out ≡ None
    home = ap (λ (k : ℕ). (put c.dies die (home_written (c.dies die) good) k).out) right.1 ∙ ap (λ (s : DieState). s.out) (put-same c.dies die (home_written (c.dies die) good))

    go : (now : Bool) → IsFlushed (c.blocks b) (flushed_block (written_page good page left) now (c.blocks b)) → Coherent (flushed_of c actor die good left b page now)
    go true f =
        let y = flushed_block (written_page good page left) true (c.blocks b) in
        flash_keeps base b y (without b c.unclean) f home
        (lists_without c.unclean (λ j. is_unclean (c.blocks j)) (λ j. is_unclean (put c.blocks b y j)) b (test_here c.blocks b y is_unclean ∙ clean_now (c.blocks b) (written_page good page left)) (test_put c.blocks b y is_unclean) h.orders.ordered.unclean) coherent
    go false f =
        let y = flushed_block (written_page good page left) false (c.blocks b) in
        flash_keeps base b y c.unclean f home
        (lists_same c.unclean (λ j. is_unclean (c.blocks j)) (λ j. is_unclean (put c.blocks b y j)) (test_same c.blocks b y is_unclean (same_unclean (c.blocks b) (written_page good page left))) h.orders.ordered.unclean) coherent

pub flush_in_keeps : (c : Core) (actor : Actor) (die : ℕ) (good : Bool) (left : Page) → Coherent c → MayFlushIn c actor die good left → Coherent (flushed c actor die good left)
flush_in_keeps c actor die good left h may =
    subst (λ (o : Option Out). Coherent (flushed_by c actor die good left o)) (sym may.out) (flush_in_of c actor die good left may.b may.version may.page h may.out may.left_is)
