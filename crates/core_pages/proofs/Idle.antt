-- Evict and Demote: a block in no span changes its copies.
use Rattle.std.proofs.Common.{◌≡◌, ℕ, zero, suc, ◌<◌, ◌≤◌, Bool, true, false, List, length, Option, Some, None, refl, sym, ap, ◌∙◌, subst, ⊎_elim, arith}
use Rattle.std.specs.Prelude.{◌≢◌, ◌&&◌, ◌||◌, not, is_some}
use Rattle.std.proofs.lemmas.Bool.Decides.{nat_tests}
use Rattle.std.specs.List.{find}
use Rattle.dispatcher.specs.declared.side.Side.{Side}
use Rattle.dispatcher.specs.declared.side.Side.TheVariants.{Host, Drive}
use Rattle.core_lanes.specs.Paired.{by_side, other}
use Rattle.index_lists.specs.Words.{put, without, last}
use Rattle.index_lists.proofs.Counts.{same_or_not, length-without, length-last}
use Rattle.index_lists.proofs.Puts.{put-same, put-other}
use Rattle.core_lanes.specs.Words.{is_at, any_to, Lists}
use Rattle.core_lanes.specs.State.{Page, Shape, Loan, Block, Places, Flight, Core}
use Rattle.core_lanes.specs.Contents.{InNeitherCache, IsAway, copy_at, with_copy, content, has_copy, is_unclean, span_block}
use Rattle.core_lanes.specs.PlainOf.{plain_of}
use Rattle.core_lanes.specs.Sound.{HasCopies, IsKept, IsInHand}
use Rattle.core_lanes.specs.Placed.{Tails}
use Rattle.core_lanes.specs.InFlight.{InFlight}
use Rattle.core_lanes.specs.Frames.{used, AreOrdered}
use Rattle.core_lanes.specs.Dies.{Gathered}
use Rattle.core_lanes.specs.Coherent.{Coherent}
use Rattle.core_lanes.specs.PageEvents.{spans, in_span, is_spare, is_demotable, order_at, MayEvict, MayDemote, evicted, demoted}
use Rattle.core_lanes.proofs.Words.{lists_last, lists_without, lists_same}
use Rattle.core_lanes.proofs.Finds.{found_passes, found_listed}
use Rattle.core_lanes.proofs.Blocks.{KeepsRest, each_block, contents_put, kept_rest, placed_put, lent_put, has_frames_put, dies_put}

-- ---- tests

pub any_none : (n : ℕ) (test : ℕ → Bool) → any_to n test ≡ false → (i : ℕ) → i < n → test i ≡ false
unfolding any_to
any_none zero test e i l = absurd (omega arith)
any_none (suc n) test e i l = ⊎_elim (λ (s : i ≡ n). ap test s ∙ (or_parts (any_to n test) (test n) e).1) (λ (d : i ≢ n). any_none n test (or_parts (any_to n test) (test n) e).0 i (omega arith)) (same_or_not i n)
  where
    or_parts : (a b : Bool) → (a || b) ≡ false → (a ≡ false) × (b ≡ false)
    or_parts true b e = absurd (cc)
    or_parts false b e = (refl, e)

pub and_parts : (a b : Bool) → (a && b) ≡ true → (a ≡ true) × (b ≡ true)
and_parts true b e = (refl, e)
and_parts false b e = absurd (cc)

pub not_true : (a : Bool) → not a ≡ true → a ≡ false
not_true true e = absurd (cc)
not_true false e = refl

-- the block is in no span
IsIdle : Places → (ℕ → Option Flight) → ℕ → Type 0
IsIdle places calls b = (l : ℕ) (x : Flight) → calls l ≡ Some x → (i : ℕ) → i < x.claim.reach.pages → span_block places x.claim i ≢ Some b

at_self : (o : Option ℕ) (b : ℕ) → o ≡ Some b → is_at o b ≡ true
at_self o b e =
    let k : is_at (Some b) b ≡ true = grind (arith, nat_tests) in
    ap (λ (w : Option ℕ). is_at w b) e ∙ k

idle_of : (shape : Shape) (places : Places) (calls : ℕ → Option Flight) (b : ℕ) → ((l : ℕ) (x : Flight) → calls l ≡ Some x → l < shape.lanes) → in_span shape places calls b ≡ false → IsIdle places calls b
unfolding IsIdle
idle_of shape places calls b low none l x e i k at =
    let a : spans places (calls l) b ≡ false = any_none shape.lanes (λ lane. spans places (calls lane) b) none l (low l x e) in
    let s : spans places (Some x) b ≡ false = ap (λ (o : Option Flight). spans places o b) (sym e) ∙ a in
    let n = any_none x.claim.reach.pages (λ i. is_at (span_block places x.claim i) b) s i k in
    let y = at_self (span_block places x.claim i) b at in
    cc

-- ---- a block in no span changes its copies

has_no_loan : (x : Block) → has_copy x ≡ true → IsAway x → ⊥
has_no_loan x e a = grind arith

idle_block_keeps : (c : Core) (b : ℕ) (y : Block) (hosts drives uncleans : List ℕ) → KeepsRest (c.blocks b) y → y.lent ≡ (c.blocks b).lent → ((loan : Loan) → y.lent ≡ Some loan → InNeitherCache y) →
    HasCopies y → IsInHand y → has_copy (c.blocks b) ≡ true → IsIdle c.places c.calls b → AreOrdered (put c.blocks b y) hosts drives uncleans →
    used Host c.shape hosts c.calls ≤ c.shape.host_frames → used Drive c.shape drives c.calls ≤ c.shape.drive_frames →
    Coherent c → Coherent (record c { blocks = put c.blocks b y; host_order = hosts; drive_order = drives; unclean = uncleans })
unfolding IsIdle
idle_block_keeps c b y hosts drives uncleans keeps same alone copies in_hand has idle ordered host drive h =
    let kept = contents_put c.blocks b y keeps.content in
    record {
      placed = placed_put c.shape c.names c.places c.blocks b y (λ free. absurd (has_no_loan (c.blocks b) has (h.placed.free b free).away)) h.placed;
      copies = each_block (λ (j : ℕ) (w : Block). HasCopies w) c.blocks b y copies h.copies;
      clean = each_block (λ (j : ℕ) (w : Block). IsKept w) c.blocks b y (kept_rest (c.blocks b) y keeps (h.clean b)) h.clean;
      unclean = each_block (λ (j : ℕ) (w : Block). IsInHand w) c.blocks b y in_hand h.unclean;
      lent = lent_put c.places c.calls c.blocks b y same alone h.lent;
      locked = h.locked;
      in_flight = subst (λ (pages : ℕ → Page). InFlight c.names (plain_of c.shape c.names c.places pages) c.calls) (sym kept) h.in_flight;
      tails = subst (λ (pages : ℕ → Page). Tails c.names c.places pages) (sym kept) h.tails;
      frames = record { host = host; drive = drive; each = has_frames_put c.places c.calls c.blocks b y (λ l x e i k at f. absurd (idle l x e i k at)) h.frames.each };
      orders = record { ordered = ordered; queued = h.orders.queued };
      dies = dies_put c.shape c.places c.blocks c.lanes c.calls c.dies b y keeps (λ away w. has_no_loan (c.blocks b) has away) h.dies;
      gathered = subst (λ (pages : ℕ → Page). Gathered c.places pages (plain_of c.shape c.names c.places pages) c.lanes c.calls) (sym kept) h.gathered;
    }

-- ---- Evict

pub evicted_content : (side : Side) (x : Block) → HasCopies x → IsKept x → is_some (copy_at side x) ≡ true → (x.clean || is_some (copy_at (other side) x)) ≡ true → content (with_copy side None x) ≡ content x
evicted_content Host x h k has spare = grind arith
evicted_content Drive x h k has spare = grind arith

evicted_copies : (side : Side) (x : Block) → HasCopies x → content (with_copy side None x) ≡ content x → HasCopies (with_copy side None x)
evicted_copies Host x h same = record { host = λ p e. absurd (cc); drive = λ p e. h.drive p e ∙ sym same; lent = λ loan e. h.lent loan e ∙ sym same; whole = ap length same ∙ h.whole; flash = h.flash }
evicted_copies Drive x h same = record { host = λ p e. h.host p e ∙ sym same; drive = λ p e. absurd (cc); lent = λ loan e. h.lent loan e ∙ sym same; whole = ap length same ∙ h.whole; flash = h.flash }

evicted_in_hand : (side : Side) (x : Block) → (x.clean || is_some (copy_at (other side) x)) ≡ true → IsInHand (with_copy side None x)
evicted_in_hand Host x spare e away = let k = away.drive in grind arith
evicted_in_hand Drive x spare e away = let k = away.host in grind arith

evicted_alone : (side : Side) (x : Block) (loan : Loan) → InNeitherCache x → InNeitherCache (with_copy side None x)
evicted_alone Host x loan n = record { host = refl; drive = n.drive }
evicted_alone Drive x loan n = record { host = n.host; drive = refl }

pub has_at : (side : Side) (x : Block) → is_some (copy_at side x) ≡ true → has_copy x ≡ true
has_at Host x e = grind arith
has_at Drive x e = grind arith

evicted_unclean : (side : Side) (x : Block) → is_some (copy_at side x) ≡ true → (x.clean || is_some (copy_at (other side) x)) ≡ true → is_unclean (with_copy side None x) ≡ is_unclean x
evicted_unclean Host x has spare = grind arith
evicted_unclean Drive x has spare = grind arith

pub test_put : (blocks : ℕ → Block) (b : ℕ) (y : Block) (test : Block → Bool) (j : ℕ) → j ≢ b → test (put blocks b y j) ≡ test (blocks j)
test_put blocks b y test j d = ap test (put-other blocks b y j d)

pub test_here : (blocks : ℕ → Block) (b : ℕ) (y : Block) (test : Block → Bool) → test (put blocks b y b) ≡ test y
test_here blocks b y test = ap test (put-same blocks b y)

pub test_same : (blocks : ℕ → Block) (b : ℕ) (y : Block) (test : Block → Bool) → test y ≡ test (blocks b) → (j : ℕ) → test (put blocks b y j) ≡ test (blocks j)
test_same blocks b y test same = each_block (λ (j : ℕ) (w : Block). test w ≡ test (blocks j)) blocks b y same (λ j. refl)

pub listed_at : (c : Core) (side : Side) (b : ℕ) (test : ℕ → Bool) → Coherent c → find test (order_at side c) ≡ Some b → is_some (copy_at side (c.blocks b)) ≡ true
listed_at c Host b test h e = found_listed test c.host_order (λ j. is_some (c.blocks j).host) b h.orders.ordered.host e
listed_at c Drive b test h e = found_listed test c.drive_order (λ j. is_some (c.blocks j).drive) b h.orders.ordered.drive e

pub evict_keeps : (c : Core) (side : Side) (b : ℕ) → Coherent c → MayEvict c side b → Coherent (evicted c side b)
evict_keeps c side b h may =
    let has = listed_at c side b (is_spare c side) h may.first in
    let parts = and_parts _ _ (found_passes (is_spare c side) (order_at side c) b may.first) in
    let idle = idle_of c.shape c.places c.calls b (λ l x e. (h.dies.in_turn l x e).0) (not_true _ parts.0) in
    go side has parts.1 idle
  where
    go : (side : Side) → is_some (copy_at side (c.blocks b)) ≡ true → ((c.blocks b).clean || is_some (copy_at (other side) (c.blocks b))) ≡ true → IsIdle c.places c.calls b → Coherent (evicted c side b)
    go side has spare idle =
        let x = c.blocks b in
        let y = with_copy side None x in
        let same = evicted_content side x (h.copies b) (h.clean b) has spare in
        let unclean = lists_same c.unclean (λ j. is_unclean (c.blocks j)) (λ j. is_unclean (put c.blocks b y j)) (test_same c.blocks b y is_unclean (evicted_unclean side x has spare)) h.orders.ordered.unclean in
        idle_block_keeps c b y _ _ c.unclean (record { content = same; flash = refl; clean = refl; written = refl; version = refl }) refl
        (λ loan e. evicted_alone side x loan (h.lent.alone b loan e))
        (evicted_copies side x (h.copies b) same) (evicted_in_hand side x spare) (has_at side x has) idle (ordered side y unclean refl) (fits Host side) (fits Drive side) h
      where
        ordered : (side : Side) (y : Block) → Lists c.unclean (λ j. is_unclean (put c.blocks b y j)) → y ≡ with_copy side None (c.blocks b) →
            AreOrdered (put c.blocks b y) (by_side side (without b c.host_order) c.host_order) (by_side side c.drive_order (without b c.drive_order)) c.unclean
        ordered Host y unclean e = record {
          host = lists_without c.host_order (λ j. is_some (c.blocks j).host) (λ j. is_some (put c.blocks b y j).host) b (test_here c.blocks b y (λ w. is_some w.host) ∙ ap (λ (w : Block). is_some w.host) e) (test_put c.blocks b y (λ w. is_some w.host)) h.orders.ordered.host;
          drive = lists_same c.drive_order (λ j. is_some (c.blocks j).drive) (λ j. is_some (put c.blocks b y j).drive) (test_same c.blocks b y (λ w. is_some w.drive) (ap (λ (w : Block). is_some w.drive) e)) h.orders.ordered.drive;
          unclean = unclean;
        }
        ordered Drive y unclean e = record {
          host = lists_same c.host_order (λ j. is_some (c.blocks j).host) (λ j. is_some (put c.blocks b y j).host) (test_same c.blocks b y (λ w. is_some w.host) (ap (λ (w : Block). is_some w.host) e)) h.orders.ordered.host;
          drive = lists_without c.drive_order (λ j. is_some (c.blocks j).drive) (λ j. is_some (put c.blocks b y j).drive) b (test_here c.blocks b y (λ w. is_some w.drive) ∙ ap (λ (w : Block). is_some w.drive) e) (test_put c.blocks b y (λ w. is_some w.drive)) h.orders.ordered.drive;
          unclean = unclean;
        }

        fits : (at side : Side) → used at c.shape (by_side at (by_side side (without b c.host_order) c.host_order) (by_side side c.drive_order (without b c.drive_order))) c.calls ≤ by_side at c.shape.host_frames c.shape.drive_frames
        fits Host Host = let k = length-without b c.host_order in let o = h.frames.host in omega arith
        fits Host Drive = h.frames.host
        fits Drive Host = h.frames.drive
        fits Drive Drive = let k = length-without b c.drive_order in let o = h.frames.drive in omega arith

-- ---- Demote

abbrev pub moved : Block → Block
moved x = record x { host = None; drive = x.host }

pub moved_content : (x : Block) → x.drive ≡ None → content (moved x) ≡ content x
moved_content x none = grind arith

moved_copies : (x : Block) → HasCopies x → x.drive ≡ None → HasCopies (moved x)
moved_copies x h none =
    let same = moved_content x none in
    record { host = λ p e. absurd (cc); drive = λ p e. h.host p e ∙ sym same; lent = λ loan e. h.lent loan e ∙ sym same; whole = ap length same ∙ h.whole; flash = h.flash }

moved_unclean : (x : Block) → x.drive ≡ None → is_unclean (moved x) ≡ is_unclean x
moved_unclean x none = grind arith

pub none_is : {A : Type 0} (o : Option A) → not (is_some o) ≡ true → o ≡ None
none_is None e = refl
none_is (Some x) e = absurd (cc)

pub demote_keeps : (c : Core) (b : ℕ) → Coherent c → MayDemote c b → Coherent (demoted c b)
demote_keeps c b h may =
    let x = c.blocks b in
    let y = moved x in
    let has = listed_at c Host b (is_demotable c) h may.first in
    let parts = and_parts _ _ (found_passes (is_demotable c) c.host_order b may.first) in
    let idle = idle_of c.shape c.places c.calls b (λ l x e. (h.dies.in_turn l x e).0) (not_true _ parts.0) in
    let none = none_is x.drive parts.1 in
    idle_block_keeps c b y (without b c.host_order) (last b c.drive_order) c.unclean
    (record { content = moved_content x none; flash = refl; clean = refl; written = refl; version = refl }) refl
    (λ loan e. let n = h.lent.alone b loan e in record { host = refl; drive = n.host })
    (moved_copies x (h.copies b) none) (λ e away. let k = away.drive in let m = has in absurd (no_host x.host k m)) (has_at Host x has) idle
    (record {
      host = lists_without c.host_order (λ j. is_some (c.blocks j).host) (λ j. is_some (put c.blocks b y j).host) b (test_here c.blocks b y (λ w. is_some w.host)) (test_put c.blocks b y (λ w. is_some w.host)) h.orders.ordered.host;
      drive = lists_last c.drive_order (λ j. is_some (c.blocks j).drive) (λ j. is_some (put c.blocks b y j).drive) b (test_here c.blocks b y (λ w. is_some w.drive) ∙ has) (test_put c.blocks b y (λ w. is_some w.drive)) h.orders.ordered.drive;
      unclean = lists_same c.unclean (λ j. is_unclean (c.blocks j)) (λ j. is_unclean (put c.blocks b y j)) (test_same c.blocks b y is_unclean (moved_unclean x none)) h.orders.ordered.unclean;
    })
    (let k = length-without b c.host_order in let o = h.frames.host in omega arith)
    (let k = length-last b c.drive_order in let o = may.room in omega arith) h
  where
    no_host : (o : Option Page) → o ≡ None → is_some o ≡ true → ⊥
    no_host None e f = cc
    no_host (Some p) e f = cc
