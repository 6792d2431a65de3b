-- Copy: a page of the span of a shared call goes to the call.
use Rattle.std.proofs.Common.{◌≡◌, ℕ, ◌+◌, ◌<◌, ◌≤◌, Bool, true, false, List, length, Option, Some, None, refl, sym, ap, ◌∙◌, subst, ⊎_elim, arith}
use Rattle.std.specs.Prelude.{◌⊎◌, ◌&&◌, not, is_some, if◌then◌else◌}
use Rattle.dispatcher.specs.declared.side.Side.{Side}
use Rattle.dispatcher.specs.declared.side.Side.TheVariants.{Host, Drive}
use Rattle.core_lanes.specs.Paired.{by_side, other}
use Rattle.index_lists.specs.Words.{put, count, one_if, last}
use Rattle.index_lists.proofs.Counts.{length-last}
use Rattle.index_lists.proofs.Puts.{put-same, put-each}
use Rattle.core_lanes.specs.Actor.{Actor}
use Rattle.core_lanes.specs.Words.{or_else, Lists}
use Rattle.core_lanes.specs.State.{Page, Block, Mode, Shared, Exclusive, Frame, NoFrame, Reserved, OnLoan, Flight, Core}
use Rattle.core_lanes.specs.Contents.{copy_at, InNeitherCache, IsAway, IsBlank, content, contents, page_of, span_block, has_copy, is_unclean}
use Rattle.core_lanes.specs.Sound.{HasCopies, IsInHand}
use Rattle.core_lanes.specs.Frames.{weight, is_side, used, HasFrame, HasFrameFor}
use Rattle.core_lanes.specs.Dies.{owner}
use Rattle.core_lanes.specs.Coherent.{Coherent}
use Rattle.core_lanes.specs.PageEvents.{with_gathered, read_block, is_only_there, copied_from, copied_of, copied, HasPageAt, MayCopy}
use Rattle.core_lanes.specs.Happens.{HoldsNone}
use Rattle.core_lanes.proofs.Words.{same_some, lists_last, lists_same}
use Rattle.core_lanes.proofs.Calls.{loans_call}
use Rattle.core_lanes.proofs.Blocks.{lent_put, placed_not_free, dies_put}
use Rattle.core_lanes.proofs.Gathering.{weight_at, used_framed, has_frames_both, pages_more}
use Rattle.core_lanes.proofs.Phases.{flight_is}
use Rattle.core_pages.proofs.Idle.{test_put, test_here, test_same}
use Rattle.core_pages.proofs.Gathering.{gather_keeps, GainsCopies, gained, is_reserved, frame_at}

-- ---- the block after it is read at a side

pub read_content : (side : Side) (x : Block) → content (read_block side x) ≡ content x
read_content Host x = grind arith
read_content Drive x = grind arith

read_copies : (side : Side) (x : Block) → HasCopies x → HasCopies (read_block side x)
read_copies Host x h =
    let same = read_content Host x in
    record { host = λ p e. from_either x.host x.drive p (content x) h.host h.drive e ∙ sym same; drive = λ p e. h.drive p e ∙ sym same; lent = λ loan e. h.lent loan e ∙ sym same; whole = ap length same ∙ h.whole; flash = h.flash }
  where
    from_either : (o d : Option Page) (p k : Page) → ((q : Page) → o ≡ Some q → q ≡ k) → ((q : Page) → d ≡ Some q → q ≡ k) → or_else o d ≡ Some p → p ≡ k
    from_either None d p k f g e = g p e
    from_either (Some q) d p k f g e = f p e
read_copies Drive x h =
    let same = read_content Drive x in
    record { host = λ p e. h.host p e ∙ sym same; drive = λ p e. from_either x.drive x.host p (content x) h.drive h.host e ∙ sym same; lent = λ loan e. h.lent loan e ∙ sym same; whole = ap length same ∙ h.whole; flash = h.flash }
  where
    from_either : (o d : Option Page) (p k : Page) → ((q : Page) → o ≡ Some q → q ≡ k) → ((q : Page) → d ≡ Some q → q ≡ k) → or_else o d ≡ Some p → p ≡ k
    from_either None d p k f g e = g p e
    from_either (Some q) d p k f g e = f p e

read_hand : (side : Side) (x : Block) → IsInHand x → IsInHand (read_block side x)
read_hand Host x h e a = h e (record { host = none x.host x.drive a.host; drive = a.drive; lent = a.lent })
  where
    none : (o d : Option Page) → or_else o d ≡ None → o ≡ None
    none None d e = refl
    none (Some q) d e = absurd (cc)
read_hand Drive x h e a = h e (record { host = a.host; drive = none x.drive x.host a.drive; lent = a.lent })
  where
    none : (o d : Option Page) → or_else o d ≡ None → o ≡ None
    none None d e = refl
    none (Some q) d e = absurd (cc)

read_alone : (side : Side) (x : Block) → InNeitherCache x → InNeitherCache (read_block side x)
read_alone Host x n = record { host = ap (λ (o : Option Page). or_else o x.drive) n.host ∙ n.drive; drive = n.drive }
read_alone Drive x n = record { host = n.host; drive = ap (λ (o : Option Page). or_else o x.host) n.drive ∙ n.host }

read_gains : (side : Side) (x : Block) → GainsCopies x (read_block side x)
read_gains side x = record {
  more = λ at e. more side at e;
  blank = λ b. let n = read_alone side x (record { host = b.away.host; drive = b.away.drive }) in record { away = record { host = n.host; drive = n.drive; lent = b.away.lent }; clean = b.clean; written = b.written };
}
  where
    first : (o d : Option Page) → is_some o ≡ true → is_some (or_else o d) ≡ true
    first None d e = absurd (cc)
    first (Some q) d e = refl

    more : (side at : Side) → is_some (copy_at at x) ≡ true → is_some (copy_at at (read_block side x)) ≡ true
    more Host Host e = first x.host x.drive e
    more Host Drive e = e
    more Drive Host e = e
    more Drive Drive e = first x.drive x.host e

-- whether there is a copy at each side, before and after
some_or : (o d : Option Page) → is_some (or_else o d) ≡ (if is_some o then true else is_some d)
some_or None d = refl
some_or (Some q) d = refl

read_some : (side : Side) (x : Block) → is_some (copy_at side (read_block side x)) ≡ has_copy x
read_some Host x = some_or x.host x.drive
read_some Drive x = some_or x.drive x.host ∙ swap (is_some x.drive) (is_some x.host)
  where
    swap : (a b : Bool) → (if a then true else b) ≡ (if b then true else a)
    swap true true = refl
    swap true false = refl
    swap false true = refl
    swap false false = refl

read_other : (side : Side) (x : Block) → copy_at (other side) (read_block side x) ≡ copy_at (other side) x
read_other Host x = refl
read_other Drive x = refl

read_unclean : (side : Side) (x : Block) → is_unclean (read_block side x) ≡ is_unclean x
read_unclean Host x = ap (λ (t : Bool). not x.clean && t) (go x.host x.drive)
  where
    go : (o d : Option Page) → (if is_some (or_else o d) then true else is_some d) ≡ (if is_some o then true else is_some d)
    go None None = refl
    go None (Some q) = refl
    go (Some p) d = refl
read_unclean Drive x = ap (λ (t : Bool). not x.clean && t) (go x.host x.drive)
  where
    go : (o d : Option Page) → (if is_some o then true else is_some (or_else d o)) ≡ (if is_some o then true else is_some d)
    go None None = refl
    go None (Some q) = refl
    go (Some p) d = refl

-- ---- what the tests `had` and `there` tell: whether it has a copy, and whether only the other side has one

only_there : (side : Side) (x : Block) → is_only_there side x ≡ true → (copy_at side x ≡ None) × (is_some (copy_at (other side) x) ≡ true)
only_there side x e = go (copy_at side x) (copy_at (other side) x) e
  where
    go : (o d : Option Page) → (not (is_some o) && is_some d) ≡ true → (o ≡ None) × (is_some d ≡ true)
    go None d e = (refl, e)
    go (Some q) d e = absurd (cc)

here_too : (side : Side) (x : Block) → has_copy x ≡ true → is_only_there side x ≡ false → is_some (copy_at side x) ≡ true
here_too Host x h e = go x.host x.drive h e
  where
    go : (o d : Option Page) → (if is_some o then true else is_some d) ≡ true → (not (is_some o) && is_some d) ≡ false → is_some o ≡ true
    go None None h e = h
    go None (Some q) h e = absurd (cc)
    go (Some p) d h e = refl
here_too Drive x h e = go x.host x.drive h e
  where
    go : (o d : Option Page) → (if is_some o then true else is_some d) ≡ true → (not (is_some d) && is_some o) ≡ false → is_some d ≡ true
    go None None h e = h
    go None (Some q) h e = refl
    go (Some p) None h e = absurd (cc)
    go (Some p) (Some q) h e = refl

not_there : (side : Side) (x : Block) → has_copy x ≡ false → is_only_there side x ≡ false
not_there Host x h = go x.host x.drive h
  where
    go : (o d : Option Page) → (if is_some o then true else is_some d) ≡ false → (not (is_some o) && is_some d) ≡ false
    go None d e = e
    go (Some p) d e = refl
not_there Drive x h = go x.host x.drive h
  where
    go : (o d : Option Page) → (if is_some o then true else is_some d) ≡ false → (not (is_some d) && is_some o) ≡ false
    go None None e = refl
    go None (Some q) e = refl
    go (Some p) d e = absurd (cc)

-- ---- an order, where a block that is read goes last if a test says so

-- the list of what has a copy at a side, after the block is read there
order_here : (order : List ℕ) (blocks : ℕ → Block) (b : ℕ) (y : Block) (test : Block → Bool) (had : Bool) → test y ≡ had → (had ≡ false → test (blocks b) ≡ false) → Lists order (λ j. test (blocks j)) →
    Lists (if had then last b order else order) (λ j. test (put blocks b y j))
order_here order blocks b y test true has none h = lists_last order (λ j. test (blocks j)) (λ j. test (put blocks b y j)) b (test_here blocks b y test ∙ has) (test_put blocks b y test) h
order_here order blocks b y test false has none h = lists_same order (λ j. test (blocks j)) (λ j. test (put blocks b y j)) (test_same blocks b y test (has ∙ sym (none refl))) h

-- and at the other side, where nothing changes but the place in the order
order_there : (order : List ℕ) (blocks : ℕ → Block) (b : ℕ) (y : Block) (test : Block → Bool) (there : Bool) → test y ≡ test (blocks b) → (there ≡ true → test (blocks b) ≡ true) → Lists order (λ j. test (blocks j)) →
    Lists (if there then last b order else order) (λ j. test (put blocks b y j))
order_there order blocks b y test true same has h = lists_last order (λ j. test (blocks j)) (λ j. test (put blocks b y j)) b (test_here blocks b y test ∙ (same ∙ has refl)) (test_put blocks b y test) h
order_there order blocks b y test false same has h = lists_same order (λ j. test (blocks j)) (λ j. test (put blocks b y j)) (test_same blocks b y test same) h

-- how long an order is then
length_read : (order : List ℕ) (b : ℕ) (t u : Bool) → count b order ≡ one_if u → (t ≡ false → u ≡ false) → length (if t then last b order else order) + one_if u ≡ length order + one_if t
length_read order b true u n f = let k = length-last b order in omega arith
length_read order b false u n f = let k = ap one_if (f refl) in omega arith

length_same : (order : List ℕ) (b : ℕ) (t u : Bool) → count b order ≡ one_if u → (t ≡ true → u ≡ true) → length (if t then last b order else order) ≡ length order
length_same order b true u n f = let k = length-last b order in let o : one_if u ≡ 1 = ap one_if (f refl) in omega arith
length_same order b false u n f = refl

-- ---- Copy

copy_at_keeps : (c : Core) (actor : Actor) (lane i b : ℕ) (call : Flight) (had there : Bool) → Coherent c → HoldsNone c actor → c.calls lane ≡ Some call → owner lane call.phase ≡ Some actor → i < call.claim.reach.pages → call.gathered i ≡ None → call.claim.reach.mode ≡ Shared →
    span_block c.places call.claim i ≡ Some b → (has_copy (c.blocks b) ≡ true) ⊎ IsBlank (c.blocks b) → has_copy (c.blocks b) ≡ had → is_only_there call.claim.side (c.blocks b) ≡ there → Coherent (copied_from c lane i call (Some b) had there)
copy_at_keeps c actor lane i b call had there h free e owns within missing mode at ready is_had is_there =
    gather_keeps c lane b actor call call2 y _ _ c.unclean e (record { claim = refl; phase = refl }) owns free
    (record { content = read_content side x; flash = refl; clean = refl; written = refl; version = refl })
    (read_copies side x (h.copies b)) (read_hand side x (h.unclean b))
    (placed_not_free c.places call.claim.file (call.claim.reach.first + i) b at)
    (lent_put c.places (put c.calls lane (Some call2)) c.blocks b y refl (λ loan l. read_alone side x (h.lent.alone b loan l))
    (loans_call c.places c.calls c.blocks lane call call2 e refl
    (λ j l f. absurd (no_loan j l f))
    (λ j l f. absurd (no_new j l f)) h.lent))
    (fits_host side refl) (fits_drive side refl)
    (has_frames_both c.places c.calls (put c.blocks b y) lane call2
    (put-each (λ (j : ℕ) (f : Frame). j < call.claim.reach.pages → HasFrameFor call.claim.reach.mode call.claim.side (put c.blocks b y) (span_block c.places call.claim j) f) call.frame i frame
    (λ l. new_frame there is_there l) (λ j d l. mono lane call e j l))
    (λ l z d f. mono l z f))
    (record { host = host_listed side refl; drive = drive_listed side refl; unclean = lists_same c.unclean (λ j. is_unclean (c.blocks j)) (λ j. is_unclean (put c.blocks b y j)) (test_same c.blocks b y is_unclean (read_unclean side x)) h.orders.ordered.unclean })
    (dies_put c.shape c.places c.blocks c.lanes c.calls c.dies b y (record { content = read_content side x; flash = refl; clean = refl; written = refl; version = refl }) (λ away w. unready away w) h.dies)
    (pages_more (span_block c.places call.claim) (contents c.blocks) call.gathered call.claim.reach.pages i (contents c.blocks b) (ap (page_of (contents c.blocks)) (sym at)) (h.gathered.pages_are lane call e)) h
  where
    side : Side
    side = call.claim.side

    x : Block
    x = c.blocks b

    y : Block
    y = read_block side x

    frame : Frame
    frame = if there then NoFrame else call.frame i

    call2 : Flight
    call2 = with_gathered call i (contents c.blocks b) frame

    mono : (l : ℕ) (z : Flight) → c.calls l ≡ Some z → (j : ℕ) → j < z.claim.reach.pages → HasFrameFor z.claim.reach.mode z.claim.side (put c.blocks b y) (span_block c.places z.claim j) (z.frame j)
    mono = gained c b y (read_gains side x) h

    not_both : (m : Mode) → m ≡ Shared → m ≡ Exclusive → ⊥
    not_both m e f = cc

    -- a shared call has no loan
    no_loan : (j : ℕ) → j < call.claim.reach.pages → call.frame j ≡ OnLoan → ⊥
    no_loan j l f =
        let o = h.lent.loans lane call e j l f in
        let t = h.lent.held o.b o.loan o.lent in
        let s : t.call ≡ call = same_some (c.calls lane) t.call call (ap c.calls (sym o.lane_is) ∙ t.flies) e in
        not_both call.claim.reach.mode mode (ap (λ (w : Flight). w.claim.reach.mode) (sym s) ∙ t.mode)

    no_new : (j : ℕ) → j < call.claim.reach.pages → put call.frame i frame j ≡ OnLoan → ⊥
    no_new = put-each (λ (j : ℕ) (f : Frame). j < call.claim.reach.pages → f ≡ OnLoan → ⊥) call.frame i frame (λ l f. given there f) (λ j d l f. no_loan j l f)
      where
        given : (t : Bool) → (if t then NoFrame else call.frame i) ≡ OnLoan → ⊥
        given true f = cc
        given false f = no_loan i within f

    -- a block that is away and written isn't ready
    unready : IsAway x → x.written ≡ true → ⊥
    unready away w = ⊎_elim (λ (t : has_copy x ≡ true). copied_away x.host x.drive away.host away.drive t) (λ (k : IsBlank x). let u = k.written in absurd (cc)) ready
      where
        copied_away : (o d : Option Page) → o ≡ None → d ≡ None → (if is_some o then true else is_some d) ≡ true → ⊥
        copied_away None None a b t = cc
        copied_away None (Some q) a b t = cc
        copied_away (Some p) d a b t = cc

    new_frame : (t : Bool) → is_only_there side x ≡ t → i < call.claim.reach.pages → HasFrameFor call.claim.reach.mode call.claim.side (put c.blocks b y) (span_block c.places call.claim i) (if t then NoFrame else call.frame i)
    new_frame false k l = mono lane call e i l
    new_frame true k l = subst (λ (o : Option ℕ). HasFrameFor call.claim.reach.mode call.claim.side (put c.blocks b y) o NoFrame) (sym at)
        (subst (λ (w : Block). HasFrame call.claim.reach.mode call.claim.side w NoFrame) (sym (put-same c.blocks b y))
        (record { exclusive = λ m n. absurd (not_both call.claim.reach.mode mode m); shared = λ m n none. absurd (some_none (copy_at side y) none (read_some side x ∙ there_has side x k)) }))
      where
        some_none : (o : Option Page) → o ≡ None → is_some o ≡ true → ⊥
        some_none None e f = cc
        some_none (Some p) e f = cc

        there_has : (side : Side) (x : Block) → is_only_there side x ≡ true → has_copy x ≡ true
        there_has Host x k = let p = only_there Host x k in grind arith
        there_has Drive x k = let p = only_there Drive x k in grind arith

    -- ---- orders

    none_at : (s : Side) → had ≡ false → is_some (copy_at s x) ≡ false
    none_at Host t = none_host x.host x.drive (is_had ∙ t)
      where
        none_host : (o d : Option Page) → (if is_some o then true else is_some d) ≡ false → is_some o ≡ false
        none_host None d e = refl
        none_host (Some p) d e = absurd (cc)
    none_at Drive t = none_drive x.host x.drive (is_had ∙ t)
      where
        none_drive : (o d : Option Page) → (if is_some o then true else is_some d) ≡ false → is_some d ≡ false
        none_drive None d e = e
        none_drive (Some p) d e = absurd (cc)

    host_listed : (s : Side) → side ≡ s → Lists (if by_side s had there then last b c.host_order else c.host_order) (λ j. is_some (put c.blocks b y j).host)
    host_listed Host q = order_here c.host_order c.blocks b y (λ w. is_some w.host) had (host_has ∙ is_had) (none_at Host) h.orders.ordered.host
      where
        host_has : is_some y.host ≡ has_copy x
        host_has = subst (λ (s : Side). is_some (copy_at s (read_block side x)) ≡ has_copy x) q (read_some side x)
    host_listed Drive q = order_there c.host_order c.blocks b y (λ w. is_some w.host) there same (λ t. subst (λ (s : Side). is_some (copy_at (other s) x) ≡ true) q (only_there side x (is_there ∙ t)).1) h.orders.ordered.host
      where
        same : is_some y.host ≡ is_some x.host
        same = subst (λ (s : Side). is_some (copy_at (other s) (read_block side x)) ≡ is_some (copy_at (other s) x)) q (ap is_some (read_other side x))

    drive_listed : (s : Side) → side ≡ s → Lists (if by_side s there had then last b c.drive_order else c.drive_order) (λ j. is_some (put c.blocks b y j).drive)
    drive_listed Drive q = order_here c.drive_order c.blocks b y (λ w. is_some w.drive) had (drive_has ∙ is_had) (none_at Drive) h.orders.ordered.drive
      where
        drive_has : is_some y.drive ≡ has_copy x
        drive_has = subst (λ (s : Side). is_some (copy_at s (read_block side x)) ≡ has_copy x) q (read_some side x)
    drive_listed Host q = order_there c.drive_order c.blocks b y (λ w. is_some w.drive) there same (λ t. subst (λ (s : Side). is_some (copy_at (other s) x) ≡ true) q (only_there side x (is_there ∙ t)).1) h.orders.ordered.drive
      where
        same : is_some y.drive ≡ is_some x.drive
        same = subst (λ (s : Side). is_some (copy_at (other s) (read_block side x)) ≡ is_some (copy_at (other s) x)) q (ap is_some (read_other side x))

    -- ---- frames

    most_one : (t : Bool) → one_if t ≤ 1
    most_one true = omega arith
    most_one false = omega arith

    -- where only the other side has a copy, a frame was reserved
    reserved : is_only_there side x ≡ true → call.frame i ≡ Reserved
    reserved k =
        let p = only_there side x k in
        is_reserved side x (call.frame i) (subst (λ (m : Mode). HasFrame m side x (call.frame i)) mode (frame_at c lane i b call h e within at)) p.0
        (λ blank. some_none (copy_at (other side) x) (away_other side x blank.away) p.1)
      where
        some_none : (o : Option Page) → o ≡ None → is_some o ≡ true → ⊥
        some_none None e f = cc
        some_none (Some p) e f = cc

        away_other : (side : Side) (x : Block) → IsAway x → copy_at (other side) x ≡ None
        away_other Host x a = a.drive
        away_other Drive x a = a.host

    room : (hd th : Bool) → has_copy x ≡ hd → is_only_there side x ≡ th → one_if hd + weight (if th then NoFrame else call.frame i) ≤ one_if (is_some (copy_at side x)) + weight (call.frame i)
    room hd true f k = let w : weight (call.frame i) ≡ 1 = ap weight (reserved k) in let m = most_one hd in omega arith
    room true false f k = let s : one_if (is_some (copy_at side x)) ≡ 1 = ap one_if (here_too side x f k) in omega arith
    room false false f k = omega arith

    fits_host : (s : Side) → side ≡ s → used Host c.shape (if by_side s had there then last b c.host_order else c.host_order) (put c.calls lane (Some call2)) ≤ c.shape.host_frames
    fits_host Host q =
        let u = used_framed Host c.shape c.host_order c.calls lane call (put call.gathered i (Some (contents c.blocks b))) i frame e (h.dies.in_turn lane call e).0 within in
        let w : weight_at Host call (call.frame i) ≡ weight (call.frame i) = ap (λ (k : Side). if is_side Host k then weight (call.frame i) else 0) q in
        let v : weight_at Host call frame ≡ weight frame = ap (λ (k : Side). if is_side Host k then weight frame else 0) q in
        let k = length_read c.host_order b had (is_some x.host) (h.orders.ordered.host b) (none_at Host) in
        let r : one_if had + weight frame ≤ one_if (is_some x.host) + weight (call.frame i) = subst (λ (s : Side). one_if had + weight frame ≤ one_if (is_some (copy_at s x)) + weight (call.frame i)) q (room had there is_had is_there) in
        let o = h.frames.host in
        omega arith
    fits_host Drive q =
        let u = used_framed Host c.shape c.host_order c.calls lane call (put call.gathered i (Some (contents c.blocks b))) i frame e (h.dies.in_turn lane call e).0 within in
        let w : weight_at Host call (call.frame i) ≡ 0 = ap (λ (k : Side). if is_side Host k then weight (call.frame i) else 0) q in
        let v : weight_at Host call frame ≡ 0 = ap (λ (k : Side). if is_side Host k then weight frame else 0) q in
        let k = length_same c.host_order b there (is_some x.host) (h.orders.ordered.host b) (λ t. subst (λ (s : Side). is_some (copy_at (other s) x) ≡ true) q (only_there side x (is_there ∙ t)).1) in
        let o = h.frames.host in
        omega arith

    fits_drive : (s : Side) → side ≡ s → used Drive c.shape (if by_side s there had then last b c.drive_order else c.drive_order) (put c.calls lane (Some call2)) ≤ c.shape.drive_frames
    fits_drive Drive q =
        let u = used_framed Drive c.shape c.drive_order c.calls lane call (put call.gathered i (Some (contents c.blocks b))) i frame e (h.dies.in_turn lane call e).0 within in
        let w : weight_at Drive call (call.frame i) ≡ weight (call.frame i) = ap (λ (k : Side). if is_side Drive k then weight (call.frame i) else 0) q in
        let v : weight_at Drive call frame ≡ weight frame = ap (λ (k : Side). if is_side Drive k then weight frame else 0) q in
        let k = length_read c.drive_order b had (is_some x.drive) (h.orders.ordered.drive b) (none_at Drive) in
        let r : one_if had + weight frame ≤ one_if (is_some x.drive) + weight (call.frame i) = subst (λ (s : Side). one_if had + weight frame ≤ one_if (is_some (copy_at s x)) + weight (call.frame i)) q (room had there is_had is_there) in
        let o = h.frames.drive in
        omega arith
    fits_drive Host q =
        let u = used_framed Drive c.shape c.drive_order c.calls lane call (put call.gathered i (Some (contents c.blocks b))) i frame e (h.dies.in_turn lane call e).0 within in
        let w : weight_at Drive call (call.frame i) ≡ 0 = ap (λ (k : Side). if is_side Drive k then weight (call.frame i) else 0) q in
        let v : weight_at Drive call frame ≡ 0 = ap (λ (k : Side). if is_side Drive k then weight frame else 0) q in
        let k = length_same c.drive_order b there (is_some x.drive) (h.orders.ordered.drive b) (λ t. subst (λ (s : Side). is_some (copy_at (other s) x) ≡ true) q (only_there side x (is_there ∙ t)).1) in
        let o = h.frames.drive in
        omega arith

pub copy_keeps : (c : Core) (actor : Actor) (lane i : ℕ) → Coherent c → HoldsNone c actor → MayCopy c actor lane i → Coherent (copied c lane i)
copy_keeps c actor lane i h free may =
    let call = may.call in
    let w = may.wants in
    subst (λ (f : Flight). Coherent (copied_of c lane i f (span_block c.places f.claim i))) (sym (flight_is c.calls lane call w.flies))
    (go (span_block c.places call.claim i) refl may.page)
  where
    go : (at : Option ℕ) → span_block c.places may.call.claim i ≡ at → HasPageAt c.blocks at → Coherent (copied_of c lane i may.call at)
    go None at page = absurd page
    go (Some b) at page = copy_at_keeps c actor lane i b may.call (has_copy (c.blocks b)) (is_only_there may.call.claim.side (c.blocks b)) h free may.wants.flies may.wants.owns may.wants.within may.wants.missing may.mode at page refl refl
