-- Take: a page of the span of an exclusive call goes to the call.
use Rattle.std.proofs.Common.{◌≡◌, ℕ, ◌+◌, ◌<◌, ◌≤◌, Bool, true, false, List, Option, Some, None, refl, sym, ap, ◌∙◌, subst, ⊎_elim, arith}
use Rattle.std.specs.Prelude.{◌&&◌, not, is_some, if◌then◌else◌}
use Rattle.dispatcher.specs.declared.side.Side.{Side}
use Rattle.dispatcher.specs.declared.side.Side.TheVariants.{Host, Drive}
use Rattle.index_lists.specs.Words.{put, count, one_if, without}
use Rattle.index_lists.proofs.Counts.{length-without, without-absent}
use Rattle.index_lists.proofs.Puts.{put-other, put-each}
use Rattle.page_base.specs.Bytes.{zero_page}
use Rattle.core_lanes.specs.Changes.{page_or}
use mathlib.Core.Path.{fun_ext}
use Rattle.core_lanes.specs.Actor.{Actor}
use Rattle.core_lanes.specs.State.{Page, Loan, Block, Exclusive, Frame, NoFrame, Reserved, OnLoan, Flight, Core}
use Rattle.core_lanes.specs.Contents.{lent_page, copy_at, IsAway, IsBlank, content, contents, page_of, span_block, has_copy, is_unclean}
use Rattle.core_lanes.specs.Frames.{weight, is_side, used, HasFrame, HasFrameFor}
use Rattle.core_lanes.specs.Dies.{owner}
use Rattle.core_lanes.specs.Coherent.{Coherent}
use Rattle.core_lanes.specs.PageEvents.{with_gathered, lent_block, taken_from, taken_of, taken, HasPageOrNone, MayTake}
use Rattle.core_lanes.specs.Happens.{HoldsNone}
use Rattle.core_lanes.proofs.Words.{nothing, same_some, lists_without}
use Rattle.core_lanes.proofs.Calls.{loans_call, has_frames_call}
use Rattle.core_lanes.proofs.Blocks.{each_block, dies_put}
use Rattle.core_lanes.proofs.Gathering.{weight_at, used_framed, pages_more}
use Rattle.core_lanes.proofs.Outward.{not_lent}
use Rattle.core_lanes.proofs.Phases.{flight_is}
use Rattle.core_pages.proofs.Idle.{test_put, test_here}
use Rattle.core_pages.proofs.Gathering.{call_keeps, frame_at}
use Rattle.core_pages.proofs.Lending.{lend_keeps}

-- ---- a page that nobody has gives zeros

-- the frame at a place is what it was
put_back : (frame : ℕ → Frame) (i j : ℕ) → put frame i (frame i) j ≡ frame j
put_back frame i = put-each (λ (j : ℕ) (f : Frame). f ≡ frame j) frame i (frame i) refl (λ j d. refl)

-- the call alone gathers the page
pub blank_keeps : (c : Core) (actor : Actor) (lane i : ℕ) (call : Flight) (page : Page) → Coherent c → c.calls lane ≡ Some call → owner lane call.phase ≡ Some actor → i < call.claim.reach.pages → call.gathered i ≡ None → HoldsNone c actor →
    page ≡ page_of (contents c.blocks) (span_block c.places call.claim i) → Coherent (record c { calls = put c.calls lane (Some (with_gathered call i page (call.frame i))) })
blank_keeps c actor lane i call page h e owns within missing free is =
    let call2 = with_gathered call i page (call.frame i) in
    let same : (j : ℕ) → put call.frame i (call.frame i) j ≡ call.frame j = put_back call.frame i in
    call_keeps c lane actor call call2 e (record { claim = refl; phase = refl }) owns free
    (loans_call c.places c.calls c.blocks lane call call2 e refl
    (λ j l f. (same j ∙ f, put-other call.gathered i (Some page) j (λ s. let k = loan_gathered j l f in nothing (call.gathered i) k.0 missing (ap call.gathered (sym s) ∙ k.1))))
    (λ j l f. h.lent.loans lane call e j l (sym (same j) ∙ f)) h.lent)
    (let u = used_framed Host c.shape c.host_order c.calls lane call (put call.gathered i (Some page)) i (call.frame i) e (h.dies.in_turn lane call e).0 within in let o = h.frames.host in omega arith)
    (let u = used_framed Drive c.shape c.drive_order c.calls lane call (put call.gathered i (Some page)) i (call.frame i) e (h.dies.in_turn lane call e).0 within in let o = h.frames.drive in omega arith)
    (has_frames_call c.places c.calls c.blocks lane call2 (λ j l. subst (λ (f : Frame). HasFrameFor call.claim.reach.mode call.claim.side c.blocks (span_block c.places call.claim j) f) (sym (same j)) (h.frames.each lane call e j l)) h.frames.each)
    (pages_more (span_block c.places call.claim) (contents c.blocks) call.gathered call.claim.reach.pages i page is (h.gathered.pages_are lane call e)) h
  where
    -- what is on loan is gathered
    loan_gathered : (j : ℕ) → j < call.claim.reach.pages → call.frame j ≡ OnLoan → (p : Page) × (call.gathered j ≡ Some p)
    loan_gathered j l f =
        let o = h.lent.loans lane call e j l f in
        let t = h.lent.held o.b o.loan o.lent in
        let s : t.call ≡ call = same_some (c.calls lane) t.call call (ap c.calls (sym o.lane_is) ∙ t.flies) e in
        let place : t.call.claim.reach.first + t.i ≡ call.claim.reach.first + j = (h.placed.have.apart _ _ _ _ o.b t.block o.block).1 in
        let first : t.call.claim.reach.first ≡ call.claim.reach.first = ap (λ (w : Flight). w.claim.reach.first) s in
        let index : j ≡ t.i = omega arith in
        (o.loan.page, ap call.gathered index ∙ (ap (λ (w : Flight). w.gathered t.i) (sym s) ∙ t.gathered))

-- ---- a copy moves to the call

side_of : (a b : Side) → is_side a b ≡ true → a ≡ b
side_of Host Host e = refl
side_of Host Drive e = absurd (cc)
side_of Drive Host e = absurd (cc)
side_of Drive Drive e = refl

taken_copy : (c : Core) (actor : Actor) (lane i b : ℕ) (call : Flight) → Coherent c → HoldsNone c actor → c.calls lane ≡ Some call → owner lane call.phase ≡ Some actor → i < call.claim.reach.pages → call.gathered i ≡ None → call.claim.reach.mode ≡ Exclusive →
    span_block c.places call.claim i ≡ Some b → has_copy (c.blocks b) ≡ true → Coherent (taken_from c lane i call (Some b) true)
taken_copy c actor lane i b call h free e owns within missing mode at has =
    lend_keeps c lane i b actor call (content x) y (without b c.host_order) (without b c.drive_order) (without b c.unclean) h
    (record { flies = e; owns = owns; within = within; missing = missing; block = at; mode = mode; unlent = not_lent c lane i call b h e within missing at; free = free })
    (record { host = refl; drive = refl; lent = is_lent x has; holds = refl; flash = refl; clean = refl; written = refl; version = refl })
    fits_host fits_drive
    (record {
      host = lists_without c.host_order (λ j. is_some (c.blocks j).host) (λ j. is_some (put c.blocks b y j).host) b (test_here c.blocks b y (λ w. is_some w.host)) (test_put c.blocks b y (λ w. is_some w.host)) h.orders.ordered.host;
      drive = lists_without c.drive_order (λ j. is_some (c.blocks j).drive) (λ j. is_some (put c.blocks b y j).drive) b (test_here c.blocks b y (λ w. is_some w.drive)) (test_put c.blocks b y (λ w. is_some w.drive)) h.orders.ordered.drive;
      unclean = lists_without c.unclean (λ j. is_unclean (c.blocks j)) (λ j. is_unclean (put c.blocks b y j)) b (test_here c.blocks b y is_unclean ∙ never x.clean) (test_put c.blocks b y is_unclean) h.orders.ordered.unclean;
    })
    (dies_put c.shape c.places c.blocks c.lanes c.calls c.dies b y
    (record { content = ap (λ (o : Option Loan). page_or (lent_page o) (if x.written then x.flash else zero_page)) (is_lent x has); flash = refl; clean = refl; written = refl; version = refl })
    (λ away w. away_none x away has) h.dies)
  where
    x : Block
    x = c.blocks b

    y : Block
    y = lent_block lane x

    is_lent : (x : Block) → has_copy x ≡ true → (lent_block lane x).lent ≡ Some (record { lane = lane; page = content x })
    is_lent x has = ap (λ (t : Bool). if t then Some (record { lane = lane; page = content x }) else x.lent) has

    never : (t : Bool) → (not t && false) ≡ false
    never true = refl
    never false = refl

    away_none : (x : Block) → IsAway x → has_copy x ≡ true → ⊥
    away_none x a t = let k = a.host in let d = a.drive in grind arith

    g : HasFrame call.claim.reach.mode call.claim.side x (call.frame i)
    g = frame_at c lane i b call h e within at

    no_none : (o : Option Page) → is_some o ≡ false → is_some o ≡ true → ⊥
    no_none o f t = cc

    -- at the call's side its frame, or the copy that goes, makes room for the loan
    room : (frame : Frame) (t : Bool) → (frame ≡ NoFrame → t ≡ true) → weight OnLoan ≤ weight frame + one_if t
    room NoFrame true f = omega arith
    room NoFrame false f = let k = f refl in absurd (cc)
    room Reserved t f = omega arith
    room OnLoan t f = omega arith

    weights : (at : Side) (t : Bool) → is_side at call.claim.side ≡ t → weight_at at call OnLoan ≤ weight_at at call (call.frame i) + one_if (is_some (copy_at at x))
    weights at true s = rw s (room (call.frame i) (is_some (copy_at at x)) (λ n. subst (λ (k : Side). is_some (copy_at k x) ≡ true) (sym (side_of at call.claim.side s)) (g.exclusive mode n)))
    weights at false s = rw s (omega arith)

    fits_host : used Host c.shape (without b c.host_order) (put c.calls lane (Some (with_gathered call i (content x) OnLoan))) ≤ c.shape.host_frames
    fits_host =
        let u = used_framed Host c.shape c.host_order c.calls lane call (put call.gathered i (Some (content x))) i OnLoan e (h.dies.in_turn lane call e).0 within in
        let o = h.frames.host in
        let k = length-without b c.host_order in
        let n : count b c.host_order ≡ one_if (is_some x.host) = h.orders.ordered.host b in
        let w = weights Host (is_side Host call.claim.side) refl in
        omega arith

    fits_drive : used Drive c.shape (without b c.drive_order) (put c.calls lane (Some (with_gathered call i (content x) OnLoan))) ≤ c.shape.drive_frames
    fits_drive =
        let u = used_framed Drive c.shape c.drive_order c.calls lane call (put call.gathered i (Some (content x))) i OnLoan e (h.dies.in_turn lane call e).0 within in
        let o = h.frames.drive in
        let k = length-without b c.drive_order in
        let n : count b c.drive_order ≡ one_if (is_some x.drive) = h.orders.ordered.drive b in
        let w = weights Drive (is_side Drive call.claim.side) refl in
        omega arith

-- ---- Take

-- a block that is blank leaves the lists that it isn't in, and stays as it is
blank_same : (c : Core) (lane b : ℕ) → IsBlank (c.blocks b) → (j : ℕ) → put c.blocks b (lent_block lane (c.blocks b)) j ≡ c.blocks j
blank_same c lane b blank = each_block (λ (j : ℕ) (w : Block). w ≡ c.blocks j) c.blocks b (lent_block lane (c.blocks b)) (same (c.blocks b) blank.away.host blank.away.drive) (λ j. refl)
  where
    same : (x : Block) → x.host ≡ None → x.drive ≡ None → lent_block lane x ≡ x
    same x eh ed = grind arith

taken_blank : (c : Core) (actor : Actor) (lane i b : ℕ) (call : Flight) → Coherent c → HoldsNone c actor → c.calls lane ≡ Some call → owner lane call.phase ≡ Some actor → i < call.claim.reach.pages → call.gathered i ≡ None →
    span_block c.places call.claim i ≡ Some b → IsBlank (c.blocks b) → Coherent (taken_from c lane i call (Some b) false)
taken_blank c actor lane i b call h free e owns within missing at blank =
    let same : put c.blocks b (lent_block lane (c.blocks b)) ≡ c.blocks = fun_ext (blank_same c lane b blank) in
    let host : without b c.host_order ≡ c.host_order = without-absent b c.host_order (h.orders.ordered.host b ∙ ap (λ (o : Option Page). one_if (is_some o)) blank.away.host) in
    let drive : without b c.drive_order ≡ c.drive_order = without-absent b c.drive_order (h.orders.ordered.drive b ∙ ap (λ (o : Option Page). one_if (is_some o)) blank.away.drive) in
    let unclean : without b c.unclean ≡ c.unclean = without-absent b c.unclean (h.orders.ordered.unclean b ∙ ap one_if (clean_blank (c.blocks b) blank.clean)) in
    subst (λ (blocks : ℕ → Block). Coherent (record (taken_from c lane i call (Some b) false) { blocks = blocks })) (sym same)
    (subst (λ (xs : List ℕ). Coherent (record (taken_from c lane i call (Some b) false) { blocks = c.blocks; host_order = xs })) (sym host)
    (subst (λ (xs : List ℕ). Coherent (record (taken_from c lane i call (Some b) false) { blocks = c.blocks; host_order = c.host_order; drive_order = xs })) (sym drive)
    (subst (λ (xs : List ℕ). Coherent (record (taken_from c lane i call (Some b) false) { blocks = c.blocks; host_order = c.host_order; drive_order = c.drive_order; unclean = xs })) (sym unclean)
    (blank_keeps c actor lane i call (page_of (contents c.blocks) (Some b)) h e owns within missing free (ap (page_of (contents c.blocks)) (sym at))))))
  where
    clean_blank : (x : Block) → x.clean ≡ true → is_unclean x ≡ false
    clean_blank x e = grind arith

blank_has_none : (x : Block) → IsBlank x → has_copy x ≡ false
blank_has_none x blank = let k = blank.away.host in let d = blank.away.drive in grind arith

pub take_keeps : (c : Core) (actor : Actor) (lane i : ℕ) → Coherent c → HoldsNone c actor → MayTake c actor lane i → Coherent (taken c lane i)
take_keeps c actor lane i h free may =
    let call = may.call in
    let w = may.wants in
    subst (λ (f : Flight). Coherent (taken_of c lane i f (span_block c.places f.claim i))) (sym (flight_is c.calls lane call w.flies))
    (go (span_block c.places call.claim i) refl may.page)
  where
    go : (at : Option ℕ) → span_block c.places may.call.claim i ≡ at → HasPageOrNone c.blocks at → Coherent (taken_of c lane i may.call at)
    go None at page = blank_keeps c actor lane i may.call zero_page h may.wants.flies may.wants.owns may.wants.within may.wants.missing free (ap (page_of (contents c.blocks)) (sym at))
    go (Some b) at page = ⊎_elim
        (λ (has : has_copy (c.blocks b) ≡ true). subst (λ (t : Bool). Coherent (taken_from c lane i may.call (Some b) t)) (sym has)
        (taken_copy c actor lane i b may.call h free may.wants.flies may.wants.owns may.wants.within may.wants.missing may.mode at has))
        (λ (blank : IsBlank (c.blocks b)). subst (λ (t : Bool). Coherent (taken_from c lane i may.call (Some b) t)) (sym (blank_has_none (c.blocks b) blank))
        (taken_blank c actor lane i b may.call h free may.wants.flies may.wants.owns may.wants.within may.wants.missing at blank)) page
