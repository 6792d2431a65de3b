-- FillIn: a die comes home from the read of a block's page.
use Rattle.std.proofs.Common.{◌≡◌, ℕ, ◌+◌, ◌<◌, ◌≤◌, Bool, true, false, List, length, Option, Some, None, refl, sym, ap, ◌∙◌, subst, ⊎_elim, arith}
use Rattle.std.specs.Prelude.{◌≢◌, not, is_some, if◌then◌else◌}
use Rattle.dispatcher.specs.declared.side.Side.{Side}
use Rattle.dispatcher.specs.declared.side.Side.TheVariants.{Host, Drive}
use Rattle.core_lanes.specs.Paired.{by_side}
use Rattle.index_lists.specs.Words.{put, last}
use Rattle.index_lists.proofs.Counts.{same_or_not, length-last}
use Rattle.index_lists.proofs.Puts.{put-same, put-other, put-each}
use Rattle.core_lanes.specs.Actor.{Actor}
use Rattle.core_lanes.specs.State.{Page, Block, Mode, Shared, Exclusive, Frame, NoFrame, Reserved, OnLoan, Queued, Flight, ToFill, Out, DieState, Core}
use Rattle.core_lanes.specs.Contents.{copy_at, with_copy, IsAway, IsBlank, content, span_block, is_unclean, die_of}
use Rattle.core_lanes.specs.Reach.{by_mode}
use Rattle.core_lanes.specs.Sound.{HasCopies}
use Rattle.core_lanes.specs.Frames.{weight, is_side, used, HasFrame, HasFrameFor, AreOrdered}
use Rattle.core_lanes.specs.Dies.{owner, IsFill}
use Rattle.core_lanes.specs.Coherent.{Coherent}
use Rattle.core_lanes.specs.PageEvents.{last_at, with_gathered}
use Rattle.core_lanes.specs.DieEvents.{home_filled, marked_if, filled_of, filled_by, filled, MayFillIn}
use Rattle.core_lanes.proofs.Words.{nothing, same_some, lists_last, lists_same}
use Rattle.core_lanes.proofs.Calls.{loans_call}
use Rattle.core_lanes.proofs.Dies.{home_free}
use Rattle.core_lanes.proofs.Blocks.{lent_put, placed_not_free}
use Rattle.core_lanes.proofs.Gathering.{weight_at, used_framed, has_frames_both, dies_at_home}
use Rattle.core_lanes.proofs.Metas.{home_keeps, marked_keeps}
use Rattle.core_lanes.proofs.Phases.{flight_is}
use Rattle.core_pages.proofs.Idle.{test_put, test_here, test_same}
use Rattle.core_pages.proofs.Lending.{lend_keeps}
use Rattle.core_pages.proofs.Gathering.{owned_waits, gather_keeps, GainsCopies, gained, is_reserved, frame_at}

-- a page that a die read: of the core after the die came home, the call, the place in its span, and the block
record IsRead (c : Core) (lane i b : ℕ) (actor : Actor) (call : Flight) : Type 0 where
  flies : c.calls lane ≡ Some call
  owns : owner lane call.phase ≡ Some actor
  within : i < call.claim.reach.pages
  missing : call.gathered i ≡ None
  block : span_block c.places call.claim i ≡ Some b
  written : (c.blocks b).written ≡ true
  clean : (c.blocks b).clean ≡ true
  away : IsAway (c.blocks b)
  free : (die : ℕ) (out : Out) → (c.dies die).out ≡ Some out → out.holder ≢ actor
  home : (c.dies (die_of c.shape b)).out ≡ None

pub read_content : (x : Block) → IsAway x → x.written ≡ true → content x ≡ x.flash
read_content x a w = let h = a.host in let d = a.drive in let l = a.lent in grind arith

-- ---- a shared call: the page is put in at its side

abbrev pub put_in : Side → Block → Block
put_in side x = with_copy side (Some x.flash) x

pub put_in_content : (side : Side) (x : Block) → IsAway x → x.written ≡ true → content (put_in side x) ≡ content x
put_in_content Host x a w = let h = a.host in let d = a.drive in let l = a.lent in grind arith
put_in_content Drive x a w = let h = a.host in let d = a.drive in let l = a.lent in grind arith

put_in_copies : (side : Side) (x : Block) → IsAway x → x.written ≡ true → HasCopies x → HasCopies (put_in side x)
put_in_copies Host x a w h =
    let same = put_in_content Host x a w in
    let k = read_content x a w in
    record { host = λ p e. sym (same_some _ _ _ refl e) ∙ (sym k ∙ sym same); drive = λ p e. absurd (nothing x.drive p a.drive e); lent = λ loan e. absurd (nothing x.lent loan a.lent e); whole = ap length same ∙ h.whole; flash = h.flash }
put_in_copies Drive x a w h =
    let same = put_in_content Drive x a w in
    let k = read_content x a w in
    record { host = λ p e. absurd (nothing x.host p a.host e); drive = λ p e. sym (same_some _ _ _ refl e) ∙ (sym k ∙ sym same); lent = λ loan e. absurd (nothing x.lent loan a.lent e); whole = ap length same ∙ h.whole; flash = h.flash }

put_in_gains : (side : Side) (x : Block) → x.written ≡ true → GainsCopies x (put_in side x)
put_in_gains side x w = record { more = λ at e. more side at e; blank = λ b. let f = b.written in absurd (cc) }
  where
    more : (side at : Side) → is_some (copy_at at x) ≡ true → is_some (copy_at at (put_in side x)) ≡ true
    more Host Host e = refl
    more Host Drive e = e
    more Drive Host e = e
    more Drive Drive e = refl

has_put_in : (side : Side) (x : Block) → copy_at side (put_in side x) ≢ None
has_put_in Host x e = cc
has_put_in Drive x e = cc

unclean_none : (x y : Block) → x.clean ≡ true → y.clean ≡ x.clean → is_unclean y ≡ is_unclean x
unclean_none x y c same = grind arith

no_blank : (x : Block) → x.written ≡ true → IsBlank x → ⊥
no_blank x w b = let f = b.written in cc

away_at : (side : Side) (x : Block) → IsAway x → copy_at side x ≡ None
away_at Host x a = a.host
away_at Drive x a = a.drive

-- the call with its frame given up
abbrev yielding : Flight → ℕ → Flight
yielding call i = record call { frame = put call.frame i NoFrame }

shared_keeps : (c : Core) (lane i b : ℕ) (actor : Actor) (call : Flight) → Coherent c → IsRead c lane i b actor call → call.claim.reach.mode ≡ Shared → (side : Side) → call.claim.side ≡ side →
    Coherent (record c {
      calls = put c.calls lane (Some (yielding call i));
      blocks = put c.blocks b (put_in side (c.blocks b));
      host_order = by_side side (last b c.host_order) c.host_order;
      drive_order = by_side side c.drive_order (last b c.drive_order);
    })
shared_keeps c lane i b actor call h r shared side side_is =
    let x = c.blocks b in
    let y = put_in side x in
    let e = r.flies in
    let call2 = yielding call i in
    let same = put_in_content side x r.away r.written in
    let mono = gained c b y (put_in_gains side x r.written) h in
    let g = frame_at c lane i b call h e r.within r.block in
    let reserved : call.frame i ≡ Reserved = is_reserved call.claim.side x (call.frame i) (subst (λ (m : Mode). HasFrame m call.claim.side x (call.frame i)) shared g) (away_at call.claim.side x r.away) (no_blank x r.written) in
    gather_keeps c lane b actor call call2 y _ _ c.unclean e (record { claim = refl; phase = refl }) r.owns r.free
    (record { content = same; flash = refl; clean = refl; written = refl; version = refl })
    (put_in_copies side x r.away r.written (h.copies b)) (λ f. let t = r.clean in absurd (cc))
    (placed_not_free c.places call.claim.file (call.claim.reach.first + i) b r.block)
    (lent_put c.places (put c.calls lane (Some call2)) c.blocks b y refl (λ loan l. absurd (nothing x.lent loan r.away.lent l))
    (loans_call c.places c.calls c.blocks lane call call2 e refl
    (λ j l f. ⊎_elim (λ (s : j ≡ i). absurd (not_lent (call.frame i) reserved (ap call.frame (sym s) ∙ f))) (λ (d : j ≢ i). (put-other call.frame i NoFrame j d ∙ f, refl)) (same_or_not j i))
    (λ j l f. ⊎_elim (λ (s : j ≡ i). absurd (no_frame (sym (ap (put call.frame i NoFrame) s ∙ put-same call.frame i NoFrame) ∙ f))) (λ (d : j ≢ i). h.lent.loans lane call e j l (sym (put-other call.frame i NoFrame j d) ∙ f)) (same_or_not j i))
    h.lent))
    (fits Host side side_is reserved) (fits Drive side side_is reserved)
    (has_frames_both c.places c.calls (put c.blocks b y) lane call2
    (put-each (λ (j : ℕ) (f : Frame). j < call.claim.reach.pages → HasFrameFor call.claim.reach.mode call.claim.side (put c.blocks b y) (span_block c.places call.claim j) f) call.frame i NoFrame
    (λ l. subst (λ (o : Option ℕ). HasFrameFor call.claim.reach.mode call.claim.side (put c.blocks b y) o NoFrame) (sym r.block)
    (subst (λ (w : Block). HasFrame call.claim.reach.mode call.claim.side w NoFrame) (sym (put-same c.blocks b y))
    (record { exclusive = λ m n. absurd (not_both call.claim.reach.mode shared m); shared = λ m n none. absurd (has_put_in side x (subst (λ (s : Side). copy_at s y ≡ None) side_is none)) })))
    (λ j d l. mono lane call e j l))
    (λ l x d f. mono l x f))
    (ordered side)
    (dies_at_home c.shape c.places c.blocks c.lanes c.calls c.dies b y r.home h.dies)
    (h.gathered.pages_are lane call e) h
  where
    not_lent : (f : Frame) → f ≡ Reserved → f ≡ OnLoan → ⊥
    not_lent f a b = cc

    no_frame : NoFrame ≡ OnLoan → ⊥
    no_frame e = cc

    not_both : (m : Mode) → m ≡ Shared → m ≡ Exclusive → ⊥
    not_both m e f = cc

    fits : (at side : Side) → call.claim.side ≡ side → call.frame i ≡ Reserved → used at c.shape (by_side at (by_side side (last b c.host_order) c.host_order) (by_side side c.drive_order (last b c.drive_order))) (put c.calls lane (Some (yielding call i))) ≤ by_side at c.shape.host_frames c.shape.drive_frames
    fits Host Host s f =
        let u = used_framed Host c.shape c.host_order c.calls lane call call.gathered i NoFrame r.flies (h.dies.in_turn lane call r.flies).0 r.within in
        let w : weight_at Host call (call.frame i) ≡ 1 = ap (λ (k : Side). if is_side Host k then weight (call.frame i) else 0) s ∙ ap weight f in
        let v : weight_at Host call NoFrame ≡ 0 = ap (λ (k : Side). if is_side Host k then weight NoFrame else 0) s in
        let k = length-last b c.host_order in
        let o = h.frames.host in
        omega arith
    fits Host Drive s f =
        let u = used_framed Host c.shape c.host_order c.calls lane call call.gathered i NoFrame r.flies (h.dies.in_turn lane call r.flies).0 r.within in
        let w : weight_at Host call (call.frame i) ≡ 0 = ap (λ (k : Side). if is_side Host k then weight (call.frame i) else 0) s in
        let v : weight_at Host call NoFrame ≡ 0 = ap (λ (k : Side). if is_side Host k then weight NoFrame else 0) s in
        let o = h.frames.host in
        omega arith
    fits Drive Host s f =
        let u = used_framed Drive c.shape c.drive_order c.calls lane call call.gathered i NoFrame r.flies (h.dies.in_turn lane call r.flies).0 r.within in
        let w : weight_at Drive call (call.frame i) ≡ 0 = ap (λ (k : Side). if is_side Drive k then weight (call.frame i) else 0) s in
        let v : weight_at Drive call NoFrame ≡ 0 = ap (λ (k : Side). if is_side Drive k then weight NoFrame else 0) s in
        let o = h.frames.drive in
        omega arith
    fits Drive Drive s f =
        let u = used_framed Drive c.shape c.drive_order c.calls lane call call.gathered i NoFrame r.flies (h.dies.in_turn lane call r.flies).0 r.within in
        let w : weight_at Drive call (call.frame i) ≡ 1 = ap (λ (k : Side). if is_side Drive k then weight (call.frame i) else 0) s ∙ ap weight f in
        let v : weight_at Drive call NoFrame ≡ 0 = ap (λ (k : Side). if is_side Drive k then weight NoFrame else 0) s in
        let k = length-last b c.drive_order in
        let o = h.frames.drive in
        omega arith

    ordered : (side : Side) → AreOrdered (put c.blocks b (put_in side (c.blocks b))) (by_side side (last b c.host_order) c.host_order) (by_side side c.drive_order (last b c.drive_order)) c.unclean
    ordered Host =
        let y = put_in Host (c.blocks b) in
        record {
          host = lists_last c.host_order (λ j. is_some (c.blocks j).host) (λ j. is_some (put c.blocks b y j).host) b (test_here c.blocks b y (λ w. is_some w.host)) (test_put c.blocks b y (λ w. is_some w.host)) h.orders.ordered.host;
          drive = lists_same c.drive_order (λ j. is_some (c.blocks j).drive) (λ j. is_some (put c.blocks b y j).drive) (test_same c.blocks b y (λ w. is_some w.drive) refl) h.orders.ordered.drive;
          unclean = lists_same c.unclean (λ j. is_unclean (c.blocks j)) (λ j. is_unclean (put c.blocks b y j)) (test_same c.blocks b y is_unclean (unclean_none (c.blocks b) y r.clean refl)) h.orders.ordered.unclean;
        }
    ordered Drive =
        let y = put_in Drive (c.blocks b) in
        record {
          host = lists_same c.host_order (λ j. is_some (c.blocks j).host) (λ j. is_some (put c.blocks b y j).host) (test_same c.blocks b y (λ w. is_some w.host) refl) h.orders.ordered.host;
          drive = lists_last c.drive_order (λ j. is_some (c.blocks j).drive) (λ j. is_some (put c.blocks b y j).drive) b (test_here c.blocks b y (λ w. is_some w.drive)) (test_put c.blocks b y (λ w. is_some w.drive)) h.orders.ordered.drive;
          unclean = lists_same c.unclean (λ j. is_unclean (c.blocks j)) (λ j. is_unclean (put c.blocks b y j)) (test_same c.blocks b y is_unclean (unclean_none (c.blocks b) y r.clean refl)) h.orders.ordered.unclean;
        }

-- ---- an exclusive call: the page is lent

-- the call with the page, and the block
abbrev lending : Flight → ℕ → Page → Flight
lending call i page = with_gathered call i page OnLoan

exclusive_keeps : (c : Core) (lane i b : ℕ) (actor : Actor) (call : Flight) → Coherent c → IsRead c lane i b actor call → call.claim.reach.mode ≡ Exclusive →
    Coherent (record c {
      calls = put c.calls lane (Some (lending call i (c.blocks b).flash));
      blocks = put c.blocks b (record (c.blocks b) { lent = Some (record { lane = lane; page = (c.blocks b).flash }) });
    })
exclusive_keeps c lane i b actor call h r mode =
    let x = c.blocks b in
    let y = record x { lent = Some (record { lane = lane; page = x.flash }) } in
    lend_keeps c lane i b actor call x.flash y c.host_order c.drive_order c.unclean h
    (record { flies = r.flies; owns = r.owns; within = r.within; missing = r.missing; block = r.block; mode = mode; unlent = r.away.lent; free = r.free })
    (record { host = r.away.host; drive = r.away.drive; lent = refl; holds = sym (read_content x r.away r.written); flash = refl; clean = refl; written = refl; version = refl })
    (let u = used_framed Host c.shape c.host_order c.calls lane call (put call.gathered i (Some x.flash)) i OnLoan r.flies (h.dies.in_turn lane call r.flies).0 r.within in
    let w = lent_weight Host call (call.frame i) reserved in
    let o = h.frames.host in
    omega arith)
    (let u = used_framed Drive c.shape c.drive_order c.calls lane call (put call.gathered i (Some x.flash)) i OnLoan r.flies (h.dies.in_turn lane call r.flies).0 r.within in
    let w = lent_weight Drive call (call.frame i) reserved in
    let o = h.frames.drive in
    omega arith)
    (record {
      host = lists_same c.host_order (λ j. is_some (c.blocks j).host) (λ j. is_some (put c.blocks b y j).host) (test_same c.blocks b y (λ w. is_some w.host) refl) h.orders.ordered.host;
      drive = lists_same c.drive_order (λ j. is_some (c.blocks j).drive) (λ j. is_some (put c.blocks b y j).drive) (test_same c.blocks b y (λ w. is_some w.drive) refl) h.orders.ordered.drive;
      unclean = lists_same c.unclean (λ j. is_unclean (c.blocks j)) (λ j. is_unclean (put c.blocks b y j)) (test_same c.blocks b y is_unclean refl) h.orders.ordered.unclean;
    })
    (dies_at_home c.shape c.places c.blocks c.lanes c.calls c.dies b y r.home h.dies)
  where
    some_none : (o : Option Page) → is_some o ≡ true → o ≡ None → ⊥
    some_none None e f = cc
    some_none (Some p) e f = cc

    -- without a copy there, it had a frame
    reserved : call.frame i ≢ NoFrame
    reserved n =
        let g = frame_at c lane i b call h r.flies r.within r.block in
        some_none (copy_at call.claim.side (c.blocks b)) (g.exclusive mode n) (away_at call.claim.side (c.blocks b) r.away)

    lent_weight : (at : Side) (call : Flight) (frame : Frame) → frame ≢ NoFrame → weight_at at call frame ≡ weight_at at call OnLoan
    lent_weight at call NoFrame d = absurd (d refl)
    lent_weight at call Reserved d = refl
    lent_weight at call OnLoan d = refl

-- ---- FillIn

-- a read that failed marks the call's lane
failed_keeps : (c : Core) (die lane : ℕ) (x : DieState) → x.out ≡ None → ((call : Flight) → c.calls lane ≡ Some call → call.phase ≢ Queued) → (failed : Bool) → Coherent c →
    Coherent (record c { dies = put c.dies die x; lanes = put c.lanes lane (marked_if failed (c.lanes lane)) })
failed_keeps c die lane x none waits failed h = marked_keeps (record c { dies = put c.dies die x }) lane failed waits (home_keeps c die x c.meta c.closer none h)

fill_in_on : (c : Core) (actor : Actor) (die : ℕ) (good : Bool) (lane i : ℕ) → Coherent c → (c.dies die).out ≡ Some (record { holder = actor; errand = ToFill lane i }) →
    (f : IsFill c.shape c.places c.blocks c.calls die actor lane i) → Coherent (filled_of c die good lane i f.call (Some f.b))
fill_in_on c actor die good lane i h o f = go good
  where
    waits : (call : Flight) → c.calls lane ≡ Some call → call.phase ≢ Queued
    waits call e = owned_waits lane call.phase actor (ap (λ (w : Flight). owner lane w.phase) (same_some (c.calls lane) call f.call e f.flies) ∙ f.owns)

    -- the core after the die came home
    base : Bool → Core
    base good = record c { dies = put c.dies die (home_filled (c.dies die) good); lanes = put c.lanes lane (marked_if (not good) (c.lanes lane)) }

    coherent : (good : Bool) → Coherent (base good)
    coherent good = failed_keeps c die lane (home_filled (c.dies die) good) refl waits (not good) h

    read : IsRead (base true) lane i f.b actor f.call
    read = record {
      flies = f.flies;
      owns = f.owns;
      within = f.within;
      missing = f.gathered;
      block = f.block;
      written = f.written;
      clean = f.clean;
      away = f.away;
      free = home_free c.shape c.places c.blocks c.lanes c.calls c.dies die (home_filled (c.dies die) true) (record { holder = actor; errand = ToFill lane i }) o refl h.dies;
      home = ap (λ (k : ℕ). (put c.dies die (home_filled (c.dies die) true) k).out) f.on_die ∙ ap (λ (s : DieState). s.out) (put-same c.dies die (home_filled (c.dies die) true));
    }

    -- the core that a read leaves, by the mode of the call
    left : Mode → Core
    left m =
        let side = f.call.claim.side in
        let order = by_mode m (last_at (Some f.b)) (λ (xs : List ℕ). xs) in
        record (base true) {
          calls = put c.calls lane (Some (by_mode m (record (f.call) { frame = put f.call.frame i NoFrame }) (with_gathered f.call i (c.blocks f.b).flash OnLoan)));
          blocks = put c.blocks f.b (by_mode m (with_copy side (Some (c.blocks f.b).flash) (c.blocks f.b)) (record (c.blocks f.b) { lent = Some (record { lane = lane; page = (c.blocks f.b).flash }) }));
          host_order = by_side side (order c.host_order) c.host_order;
          drive_order = by_side side c.drive_order (order c.drive_order);
        }

    same_order : (side : Side) (a b : List ℕ) → (by_side side a a ≡ a)
    same_order Host a b = refl
    same_order Drive a b = refl

    by_the_mode : (m : Mode) → f.call.claim.reach.mode ≡ m → Coherent (left m)
    by_the_mode Shared e = shared_keeps (base true) lane i f.b actor f.call (coherent true) read e f.call.claim.side refl
    by_the_mode Exclusive e =
        subst (λ (xs : List ℕ). Coherent (record (left Exclusive) { host_order = xs })) (sym (same_order f.call.claim.side c.host_order c.host_order))
        (subst (λ (xs : List ℕ). Coherent (record (left Exclusive) { host_order = c.host_order; drive_order = xs })) (sym (same_order f.call.claim.side c.drive_order c.drive_order))
        (exclusive_keeps (base true) lane i f.b actor f.call (coherent true) read e))

    go : (good : Bool) → Coherent (filled_of c die good lane i f.call (Some f.b))
    go true = by_the_mode f.call.claim.reach.mode refl
    go false = coherent false

pub fill_in_keeps : (c : Core) (actor : Actor) (die : ℕ) (good : Bool) → Coherent c → MayFillIn c actor die → Coherent (filled c die good)
fill_in_keeps c actor die good h may =
    let f = h.dies.right die (record { holder = actor; errand = ToFill may.lane may.i }) may.out in
    subst (λ (o : Option Out). Coherent (filled_by c die good o)) (sym may.out)
    (subst (λ (call : Flight). Coherent (filled_of c die good may.lane may.i call (span_block c.places call.claim may.i))) (sym (flight_is c.calls may.lane f.call f.flies))
    (subst (λ (at : Option ℕ). Coherent (filled_of c die good may.lane may.i f.call at)) (sym f.block)
    (fill_in_on c actor die good may.lane may.i h may.out f)))
