-- The End of a call that stores keeps a core coherent.
use Rattle.std.proofs.Common.{◌≡◌, ℕ, ◌+◌, ◌-◌, ◌<◌, ◌≤◌, true, false, List, length, Option, Some, None, refl, sym, ap, ◌∙◌, subst, ⊎_elim, arith, get_or, length-append}
use Rattle.std.specs.Prelude.{◌≢◌, ◌*◌, is_some, if◌then◌else◌}
use Rattle.std.specs.List.{Contains}
use Rattle.std.proofs.lemmas.List.FromFn.{length-map-range_with_len}
use Rattle.page_base.specs.Bytes.{Pages}
use Rattle.dispatcher.specs.declared.side.Side.{Side}
use Rattle.dispatcher.specs.declared.side.Side.TheVariants.{Host, Drive}
use Rattle.core_hold.specs.Paired.{by_side}
use Rattle.index_lists.specs.Words.{put, one_if, count}
use Rattle.index_lists.proofs.Puts.{put-other}
use Rattle.core_hold.specs.Call.{Call}
use Rattle.core_hold.specs.Plain.{State, is_overfull, with_content}
use Rattle.core_hold.specs.Actor.{Actor}
use Rattle.core_hold.specs.Actor.TheVariants.{Lane}
use Rattle.core_hold.specs.Words.{sum_to, from_fn, listed_to, without_all, all_last, Lists, EachBehind}
use Rattle.core_hold.specs.State.{Page, Loan, Block, File, Function, Places, LaneState, Claim, Frame, NoFrame, Reserved, OnLoan, Phase, Held, Queued, Running, Reported, Flight, Errand, ToFill, ToFlush, ToMeta, Out, Core}
use Rattle.core_hold.specs.Contents.{InNeitherCache, IsAway, IsBlank, contents, copy_at, span_block, is_unclean}
use Rattle.core_hold.specs.PlainOf.{plain, outcome_of, bytes_by_id}
use Rattle.core_hold.specs.Placed.{IsFree, HavePlaces, Tails}
use Rattle.core_hold.specs.InFlight.{claim_of, claims, IsRight, IsLentTo}
use Rattle.core_hold.specs.Frames.{weight, is_side, frames_of, used, HasFrame, HasFrameFor, in_queue}
use Rattle.core_hold.specs.Dies.{owner, IsResult, IsErrand}
use Rattle.core_hold.specs.Coherent.{Coherent}
use Rattle.core_hold.specs.LaneEvents.{replied}
use Rattle.core_hold.specs.EndEvent.{installed, span_order}
use Rattle.core_hold.proofs.Words.{same_some, less_or_not, low}
use Rattle.core_hold.proofs.Calls.{without_call, still_there, other_there}
use Rattle.core_ends.proofs.Landing.{used_gone, locked_gone, queued_gone, errand_gone}
use Rattle.core_hold.proofs.Released.{listed_in, renewed_blank, length-without_all, count-without_all_out}
use Rattle.core_stores.proofs.Runs.{early_near, outcome_near}
use Rattle.core_hold.proofs.Others.{StillHas, still_has, fresh_of, places_of, spanned_of, there}
use Rattle.core_stores.proofs.Became.{IsEnding, Became, Kept, Renewed, Put, placed_stays, place_stays, span_low, gone_from, span_at, span_page, became}
use Rattle.core_stores.proofs.Claims.{names_after, plain_after, functions_after, there_after, claim_after, near}
use Rattle.core_stores.proofs.Results.{page_stays, cuts_after}
use Rattle.core_stores.proofs.Keeping.{became_copies, became_kept, became_hand, became_flush, became_lent, Alone, order_last, order_out, room}
use Rattle.core_stores.proofs.Placing.{places_after, named_after}

-- the core where the call has stored
abbrev pub stored_core : Core → ℕ → Flight → File → State → ℕ → Core
stored_core c lane call f s2 to =
    record c {
      names = names_after c call s2;
      places = places_of c f.id (Pages f.len) to;
      blocks = spanned_of c call f.id (Pages f.len) to s2;
      host_order = span_order (by_side call.claim.side true false) (listed_to call.claim.reach.pages (span_at c call f to)) (without_all (gone_from c f to) c.host_order);
      drive_order = span_order (by_side call.claim.side false true) (listed_to call.claim.reach.pages (span_at c call f to)) (without_all (gone_from c f to) c.drive_order);
      unclean = all_last (listed_to call.claim.reach.pages (span_at c call f to)) (without_all (gone_from c f to) c.unclean);
      calls = put c.calls lane None;
      lanes = put c.lanes lane (replied (c.lanes lane));
      last = c.last + 1;
    }

pub page_whole : (call : Flight) (s2 : State) (i : ℕ) → length (span_page call s2 i) ≡ 4096
unfolding from_fn
page_whole call s2 i = length-map-range_with_len (λ j. get_or (bytes_by_id s2 call.claim.file) (4096 * (call.claim.reach.first + i) + j) 0) 0 4096

idle : (lane : ℕ) (phase : Phase) → owner lane phase ≡ Some (Lane lane) → in_queue phase ≡ false
idle lane Held q = refl
idle lane Queued q = absurd (cc)
idle lane (Running w) q = refl
idle lane (Reported r) q = refl

result_near : (s t : State) (call : Call) (phase : Phase) → outcome_of t call ≡ outcome_of s call → IsResult s call phase → IsResult t call phase
result_near s t call Held same h = h
result_near s t call Queued same h = h
result_near s t call (Running w) same h = h
result_near s t call (Reported r) same h = h ∙ ap Some (sym same)

-- a page with a block is one of the file's
page_low : (c : Core) (f : File) (id p b : ℕ) → c.places id p ≡ Some b → id ≡ f.id → Contains c.names.files f → Coherent c → p < Pages f.len
page_low c f id p b e s i h = low p (Pages f.len) (sym (h.placed.have.exact f i p) ∙ (ap (λ (k : ℕ). is_some (c.places k p)) (sym s) ∙ ap is_some e))

-- the page of a block that isn't gone is not cut off
kept_page : (c : Core) (f : File) (to b : ℕ) → count b (gone_from c f to) ≡ 0 → Contains c.names.files f → (id p : ℕ) → c.places id p ≡ Some b → id ≡ f.id → Coherent c → (p < to) × (p < Pages f.len)
kept_page c f to b z i id p e s h = (⊎_elim (λ (l : p < to). l) (λ (l : to ≤ p). absurd (out l)) (less_or_not p to), below)
  where
    below : p < Pages f.len
    below = page_low c f id p b e s i h

    out : to ≤ p → ⊥
    out l =
        let shift : to + (p - to) ≡ p = omega arith in
        let m = below in
        let k = listed_in b (Pages f.len - to) (p - to) (λ j. c.places f.id (to + j)) (omega arith) (ap (c.places f.id) shift ∙ (ap (λ (m : ℕ). c.places m p) (sym s) ∙ e)) in
        omega arith

pub stored_keeps : (c : Core) (lane : ℕ) (call : Flight) (f : File) (s2 : State) (to : ℕ) → Coherent c → (g : IsEnding c lane call f s2 to) → is_overfull (with_content (plain c) g.storing.stored.name g.storing.stored.new) ≡ false →
    owner lane call.phase ≡ Some (Lane lane) → ((die : ℕ) (out : Out) → (c.dies die).out ≡ Some out → out.holder ≢ Lane lane) →
    EachBehind (λ (x y : Function). x.name ≢ y.name) (names_after c call s2).functions → Tails (names_after c call s2) (places_of c f.id (Pages f.len) to) (contents (spanned_of c call f.id (Pages f.len) to s2)) →
    Coherent (stored_core c lane call f s2 to)
stored_keeps c lane call f s2 to h g fits owns free apart tails = record {
  placed = record { drive = h.placed.drive; have = places_after c lane call f s2 h g.storing fits to g.to_is; free = blank; named = named_after c lane call f s2 h g.storing apart };
  copies = λ b. became_copies gone n at page side b (c.blocks b) (blocks2 b) (page_whole call s2) (h.copies b) (is b);
  clean = λ b. became_kept gone n at page side b (c.blocks b) (blocks2 b) (h.clean b) (is b);
  unclean = λ b. became_hand gone n at page side b (c.blocks b) (blocks2 b) (h.unclean b) (is b);
  lent = record {
    alone = λ b loan l. let k = became_lent gone n at page side b (c.blocks b) (blocks2 b) (is b) loan l in subst InNeitherCache (sym k.0) (h.lent.alone b loan (ap (λ (w : Block). w.lent) (sym k.0) ∙ l));
    held = held;
    loans = λ l x e i w q.
        let t = still_there c.calls lane l x e in
        let o = h.lent.loans l x t.1 i w q in
        let s = still l x t.0 t.1 in
        record { b = o.b; loan = o.loan; block = s.span i w ∙ o.block; lent = ap (λ (w : Block). w.lent) (s.same i o.b w o.block) ∙ o.lent; lane_is = o.lane_is };
  };
  locked = locked_gone c.names (names_after c call s2) c.calls lane (there_after c lane call f s2 h g.storing) h.locked;
  in_flight = record { right = right; host = λ l x e. h.in_flight.host l x (still_there c.calls lane l x e).1 };
  tails = tails;
  frames = record {
    host = fits_host side refl;
    drive = fits_drive side refl;
    each = λ l x e i w.
        let t = still_there c.calls lane l x e in
        let s = still l x t.0 t.1 in
        subst (λ (o : Option ℕ). HasFrameFor x.claim.reach.mode x.claim.side blocks2 o (x.frame i)) (sym (s.span i w)) (framed x i (span_block c.places x.claim i) (λ b q. s.same i b w q) (h.frames.each l x t.1 i w));
  };
  orders = record {
    ordered = record {
      host = host_listed side refl;
      drive = drive_listed side refl;
      unclean = order_last gone n at page side c.blocks blocks2 is_unclean alone (λ p w. put_unclean side p w) (λ x. refl) (λ x k. let a = k.clean in grind arith) is c.unclean h.orders.ordered.unclean;
    };
    queued = queued_gone c.queue c.lanes lanes2 c.calls lane call g.storing.flies (idle lane call.phase owns) lanes_same h.orders.queued;
  };
  dies = record {
    right = λ die out o. errand die out o;
    one_each = h.dies.one_each;
    in_turn = λ l x e. let t = still_there c.calls lane l x e in let k = h.dies.in_turn l x t.1 in (k.0, ap (λ (s : LaneState). s.stage) (lanes_same l t.0) ∙ k.1);
  };
  gathered = record {
    pages_are = λ l x e i p w q. let t = still_there c.calls lane l x e in h.gathered.pages_are l x t.1 i p w q ∙ sym (page_stays c places2 blocks2 x.claim (still l x t.0 t.1) i w);
    results = λ l x e m.
        let t = still_there c.calls lane l x e in
        result_near (plain c) (plain_after c call s2 places2 (contents blocks2)) x.claim.request.call x.phase
        (outcome_near (plain c) (plain_after c call s2 places2 (contents blocks2)) x.claim.request.call (functions_after c lane call f s2 g.storing) (cuts_after c lane call f s2 places2 blocks2 h g.storing l x t.0 t.1 (still l x t.0 t.1)))
        (h.gathered.results l x t.1 (ap (λ (s : LaneState). s.mark) (sym (lanes_same l t.0)) ∙ m));
  };
}
  where
    side : Side
    side = call.claim.side

    n : ℕ
    n = call.claim.reach.pages

    gone : List ℕ
    gone = gone_from c f to

    at : ℕ → Option ℕ
    at = span_at c call f to

    page : ℕ → Page
    page = span_page call s2

    bs : List ℕ
    bs = listed_to n at

    places2 : Places
    places2 = places_of c f.id (Pages f.len) to

    blocks2 : ℕ → Block
    blocks2 = spanned_of c call f.id (Pages f.len) to s2

    lanes2 : ℕ → LaneState
    lanes2 = put c.lanes lane (replied (c.lanes lane))

    lanes_same : (l : ℕ) → l ≢ lane → lanes2 l ≡ c.lanes l
    lanes_same l d = put-other c.lanes lane (replied (c.lanes lane)) l d

    is : (b : ℕ) → Became gone n at page side b (c.blocks b) (blocks2 b)
    is b = became c lane call f s2 to h g b

    still : (l : ℕ) (x : Flight) → l ≢ lane → c.calls l ≡ Some x → StillHas c places2 blocks2 x.claim
    still l x d e = still_has c lane call f s2 h g.storing l x d e to g.to_is

    have : HavePlaces c.shape (names_after c call s2) places2
    have = places_after c lane call f s2 h g.storing fits to g.to_is

    alone : Alone at
    alone i j b e k = let s = (have.apart _ _ _ _ b e k).1 in omega arith

    -- ---- free blocks

    blank : (b : ℕ) → IsFree places2 b → IsBlank (blocks2 b)
    blank b none = go (is b)
      where
        was : count b gone ≡ 0 → (p q : ℕ) → c.places p q ≡ Some b → ⊥
        was z p q e = none p q (place_stays c.places f.id (fresh_of c f.id (Pages f.len) to) (Pages f.len) to p q (λ s. kept_page c f to b z (there c lane call f s2 g.storing) p q e s h) ∙ e)

        go : Became gone n at page side b (c.blocks b) (blocks2 b) → IsBlank (blocks2 b)
        go (Kept q m z) = subst IsBlank (sym q) (h.placed.free b (was z))
        go (Renewed q u m z) = subst IsBlank (sym q) (renewed_blank (c.blocks b) u)
        go (Put i l a w q flash v z) = absurd (none call.claim.file (call.claim.reach.first + i) a)

    -- ---- loans

    own_span : (i b : ℕ) → i < n → span_block c.places call.claim i ≡ Some b → at i ≡ Some b
    own_span i b w k =
        place_stays c.places f.id (fresh_of c f.id (Pages f.len) to) (Pages f.len) to call.claim.file (call.claim.reach.first + i)
        (λ s. (span_low c lane call f s2 to g i w, page_low c f call.claim.file (call.claim.reach.first + i) b k s (there c lane call f s2 g.storing) h)) ∙ k

    held : (b : ℕ) (loan : Loan) → (blocks2 b).lent ≡ Some loan → IsLentTo places2 (without_call c.calls lane) b loan
    held b loan l =
        let k = became_lent gone n at page side b (c.blocks b) (blocks2 b) (is b) loan l in
        let was = ap (λ (w : Block). w.lent) (sym k.0) ∙ l in
        let t = h.lent.held b loan was in
        let d : loan.lane ≢ lane = λ s. own b loan t k.1 s in
        let o = still loan.lane t.call d t.flies in
        record { call = t.call; flies = other_there c.calls lane loan.lane t.call d t.flies; mode = t.mode; i = t.i; within = t.within; block = o.span t.i t.within ∙ t.block; gathered = t.gathered; frame = t.frame }
      where
        own : (b : ℕ) (loan : Loan) (t : IsLentTo c.places c.calls b loan) → ((i : ℕ) → i < n → at i ≢ Some b) → loan.lane ≡ lane → ⊥
        own b loan t none s =
            let same : t.call ≡ call = same_some (c.calls lane) t.call call (ap c.calls (sym s) ∙ t.flies) g.storing.flies in
            let w : t.i < n = subst (λ (w : Flight). t.i < w.claim.reach.pages) same t.within in
            let k : span_block c.places call.claim t.i ≡ Some b = ap (λ (w : Flight). span_block c.places w.claim t.i) (sym same) ∙ t.block in
            none t.i w (own_span t.i b w k)

    -- ---- claims

    right : (l : ℕ) (a : Claim) → claims (without_call c.calls lane) l ≡ Some a → IsRight (names_after c call s2) (plain_after c call s2 places2 (contents blocks2)) a
    right l a e = by (without_call c.calls lane l) refl e
      where
        by : (o : Option Flight) → without_call c.calls lane l ≡ o → claim_of o ≡ Some a → IsRight (names_after c call s2) (plain_after c call s2 places2 (contents blocks2)) a
        by None q r = absurd (cc)
        by (Some x) q r =
            let t = still_there c.calls lane l x q in
            let k : x.claim ≡ a = same_some (Some x.claim) x.claim a refl r in
            let o = h.in_flight.right l x.claim (ap claim_of t.1) in
            subst (IsRight (names_after c call s2) (plain_after c call s2 places2 (contents blocks2))) k
            (record {
              kind = o.kind;
              same = claim_after c lane call f s2 h g.storing l x t.0 t.1;
              not_early = early_near (plain c) (plain_after c call s2 places2 (contents blocks2)) x.claim.request.call o.kind (near c lane call f s2 places2 (contents blocks2) h g.storing l x t.0 t.1) o.not_early;
              drive = o.drive;
            })

    -- ---- frames

    framed : (x : Flight) (i : ℕ) (o : Option ℕ) → ((b : ℕ) → o ≡ Some b → blocks2 b ≡ c.blocks b) → HasFrameFor x.claim.reach.mode x.claim.side c.blocks o (x.frame i) → HasFrameFor x.claim.reach.mode x.claim.side blocks2 o (x.frame i)
    framed x i None s k = k
    framed x i (Some b) s k = subst (λ (w : Block). HasFrame x.claim.reach.mode x.claim.side w (x.frame i)) (sym (s b refl)) k

    within : lane < c.shape.lanes
    within = (h.dies.in_turn lane call g.storing.flies).0

    own_copy : (k : Side) → side ≡ k → (order : List ℕ) → ((b : ℕ) → is_some (copy_at k (c.blocks b)) ≡ true → count b order ≡ 1) → (i b : ℕ) → i < n → at i ≡ Some b → weight (call.frame i) ≡ 0 → count b (without_all gone order) ≡ 1
    own_copy k q order lists i b w a z =
        count-without_all_out gone order b (placed_stays c f to call.claim.file (call.claim.reach.first + i) b h a)
        ∙ lists b (has (span_block c.places call.claim i) refl (h.frames.each lane call g.storing.flies i w))
      where
        no_frame : (r : Frame) → weight r ≡ 0 → r ≡ NoFrame
        no_frame NoFrame e = refl
        no_frame Reserved e = absurd (omega arith)
        no_frame OnLoan e = absurd (omega arith)

        has : (o : Option ℕ) → span_block c.places call.claim i ≡ o → HasFrameFor call.claim.reach.mode side c.blocks o (call.frame i) → is_some (copy_at k (c.blocks b)) ≡ true
        has None e r = absurd (let y = r g.storing.mode in let z2 = no_frame (call.frame i) z in cc)
        has (Some b2) e r =
            let s : b2 ≡ b = same_some (at i) b2 b (own_span i b2 w e) a in
            subst (λ (t : Side). is_some (copy_at t (c.blocks b)) ≡ true) q (subst (λ (d : ℕ). is_some (copy_at side (c.blocks d)) ≡ true) s (r.exclusive g.storing.mode (no_frame (call.frame i) z)))

    own_frames : (k : Side) → side ≡ k → frames_of k (Some call) ≡ sum_to n (λ i. weight (call.frame i))
    own_frames k q = subst (λ (z : Side). frames_of z (Some call) ≡ sum_to n (λ i. weight (call.frame i))) q (by side)
      where
        by : (z : Side) → (if is_side z z then sum_to n (λ i. weight (call.frame i)) else 0) ≡ sum_to n (λ i. weight (call.frame i))
        by Host = refl
        by Drive = refl

    fits_host : (k : Side) → side ≡ k → used Host c.shape (span_order (by_side k true false) bs (without_all gone c.host_order)) (without_call c.calls lane) ≤ c.shape.host_frames
    fits_host Host q =
        let u = used_gone Host c.shape c.host_order c.calls lane call g.storing.flies within in
        let w = own_frames Host q in
        let r = room n at (λ i. weight (call.frame i)) (without_all gone c.host_order) alone (own_copy Host q c.host_order (λ b e. h.orders.ordered.host b ∙ ap one_if e)) n (omega arith) in
        let l = length-without_all gone c.host_order in
        let o = h.frames.host in
        omega (arith, length-append (without_all bs (without_all gone c.host_order)) bs)
    fits_host Drive q =
        let u = used_gone Host c.shape c.host_order c.calls lane call g.storing.flies within in
        let l = length-without_all gone c.host_order in
        let m = length-without_all bs (without_all gone c.host_order) in
        let o = h.frames.host in
        omega arith

    fits_drive : (k : Side) → side ≡ k → used Drive c.shape (span_order (by_side k false true) bs (without_all gone c.drive_order)) (without_call c.calls lane) ≤ c.shape.drive_frames
    fits_drive Drive q =
        let u = used_gone Drive c.shape c.drive_order c.calls lane call g.storing.flies within in
        let w = own_frames Drive q in
        let r = room n at (λ i. weight (call.frame i)) (without_all gone c.drive_order) alone (own_copy Drive q c.drive_order (λ b e. h.orders.ordered.drive b ∙ ap one_if e)) n (omega arith) in
        let l = length-without_all gone c.drive_order in
        let o = h.frames.drive in
        omega (arith, length-append (without_all bs (without_all gone c.drive_order)) bs)
    fits_drive Host q =
        let u = used_gone Drive c.shape c.drive_order c.calls lane call g.storing.flies within in
        let l = length-without_all gone c.drive_order in
        let m = length-without_all bs (without_all gone c.drive_order) in
        let o = h.frames.drive in
        omega arith

    -- ---- orders

    put_unclean : (k : Side) (p : Page) (w : Block) → is_unclean (installed k p w) ≡ true
    put_unclean Host p w = refl
    put_unclean Drive p w = refl

    none_is : (o : Option Page) → o ≡ None → is_some o ≡ false
    none_is o e = ap is_some e

    host_listed : (k : Side) → side ≡ k → Lists (span_order (by_side k true false) bs (without_all gone c.host_order)) (λ b. is_some (blocks2 b).host)
    host_listed Host q = order_last gone n at page side c.blocks blocks2 (λ w. is_some w.host) alone (λ p w. subst (λ (z : Side). is_some (installed z p w).host ≡ true) (sym q) refl) (λ x. refl) (λ x k. none_is x.host k.away.host) is c.host_order h.orders.ordered.host
    host_listed Drive q = order_out gone n at page side c.blocks blocks2 (λ w. is_some w.host) alone (λ p w. subst (λ (z : Side). is_some (installed z p w).host ≡ false) (sym q) refl) (λ x. refl) (λ x k. none_is x.host k.away.host) is c.host_order h.orders.ordered.host

    drive_listed : (k : Side) → side ≡ k → Lists (span_order (by_side k false true) bs (without_all gone c.drive_order)) (λ b. is_some (blocks2 b).drive)
    drive_listed Drive q = order_last gone n at page side c.blocks blocks2 (λ w. is_some w.drive) alone (λ p w. subst (λ (z : Side). is_some (installed z p w).drive ≡ true) (sym q) refl) (λ x. refl) (λ x k. none_is x.drive k.away.drive) is c.drive_order h.orders.ordered.drive
    drive_listed Host q = order_out gone n at page side c.blocks blocks2 (λ w. is_some w.drive) alone (λ p w. subst (λ (z : Side). is_some (installed z p w).drive ≡ false) (sym q) refl) (λ x. refl) (λ x k. none_is x.drive k.away.drive) is c.drive_order h.orders.ordered.drive

    -- ---- dies

    -- a fill of the call would be its owner's, who holds no die
    no_fill : (die : ℕ) (out : Out) → (c.dies die).out ≡ Some out → (l i : ℕ) → out.errand ≡ ToFill l i → l ≢ lane
    no_fill die out o l i q s =
        let t = subst (λ (k : Errand). IsErrand c.shape c.places c.blocks c.lanes c.calls die out.holder k) q (h.dies.right die out o) in
        let same_call : t.call ≡ call = same_some (c.calls lane) t.call call (ap c.calls (sym s) ∙ t.flies) g.storing.flies in
        let owned : owner lane call.phase ≡ Some out.holder = ap (λ (w : Flight). owner lane w.phase) (sym same_call) ∙ (ap (λ (k : ℕ). owner k t.call.phase) (sym s) ∙ t.owns) in
        free die out o (same_some (owner lane call.phase) out.holder (Lane lane) owned owns)

    moved : (die : ℕ) (holder : Actor) (errand : Errand) → ((l i : ℕ) → errand ≡ ToFill l i → l ≢ lane) → IsErrand c.shape c.places c.blocks c.lanes c.calls die holder errand → IsErrand c.shape places2 blocks2 c.lanes c.calls die holder errand
    moved die holder (ToFill l i) other t =
        let s = still l t.call (other l i refl) t.flies in
        let same = s.same i t.b t.within t.block in
        record { call = t.call; flies = t.flies; owns = t.owns; within = t.within; gathered = t.gathered; b = t.b; block = s.span i t.within ∙ t.block; on_die = t.on_die; written = ap (λ (w : Block). w.written) same ∙ t.written; clean = ap (λ (w : Block). w.clean) same ∙ t.clean; away = subst IsAway (sym same) t.away }
    moved die holder (ToFlush b v p) other t = (t.0, t.1, became_flush gone n at page side b (c.blocks b) (blocks2 b) v p t.2 (is b), t.3)
    moved die holder (ToMeta number bytes) other t = t

    errand : (die : ℕ) (out : Out) → (c.dies die).out ≡ Some out → IsErrand c.shape places2 blocks2 lanes2 (without_call c.calls lane) die out.holder out.errand
    errand die out o =
        errand_gone c.shape places2 blocks2 c.lanes lanes2 c.calls lane die out.holder out.errand (no_fill die out o) (free die out o) lanes_same
        (moved die out.holder out.errand (no_fill die out o) (h.dies.right die out o))
