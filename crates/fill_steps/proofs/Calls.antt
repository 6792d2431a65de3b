-- A call whose pages are gathered, from one core to the next.
use Rattle.std.proofs.Common.{◌≡◌, ℕ, ◌<◌, Bool, true, false, Option, Some, None, refl, sym, ap, ◌∙◌, subst, ⊎_elim, zero, suc, arith}
use Rattle.std.specs.Prelude.{◌≢◌, ◌&&◌, ◌||◌, not, is_some, if◌then◌else◌, is_none, option_map}
use Rattle.index_lists.specs.Words.{put}
use Rattle.index_lists.proofs.Puts.{put-same, put-other}
use Rattle.index_lists.proofs.Counts.{same_or_not}
use Rattle.dispatcher.specs.declared.side.Side.{Side}
use Rattle.dispatcher.specs.declared.side.Side.TheVariants.{Host, Drive}
use Rattle.core_state.specs.declared.actor.Actor.{Actor}
use Rattle.core_state.specs.declared.actor.Actor.TheVariants.{Lane, Worker}
use Rattle.core_state.specs.declared.event.Event.{Event}
use Rattle.core_state.specs.declared.event.Event.TheVariants.{Copy, Take, DieOut, FillIn}
use Rattle.core_state.specs.declared.event.Purpose.TheVariants.{Fill}
use Rattle.core_state.specs.Words.{changed_at, or_else, first_to}
use Rattle.core_state.specs.State.{Page, Block, LaneState, Claim, NoFrame, OnLoan, Phase, Held, Queued, Running, Reported, Mode, Shared, Exclusive, Flight, ToFill, DieState, Core}
use Rattle.core_state.specs.Contents.{contents, page_of, span_block, with_copy, is_missing, has_copy, die_of}
use Rattle.core_state.specs.Reach.{by_mode, gathers}
use Rattle.core_state.specs.Dies.{owner}
use Rattle.core_state.specs.PageEvents.{of_block, is_only_there, with_gathered, copied, taken}
use Rattle.core_state.specs.DieEvents.{is_home, home_filled, marked_if, filled_block, filled_flight, flash_at, filled_for, filled_by}
use Rattle.core_state.specs.Coherent.{Coherent}
use Rattle.core_state.specs.Hold.{SeenCall, hold}
use Rattle.core_state.specs.Happens.{HoldsNone, after}
use Rattle.core_state.specs.History.{request_of}
use Rattle.core_solo.specs.Solo.{IsNext, IsStep, acting, acting_in, page_to_gather, gather_event}
use Rattle.core_solo.proofs.Nexts.{gather_next_host, gather_next_drive}
use Rattle.system_state.specs.Jobs.{view_of}
use Rattle.system_pages.specs.Ways.{way_at}
use Rattle.system_pages.specs.declared.ways.Way.TheVariants.{ByPage, ByDie, Busy}
use Rattle.event_turns.specs.PageTurns.{block_at}
use Rattle.event_turns.proofs.Keeping.{again, at_flight}
use Rattle.fill_steps.specs.Gathering.{call_at, told_at, IsOwned, IsBetween, IsSameCall, IsSameBut, IsInTurn, IsNextGather, is_away}

-- ---- the same call

pub same_call_on : (f g h : Flight) → IsSameCall f g → IsSameCall g h → IsSameCall f h
same_call_on f g h p q = record { claim = q.claim ∙ p.claim; phase = q.phase ∙ p.phase }

pub but_on : (c d e : Core) (lane i : ℕ) (x y : Option Page) → IsSameBut c d lane i x → IsSameBut d e lane i y → IsSameBut c e lane i y
but_on c d e lane i x y p q =
    record {
      call = same_call_on (call_at c lane) (call_at d lane) (call_at e lane) p.call q.call;
      code = q.code ∙ p.code;
      readable = q.readable ∙ p.readable;
      page = q.page;
      others = λ j n l. q.others j n (subst (λ (z : Claim). j < z.reach.pages) (sym p.call.claim) l) ∙ p.others j n l;
    }

-- found again
pub owned_kept : (m : Bool) (c c2 : Core) (a : Actor) (lane : ℕ) → hold c2 a ≡ hold c a → IsOwned m c a lane → IsOwned m c2 a lane
owned_kept m c c2 a lane same p =
    let g = again c c2 a lane (call_at c lane) same p.flies p.owns in
    let at = sym (at_flight c2.calls lane g.call g.flies) in
    record { flies = g.flies ∙ ap (λ (f : Flight). Some f) at; owns = subst (λ (f : Flight). owner lane f.phase ≡ Some a) at g.owns; mark = g.mark ∙ p.mark }

pub but_kept : (m : Bool) (c c2 : Core) (a : Actor) (lane i : ℕ) (x : Option Page) → hold c2 a ≡ hold c a → IsOwned m c a lane → i < (call_at c lane).claim.reach.pages → (call_at c lane).gathered i ≡ x → IsSameBut c c2 lane i x
but_kept m c c2 a lane i x same p within page =
    let g = again c c2 a lane (call_at c lane) same p.flies p.owns in
    let at = sym (at_flight c2.calls lane g.call g.flies) in
    record {
      call = subst (IsSameCall (call_at c lane)) at (record { claim = g.same.claim; phase = g.same.phase });
      code = subst (λ (f : Flight). (view_of c2.names f).code ≡ (told_at c lane).code) at (ap (λ (z : SeenCall). z.code) g.seen);
      readable = subst (λ (f : Flight). (view_of c2.names f).readable ≡ (told_at c lane).readable) at (ap (λ (z : SeenCall). z.readable) g.seen);
      page = subst (λ (f : Flight). f.gathered i ≡ x) at (g.same.gathered i within ∙ page);
      others = λ j n l. subst (λ (f : Flight). f.gathered j ≡ (call_at c lane).gathered j) at (g.same.gathered j l);
    }

-- changed at one place
pub put_call : (m m2 : Bool) (c d : Core) (a : Actor) (lane i : ℕ) (x : Option Page) (g : Flight) → d.calls lane ≡ Some g → d.names ≡ c.names → g.claim ≡ (call_at c lane).claim → g.phase ≡ (call_at c lane).phase → g.gathered i ≡ x →
    ((j : ℕ) → j ≢ i → g.gathered j ≡ (call_at c lane).gathered j) → (d.lanes lane).mark ≡ m2 → IsOwned m c a lane → IsOwned m2 d a lane × IsSameBut c d lane i x
put_call m m2 c d a lane i x g flies names claim phase page others mark p =
    let at = sym (at_flight d.calls lane g flies) in (
      record { flies = flies ∙ ap (λ (f : Flight). Some f) at; owns = subst (λ (f : Flight). owner lane f.phase ≡ Some a) at (ap (owner lane) phase ∙ p.owns); mark = mark },
      record {
        call = subst (IsSameCall (call_at c lane)) at (record { claim = claim; phase = phase });
        code = subst (λ (f : Flight). (view_of d.names f).code ≡ (told_at c lane).code) at (told_code names claim);
        readable = subst (λ (f : Flight). (view_of d.names f).readable ≡ (told_at c lane).readable) at (told_readable names claim);
        page = subst (λ (f : Flight). f.gathered i ≡ x) at page;
        others = λ j n l. subst (λ (f : Flight). f.gathered j ≡ (call_at c lane).gathered j) at (others j n);
      },
    )
  where
    told_code : d.names ≡ c.names → g.claim ≡ (call_at c lane).claim → (view_of d.names g).code ≡ (told_at c lane).code
    told_code e f = λ k. (view_of (e k) (record (call_at c lane) { claim = f k })).code

    told_readable : d.names ≡ c.names → g.claim ≡ (call_at c lane).claim → (view_of d.names g).readable ≡ (told_at c lane).readable
    told_readable e f = λ k. (view_of (e k) (record (call_at c lane) { claim = f k })).readable

-- ---- what the events leave

pub copy_leaves : (c : Core) (a : Actor) (lane i : ℕ) → IsBetween false c a lane → IsBetween false (after c (Copy a lane i)) a lane × IsSameBut c (after c (Copy a lane i)) lane i (Some (page_of (contents c.blocks) (block_at c lane i)))
copy_leaves c a lane i p =
    let f = call_at c lane in
    let page = page_of (contents c.blocks) (block_at c lane i) in
    let g = with_gathered f i page (if of_block c.blocks (block_at c lane i) (is_only_there f.claim.side) then NoFrame else f.frame i) in
    let k = put_call false false c (copied c lane i) a lane i (Some page) g (put-same c.calls lane (Some g)) refl refl refl (put-same f.gathered i (Some page)) (λ j n. put-other f.gathered i (Some page) j n) p.owned.mark p.owned in
    (record { owned = k.0; none = p.none }, k.1)

pub take_leaves : (c : Core) (a : Actor) (lane i : ℕ) → IsBetween false c a lane → IsBetween false (after c (Take a lane i)) a lane × IsSameBut c (after c (Take a lane i)) lane i (Some (page_of (contents c.blocks) (block_at c lane i)))
take_leaves c a lane i p =
    let f = call_at c lane in
    let page = page_of (contents c.blocks) (block_at c lane i) in
    let g = with_gathered f i page (if of_block c.blocks (block_at c lane i) has_copy then OnLoan else f.frame i) in
    let k = put_call false false c (taken c lane i) a lane i (Some page) g (put-same c.calls lane (Some g)) refl refl refl (put-same f.gathered i (Some page)) (λ j n. put-other f.gathered i (Some page) j n) p.owned.mark p.owned in
    (record { owned = k.0; none = p.none }, k.1)

pub out_leaves : (c : Core) (a : Actor) (n lane i : ℕ) (x : Option Page) → IsOwned false c a lane → (call_at c lane).gathered i ≡ x → IsOwned false (after c (DieOut a n (Fill lane i))) a lane × IsSameBut c (after c (DieOut a n (Fill lane i))) lane i x
out_leaves c a n lane i x p page = put_call false false c (after c (DieOut a n (Fill lane i))) a lane i x (call_at c lane) p.flies refl refl refl page (λ j d. refl) p.mark p

-- the die of the actor is home
home_none : (c : Core) (a : Actor) (n lane i : ℕ) (good : Bool) → Coherent c → (c.dies n).out ≡ Some (record { holder = a; errand = ToFill lane i }) → HoldsNone (filled_for c n good lane i) a
home_none c a n lane i good h e = λ die out is mine.
    ⊎_elim (λ (s : die ≡ n).
    let z : (put c.dies n (home_filled (c.dies n) good) n).out ≡ None = ap (λ (w : DieState). w.out) (put-same c.dies n (home_filled (c.dies n) good)) in
    let y : (put c.dies n (home_filled (c.dies n) good) n).out ≡ Some out = ap (λ (k : ℕ). (put c.dies n (home_filled (c.dies n) good) k).out) (sym s) ∙ is in
    absurd (cc))
    (λ (d : die ≢ n). d (h.dies.one_each die n out (record { holder = a; errand = ToFill lane i }) (sym (ap (λ (w : DieState). w.out) (put-other c.dies n (home_filled (c.dies n) good) die d)) ∙ is) e mine))
    (same_or_not die n)

marked_as : (lanes : ℕ → LaneState) (lane : ℕ) (good : Bool) → (lanes lane).mark ≡ false → (put lanes lane (marked_if (not good) (lanes lane)) lane).mark ≡ not good
marked_as lanes lane good e = ap (λ (l : LaneState). l.mark) (put-same lanes lane (marked_if (not good) (lanes lane))) ∙ or_of (lanes lane).mark (not good) e
  where
    or_of : (x y : Bool) → x ≡ false → (x || y) ≡ y
    or_of true y e = absurd (cc)
    or_of false y e = refl

filled_is : (c : Core) (a : Actor) (n lane i : ℕ) (good : Bool) → (c.dies n).out ≡ Some (record { holder = a; errand = ToFill lane i }) → after c (FillIn a n good) ≡ filled_for c n good lane i
filled_is c a n lane i good e = ap (filled_by c n good) e

-- a read that failed
pub failed_leaves : (c : Core) (a : Actor) (n lane i : ℕ) (x : Option Page) → Coherent c → (c.dies n).out ≡ Some (record { holder = a; errand = ToFill lane i }) → IsOwned false c a lane → (call_at c lane).gathered i ≡ x →
    IsBetween true (after c (FillIn a n false)) a lane × IsSameBut c (after c (FillIn a n false)) lane i x
failed_leaves c a n lane i x h e p page =
    let k = put_call false true c (filled_for c n false lane i) a lane i x (call_at c lane) p.flies refl refl refl page (λ j d. refl) (marked_as c.lanes lane false p.mark) p in
    subst (λ (d : Core). IsBetween true d a lane × IsSameBut c d lane i x) (sym (filled_is c a n lane i false e)) (record { owned = k.0; none = home_none c a n lane i false h e }, k.1)

-- a page that was put in at the call's side
pub shared_leaves : (c : Core) (a : Actor) (n lane i : ℕ) (x : Option Page) → Coherent c → (c.dies n).out ≡ Some (record { holder = a; errand = ToFill lane i }) → IsOwned false c a lane → (call_at c lane).claim.reach.mode ≡ Shared → (call_at c lane).gathered i ≡ x →
    IsBetween false (after c (FillIn a n true)) a lane × IsSameBut c (after c (FillIn a n true)) lane i x
shared_leaves c a n lane i x h e p mode page =
    let f = call_at c lane in
    let g = record f { frame = put f.frame i NoFrame } in
    let flash = flash_at c.blocks (block_at c lane i) in
    let flies : (filled_for c n true lane i).calls lane ≡ Some g = put-same c.calls lane (Some (filled_flight f i flash)) ∙ ap (λ (m : Mode). Some (by_mode m g (with_gathered f i flash OnLoan))) mode in
    let k = put_call false false c (filled_for c n true lane i) a lane i x g flies refl refl refl page (λ j d. refl) (marked_as c.lanes lane true p.mark) p in
    subst (λ (d : Core). IsBetween false d a lane × IsSameBut c d lane i x) (sym (filled_is c a n lane i true e)) (record { owned = k.0; none = home_none c a n lane i true h e }, k.1)

-- a page that was lent
pub lent_leaves : (c : Core) (a : Actor) (n lane i : ℕ) → Coherent c → (c.dies n).out ≡ Some (record { holder = a; errand = ToFill lane i }) → IsOwned false c a lane → (call_at c lane).claim.reach.mode ≡ Exclusive →
    IsBetween false (after c (FillIn a n true)) a lane × IsSameBut c (after c (FillIn a n true)) lane i (Some (flash_at c.blocks (block_at c lane i)))
lent_leaves c a n lane i h e p mode =
    let f = call_at c lane in
    let flash = flash_at c.blocks (block_at c lane i) in
    let g = with_gathered f i flash OnLoan in
    let flies : (filled_for c n true lane i).calls lane ≡ Some g = put-same c.calls lane (Some (filled_flight f i flash)) ∙ ap (λ (m : Mode). Some (by_mode m (record f { frame = put f.frame i NoFrame }) g)) mode in
    let k = put_call false false c (filled_for c n true lane i) a lane i (Some flash) g flies refl refl refl (put-same f.gathered i (Some flash)) (λ j d. put-other f.gathered i (Some flash) j d) (marked_as c.lanes lane true p.mark) p in
    subst (λ (d : Core). IsBetween false d a lane × IsSameBut c d lane i (Some flash)) (sym (filled_is c a n lane i true e)) (record { owned = k.0; none = home_none c a n lane i true h e }, k.1)

-- ---- whether a page is away

pub away_of : (c : Core) (at : Option ℕ) (n : ℕ) → way_at c at ≡ ByDie n → of_block c.blocks at is_missing ≡ true
away_of c None n e = absurd (cc)
away_of c (Some b) n e = go (is_missing (c.blocks b)) e
  where
    go : (t : Bool) → (if t then (if is_home (c.dies (die_of c.shape b)) then ByDie (die_of c.shape b) else Busy (die_of c.shape b)) else ByPage) ≡ ByDie n → t ≡ true
    go true e = refl
    go false e = absurd (cc)

and_false : (b : Bool) → (b && false) ≡ false
and_false true = refl
and_false false = refl

put_there : (side : Side) (page : Page) (x : Block) → is_missing (with_copy side (Some page) x) ≡ false
put_there Host page x = and_false x.written
put_there Drive page x = go (is_some x.host)
  where
    go : (t : Bool) → (x.written && not (if t then true else true)) ≡ false
    go true = and_false x.written
    go false = and_false x.written

there_of : (blocks : ℕ → Block) (call : Flight) (lane : ℕ) (at : Option ℕ) → call.claim.reach.mode ≡ Shared → of_block (changed_at blocks at (filled_block call lane)) at is_missing ≡ false
there_of blocks call lane None mode = refl
there_of blocks call lane (Some b) mode =
    ap is_missing (put-same blocks b (filled_block call lane (blocks b)))
    ∙ (ap (λ (m : Mode). is_missing (by_mode m (with_copy call.claim.side (Some (blocks b).flash) (blocks b)) (record (blocks b) { lent = Some (record { lane = lane; page = (blocks b).flash }) }))) mode
    ∙ put_there call.claim.side (blocks b).flash (blocks b))

-- after a page was put in it isn't
pub put_in_there : (c : Core) (a : Actor) (n lane i : ℕ) → (c.dies n).out ≡ Some (record { holder = a; errand = ToFill lane i }) → IsOwned false c a lane → (call_at c lane).claim.reach.mode ≡ Shared → is_away (after c (FillIn a n true)) lane i ≡ false
put_in_there c a n lane i e p mode =
    let f = call_at c lane in
    let flash = flash_at c.blocks (block_at c lane i) in
    let d = filled_for c n true lane i in
    let g = record f { frame = put f.frame i NoFrame } in
    let flies : d.calls lane ≡ Some g = put-same c.calls lane (Some (filled_flight f i flash)) ∙ ap (λ (m : Mode). Some (by_mode m g (with_gathered f i flash OnLoan))) mode in
    let block : block_at d lane i ≡ block_at c lane i = ap (λ (h : Flight). span_block c.places h.claim i) (at_flight d.calls lane g flies) in
    ap (λ (z : Core). is_away z lane i) (filled_is c a n lane i true e)
    ∙ (ap (λ (at : Option ℕ). of_block d.blocks at is_missing) block ∙ there_of c.blocks f lane (block_at c lane i) mode)

-- ---- the event that gathers a page

pub copy_event_is : (c : Core) (a : Actor) (lane i : ℕ) (f : Flight) (at : Option ℕ) → f.claim.reach.mode ≡ Shared → way_at c at ≡ ByPage → gather_event c a lane f i at ≡ Copy a lane i
copy_event_is c a lane i f None mode e = ap (λ (m : Mode). by_mode m (Copy a lane i) (Take a lane i)) mode
copy_event_is c a lane i f (Some b) mode e = go (is_missing (c.blocks b)) (is_home (c.dies (die_of c.shape b))) e ∙ ap (λ (m : Mode). by_mode m (Copy a lane i) (Take a lane i)) mode
  where
    go : (t u : Bool) → (if t then (if u then ByDie (die_of c.shape b) else Busy (die_of c.shape b)) else ByPage) ≡ ByPage → (if t then DieOut a (die_of c.shape b) (Fill lane i) else by_mode f.claim.reach.mode (Copy a lane i) (Take a lane i)) ≡ by_mode f.claim.reach.mode (Copy a lane i) (Take a lane i)
    go true true e = absurd (cc)
    go true false e = absurd (cc)
    go false u e = refl

pub take_event_is : (c : Core) (a : Actor) (lane i : ℕ) (f : Flight) (at : Option ℕ) → f.claim.reach.mode ≡ Exclusive → way_at c at ≡ ByPage → gather_event c a lane f i at ≡ Take a lane i
take_event_is c a lane i f None mode e = ap (λ (m : Mode). by_mode m (Copy a lane i) (Take a lane i)) mode
take_event_is c a lane i f (Some b) mode e = go (is_missing (c.blocks b)) (is_home (c.dies (die_of c.shape b))) e ∙ ap (λ (m : Mode). by_mode m (Copy a lane i) (Take a lane i)) mode
  where
    go : (t u : Bool) → (if t then (if u then ByDie (die_of c.shape b) else Busy (die_of c.shape b)) else ByPage) ≡ ByPage → (if t then DieOut a (die_of c.shape b) (Fill lane i) else by_mode f.claim.reach.mode (Copy a lane i) (Take a lane i)) ≡ by_mode f.claim.reach.mode (Copy a lane i) (Take a lane i)
    go true true e = absurd (cc)
    go true false e = absurd (cc)
    go false u e = refl

pub out_event_is : (c : Core) (a : Actor) (lane i n : ℕ) (f : Flight) (at : Option ℕ) → way_at c at ≡ ByDie n → gather_event c a lane f i at ≡ DieOut a n (Fill lane i)
out_event_is c a lane i n f None e = absurd (cc)
out_event_is c a lane i n f (Some b) e = go (is_missing (c.blocks b)) (is_home (c.dies (die_of c.shape b))) e
  where
    go : (t u : Bool) → (if t then (if u then ByDie (die_of c.shape b) else Busy (die_of c.shape b)) else ByPage) ≡ ByDie n → (if t then DieOut a (die_of c.shape b) (Fill lane i) else by_mode f.claim.reach.mode (Copy a lane i) (Take a lane i)) ≡ DieOut a n (Fill lane i)
    go true true e = let z : die_of c.shape b ≡ n = cc in ap (λ (k : ℕ). DieOut a k (Fill lane i)) z
    go true false e = absurd (cc)
    go false u e = absurd (cc)

-- it is the next one of the run of one thread
pub next_gather : (encode : Core → ℕ → Page) (c : Core) (a : Actor) (lane i : ℕ) (e : Event) → IsOwned false c a lane → IsInTurn (call_at c lane) → page_to_gather (call_at c lane) ≡ Some i → gather_event c a lane (call_at c lane) i (block_at c lane i) ≡ e →
    request_of e ≡ None → IsStep encode lane (call_at c lane).claim.request c e
next_gather encode c a lane i e p turn lowest is open_still =
    let f = call_at c lane in
    record {
      next = subst (IsNext encode lane f.claim.request c) is (⊎_elim
          (λ h.
          let z : Some (Lane lane) ≡ Some a = sym (ap (owner lane) h.0) ∙ p.owns in
          let who : Lane lane ≡ a = cc in
          subst (λ (w : Actor). IsNext encode lane f.claim.request c (gather_event c w lane f i (block_at c lane i))) who (gather_next_host encode c lane i f.claim.request f p.flies h.0 h.1 p.mark lowest))
          (λ w.
          let z : Some (Worker w.0) ≡ Some a = sym (ap (owner lane) w.1) ∙ p.owns in
          let who : Worker w.0 ≡ a = cc in
          subst (λ (x : Actor). IsNext encode lane f.claim.request c (gather_event c x lane f i (block_at c lane i))) who (gather_next_drive encode c lane w.0 i f.claim.request f p.flies w.1 p.mark lowest))
          turn);
      open_still = open_still;
    }

-- who owns the call acts for the lane
acts_in : (lane : ℕ) (p : Phase) (a : Actor) → owner lane p ≡ Some a → acting_in lane p ≡ a
acts_in lane Held a e = cc
acts_in lane Queued a e = absurd (cc)
acts_in lane (Running worker) a e = cc
acts_in lane (Reported result) a e = cc

pub next_home : (encode : Core → ℕ → Page) (c : Core) (a : Actor) (lane n : ℕ) (good : Bool) → IsOwned false c a lane → IsStep encode lane (call_at c lane).claim.request c (FillIn a n good)
next_home encode c a lane n good p = record { next = sym (ap (acting lane) p.flies ∙ acts_in lane (call_at c lane).phase a p.owns); open_still = refl }

-- ---- the lowest page, in a later core

first_same : (n : ℕ) (p q : ℕ → Bool) → ((j : ℕ) → j < n → p j ≡ q j) → first_to n p ≡ first_to n q
unfolding first_to
first_same zero p q same = refl
first_same (suc n) p q same =
    let rest = first_same n p q (λ j l. same j (omega arith)) in
    let here : p n ≡ q n = same n (omega arith) in
    λ k. or_else (rest k) (if here k then Some n else None)

pub lowest_kept : (c d : Core) (lane i : ℕ) → IsSameBut c d lane i None → (call_at c lane).gathered i ≡ None → page_to_gather (call_at c lane) ≡ Some i → page_to_gather (call_at d lane) ≡ Some i
lowest_kept c d lane i s missing lowest =
    let f = call_at c lane in
    let g = call_at d lane in
    ap (λ (z : Claim). first_to z.reach.pages (λ j. gathers z.request.call z.reach j && is_none (g.gathered j))) s.call.claim
    ∙ (first_same f.claim.reach.pages (λ j. gathers f.claim.request.call f.claim.reach j && is_none (g.gathered j)) (λ j. gathers f.claim.request.call f.claim.reach j && is_none (f.gathered j))
    (λ j l. ap (λ (o : Option Page). gathers f.claim.request.call f.claim.reach j && is_none o) (at j l))
    ∙ lowest)
  where
    at : (j : ℕ) → j < (call_at c lane).claim.reach.pages → (call_at d lane).gathered j ≡ (call_at c lane).gathered j
    at j l = ⊎_elim (λ (e : j ≡ i). ap (call_at d lane).gathered e ∙ (s.page ∙ (sym missing ∙ ap (call_at c lane).gathered (sym e)))) (λ (n : j ≢ i). s.others j n l) (same_or_not j i)

pub gathers_next : (c : Core) (a : Actor) (lane i : ℕ) (e : Event) → IsOwned false c a lane → page_to_gather (call_at c lane) ≡ Some i → gather_event c a lane (call_at c lane) i (block_at c lane i) ≡ e → IsNextGather a lane e c
gathers_next c a lane i e p lowest is =
    let f = call_at c lane in
    ap (λ (b : Bool). if b then None else option_map (λ i. gather_event c a lane f i (span_block c.places f.claim i)) (page_to_gather f)) p.mark
    ∙ (ap (option_map (λ i. gather_event c a lane f i (span_block c.places f.claim i))) lowest ∙ ap (λ (z : Event). Some z) is)
