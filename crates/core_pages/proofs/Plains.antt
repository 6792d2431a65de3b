-- Every event other than Quick and End leaves the plain state as it is.
use Rattle.std.proofs.Common.{◌≡◌, ℕ, Bool, true, false, Option, Some, None, refl, sym, ap, ◌∙◌, subst, arith}
use Rattle.std.specs.Prelude.{◌&&◌, ◌==◌}
use Rattle.dispatcher.specs.declared.side.Side.{Side}
use Rattle.index_lists.specs.Words.{put}
use Rattle.core_lanes.specs.Actor.{Actor}
use Rattle.core_lanes.specs.Event.{Event}
use Rattle.core_lanes.specs.Event.TheVariants.{Enter, Leave, Quick, Skip, Begin, Copy, Take, DieOut, FillIn, Submit, Fetch, Report, End, Evict, Demote, FlushOut, FlushIn, MetaIn}
use Rattle.core_lanes.specs.Purpose.TheVariants.{Fill, Meta}
use Rattle.core_lanes.specs.Words.{changed_at}
use Rattle.core_lanes.specs.State.{Page, Loan, Block, Mode, Shared, Exclusive, Flight, Errand, ToFill, ToFlush, ToMeta, Out, Core}
use Rattle.core_lanes.specs.Contents.{with_copy, content, contents, span_block, IsAway}
use Rattle.core_lanes.specs.Reach.{by_mode}
use Rattle.core_lanes.specs.PlainOf.{plain, plain_of}
use Rattle.core_lanes.specs.Dies.{IsFill}
use Rattle.core_lanes.specs.Coherent.{Coherent}
use Rattle.core_lanes.specs.PageEvents.{flight_at, read_block, lent_block, is_spare, is_demotable, order_at, MayEvict, MayDemote, evicted, demoted}
use Rattle.core_lanes.specs.DieEvents.{written_page, flushed_block, filled_block, filled_of, filled_by, filled, flushed_by, flushed, stored_on, stored_by, MayFillIn, MayFlushIn}
use Rattle.core_lanes.specs.Happens.{Happens, after}
use Rattle.core_lanes.proofs.Blocks.{contents_put}
use Rattle.core_lanes.proofs.Finds.{found_passes}
use Rattle.core_lanes.proofs.Phases.{flight_is}
use Rattle.core_pages.specs.Inner.{answers_call}
use Rattle.core_pages.proofs.Idle.{and_parts, evicted_content, moved_content, listed_at, none_is}
use Rattle.core_pages.proofs.Copy.{read_content}
use Rattle.core_pages.proofs.FillIn.{put_in_content, read_content as flash_content}
use Rattle.core_pages.proofs.FlushIn.{flushed_is}

-- the same contents are the same plain state
same_plain : (c : Core) (blocks : ℕ → Block) → contents blocks ≡ contents c.blocks → plain_of c.shape c.names c.places (contents blocks) ≡ plain c
same_plain c blocks e = ap (plain_of c.shape c.names c.places) e

same_changed : (blocks : ℕ → Block) (at : Option ℕ) (change : Block → Block) → ((b : ℕ) → at ≡ Some b → content (change (blocks b)) ≡ content (blocks b)) → contents (changed_at blocks at change) ≡ contents blocks
same_changed blocks None change h = refl
same_changed blocks (Some b) change h = contents_put blocks b (change (blocks b)) (h b refl)

pub taken_content : (lane : ℕ) (x : Block) → content (lent_block lane x) ≡ content x
taken_content lane x = go x.host x.drive x.lent refl refl refl
  where
    go : (o d : Option Page) (l : Option Loan) → x.host ≡ o → x.drive ≡ d → x.lent ≡ l → content (lent_block lane x) ≡ content x
    go None None l eo ed el = grind arith
    go None (Some q) l eo ed el = grind arith
    go (Some p) d l eo ed el = grind arith

evict_plain : (c : Core) (side : Side) (b : ℕ) → Coherent c → MayEvict c side b → plain (evicted c side b) ≡ plain c
evict_plain c side b h may =
    let parts = and_parts _ _ (found_passes (is_spare c side) (order_at side c) b may.first) in
    same_plain c (put c.blocks b (with_copy side None (c.blocks b)))
    (contents_put c.blocks b (with_copy side None (c.blocks b)) (evicted_content side (c.blocks b) (h.copies b) (h.clean b) (listed_at c side b (is_spare c side) h may.first) parts.1))

demote_plain : (c : Core) (b : ℕ) → Coherent c → MayDemote c b → plain (demoted c b) ≡ plain c
demote_plain c b h may =
    let parts = and_parts _ _ (found_passes (is_demotable c) c.host_order b may.first) in
    let y = record (c.blocks b) { host = None; drive = (c.blocks b).host } in
    same_plain c (put c.blocks b y) (contents_put c.blocks b y (moved_content (c.blocks b) (none_is (c.blocks b).drive parts.1)))

fill_plain : (c : Core) (actor : Actor) (die : ℕ) (good : Bool) → Coherent c → MayFillIn c actor die → plain (filled c die good) ≡ plain c
fill_plain c actor die good h may =
    let f = h.dies.right die (record { holder = actor; errand = ToFill may.lane may.i }) may.out in
    subst (λ (o : Option Out). plain (filled_by c die good o) ≡ plain c) (sym may.out)
    (subst (λ (call : Flight). plain (filled_of c die good may.lane may.i call (span_block c.places call.claim may.i)) ≡ plain c) (sym (flight_is c.calls may.lane f.call f.flies))
    (subst (λ (at : Option ℕ). plain (filled_of c die good may.lane may.i f.call at) ≡ plain c) (sym f.block) (go f good)))
  where
    by_the_mode : (m : Mode) (call : Flight) (lane : ℕ) (x : Block) → IsAway x → x.written ≡ true → content (by_mode m (with_copy call.claim.side (Some x.flash) x) (record x { lent = Some (record { lane = lane; page = x.flash }) })) ≡ content x
    by_the_mode Shared call lane x a w = put_in_content call.claim.side x a w
    by_the_mode Exclusive call lane x a w = sym (flash_content x a w)

    go : (f : IsFill c.shape c.places c.blocks c.calls die actor may.lane may.i) (t : Bool) → plain (filled_of c die t may.lane may.i f.call (Some f.b)) ≡ plain c
    go f true = same_plain c (changed_at c.blocks (Some f.b) (filled_block f.call may.lane)) (contents_put c.blocks f.b (filled_block f.call may.lane (c.blocks f.b)) (by_the_mode f.call.claim.reach.mode f.call may.lane (c.blocks f.b) f.away f.written))
    go f false = refl

flush_plain : (c : Core) (actor : Actor) (die : ℕ) (good : Bool) (left : Page) → Coherent c → MayFlushIn c actor die good left → plain (flushed c actor die good left) ≡ plain c
flush_plain c actor die good left h may =
    subst (λ (o : Option Out). plain (flushed_by c actor die good left o) ≡ plain c) (sym may.out)
    (let y = flushed_block (written_page good may.page left) (good && (may.version == (c.blocks may.b).version)) (c.blocks may.b) in
    same_plain c (put c.blocks may.b y) (contents_put c.blocks may.b y (flushed_is c actor die good left may.b may.version may.page h may.out may.left_is).content))

meta_plain : (c : Core) (actor : Actor) (die : ℕ) (good : Bool) (left : Page) (o : Option Out) → plain (stored_by c actor die good left o) ≡ plain c
meta_plain c actor die good left None = refl
meta_plain c actor die good left (Some out) = go out.errand
  where
    go : (errand : Errand) → plain (stored_on c actor die good left errand) ≡ plain c
    go (ToFill lane i) = refl
    go (ToFlush b v p) = refl
    go (ToMeta n bytes) = refl

inner_plain : (e : Event) (c : Core) → Coherent c → Happens c e (after c e) → answers_call e ≡ false → plain (after c e) ≡ plain c
inner_plain (Enter lane) c h s i = refl
inner_plain (Leave lane) c h s i = refl
inner_plain (Quick lane request reply) c h s i = absurd (cc)
inner_plain (Skip lane request fault) c h s i = refl
inner_plain (Begin lane request side) c h s i = refl
inner_plain (Copy actor lane k) c h s i =
    let call = flight_at c.calls lane in
    same_plain c (changed_at c.blocks (span_block c.places call.claim k) (read_block call.claim.side)) (same_changed c.blocks (span_block c.places call.claim k) (read_block call.claim.side) (λ b e. read_content call.claim.side (c.blocks b)))
inner_plain (Take actor lane k) c h s i =
    let call = flight_at c.calls lane in
    same_plain c (changed_at c.blocks (span_block c.places call.claim k) (lent_block lane)) (same_changed c.blocks (span_block c.places call.claim k) (lent_block lane) (λ b e. taken_content lane (c.blocks b)))
inner_plain (DieOut actor die (Fill lane k)) c h s i = refl
inner_plain (DieOut actor die (Meta page bytes)) c h s i = refl
inner_plain (FillIn actor die good) c h s i = fill_plain c actor die good h s.may
inner_plain (Submit lane) c h s i = refl
inner_plain (Fetch worker lane) c h s i = refl
inner_plain (Report worker lane) c h s i = refl
inner_plain (End lane request reply) c h s i = absurd (cc)
inner_plain (Evict actor side block) c h s i = evict_plain c side block h s.may
inner_plain (Demote actor block) c h s i = demote_plain c block h s.may
inner_plain (FlushOut actor die block) c h s i = refl
inner_plain (FlushIn actor die good left) c h s i = flush_plain c actor die good left h s.may
inner_plain (MetaIn actor die good left) c h s i = meta_plain c actor die good left (c.dies die).out

pub plain_stays : (c c2 : Core) (e : Event) → Coherent c → Happens c e c2 → answers_call e ≡ false → plain c2 ≡ plain c
plain_stays c c2 e h s i = ap plain s.leaves ∙ inner_plain e c h (record { hands = s.hands; closing = s.closing; may = s.may; leaves = refl }) i
