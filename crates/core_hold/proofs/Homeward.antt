-- A die comes home: FillIn, FlushIn and MetaIn.
use Rattle.std.proofs.Common.{◌≡◌, ℕ, ◌+◌, Bool, true, false, Option, Some, None, refl, sym, ap, ◌∙◌, subst}
use Rattle.std.specs.Prelude.{◌≢◌, ◌&&◌, ◌==◌, not}
use Rattle.index_lists.specs.Words.{put, one_if}
use Rattle.core_quick.specs.Actor.{Actor}
use Rattle.core_quick.specs.Actor.TheVariants.{Lane, Worker, Flusher, Closer}
use Rattle.core_quick.specs.Event.TheVariants.{FillIn, FlushIn, MetaIn}
use Rattle.core_quick.specs.State.{Page, Block, Mode, Shared, Exclusive, Flight, ToFill, ToFlush, ToMeta, Out, DieState, Core}
use Rattle.core_quick.specs.Contents.{with_copy, content, flashes, span_block, die_of, die_of_page, IsAway}
use Rattle.core_quick.specs.Reach.{by_mode}
use Rattle.core_quick.specs.Dies.{owner, IsSyncing, MayFlush, MaySync, IsFill}
use Rattle.core_quick.specs.Coherent.{Coherent}
use Rattle.core_quick.specs.DieEvents.{home_filled, home_written, marked_if, marked_by, written_page, flushed_block, filled_block, filled_flight, flash_at, filled_of, filled_by, flushed_by, counted, stored_of, stored_by, MayFillIn, MayFlushIn}
use Rattle.core_quick.specs.Hold.{call_owned, closer_held, hold}
use Rattle.core_quick.proofs.Blocks.{contents_put}
use Rattle.core_quick.proofs.Phases.{flight_is}
use Rattle.core_quick.proofs.Metas.{sync_held}
use Rattle.core_pages.proofs.FillIn.{put_in_content, read_content as flash_content}
use Rattle.core_pages.proofs.FlushIn.{flushed_is}
use Rattle.core_hold.specs.Keeps.{KeepsHolds}
use Rattle.core_hold.proofs.Actors.{not_owner, held_by, held_by_other}
use Rattle.core_hold.proofs.Views.{same_hold, lane_other, lane_marked, seen_by, owned_lane, not_owned_at, flashes_put}
use Rattle.core_hold.proofs.Dies.{SamePages, pages_same, pages_meta, pages_flash, dies_put}
use Rattle.core_hold.proofs.Lanes.{no_call_owned}
use Rattle.core_hold.proofs.Copies.{call_holds, gather_holds}

-- ---- another actor's die is at home again

home_holds : (c : Core) (die : ℕ) (x : DieState) (a : Actor) → held_by a (c.dies die).out ≡ false → held_by a x.out ≡ false → hold (record c { dies = put c.dies die x }) a ≡ hold c a
home_holds c die x a before now =
    same_hold (hold (record c { dies = put c.dies die x }) a) (hold c a)
    (dies_put c.shape c.meta c.meta (flashes c.blocks) (flashes c.blocks) c.dies die x a before now (pages_same c.shape c.meta (flashes c.blocks) die)) refl refl refl refl

-- ---- a lane is marked by an actor that owns its call

mark_holds : (c : Core) (lane : ℕ) (actor : Actor) (call : Flight) (failed : Bool) (a : Actor) → c.calls lane ≡ Some call → owner lane call.phase ≡ Some actor → a ≢ actor →
    hold (record c { lanes = put c.lanes lane (marked_if failed (c.lanes lane)) }) a ≡ hold c a
mark_holds c lane actor call failed a e owns n =
    let x = marked_if failed (c.lanes lane) in
    let free = not_owner a actor lane call.phase owns n in
    same_hold (hold (record c { lanes = put c.lanes lane x }) a) (hold c a) refl (lane_marked c.lanes c.calls lane call failed a e) refl
    (owned_lane c.lanes a c.calls lane x (not_owned_at x a lane (c.calls lane) call e free ∙ sym (not_owned_at (c.lanes lane) a lane (c.calls lane) call e free))) refl

-- a lane marks itself
own_mark_holds : (c : Core) (lane : ℕ) (failed : Bool) (a : Actor) → a ≢ Lane lane → ((call : Flight) → c.calls lane ≡ Some call → owner lane call.phase ≡ Some (Lane lane)) →
    hold (record c { lanes = put c.lanes lane (marked_if failed (c.lanes lane)) }) a ≡ hold c a
own_mark_holds c lane failed a n owns =
    let x = marked_if failed (c.lanes lane) in
    same_hold (hold (record c { lanes = put c.lanes lane x }) a) (hold c a) refl (lane_other c.lanes c.calls lane x a n) refl
    (owned_lane c.lanes a c.calls lane x (go (c.calls lane) refl)) refl
  where
    go : (o : Option Flight) → c.calls lane ≡ o → call_owned (marked_if failed (c.lanes lane)) a lane (c.calls lane) ≡ call_owned (c.lanes lane) a lane (c.calls lane)
    go None e = no_call_owned (c.lanes lane) (marked_if failed (c.lanes lane)) a lane (c.calls lane) e
    go (Some call) e =
        let free = not_owner a (Lane lane) lane call.phase (owns call e) n in
        not_owned_at (marked_if failed (c.lanes lane)) a lane (c.calls lane) call e free ∙ sym (not_owned_at (c.lanes lane) a lane (c.calls lane) call e free)

-- a lane has no call in flight that another actor owns
abbrev OwnsItsCall : Core → Actor → Type 0
OwnsItsCall c (Lane lane) = (call : Flight) → c.calls lane ≡ Some call → owner lane call.phase ≡ Some (Lane lane)
OwnsItsCall c (Worker w) = Unit {0}
OwnsItsCall c (Flusher f) = Unit {0}
OwnsItsCall c Closer = Unit {0}

marked_by_holds : (c : Core) (actor : Actor) (failed : Bool) (a : Actor) → a ≢ actor → OwnsItsCall c actor → hold (record c { lanes = marked_by actor failed c.lanes }) a ≡ hold c a
marked_by_holds c (Lane lane) failed a n owns = own_mark_holds c lane failed a n owns
marked_by_holds c (Worker w) failed a n owns = refl
marked_by_holds c (Flusher f) failed a n owns = refl
marked_by_holds c Closer failed a n owns = refl

-- a call in a `sync` is held by its lane
sync_owned : (c : Core) (lane : ℕ) (s : IsSyncing (c.calls lane)) → Coherent c → owner lane s.flight.phase ≡ Some (Lane lane)
sync_owned c lane s h = ap (owner lane) (sync_held c lane s.flight h s.flies s.sync)

some_same : {A : Type 0} (o : Option A) (x y : A) → o ≡ Some x → o ≡ Some y → x ≡ y
some_same o x y e f = cc

not_none : {A : Type 0} (o : Option A) (x : A) → o ≡ Some x → o ≢ None
not_none o x e f = cc

-- ---- FillIn

filled_claim : (mode : Mode) (call x y : Flight) → x.claim ≡ call.claim → y.claim ≡ call.claim → (by_mode mode x y).claim ≡ call.claim
filled_claim Shared call x y e f = e
filled_claim Exclusive call x y e f = f

filled_phase : (mode : Mode) (call x y : Flight) → x.phase ≡ call.phase → y.phase ≡ call.phase → (by_mode mode x y).phase ≡ call.phase
filled_phase Shared call x y e f = e
filled_phase Exclusive call x y e f = f

filled_content : (mode : Mode) (call : Flight) (lane : ℕ) (x : Block) → IsAway x → x.written ≡ true →
    content (by_mode mode (with_copy call.claim.side (Some x.flash) x) (record x { lent = Some (record { lane = lane; page = x.flash }) })) ≡ content x
filled_content Shared call lane x a w = put_in_content call.claim.side x a w
filled_content Exclusive call lane x a w = sym (flash_content x a w)

filled_flash : (mode : Mode) (x y z : Block) → y.flash ≡ x.flash → z.flash ≡ x.flash → (by_mode mode y z).flash ≡ x.flash
filled_flash Shared x y z e f = e
filled_flash Exclusive x y z e f = f

fill_in_of : (c : Core) (actor : Actor) (die : ℕ) (lane i : ℕ) (good : Bool) (a : Actor) → (f : IsFill c.shape c.places c.blocks c.calls die actor lane i) → held_by a (c.dies die).out ≡ false → a ≢ actor →
    hold (filled_of c die good lane i f.call (Some f.b)) a ≡ hold c a
fill_in_of c actor die lane i good a f before n = go good
  where
    homed : (t : Bool) → hold (record c { dies = put c.dies die (home_filled (c.dies die) t) }) a ≡ hold c a
    homed t = home_holds c die (home_filled (c.dies die) t) a before refl

    marked : (t : Bool) → hold (record c { dies = put c.dies die (home_filled (c.dies die) t); lanes = put c.lanes lane (marked_if (not t) (c.lanes lane)) }) a ≡ hold c a
    marked t = mark_holds (record c { dies = put c.dies die (home_filled (c.dies die) t) }) lane actor f.call (not t) a f.flies f.owns n ∙ homed t

    go : (t : Bool) → hold (filled_of c die t lane i f.call (Some f.b)) a ≡ hold c a
    go false = marked false
    go true =
        gather_holds (record c { dies = put c.dies die (home_filled (c.dies die) true); lanes = put c.lanes lane (marked_if (not true) (c.lanes lane)) }) lane actor f.call
        (filled_flight f.call i (flash_at c.blocks (Some f.b))) (put c.blocks f.b (filled_block f.call lane (c.blocks f.b))) a f.flies
        (filled_claim f.call.claim.reach.mode f.call _ _ refl refl) (filled_phase f.call.claim.reach.mode f.call _ _ refl refl) f.owns n
        (contents_put c.blocks f.b (filled_block f.call lane (c.blocks f.b)) (filled_content f.call.claim.reach.mode f.call lane (c.blocks f.b) f.away f.written))
        (flashes_put c.blocks f.b (filled_block f.call lane (c.blocks f.b)) (filled_flash f.call.claim.reach.mode (c.blocks f.b) _ _ refl refl))
        ∙ marked true

fill_in_same : (c : Core) (actor : Actor) (die : ℕ) (good : Bool) (a : Actor) → Coherent c → MayFillIn c actor die → a ≢ actor → hold (filled_by c die good (c.dies die).out) a ≡ hold c a
fill_in_same c actor die good a h may n =
    let f = h.dies.right die (record { holder = actor; errand = ToFill may.lane may.i }) may.out in
    subst (λ (o : Option Out). hold (filled_by c die good o) a ≡ hold c a) (sym may.out)
    (subst (λ (call : Flight). hold (filled_of c die good may.lane may.i call (span_block c.places call.claim may.i)) a ≡ hold c a) (sym (flight_is c.calls may.lane f.call f.flies))
    (subst (λ (at : Option ℕ). hold (filled_of c die good may.lane may.i f.call at) a ≡ hold c a) (sym f.block)
    (fill_in_of c actor die may.lane may.i good a f (held_by_other a (c.dies die).out (record { holder = actor; errand = ToFill may.lane may.i }) may.out n) n)))

pub fill_in_holds : (actor : Actor) (die : ℕ) (good : Bool) → KeepsHolds (FillIn actor die good)
fill_in_holds actor die good c c2 a h s n = ap (λ (k : Core). hold k a) s.leaves ∙ fill_in_same c actor die good a h s.may n

-- ---- FlushIn

flush_home : (c : Core) (die b : ℕ) (x : DieState) (y : Block) (a : Actor) → held_by a (c.dies die).out ≡ false → held_by a x.out ≡ false → die_of c.shape b ≡ die → content y ≡ content (c.blocks b) →
    hold (record c { dies = put c.dies die x; blocks = put c.blocks b y }) a ≡ hold c a
flush_home c die b x y a before now on same =
    same_hold (hold (record c { dies = put c.dies die x; blocks = put c.blocks b y }) a) (hold c a)
    (dies_put c.shape c.meta c.meta (flashes c.blocks) (flashes (put c.blocks b y)) c.dies die x a before now
    (subst (λ (d : ℕ). SamePages c.shape c.meta c.meta (flashes c.blocks) (flashes (put c.blocks b y)) d) on (pages_flash c.shape c.meta c.blocks b y)))
    refl (ap (λ (pages : ℕ → Page). seen_by c.names c.places pages a c.calls) (contents_put c.blocks b y same)) refl refl

flush_owned : (c : Core) (actor : Actor) → Coherent c → MayFlush c.lanes c.calls actor → OwnsItsCall c actor
flush_owned c (Lane lane) h m =
    λ call e.
    let s = m.sync (not_none (c.calls lane) call e) in
    ap (λ (f : Flight). owner lane f.phase) (some_same (c.calls lane) call s.flight e s.flies) ∙ sync_owned c lane s h
flush_owned c (Worker w) h m = tt
flush_owned c (Flusher f) h m = tt
flush_owned c Closer h m = tt

flush_in_same : (c : Core) (actor : Actor) (die : ℕ) (good : Bool) (left : Page) (a : Actor) → Coherent c → MayFlushIn c actor die good left → a ≢ actor → hold (flushed_by c actor die good left (c.dies die).out) a ≡ hold c a
flush_in_same c actor die good left a h may n =
    let out : Out = record { holder = actor; errand = ToFlush may.b may.version may.page } in
    let right = h.dies.right die out may.out in
    let x = home_written (c.dies die) good in
    let y = flushed_block (written_page good may.page left) (good && (may.version == (c.blocks may.b).version)) (c.blocks may.b) in
    subst (λ (o : Option Out). hold (flushed_by c actor die good left o) a ≡ hold c a) (sym may.out)
    (marked_by_holds (record c { dies = put c.dies die x; blocks = put c.blocks may.b y }) actor (not good) a n (flush_owned c actor h right.3)
    ∙ flush_home c die may.b x y a (held_by_other a (c.dies die).out out may.out n) refl right.1
    (flushed_is c actor die good left may.b may.version may.page h may.out may.left_is).content)

pub flush_in_holds : (actor : Actor) (die : ℕ) (good : Bool) (left : Page) → KeepsHolds (FlushIn actor die good left)
flush_in_holds actor die good left c c2 a h s n = ap (λ (k : Core). hold k a) s.leaves ∙ flush_in_same c actor die good left a h s.may n

-- ---- MetaIn

meta_home : (c : Core) (die number : ℕ) (x : DieState) (page : Page) (a : Actor) → held_by a (c.dies die).out ≡ false → held_by a x.out ≡ false → die_of_page c.shape number ≡ die →
    hold (record c { dies = put c.dies die x; meta = put c.meta number page }) a ≡ hold c a
meta_home c die number x page a before now on =
    same_hold (hold (record c { dies = put c.dies die x; meta = put c.meta number page }) a) (hold c a)
    (dies_put c.shape c.meta (put c.meta number page) (flashes c.blocks) (flashes c.blocks) c.dies die x a before now
    (subst (λ (d : ℕ). SamePages c.shape c.meta (put c.meta number page) (flashes c.blocks) (flashes c.blocks) d) on (pages_meta c.shape c.meta (flashes c.blocks) number page)))
    refl refl refl refl

closer_same : (a : Actor) (n m : ℕ) → a ≢ Closer → closer_held a n ≡ closer_held a m
closer_same (Lane l) n m d = refl
closer_same (Worker w) n m d = refl
closer_same (Flusher f) n m d = refl
closer_same Closer n m d = absurd (d refl)

closer_holds : (c : Core) (number : ℕ) (a : Actor) → a ≢ Closer → hold (record c { closer = number }) a ≡ hold c a
closer_holds c number a n = same_hold (hold (record c { closer = number }) a) (hold c a) refl refl refl refl (closer_same a number c.closer n)

counted_holds : (c : Core) (lane : ℕ) (good : Bool) (a : Actor) (s : IsSyncing (c.calls lane)) → owner lane s.flight.phase ≡ Some (Lane lane) → a ≢ Lane lane → hold (record c { calls = put c.calls lane (counted good (c.calls lane)) }) a ≡ hold c a
counted_holds c lane good a s owns n =
    let call2 = record s.flight { meta = s.flight.meta + one_if good } in
    subst (λ (o : Option Flight). hold (record c { calls = put c.calls lane o }) a ≡ hold c a) (sym (ap (counted good) s.flies))
    (call_holds c lane (Lane lane) s.flight call2 a s.flies refl refl owns n)

meta_in_of : (c : Core) (actor : Actor) (die : ℕ) (good : Bool) (left : Page) (number : ℕ) (bytes : Page) (a : Actor) → Coherent c → (c.dies die).out ≡ Some (record { holder = actor; errand = ToMeta number bytes }) → a ≢ actor →
    hold (stored_of c actor die good left number bytes) a ≡ hold c a
meta_in_of c actor die good left number bytes a h o n = go actor (h.dies.right die (record { holder = actor; errand = ToMeta number bytes }) o).2 n
  where
    home : hold (record c { dies = put c.dies die (home_written (c.dies die) good); meta = put c.meta number (written_page good bytes left) }) a ≡ hold c a
    home = meta_home c die number (home_written (c.dies die) good) (written_page good bytes left) a (held_by_other a (c.dies die).out (record { holder = actor; errand = ToMeta number bytes }) o n) refl (h.dies.right die (record { holder = actor; errand = ToMeta number bytes }) o).1

    go : (b : Actor) → MaySync c.calls b → a ≢ b → hold (stored_of c b die good left number bytes) a ≡ hold c a
    go (Lane lane) s m =
        let owns = sync_owned c lane s h in
        counted_holds (record c { dies = put c.dies die (home_written (c.dies die) good); meta = put c.meta number (written_page good bytes left); lanes = put c.lanes lane (marked_if (not good) (c.lanes lane)) }) lane good a s owns m
        ∙ (own_mark_holds (record c { dies = put c.dies die (home_written (c.dies die) good); meta = put c.meta number (written_page good bytes left) }) lane (not good) a m
        (λ call e. ap (λ (f : Flight). owner lane f.phase) (some_same (c.calls lane) call s.flight e s.flies) ∙ owns)
        ∙ home)
    go (Worker w) s m = absurd s
    go (Flusher f) s m = absurd s
    go Closer s m = closer_holds (record c { dies = put c.dies die (home_written (c.dies die) good); meta = put c.meta number (written_page good bytes left) }) (c.closer + one_if good) a m ∙ home

pub meta_in_holds : (actor : Actor) (die : ℕ) (good : Bool) (left : Page) → KeepsHolds (MetaIn actor die good left)
meta_in_holds actor die good left c c2 a h s n =
    ap (λ (k : Core). hold k a) s.leaves
    ∙ subst (λ (o : Option Out). hold (stored_by c actor die good left o) a ≡ hold c a) (sym s.may.out) (meta_in_of c actor die good left s.may.number s.may.bytes a h s.may.out n)
