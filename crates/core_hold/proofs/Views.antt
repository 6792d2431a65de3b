-- What an actor holds of lanes and calls, where one lane or one call changes.
use Rattle.std.proofs.Common.{◌≡◌, ℕ, Bool, true, false, Option, Some, None, refl, sym, ap, ◌∙◌, subst}
use Rattle.std.specs.Prelude.{◌≢◌, if◌then◌else◌, is_some}
use mathlib.Core.Path.{fun_ext}
use Rattle.index_lists.specs.Words.{put}
use Rattle.index_lists.proofs.Puts.{put-other, put-each}
use Rattle.core_quick.specs.Actor.{Actor}
use Rattle.core_quick.specs.Actor.TheVariants.{Lane, Worker, Flusher, Closer}
use Rattle.core_quick.specs.Words.{changed_at}
use Rattle.core_quick.specs.State.{Page, Block, Names, Places, LaneState, Flight}
use Rattle.core_quick.specs.Contents.{content, contents, flashes}
use Rattle.core_quick.specs.DieEvents.{marked_if}
use Rattle.core_quick.specs.Hold.{is_owner, sees, HeldLane, lane_alone, lane_held, SeenCall, seen_call, call_seen, OwnedCall, owned_call, call_owned, Hold}
use Rattle.core_quick.proofs.Blocks.{contents_put}

-- the same in each part
pub same_hold : (h k : Hold) → h.dies ≡ k.dies → h.lane ≡ k.lane → h.seen ≡ k.seen → h.owned ≡ k.owned → h.closer ≡ k.closer → h ≡ k
same_hold h k d l s o c = λ i. record { dies = d i; lane = l i; seen = s i; owned = o i; closer = c i }

-- ---- lanes

abbrev alone_if : LaneState → Bool → HeldLane
alone_if l t = record { stage = l.stage; in_flight = t; ended = l.ended; mark = if t then None else Some l.mark }

-- another lane changes
pub lane_other : (lanes : ℕ → LaneState) (calls : ℕ → Option Flight) (lane : ℕ) (x : LaneState) (a : Actor) → a ≢ Lane lane → lane_held (put lanes lane x) calls a ≡ lane_held lanes calls a
lane_other lanes calls lane x (Lane l) n = ap (λ (w : LaneState). Some (lane_alone w (calls l))) (put-other lanes lane x l (λ e. n (ap (λ (k : ℕ). Lane k) e)))
lane_other lanes calls lane x (Worker w) n = refl
lane_other lanes calls lane x (Flusher f) n = refl
lane_other lanes calls lane x Closer n = refl

-- another lane's call changes
pub lane_other_call : (lanes : ℕ → LaneState) (calls : ℕ → Option Flight) (lane : ℕ) (o : Option Flight) (a : Actor) → a ≢ Lane lane → lane_held lanes (put calls lane o) a ≡ lane_held lanes calls a
lane_other_call lanes calls lane o (Lane l) n = ap (λ (w : Option Flight). Some (lane_alone (lanes l) w)) (put-other calls lane o l (λ e. n (ap (λ (k : ℕ). Lane k) e)))
lane_other_call lanes calls lane o (Worker w) n = refl
lane_other_call lanes calls lane o (Flusher f) n = refl
lane_other_call lanes calls lane o Closer n = refl

-- a lane's call changes that stays in flight
pub lane_flies : (lanes : ℕ → LaneState) (calls : ℕ → Option Flight) (lane : ℕ) (o : Option Flight) (a : Actor) → is_some o ≡ is_some (calls lane) → lane_held lanes (put calls lane o) a ≡ lane_held lanes calls a
lane_flies lanes calls lane o (Lane l) e = ap (λ (t : Bool). Some (alone_if (lanes l) t)) (put-each (λ (j : ℕ) (w : Option Flight). is_some w ≡ is_some (calls j)) calls lane o e (λ j n. refl) l)
lane_flies lanes calls lane o (Worker w) e = refl
lane_flies lanes calls lane o (Flusher f) e = refl
lane_flies lanes calls lane o Closer e = refl

-- a lane is marked that has a call in flight
pub lane_marked : (lanes : ℕ → LaneState) (calls : ℕ → Option Flight) (lane : ℕ) (call : Flight) (failed : Bool) (a : Actor) → calls lane ≡ Some call → lane_held (put lanes lane (marked_if failed (lanes lane))) calls a ≡ lane_held lanes calls a
lane_marked lanes calls lane call failed (Lane l) e =
    ap (λ (w : HeldLane). Some w)
    (put-each (λ (j : ℕ) (w : LaneState). lane_alone w (calls j) ≡ lane_alone (lanes j) (calls j)) lanes lane (marked_if failed (lanes lane))
    (subst (λ (o : Option Flight). lane_alone (marked_if failed (lanes lane)) o ≡ lane_alone (lanes lane) o) (sym e) refl) (λ j n. refl) l)
lane_marked lanes calls lane call failed (Worker w) e = refl
lane_marked lanes calls lane call failed (Flusher f) e = refl
lane_marked lanes calls lane call failed Closer e = refl

-- ---- calls that are seen

abbrev pub seen_by : Names → Places → (ℕ → Page) → Actor → (ℕ → Option Flight) → ℕ → Option SeenCall
seen_by names places pages a calls l = call_seen names places pages a l (calls l)

pub seen_put : (names : Names) (places : Places) (pages : ℕ → Page) (a : Actor) (calls : ℕ → Option Flight) (lane : ℕ) (o : Option Flight) →
    call_seen names places pages a lane o ≡ call_seen names places pages a lane (calls lane) → seen_by names places pages a (put calls lane o) ≡ seen_by names places pages a calls
seen_put names places pages a calls lane o here =
    fun_ext (put-each (λ (j : ℕ) (w : Option Flight). call_seen names places pages a j w ≡ call_seen names places pages a j (calls j)) calls lane o here (λ j n. refl))

-- a call that isn't seen
pub unseen : (names : Names) (places : Places) (pages : ℕ → Page) (a : Actor) (lane : ℕ) (call : Flight) → sees a lane call.phase ≡ false → call_seen names places pages a lane (Some call) ≡ None
unseen names places pages a lane call e = ap (λ (t : Bool). if t then Some (seen_call names places pages call) else None) e

-- and one that is
pub is_seen : (names : Names) (places : Places) (pages : ℕ → Page) (a : Actor) (lane : ℕ) (call : Flight) → sees a lane call.phase ≡ true → call_seen names places pages a lane (Some call) ≡ Some (seen_call names places pages call)
is_seen names places pages a lane call e = ap (λ (t : Bool). if t then Some (seen_call names places pages call) else None) e

-- ---- calls that are owned

abbrev pub owned_by : (ℕ → LaneState) → Actor → (ℕ → Option Flight) → ℕ → Option OwnedCall
owned_by lanes a calls l = call_owned (lanes l) a l (calls l)

pub owned_put : (lanes : ℕ → LaneState) (a : Actor) (calls : ℕ → Option Flight) (lane : ℕ) (o : Option Flight) →
    call_owned (lanes lane) a lane o ≡ call_owned (lanes lane) a lane (calls lane) → owned_by lanes a (put calls lane o) ≡ owned_by lanes a calls
owned_put lanes a calls lane o here =
    fun_ext (put-each (λ (j : ℕ) (w : Option Flight). call_owned (lanes j) a j w ≡ call_owned (lanes j) a j (calls j)) calls lane o here (λ j n. refl))

pub owned_lane : (lanes : ℕ → LaneState) (a : Actor) (calls : ℕ → Option Flight) (lane : ℕ) (x : LaneState) →
    call_owned x a lane (calls lane) ≡ call_owned (lanes lane) a lane (calls lane) → owned_by (put lanes lane x) a calls ≡ owned_by lanes a calls
owned_lane lanes a calls lane x here =
    fun_ext (put-each (λ (j : ℕ) (w : LaneState). call_owned w a j (calls j) ≡ call_owned (lanes j) a j (calls j)) lanes lane x here (λ j n. refl))

-- a call that isn't owned
pub not_owned : (l : LaneState) (a : Actor) (lane : ℕ) (call : Flight) → is_owner a lane call.phase ≡ false → call_owned l a lane (Some call) ≡ None
not_owned l a lane call e = ap (λ (t : Bool). if t then Some (owned_call l call) else None) e

pub not_owned_at : (l : LaneState) (a : Actor) (lane : ℕ) (o : Option Flight) (call : Flight) → o ≡ Some call → is_owner a lane call.phase ≡ false → call_owned l a lane o ≡ None
not_owned_at l a lane o call e f = ap (call_owned l a lane) e ∙ not_owned l a lane call f

-- ---- blocks

pub contents_changed : (blocks : ℕ → Block) (at : Option ℕ) (change : Block → Block) → ((x : Block) → content (change x) ≡ content x) → contents (changed_at blocks at change) ≡ contents blocks
contents_changed blocks None change h = refl
contents_changed blocks (Some b) change h = contents_put blocks b (change (blocks b)) (h (blocks b))

pub flashes_put : (blocks : ℕ → Block) (b : ℕ) (y : Block) → y.flash ≡ (blocks b).flash → flashes (put blocks b y) ≡ flashes blocks
flashes_put blocks b y e = fun_ext (put-each (λ (j : ℕ) (w : Block). w.flash ≡ (blocks j).flash) blocks b y e (λ j n. refl))

pub flashes_changed : (blocks : ℕ → Block) (at : Option ℕ) (change : Block → Block) → ((x : Block) → (change x).flash ≡ x.flash) → flashes (changed_at blocks at change) ≡ flashes blocks
flashes_changed blocks None change h = refl
flashes_changed blocks (Some b) change h = flashes_put blocks b (change (blocks b)) (h (blocks b))
