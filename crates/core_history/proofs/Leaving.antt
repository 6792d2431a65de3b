-- A lane that has left stays so.
use Rattle.std.proofs.Common.{◌≡◌, ℕ, Bool, Option, Some, None, refl, sym, ap, ◌∙◌, subst, ⊎_elim}
use Rattle.std.specs.Prelude.{◌≢◌, not}
use Rattle.index_lists.specs.Words.{put}
use Rattle.index_lists.proofs.Counts.{same_or_not}
use Rattle.index_lists.proofs.Puts.{put-same, put-other}
use Rattle.core_lanes.specs.Actor.{Actor}
use Rattle.core_lanes.specs.Actor.TheVariants.{Lane, Worker, Flusher, Closer}
use Rattle.core_lanes.specs.Event.{Event}
use Rattle.core_lanes.specs.Event.TheVariants.{Enter, Leave, Quick, Skip, Begin, Copy, Take, DieOut, FillIn, Submit, Fetch, Report, End, Evict, Demote, FlushOut, FlushIn, MetaIn}
use Rattle.core_lanes.specs.Purpose.TheVariants.{Fill, Meta}
use Rattle.core_lanes.specs.State.{LaneState, Stage, Outside, Inside, Gone, Errand, ToFill, ToFlush, ToMeta, Out, Core}
use Rattle.core_lanes.specs.PageEvents.{flight_at}
use Rattle.core_lanes.specs.DieEvents.{marked_if, marked_by, filled_on, filled_by, flushed_on, flushed_by, stored_on, stored_by}
use Rattle.core_lanes.specs.LaneEvents.{replied}
use Rattle.core_lanes.specs.Happens.{Happens, after}
use Rattle.core_history.proofs.Faults.{ended_lanes}

abbrev IsGone : (ℕ → LaneState) → ℕ → Type 0
IsGone lanes l = (lanes l).stage ≡ Gone

-- a lane changes: it is another one, or it was gone and is
gone_put : (lanes : ℕ → LaneState) (lane l : ℕ) (x : LaneState) → ((lanes lane).stage ≡ Gone → x.stage ≡ Gone) → IsGone lanes l → IsGone (put lanes lane x) l
gone_put lanes lane l x stays g = ⊎_elim
    (λ (s : l ≡ lane). ap (λ (w : LaneState). w.stage) (ap (put lanes lane x) s ∙ put-same lanes lane x) ∙ stays (ap (λ (k : ℕ). (lanes k).stage) (sym s) ∙ g))
    (λ (d : l ≢ lane). ap (λ (w : LaneState). w.stage) (put-other lanes lane x l d) ∙ g) (same_or_not l lane)

gone_marked : (lanes : ℕ → LaneState) (actor : Actor) (failed : Bool) (l : ℕ) → IsGone lanes l → IsGone (marked_by actor failed lanes) l
gone_marked lanes (Lane k) failed l g = gone_put lanes k l (marked_if failed (lanes k)) (λ e. e) g
gone_marked lanes (Worker w) failed l g = g
gone_marked lanes (Flusher f) failed l g = g
gone_marked lanes Closer failed l g = g

outside_gone : (s : Stage) → s ≡ Outside → s ≡ Gone → ⊥
outside_gone s e f = cc

gone_after : (e : Event) (c : Core) (l : ℕ) → Happens c e (after c e) → IsGone c.lanes l → IsGone (after c e).lanes l
gone_after (Enter lane) c l s g = gone_put c.lanes lane l (record (c.lanes lane) { stage = Inside }) (λ e. absurd (outside_gone (c.lanes lane).stage s.may.outside e)) g
gone_after (Leave lane) c l s g = gone_put c.lanes lane l (record (c.lanes lane) { stage = Gone }) (λ e. refl) g
gone_after (Quick lane request reply) c l s g = gone_put c.lanes lane l (replied (c.lanes lane)) (λ e. e) g
gone_after (Skip lane request fault) c l s g = gone_put c.lanes lane l (replied (c.lanes lane)) (λ e. e) g
gone_after (Begin lane request side) c l s g = g
gone_after (Copy actor lane i) c l s g = g
gone_after (Take actor lane i) c l s g = g
gone_after (DieOut actor die (Fill lane i)) c l s g = g
gone_after (DieOut actor die (Meta page bytes)) c l s g = g
gone_after (FillIn actor die good) c l s g = go (c.dies die).out
  where
    on : (errand : Errand) → IsGone (filled_on c die good errand).lanes l
    on (ToFill lane i) = gone_put c.lanes lane l (marked_if (not good) (c.lanes lane)) (λ e. e) g
    on (ToFlush b v p) = g
    on (ToMeta n bytes) = g

    go : (o : Option Out) → IsGone (filled_by c die good o).lanes l
    go None = g
    go (Some out) = on out.errand
gone_after (Submit lane) c l s g = g
gone_after (Fetch worker lane) c l s g = g
gone_after (Report worker lane) c l s g = g
gone_after (End lane request reply) c l s g =
    subst (λ (lanes : ℕ → LaneState). IsGone lanes l) (sym (ended_lanes c lane (flight_at c.calls lane) reply)) (gone_put c.lanes lane l (replied (c.lanes lane)) (λ e. e) g)
gone_after (Evict actor side block) c l s g = g
gone_after (Demote actor block) c l s g = g
gone_after (FlushOut actor die block) c l s g = g
gone_after (FlushIn actor die good left) c l s g = go (c.dies die).out
  where
    on : (errand : Errand) → IsGone (flushed_on c actor die good left errand).lanes l
    on (ToFill lane i) = g
    on (ToFlush b v p) = gone_marked c.lanes actor (not good) l g
    on (ToMeta n bytes) = g

    go : (o : Option Out) → IsGone (flushed_by c actor die good left o).lanes l
    go None = g
    go (Some out) = on out.errand
gone_after (MetaIn actor die good left) c l s g = go (c.dies die).out
  where
    on : (errand : Errand) → IsGone (stored_on c actor die good left errand).lanes l
    on (ToFill lane i) = g
    on (ToFlush b v p) = g
    on (ToMeta n bytes) = gone_marked c.lanes actor (not good) l g

    go : (o : Option Out) → IsGone (stored_by c actor die good left o).lanes l
    go None = g
    go (Some out) = on out.errand

pub gone_stays : (c c2 : Core) (e : Event) (lane : ℕ) → Happens c e c2 → (c.lanes lane).stage ≡ Gone → (c2.lanes lane).stage ≡ Gone
gone_stays c c2 e lane s g = ap (λ (k : Core). (k.lanes lane).stage) s.leaves ∙ gone_after e c lane (record { hands = s.hands; closing = s.closing; may = s.may; leaves = refl }) g
