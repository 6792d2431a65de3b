-- Which events can happen once every lane has left and no call is in flight.
use Rattle.std.proofs.Common.{◌≡◌, ℕ, ◌+◌, ◌<◌, ◌≤◌, Bool, true, false, List, [], ◌∷◌, Option, Some, None, refl, sym, ap, ◌∙◌, subst, ⊎_elim, arith}
use Rattle.std.specs.Prelude.{◌≢◌}
use Rattle.page_base.specs.Drive.{meta_pages}
use Rattle.index_lists.specs.Words.{one_if, count}
use Rattle.index_lists.proofs.Counts.{count-here, count-nil}
use Rattle.core_state.specs.declared.actor.Actor.{Actor}
use Rattle.core_state.specs.declared.actor.Actor.TheVariants.{Lane, Worker, Flusher, Closer}
use Rattle.core_state.specs.declared.event.Event.{Event}
use Rattle.core_state.specs.declared.event.Event.TheVariants.{Enter, Leave, Quick, Skip, Begin, Copy, Take, DieOut, FillIn, Submit, Fetch, Report, End, Evict, Demote, FlushOut, FlushIn, MetaIn}
use Rattle.core_state.specs.declared.event.Purpose.TheVariants.{Fill, Meta}
use Rattle.core_state.specs.State.{Page, Shape, Gone, Flight, ToFill, ToFlush, ToMeta, Out, Core}
use Rattle.core_state.specs.Coherent.{Coherent}
use Rattle.core_state.specs.Dies.{MaySync}
use Rattle.core_state.specs.LaneEvents.{IsIdle}
use Rattle.core_state.specs.DieEvents.{MayWriteMeta, flushed_by, stored_by}
use Rattle.core_state.specs.Frames.{is_queued}
use Rattle.core_state.specs.Happens.{HoldsNone, IsClosing, CoreRun, Happens, after}
use Rattle.core_history.proofs.Leaving.{gone_stays}
use Rattle.core_lanes.proofs.Phases.{queued_call_of, true_of}
use Rattle.core_lemmas.proofs.Words.{nothing}
use Rattle.core_stores.proofs.Folds.{run_keeps}

-- copies give way, blocks are flushed, and the closer writes the meta data
abbrev pub IsShut : Event → Type 0
IsShut (Evict actor side b) = Unit {0}
IsShut (Demote actor b) = Unit {0}
IsShut (FlushOut actor die b) = Unit {0}
IsShut (FlushIn actor die good left) = Unit {0}
IsShut (DieOut actor die (Fill lane i)) = ⊥
IsShut (DieOut actor die (Meta n bytes)) = actor ≡ Closer
IsShut (MetaIn actor die good left) = actor ≡ Closer
IsShut _ = ⊥

not_idle : (c : Core) (lane : ℕ) → IsClosing c → IsIdle c lane → ⊥
not_idle c lane s i = let g = s.left lane i.within in let k = i.inside in absurd (cc)

not_flying : (c : Core) (lane : ℕ) (x : Flight) → IsClosing c → c.calls lane ≡ Some x → ⊥
not_flying c lane x s e = nothing (c.calls lane) x (s.none lane) e

-- the meta data is the closer's then
by_closer : (c : Core) (actor : Actor) → IsClosing c → MaySync c.calls actor → actor ≡ Closer
by_closer c (Lane l) s m = absurd (not_flying c l m.flight s m.flies)
by_closer c (Worker w) s m = absurd m
by_closer c (Flusher f) s m = absurd m
by_closer c Closer s m = refl

writes_closer : (c : Core) (actor : Actor) (n : ℕ) → IsClosing c → MayWriteMeta c actor n → actor ≡ Closer
writes_closer c (Lane l) n s m = absurd (not_flying c l m.0.flight s m.0.flies)
writes_closer c (Worker w) n s m = absurd m
writes_closer c (Flusher f) n s m = absurd m
writes_closer c Closer n s m = refl

not_fetched : (c : Core) (lane : ℕ) (rest : List ℕ) → Coherent c → IsClosing c → c.queue ≡ lane ∷ rest → ⊥
not_fetched c lane rest h s e =
    let q = queued_call_of (c.calls lane) (true_of (is_queued (c.calls lane)) (count lane rest) (sym (count-here lane rest) ∙ (ap (count lane) (sym e) ∙ h.orders.queued.lists lane))) in
    not_flying c lane q.call s q.flies

pub shut_event : (e : Event) (c : Core) → Coherent c → IsClosing c → Happens c e (after c e) → IsShut e
shut_event (Enter lane) c h s k = let g = s.left lane k.may.within in let o = k.may.outside in absurd (cc)
shut_event (Leave lane) c h s k = absurd (not_idle c lane s k.may.idle)
shut_event (Quick lane request reply) c h s k = absurd (not_idle c lane s k.may.ready.idle)
shut_event (Skip lane request fault) c h s k = absurd (not_idle c lane s k.may.idle)
shut_event (Begin lane request side) c h s k = absurd (not_idle c lane s k.may.ready.idle)
shut_event (Copy actor lane i) c h s k = absurd (not_flying c lane k.may.call s k.may.wants.flies)
shut_event (Take actor lane i) c h s k = absurd (not_flying c lane k.may.call s k.may.wants.flies)
shut_event (DieOut actor die (Fill lane i)) c h s k = absurd (not_flying c lane k.may.call s k.may.wants.flies)
shut_event (DieOut actor die (Meta n bytes)) c h s k = writes_closer c actor n s k.may.writes
shut_event (FillIn actor die good) c h s k =
    let f = h.dies.right die (record { holder = actor; errand = ToFill k.may.lane k.may.i }) k.may.out in
    absurd (not_flying c k.may.lane f.call s f.flies)
shut_event (Submit lane) c h s k = absurd (not_flying c lane k.may.call s k.may.flies)
shut_event (Fetch worker lane) c h s k = absurd (not_fetched c lane k.may.rest h s k.may.first)
shut_event (Report worker lane) c h s k = absurd (not_flying c lane k.may.call s k.may.flies)
shut_event (End lane request reply) c h s k = absurd (not_flying c lane k.may.call s k.may.flies)
shut_event (Evict actor side b) c h s k = tt
shut_event (Demote actor b) c h s k = tt
shut_event (FlushOut actor die b) c h s k = tt
shut_event (FlushIn actor die good left) c h s k = tt
shut_event (MetaIn actor die good left) c h s k = by_closer c actor s (h.dies.right die (record { holder = actor; errand = ToMeta k.may.number k.may.bytes }) k.may.out).2

-- the holder of a die for the meta data is the closer then
pub meta_holder : (c : Core) (die : ℕ) (holder : Actor) (n : ℕ) (bytes : Page) → Coherent c → IsClosing c → (c.dies die).out ≡ Some (record { holder = holder; errand = ToMeta n bytes }) →
    (holder ≡ Closer) × (n < meta_pages c.shape.blocks)
meta_holder c die holder n bytes h s out =
    let r = h.dies.right die (record { holder = holder; errand = ToMeta n bytes }) out in
    (by_closer c holder s r.2, r.0)

-- ---- it stays so

pub kept_after : (e : Event) (c : Core) → Coherent c → Happens c e (after c e) → Coherent (after c e)
kept_after e c h k = run_keeps c (after c e) (e ∷ []) h (k, refl)

no_call : (d : Core) (lane : ℕ) (o : Option Flight) → Coherent d → ((l : ℕ) → l < d.shape.lanes → (d.lanes l).stage ≡ Gone) → d.calls lane ≡ o → o ≡ None
no_call d lane None h left e = refl
no_call d lane (Some f) h left e = let t = h.dies.in_turn lane f e in let g = left lane t.0 in absurd (cc)

shut_shape : (e : Event) (c : Core) → IsShut e → Happens c e (after c e) → (after c e).shape ≡ c.shape
shut_shape (Evict actor side b) c f k = refl
shut_shape (Demote actor b) c f k = refl
shut_shape (FlushOut actor die b) c f k = refl
shut_shape (DieOut actor die (Fill lane i)) c f k = absurd f
shut_shape (DieOut actor die (Meta n bytes)) c f k = refl
shut_shape (FlushIn actor die good left) c f k = ap (λ (o : Option Out). (flushed_by c actor die good left o).shape) k.may.out
shut_shape (MetaIn actor die good left) c f k = ap (λ (o : Option Out). (stored_by c actor die good left o).shape) k.may.out
shut_shape (Enter lane) c f k = absurd f
shut_shape (Leave lane) c f k = absurd f
shut_shape (Quick lane request reply) c f k = absurd f
shut_shape (Skip lane request fault) c f k = absurd f
shut_shape (Begin lane request side) c f k = absurd f
shut_shape (Copy actor lane i) c f k = absurd f
shut_shape (Take actor lane i) c f k = absurd f
shut_shape (FillIn actor die good) c f k = absurd f
shut_shape (Submit lane) c f k = absurd f
shut_shape (Fetch worker lane) c f k = absurd f
shut_shape (Report worker lane) c f k = absurd f
shut_shape (End lane request reply) c f k = absurd f

pub closing_after : (e : Event) (c : Core) → Coherent c → Happens c e (after c e) → IsClosing c → IsClosing (after c e)
closing_after e c h k s =
    let shape : (after c e).shape ≡ c.shape = shut_shape e c (shut_event e c h s k) k in
    let left : (l : ℕ) → l < (after c e).shape.lanes → ((after c e).lanes l).stage ≡ Gone = λ l m. gone_stays c (after c e) e l k (s.left l (subst (λ (z : Shape). l < z.lanes) shape m)) in
    record { left = left; none = λ l. no_call (after c e) l ((after c e).calls l) (kept_after e c h k) left refl }

pub closing_run : (es : List Event) (c d : Core) → Coherent c → IsClosing c → CoreRun c es d → IsClosing d
closing_run [] c d h s r = subst IsClosing (sym r) s
closing_run (e ∷ es) c d h s r = closing_run es (after c e) d (kept_after e c h r.0) (closing_after e c h r.0 s) r.1
