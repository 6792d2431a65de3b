-- What a whole call leaves: after its answer no call is in flight, and all dies are at home.
use Rattle.std.proofs.Common.{◌≡◌, ℕ, ◌<◌, Bool, true, false, List, [], ◌∷◌, Option, Some, None, refl, sym, ap, ◌∙◌, subst, ⊎_elim}
use Rattle.std.specs.Prelude.{◌≢◌, not, is_some, if◌then◌else◌}
use Rattle.index_lists.specs.Words.{put}
use Rattle.index_lists.proofs.Counts.{same_or_not}
use Rattle.index_lists.proofs.Puts.{put-same, put-other, put-each}
use Rattle.plain_files.specs.declared.calls.Request.{Request}
use Rattle.plain_files.specs.declared.calls.Reply.{Reply}
use Rattle.plain_files.specs.Plain.{State}
use Rattle.core_state.specs.declared.actor.Actor.{Actor}
use Rattle.core_state.specs.declared.actor.Actor.TheVariants.{Lane, Worker, Flusher, Closer}
use Rattle.core_state.specs.declared.event.Event.{Event}
use Rattle.core_state.specs.declared.event.Event.TheVariants.{Enter, Leave, Quick, Skip, Begin, Copy, Take, DieOut, FillIn, Submit, Fetch, Report, End, Evict, Demote, FlushOut, FlushIn, MetaIn}
use Rattle.core_state.specs.declared.event.Purpose.TheVariants.{Fill, Meta}
use Rattle.core_state.specs.State.{Page, File, LaneState, Flight, Errand, ToFill, ToFlush, ToMeta, Out, DieState, Core}
use Rattle.core_state.specs.Resizing.{follows}
use Rattle.core_state.specs.Coherent.{Coherent}
use Rattle.core_state.specs.PageEvents.{flight_at}
use Rattle.core_state.specs.DieEvents.{marked_if, marked_by, filled_on, filled_by, flushed_on, flushed_by, stored_on, stored_by}
use Rattle.core_state.specs.LaneEvents.{HasAwaited, replied}
use Rattle.core_state.specs.EndEvent.{has_changed, ended_of, ended_by_fault, ended_plainly, ended_storing}
use Rattle.core_state.specs.Happens.{Happens, after}
use Rattle.core_state.specs.History.{request_of}
use Rattle.core_state.specs.Happens.{after_all}
use Rattle.core_solo.specs.Solo.{Steps, IsStep}
use Rattle.core_solo.specs.Alone.{IsAlone, IsAtRest}
use Rattle.core_lemmas.proofs.Words.{nothing}
use Rattle.core_lemmas.proofs.Calls.{end_owned}
use Rattle.core_history.proofs.Faults.{ended_lanes}
use Rattle.core_solo.proofs.Rooms.{AllHome}
use Rattle.core_solo.proofs.Fits.{Fits}
use Rattle.core_solo.proofs.Keeps.{free_home}
use Rattle.core_solo.proofs.Steps.{fits_of, own_of, own_acts, acting_none}

-- ---- the shape never changes

followed_shape : (c : Core) (found : Option File) (s : State) → (follows c found s).shape ≡ c.shape
followed_shape c None s = refl
followed_shape c (Some f) s = refl

followed_calls : (c : Core) (found : Option File) (s : State) → (follows c found s).calls ≡ c.calls
followed_calls c None s = refl
followed_calls c (Some f) s = refl

followed_dies : (c : Core) (found : Option File) (s : State) → (follows c found s).dies ≡ c.dies
followed_dies c None s = refl
followed_dies c (Some f) s = refl

pub record IsEnded (c c2 : Core) (lane : ℕ) : Type 0 where
  pub shape : c2.shape ≡ c.shape
  pub calls : c2.calls ≡ put c.calls lane None
  pub dies : c2.dies ≡ c.dies

pub ended_is : (c : Core) (lane : ℕ) (call : Flight) (reply : Reply) → IsEnded c (ended_of c lane call reply) lane
ended_is c lane call reply = go (c.lanes lane).mark (has_changed call reply)
  where
    go : (t u : Bool) → IsEnded c (if t then ended_by_fault c lane call else (if u then ended_storing c lane call else ended_plainly c lane call)) lane
    go true u = record { shape = refl; calls = refl; dies = refl }
    go false true = record {
      shape = followed_shape c _ _;
      calls = ap (λ (f : ℕ → Option Flight). put f lane None) (followed_calls c _ _);
      dies = followed_dies c _ _;
    }
    go false false = record { shape = refl; calls = refl; dies = refl }

pub shape_after : (e : Event) (c : Core) → (after c e).shape ≡ c.shape
shape_after (Enter l) c = refl
shape_after (Leave l) c = refl
shape_after (Quick l asked reply) c = followed_shape c _ _
shape_after (Skip l asked fault) c = refl
shape_after (Begin l asked side) c = refl
shape_after (Copy actor l i) c = refl
shape_after (Take actor l i) c = refl
shape_after (DieOut actor die (Fill l i)) c = refl
shape_after (DieOut actor die (Meta n bytes)) c = refl
shape_after (FillIn actor die good) c = go (c.dies die).out
  where
    on : (errand : Errand) → (filled_on c die good errand).shape ≡ c.shape
    on (ToFill lane i) = refl
    on (ToFlush b v p) = refl
    on (ToMeta n bytes) = refl

    go : (o : Option Out) → (filled_by c die good o).shape ≡ c.shape
    go None = refl
    go (Some out) = on out.errand
shape_after (Submit l) c = refl
shape_after (Fetch worker l) c = refl
shape_after (Report worker l) c = refl
shape_after (End l asked reply) c = (ended_is c l (flight_at c.calls l) reply).shape
shape_after (Evict actor side b) c = refl
shape_after (Demote actor b) c = refl
shape_after (FlushOut actor die b) c = refl
shape_after (FlushIn actor die good left) c = go (c.dies die).out
  where
    on : (errand : Errand) → (flushed_on c actor die good left errand).shape ≡ c.shape
    on (ToFill lane i) = refl
    on (ToFlush b v p) = refl
    on (ToMeta n bytes) = refl

    go : (o : Option Out) → (flushed_by c actor die good left o).shape ≡ c.shape
    go None = refl
    go (Some out) = on out.errand
shape_after (MetaIn actor die good left) c = go (c.dies die).out
  where
    on : (errand : Errand) → (stored_on c actor die good left errand).shape ≡ c.shape
    on (ToFill lane i) = refl
    on (ToFlush b v p) = refl
    on (ToMeta n bytes) = refl

    go : (o : Option Out) → (stored_by c actor die good left o).shape ≡ c.shape
    go None = refl
    go (Some out) = on out.errand

pub shape_all : (es : List Event) (c : Core) → (after_all c es).shape ≡ c.shape
shape_all [] c = refl
shape_all (e ∷ es) c = shape_all es (after c e) ∙ shape_after e c

-- ---- no lane comes or goes in a call

abbrev pub Stays : (ℕ → LaneState) → (ℕ → LaneState) → Type 0
Stays lanes lanes2 = (l : ℕ) → (lanes2 l).stage ≡ (lanes l).stage

stays_put : (lanes : ℕ → LaneState) (k : ℕ) (x : LaneState) → x.stage ≡ (lanes k).stage → Stays lanes (put lanes k x)
stays_put lanes k x same = put-each (λ (l : ℕ) (w : LaneState). w.stage ≡ (lanes l).stage) lanes k x same (λ l d. refl)

stays_marked : (lanes : ℕ → LaneState) (actor : Actor) (failed : Bool) → Stays lanes (marked_by actor failed lanes)
stays_marked lanes (Lane k) failed = stays_put lanes k (marked_if failed (lanes k)) refl
stays_marked lanes (Worker w) failed = λ l. refl
stays_marked lanes (Flusher f) failed = λ l. refl
stays_marked lanes Closer failed = λ l. refl

pub stage_after : (e : Event) (c : Core) (lane : ℕ) → Fits c lane e → Stays c.lanes (after c e).lanes
stage_after (Enter l) c lane fit = absurd fit
stage_after (Leave l) c lane fit = absurd fit
stage_after (Quick l asked reply) c lane fit = stays_put c.lanes l (replied (c.lanes l)) refl
stage_after (Skip l asked fault) c lane fit = stays_put c.lanes l (replied (c.lanes l)) refl
stage_after (Begin l asked side) c lane fit = λ k. refl
stage_after (Copy actor l i) c lane fit = λ k. refl
stage_after (Take actor l i) c lane fit = λ k. refl
stage_after (DieOut actor die (Fill l i)) c lane fit = λ k. refl
stage_after (DieOut actor die (Meta n bytes)) c lane fit = λ k. refl
stage_after (FillIn actor die good) c lane fit = go (c.dies die).out
  where
    on : (errand : Errand) → Stays c.lanes (filled_on c die good errand).lanes
    on (ToFill l i) = stays_put c.lanes l (marked_if (not good) (c.lanes l)) refl
    on (ToFlush b v p) = λ k. refl
    on (ToMeta n bytes) = λ k. refl

    go : (o : Option Out) → Stays c.lanes (filled_by c die good o).lanes
    go None = λ k. refl
    go (Some out) = on out.errand
stage_after (Submit l) c lane fit = λ k. refl
stage_after (Fetch worker l) c lane fit = λ k. refl
stage_after (Report worker l) c lane fit = λ k. refl
stage_after (End l asked reply) c lane fit = subst (λ (f : ℕ → LaneState). Stays c.lanes f) (sym (ended_lanes c l (flight_at c.calls l) reply)) (stays_put c.lanes l (replied (c.lanes l)) refl)
stage_after (Evict actor side b) c lane fit = λ k. refl
stage_after (Demote actor b) c lane fit = λ k. refl
stage_after (FlushOut actor die b) c lane fit = λ k. refl
stage_after (FlushIn actor die good left) c lane fit = go (c.dies die).out
  where
    on : (errand : Errand) → Stays c.lanes (flushed_on c actor die good left errand).lanes
    on (ToFill l i) = λ k. refl
    on (ToFlush b v p) = stays_marked c.lanes actor (not good)
    on (ToMeta n bytes) = λ k. refl

    go : (o : Option Out) → Stays c.lanes (flushed_by c actor die good left o).lanes
    go None = λ k. refl
    go (Some out) = on out.errand
stage_after (MetaIn actor die good left) c lane fit = go (c.dies die).out
  where
    on : (errand : Errand) → Stays c.lanes (stored_on c actor die good left errand).lanes
    on (ToFill l i) = λ k. refl
    on (ToFlush b v p) = λ k. refl
    on (ToMeta n bytes) = stays_marked c.lanes actor (not good)

    go : (o : Option Out) → Stays c.lanes (stored_by c actor die good left o).lanes
    go None = λ k. refl
    go (Some out) = on out.errand

pub steps_stay : (encode : Core → ℕ → Page) (es : List Event) (c : Core) (lane : ℕ) (asked : Request) → Steps (IsStep encode lane asked) c es → Stays c.lanes (after_all c es).lanes
steps_stay encode [] c lane asked steps l = refl
steps_stay encode (e ∷ es) c lane asked steps l = steps_stay encode es (after c e) lane asked steps.1 l ∙ stage_after e c lane (fits_of encode c lane asked e steps.0.next) l

-- ---- at rest

pub rest_alone : (c : Core) (lane : ℕ) (request : Request) → IsAtRest c → lane < c.shape.lanes → HasAwaited c.lanes request → IsAlone c lane request
rest_alone c lane request r within awaited = record {
  within = within;
  inside = r.inside lane within;
  awaited = awaited;
  others = λ l d. r.still l;
  holder = λ die out e. absurd (nothing (c.dies die).out out (r.home die) e);
  clear = λ die out e. absurd (nothing (c.dies die).out out (r.home die) e);
  flush = λ die holder b v p e. absurd (nothing (c.dies die).out _ (r.home die) e);
  call = λ x e. absurd (nothing (c.calls lane) x (r.still lane) e);
}

-- no call is in flight, and all dies are at home
pub record IsQuiet (c : Core) : Type 0 where
  pub still : (l : ℕ) → c.calls l ≡ None
  pub home : AllHome c

quiet_from : (c c2 : Core) (lane : ℕ) (request : Request) → IsAlone c lane request → AllHome c → c2.dies ≡ c.dies → c2.calls lane ≡ None → ((l : ℕ) → l ≢ lane → c2.calls l ≡ c.calls l) → IsQuiet c2
quiet_from c c2 lane request alone home dies here others = record {
  still = λ l. ⊎_elim (λ (s : l ≡ lane). ap c2.calls s ∙ here) (λ (d : l ≢ lane). others l d ∙ alone.others l d) (same_or_not l lane);
  home = λ die. ap (λ (f : ℕ → DieState). (f die).out) dies ∙ home die;
}

no_answer : {P : Type 0} → is_some {T = Request} None ≡ true → P
no_answer e = absurd (cc)

pub answer_quiet : (e : Event) (c : Core) (lane : ℕ) (request : Request) → Coherent c → IsAlone c lane request → Fits c lane e → Happens c e (after c e) → is_some (request_of e) ≡ true → IsQuiet (after c e)
answer_quiet (Quick l asked reply) c lane request h alone fit s a =
    let none : c.calls lane ≡ None = ap c.calls (sym fit) ∙ s.may.ready.idle.idle in
    let home = free_home c lane request alone (Lane l) (ap Lane fit ∙ sym (acting_none c lane none)) (s.hands refl) in
    quiet_from c (after c (Quick l asked reply)) lane request alone home (followed_dies c _ _) (ap (λ (f : ℕ → Option Flight). f lane) (followed_calls c _ _) ∙ none) (λ k d. ap (λ (f : ℕ → Option Flight). f k) (followed_calls c _ _))
answer_quiet (Skip l asked fault) c lane request h alone fit s a =
    let none : c.calls lane ≡ None = ap c.calls (sym fit) ∙ s.may.idle.idle in
    let home = free_home c lane request alone (Lane l) (ap Lane fit ∙ sym (acting_none c lane none)) (s.hands refl) in
    quiet_from c (after c (Skip l asked fault)) lane request alone home refl none (λ k d. refl)
answer_quiet (End l asked reply) c lane request h alone fit s a =
    let may = s.may in
    let o = own_of c l lane may.call (Lane l) may.flies (end_owned l may.call may.at_end) fit in
    let home = free_home c lane request alone (Lane l) (own_acts c lane (Lane l) o) (s.hands refl) in
    let ends = ended_is c l (flight_at c.calls l) reply in
    quiet_from c (after c (End l asked reply)) lane request alone home ends.dies
    (ap (λ (f : ℕ → Option Flight). f lane) ends.calls ∙ (ap (λ (k : ℕ). put c.calls k None lane) fit ∙ put-same c.calls lane None))
    (λ k d. ap (λ (f : ℕ → Option Flight). f k) ends.calls ∙ put-other c.calls l None k (λ q. d (q ∙ fit)))
answer_quiet (Enter l) c lane request h alone fit s a = no_answer a
answer_quiet (Leave l) c lane request h alone fit s a = no_answer a
answer_quiet (Begin l asked side) c lane request h alone fit s a = no_answer a
answer_quiet (Copy actor l i) c lane request h alone fit s a = no_answer a
answer_quiet (Take actor l i) c lane request h alone fit s a = no_answer a
answer_quiet (DieOut actor die purpose) c lane request h alone fit s a = no_answer a
answer_quiet (FillIn actor die good) c lane request h alone fit s a = no_answer a
answer_quiet (Submit l) c lane request h alone fit s a = no_answer a
answer_quiet (Fetch worker l) c lane request h alone fit s a = no_answer a
answer_quiet (Report worker l) c lane request h alone fit s a = no_answer a
answer_quiet (Evict actor side b) c lane request h alone fit s a = no_answer a
answer_quiet (Demote actor b) c lane request h alone fit s a = no_answer a
answer_quiet (FlushOut actor die b) c lane request h alone fit s a = no_answer a
answer_quiet (FlushIn actor die good left) c lane request h alone fit s a = no_answer a
answer_quiet (MetaIn actor die good left) c lane request h alone fit s a = no_answer a
