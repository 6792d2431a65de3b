-- The calls of a run are those of the lines, in their order.
use Rattle.std.proofs.Common.{◌≡◌, ℕ, ◌<◌, Bool, true, false, List, [], ◌∷◌, ◌++◌, Option, Some, None, length, refl, sym, ap, ◌∙◌, subst, ⊎_elim, arith}
use Rattle.std.specs.Prelude.{◌≢◌, ◌&&◌, ◌||◌, not, is_some, if◌then◌else◌, nat_lt, option_map, slice_get}
use Rattle.std.specs.List.{find}
use Rattle.page_base.specs.Drive.{meta_pages}
use Rattle.coherence.specs.Paired.{by_side}
use Rattle.dispatcher.specs.declared.side.Side.{Side}
use Rattle.dispatcher.specs.declared.side.Side.TheVariants.{Host, Drive}
use Rattle.index_lists.specs.Words.{count, put}
use Rattle.index_lists.proofs.Counts.{same_or_not, count-here}
use Rattle.index_lists.proofs.Puts.{put-same, put-other}
use Rattle.plain_files.specs.declared.calls.Request.{Request}
use Rattle.plain_files.specs.Plain.{early, answer}
use Rattle.plain_files.specs.History.{Entry}
use Rattle.core_state.specs.declared.actor.Actor.{Actor}
use Rattle.core_state.specs.declared.actor.Actor.TheVariants.{Lane, Worker, Flusher, Closer}
use Rattle.core_state.specs.declared.event.Event.{Event}
use Rattle.core_state.specs.declared.event.Event.TheVariants.{Enter, Leave, Quick, Skip, Begin, Copy, Take, DieOut, FillIn, Submit, Fetch, Report, End, Evict, Demote, FlushOut, FlushIn, MetaIn}
use Rattle.core_state.specs.declared.event.Purpose.TheVariants.{Fill, Meta}
use Rattle.core_state.specs.State.{Page, Shape, Mode, Shared, Exclusive, Phase, Held, Queued, Running, Reported, OnLoan, NoFrame, Flight, ToFill, Out, Core}
use Rattle.core_state.specs.Contents.{span_block, is_missing, die_of, die_of_page}
use Rattle.core_state.specs.Reach.{by_mode, is_sync, claim_for}
use Rattle.core_state.specs.PlainOf.{plain}
use Rattle.core_state.specs.Frames.{used, is_queued}
use Rattle.core_state.specs.Coherent.{Coherent}
use Rattle.core_state.specs.PageEvents.{flight_at, with_gathered, is_spare, is_demotable, order_at}
use Rattle.core_state.specs.DieEvents.{is_flushable, filled_by, filled_flight, flash_at, flushed_by, stored_by, counted, counted_by}
use Rattle.core_state.specs.LaneEvents.{is_quick}
use Rattle.core_state.specs.Happens.{CoreRun, Happens, after}
use Rattle.core_state.specs.History.{entry_of, and_then, calls_of, request_of}
use Rattle.core_state.specs.Happens.{after_all}
use Rattle.core_solo.specs.Solo.{Steps, IsNext, IsStep, SoloCall, SoloAnswer, SoloLines, Script, flush_event, sync_event, evict_event, demote_event, room_event, is_wanting, idle_event, solo_side, page_to_gather, gather_event, gathering, syncing, end_event, host_event, flight_event, call_event}
use Rattle.core_solo.specs.Alone.{OpeningFrames, IsAtRest}
use Rattle.core_stores.proofs.Folds.{run_keeps}
use Rattle.core_solo.proofs.Bounds.{run_begins}
use Rattle.core_solo.proofs.Rests.{shape_all}
use Rattle.core_solo.proofs.Calls.{answer_rest, line_low}
use Rattle.core_solo.specs.Served.{FollowLines}
use Rattle.core_lemmas.proofs.Words.{same_some, nothing}
use Rattle.core_solo.proofs.Words.{or_else_all, map_all, if_all, some_is}
use Rattle.core_solo.proofs.Fits.{Fits}
use Rattle.core_solo.proofs.Keeps.{flown}
use Rattle.core_solo.proofs.Steps.{fits_of}
use Rattle.core_solo.proofs.Rooms.{listed_is}
use Rattle.core_state.specs.Words.{or_else}

-- ---- the request of what is next

-- the call of a lane, if it is in flight, is this request's
abbrev pub AsksOf : (ℕ → Option Flight) → ℕ → Request → Type 0
AsksOf calls lane request = (x : Flight) → calls lane ≡ Some x → x.claim.request ≡ request

-- an event that begins or answers a call is of this request
abbrev pub Asks : Request → Event → Type 0
Asks request (Quick l asked reply) = asked ≡ request
Asks request (Skip l asked fault) = (asked ≡ request) × (fault ≡ true)
Asks request (Begin l asked side) = asked ≡ request
Asks request (End l asked reply) = asked ≡ request
Asks request _ = Unit {0}

none_asks : (request : Request) (e : Event) → None ≡ Some e → Asks request e
none_asks request e q = absurd (cc)

evict_asks : (c : Core) (lane : ℕ) (side : Side) (request : Request) → (e : Event) → evict_event c (Lane lane) side ≡ Some e → Asks request e
evict_asks c lane side request = map_all (Asks request) (λ b. Evict (Lane lane) side b) (find (is_spare c side) (order_at side c)) (λ b e. tt)

demote_asks : (c : Core) (lane : ℕ) (request : Request) → (e : Event) → demote_event c (Lane lane) ≡ Some e → Asks request e
demote_asks c lane request = if_all (Asks request) (nat_lt (used Drive c.shape c.drive_order c.calls) c.shape.drive_frames) (option_map (λ b. Demote (Lane lane) b) (find (is_demotable c) c.host_order)) None
    (λ t. map_all (Asks request) (λ b. Demote (Lane lane) b) (find (is_demotable c) c.host_order) (λ b e. tt)) (λ t. none_asks request)

flush_asks : (c : Core) (lane : ℕ) (request : Request) → (e : Event) → flush_event c (Lane lane) ≡ Some e → Asks request e
flush_asks c lane request = map_all (Asks request) (λ b. FlushOut (Lane lane) (die_of c.shape b) b) (find (is_flushable c) c.unclean) (λ b e. tt)

room_asks : (c : Core) (lane : ℕ) (side : Side) (request : Request) → (e : Event) → room_event c (Lane lane) side ≡ Some e → Asks request e
room_asks c lane Host request =
    or_else_all (Asks request) (or_else (evict_event c (Lane lane) Host) (demote_event c (Lane lane))) (or_else (evict_event c (Lane lane) Drive) (flush_event c (Lane lane)))
    (or_else_all (Asks request) (evict_event c (Lane lane) Host) (demote_event c (Lane lane)) (evict_asks c lane Host request) (demote_asks c lane request))
    (or_else_all (Asks request) (evict_event c (Lane lane) Drive) (flush_event c (Lane lane)) (evict_asks c lane Drive request) (flush_asks c lane request))
room_asks c lane Drive request =
    or_else_all (Asks request) None (or_else (evict_event c (Lane lane) Drive) (flush_event c (Lane lane))) (none_asks request)
    (or_else_all (Asks request) (evict_event c (Lane lane) Drive) (flush_event c (Lane lane)) (evict_asks c lane Drive request) (flush_asks c lane request))

idle_asks : (c : Core) (lane : ℕ) (request : Request) (side : Side) → (e : Event) → idle_event c lane request side ≡ Some e → Asks request e
idle_asks c lane request side =
    let room = if is_wanting c (claim_for c.names.files request side) then room_event c (Lane lane) side else Some (Begin lane request side) in
    let quick = if is_quick request.call || is_some (early (plain c) request.call) then Some (Quick lane request (answer (plain c) request.call).reply) else room in
    if_all (Asks request) (c.lanes lane).mark (Some (Skip lane request true)) quick
    (λ t. some_is (Asks request) (Skip lane request true) (refl, refl))
    (λ m. if_all (Asks request) (is_quick request.call || is_some (early (plain c) request.call)) (Some (Quick lane request (answer (plain c) request.call).reply)) room
    (λ t. some_is (Asks request) (Quick lane request (answer (plain c) request.call).reply) refl)
    (λ t. if_all (Asks request) (is_wanting c (claim_for c.names.files request side)) (room_event c (Lane lane) side) (Some (Begin lane request side))
    (λ w. room_asks c lane side request)
    (λ w. some_is (Asks request) (Begin lane request side) refl)))

gather_asks_at : (c : Core) (actor : Actor) (lane i : ℕ) (x : Flight) (at : Option ℕ) (request : Request) → Asks request (gather_event c actor lane x i at)
gather_asks_at c actor lane i x None request = by_both x.claim.reach.mode
  where
    by_both : (mode : Mode) → Asks request (by_mode mode (Copy actor lane i) (Take actor lane i))
    by_both Shared = tt
    by_both Exclusive = tt
gather_asks_at c actor lane i x (Some b) request = go (is_missing (c.blocks b)) x.claim.reach.mode
  where
    go : (t : Bool) (mode : Mode) → Asks request (if t then DieOut actor (die_of c.shape b) (Fill lane i) else by_mode mode (Copy actor lane i) (Take actor lane i))
    go true mode = tt
    go false Shared = tt
    go false Exclusive = tt

gathering_asks : (c : Core) (actor : Actor) (lane : ℕ) (x : Flight) (request : Request) → (e : Event) → gathering c actor lane x ≡ Some e → Asks request e
gathering_asks c actor lane x request =
    if_all (Asks request) (c.lanes lane).mark None (option_map (λ i. gather_event c actor lane x i (span_block c.places x.claim i)) (page_to_gather x))
    (λ t. none_asks request)
    (λ t. map_all (Asks request) (λ i. gather_event c actor lane x i (span_block c.places x.claim i)) (page_to_gather x) (λ i e. gather_asks_at c actor lane i x (span_block c.places x.claim i) request))

sync_asks : (encode : Core → ℕ → Page) (c : Core) (lane number : ℕ) (request : Request) → (e : Event) → sync_event encode c (Lane lane) number ≡ Some e → Asks request e
sync_asks encode c lane number request =
    if_all (Asks request) (is_some (slice_get c.unclean 0)) (flush_event c (Lane lane)) (if nat_lt number (meta_pages c.shape.blocks) then Some (DieOut (Lane lane) (die_of_page c.shape number) (Meta number (encode c number))) else None)
    (λ t. flush_asks c lane request)
    (λ t. if_all (Asks request) (nat_lt number (meta_pages c.shape.blocks)) (Some (DieOut (Lane lane) (die_of_page c.shape number) (Meta number (encode c number)))) None
    (λ u. some_is (Asks request) (DieOut (Lane lane) (die_of_page c.shape number) (Meta number (encode c number))) tt) (λ u. none_asks request))

flight_asks : (encode : Core → ℕ → Page) (c : Core) (lane : ℕ) (x : Flight) (request : Request) → x.claim.request ≡ request → (e : Event) → flight_event encode c lane x x.phase ≡ Some e → Asks request e
flight_asks encode c lane x request same = go x.phase
  where
    held : (side : Side) → (e : Event) → by_side side (host_event encode c lane x) (Some (Submit lane)) ≡ Some e → Asks request e
    held Host =
        or_else_all (Asks request) (gathering c (Lane lane) lane x) (or_else (syncing encode c lane x) (Some (end_event c lane x)))
        (gathering_asks c (Lane lane) lane x request)
        (or_else_all (Asks request) (syncing encode c lane x) (Some (end_event c lane x))
        (if_all (Asks request) (is_sync x.claim.request.call && not (c.lanes lane).mark) (sync_event encode c (Lane lane) x.meta) None (λ t. sync_asks encode c lane x.meta request) (λ t. none_asks request))
        (some_is (Asks request) (end_event c lane x) same))
    held Drive = some_is (Asks request) (Submit lane) tt

    go : (phase : Phase) → (e : Event) → flight_event encode c lane x phase ≡ Some e → Asks request e
    go Held = held x.claim.side
    go Queued = some_is (Asks request) (Fetch 0 lane) tt
    go (Running w) =
        or_else_all (Asks request) (gathering c (Worker w) lane x) (Some (Report w lane)) (gathering_asks c (Worker w) lane x request) (some_is (Asks request) (Report w lane) tt)
    go (Reported result) = some_is (Asks request) (end_event c lane x) same

call_asks : (encode : Core → ℕ → Page) (c : Core) (lane : ℕ) (request : Request) (o : Option Flight) → c.calls lane ≡ o → AsksOf c.calls lane request → (e : Event) → call_event encode c lane request o ≡ Some e → Asks request e
call_asks encode c lane request None f asks e q = idle_asks c lane request (solo_side c request) e q
call_asks encode c lane request (Some x) f asks e q = flight_asks encode c lane x request (asks x f) e q

pub asks_of : (encode : Core → ℕ → Page) (c : Core) (lane : ℕ) (request : Request) (e : Event) → AsksOf c.calls lane request → IsNext encode lane request c e → Asks request e
asks_of encode c lane request (FillIn actor die good) a k = tt
asks_of encode c lane request (FlushIn actor die good left) a k = tt
asks_of encode c lane request (MetaIn actor die good left) a k = tt
asks_of encode c lane request (Enter l) a k = tt
asks_of encode c lane request (Leave l) a k = tt
asks_of encode c lane request (Quick l asked reply) a k = call_asks encode c lane request (c.calls lane) refl a _ k
asks_of encode c lane request (Skip l asked fault) a k = call_asks encode c lane request (c.calls lane) refl a _ k
asks_of encode c lane request (Begin l asked side) a k = call_asks encode c lane request (c.calls lane) refl a _ k
asks_of encode c lane request (End l asked reply) a k = call_asks encode c lane request (c.calls lane) refl a _ k
asks_of encode c lane request (Copy actor l i) a k = tt
asks_of encode c lane request (Take actor l i) a k = tt
asks_of encode c lane request (DieOut actor die purpose) a k = tt
asks_of encode c lane request (Submit l) a k = tt
asks_of encode c lane request (Fetch worker l) a k = tt
asks_of encode c lane request (Report worker l) a k = tt
asks_of encode c lane request (Evict actor side b) a k = tt
asks_of encode c lane request (Demote actor b) a k = tt
asks_of encode c lane request (FlushOut actor die b) a k = tt

-- ---- and stays so

asks_put : (calls : ℕ → Option Flight) (lane l : ℕ) (request : Request) (x2 : Flight) → AsksOf calls lane request → (l ≡ lane → x2.claim.request ≡ request) → AsksOf (put calls l (Some x2)) lane request
asks_put calls lane l request x2 a new x e = ⊎_elim
    (λ (s : lane ≡ l).
    let f : x2 ≡ x = same_some (put calls l (Some x2) lane) x2 x (ap (put calls l (Some x2)) s ∙ put-same calls l (Some x2)) e in
    ap (λ (k : Flight). k.claim.request) (sym f) ∙ new (sym s))
    (λ (d : lane ≢ l). a x (sym (put-other calls l (Some x2) lane d) ∙ e)) (same_or_not lane l)

-- the call of a lane that has one
at_lane : (calls : ℕ → Option Flight) (lane l : ℕ) (request : Request) (x : Flight) → calls l ≡ Some x → AsksOf calls lane request → l ≡ lane → (flight_at calls l).claim.request ≡ request
at_lane calls lane l request x e a s =
    let f = flown calls l x e in
    a (flight_at calls l) (ap calls (sym s) ∙ f)

pub asks_after : (e : Event) (c : Core) (lane : ℕ) (request : Request) → Coherent c → Happens c e (after c e) → Asks request e → AsksOf c.calls lane request → request_of e ≡ None → AsksOf (after c e).calls lane request
asks_after (Enter l) c lane request h s k a none = a
asks_after (Leave l) c lane request h s k a none = a
asks_after (Quick l asked reply) c lane request h s k a none = absurd (cc)
asks_after (Skip l asked fault) c lane request h s k a none = absurd (cc)
asks_after (End l asked reply) c lane request h s k a none = absurd (cc)
asks_after (Begin l asked side) c lane request h s k a none = asks_put c.calls lane l request _ a (λ q. k)
asks_after (Copy actor l i) c lane request h s k a none = asks_put c.calls lane l request _ a (λ q. at_lane c.calls lane l request s.may.call s.may.wants.flies a q)
asks_after (Take actor l i) c lane request h s k a none = asks_put c.calls lane l request _ a (λ q. at_lane c.calls lane l request s.may.call s.may.wants.flies a q)
asks_after (DieOut actor die (Fill l i)) c lane request h s k a none = a
asks_after (DieOut actor die (Meta n bytes)) c lane request h s k a none = a
asks_after (FillIn actor die good) c lane request h s k a none =
    let f = h.dies.right die (record { holder = actor; errand = ToFill s.may.lane s.may.i }) s.may.out in
    subst (λ (o : Option Out). AsksOf (filled_by c die good o).calls lane request) (sym s.may.out) (go good s.may.lane s.may.i f.call f.flies)
  where
    filled_asks : (l i : ℕ) (mode : Mode) (page : Page) → (flight_at c.calls l).claim.request ≡ request →
        (by_mode mode (record (flight_at c.calls l) { frame = put (flight_at c.calls l).frame i NoFrame }) (with_gathered (flight_at c.calls l) i page OnLoan)).claim.request ≡ request
    filled_asks l i Shared page e = e
    filled_asks l i Exclusive page e = e

    go : (t : Bool) (l i : ℕ) (x : Flight) → c.calls l ≡ Some x → AsksOf (if t then put c.calls l (Some (filled_flight (flight_at c.calls l) i (flash_at c.blocks (span_block c.places (flight_at c.calls l).claim i)))) else c.calls) lane request
    go true l i x e = asks_put c.calls lane l request _ a (λ q. filled_asks l i (flight_at c.calls l).claim.reach.mode _ (at_lane c.calls lane l request x e a q))
    go false l i x e = a
asks_after (Submit l) c lane request h s k a none = asks_put c.calls lane l request _ a (λ q. at_lane c.calls lane l request s.may.call s.may.flies a q)
asks_after (Fetch worker l) c lane request h s k a none = asks_put c.calls lane l request _ a (λ q. queued l q s.may.first)
  where
    queued : (l : ℕ) → l ≡ lane → c.queue ≡ l ∷ s.may.rest → (flight_at c.calls l).claim.request ≡ request
    queued l q first =
        let k = h.orders.queued.lists l in
        let p : 0 < count l c.queue = subst (λ (xs : List ℕ). 0 < count l xs) (sym first) (omega (arith, count-here l s.may.rest)) in
        let t = listed_is (is_queued (c.calls l)) (count l c.queue) k p in
        of (c.calls l) refl t
      where
        of : (o : Option Flight) → c.calls l ≡ o → is_queued o ≡ true → (flight_at c.calls l).claim.request ≡ request
        of None f t = absurd (cc)
        of (Some x) f t = at_lane c.calls lane l request x f a q
asks_after (Report worker l) c lane request h s k a none = asks_put c.calls lane l request _ a (λ q. at_lane c.calls lane l request s.may.call s.may.flies a q)
asks_after (Evict actor side b) c lane request h s k a none = a
asks_after (Demote actor b) c lane request h s k a none = a
asks_after (FlushOut actor die b) c lane request h s k a none = a
asks_after (FlushIn actor die good left) c lane request h s k a none = subst (λ (o : Option Out). AsksOf (flushed_by c actor die good left o).calls lane request) (sym s.may.out) a
asks_after (MetaIn actor die good left) c lane request h s k a none =
    subst (λ (o : Option Out). AsksOf (stored_by c actor die good left o).calls lane request) (sym s.may.out) (by actor)
  where
    more : (l : ℕ) (o : Option Flight) → c.calls l ≡ o → AsksOf (put c.calls l (counted good o)) lane request
    more l None e = λ x f. ⊎_elim
        (λ (q : lane ≡ l). absurd (nothing (put c.calls l None lane) x (ap (put c.calls l None) q ∙ put-same c.calls l None) f))
        (λ (d : lane ≢ l). a x (sym (put-other c.calls l None lane d) ∙ f)) (same_or_not lane l)
    more l (Some y) e = asks_put c.calls lane l request _ a (λ q. a y (ap c.calls (sym q) ∙ e))

    by : (w : Actor) → AsksOf (counted_by w good c.calls) lane request
    by (Lane l) = more l (c.calls l) refl
    by (Worker w) = a
    by (Flusher f) = a
    by Closer = a

-- ---- what a call tells

silent : (e : Event) → request_of e ≡ None → entry_of e ≡ None
silent (Quick l asked reply) n = absurd (cc)
silent (Skip l asked fault) n = absurd (cc)
silent (End l asked reply) n = absurd (cc)
silent _ n = refl

pub calls_both : (es fs : List Event) → calls_of (es ++ fs) ≡ calls_of es ++ calls_of fs
calls_both [] fs = refl
calls_both (e ∷ es) fs = one (entry_of e) (calls_both es fs)
  where
    one : (o : Option Entry) → calls_of (es ++ fs) ≡ calls_of es ++ calls_of fs → and_then o (calls_of (es ++ fs)) ≡ and_then o (calls_of es) ++ calls_of fs
    one None ih = ih
    one (Some x) ih = ap (λ (xs : List Entry). x ∷ xs) ih

pub steps_silent : (encode : Core → ℕ → Page) (es : List Event) (c : Core) (lane : ℕ) (asked : Request) → Steps (IsStep encode lane asked) c es → calls_of es ≡ []
steps_silent encode [] c lane asked s = refl
steps_silent encode (e ∷ es) c lane asked s =
    let k = steps_silent encode es (after c e) lane asked s.1 in
    let n = silent e s.0.open_still in
    ap (λ (o : Option Entry). and_then o (calls_of es)) n ∙ k

pub steps_ask : (encode : Core → ℕ → Page) (es : List Event) (c : Core) (lane : ℕ) (asked : Request) → Coherent c → Steps (IsStep encode lane asked) c es → CoreRun c es (after_all c es) → AsksOf c.calls lane asked → AsksOf (after_all c es).calls lane asked
steps_ask encode [] c lane asked h s run a = a
steps_ask encode (e ∷ es) c lane asked h s run a =
    let k = asks_of encode c lane asked e a s.0.next in
    let a2 = asks_after e c lane asked h run.0 k a s.0.open_still in
    steps_ask encode es (after c e) lane asked (run_keeps c (after c e) (e ∷ []) h (run.0, refl)) s.1 run.1 a2

-- the entry of an answer
pub record Tells (es : List Event) (lane : ℕ) (asked : Request) : Type 0 where
  pub entry : Entry
  pub whole : calls_of es ≡ entry ∷ []
  pub lane_is : entry.lane ≡ lane
  pub call_is : entry.call ≡ asked.call

no_answer : {P : Type 0} → is_some {T = Request} None ≡ true → P
no_answer e = absurd (cc)

answer_tells : (e : Event) (c : Core) (lane : ℕ) (asked : Request) → Fits c lane e → Asks asked e → is_some (request_of e) ≡ true → Tells (e ∷ []) lane asked
answer_tells (Quick l r reply) c lane asked fit k a = record { entry = _; whole = refl; lane_is = fit; call_is = ap (λ (q : Request). q.call) k }
answer_tells (Skip l r fault) c lane asked fit k a = record { entry = _; whole = refl; lane_is = fit; call_is = ap (λ (q : Request). q.call) k.0 }
answer_tells (End l r reply) c lane asked fit k a = record { entry = _; whole = refl; lane_is = fit; call_is = ap (λ (q : Request). q.call) k }
answer_tells (Enter l) c lane asked fit k a = no_answer a
answer_tells (Leave l) c lane asked fit k a = no_answer a
answer_tells (Begin l r side) c lane asked fit k a = no_answer a
answer_tells (Copy actor l i) c lane asked fit k a = no_answer a
answer_tells (Take actor l i) c lane asked fit k a = no_answer a
answer_tells (DieOut actor die purpose) c lane asked fit k a = no_answer a
answer_tells (FillIn actor die good) c lane asked fit k a = no_answer a
answer_tells (Submit l) c lane asked fit k a = no_answer a
answer_tells (Fetch worker l) c lane asked fit k a = no_answer a
answer_tells (Report worker l) c lane asked fit k a = no_answer a
answer_tells (Evict actor side b) c lane asked fit k a = no_answer a
answer_tells (Demote actor b) c lane asked fit k a = no_answer a
answer_tells (FlushOut actor die b) c lane asked fit k a = no_answer a
answer_tells (FlushIn actor die good left) c lane asked fit k a = no_answer a
answer_tells (MetaIn actor die good left) c lane asked fit k a = no_answer a

pub call_tells : (encode : Core → ℕ → Page) (es : List Event) (c c1 : Core) (lane : ℕ) (asked : Request) → Coherent c → AsksOf c.calls lane asked → SoloAnswer encode c lane asked es → CoreRun c es c1 → Tells es lane asked
call_tells encode es c c1 lane asked h a answered run = ⊎_elim
    (λ (starved : es ≡ Skip lane asked false ∷ []). record { entry = _; whole = ap calls_of starved; lane_is = refl; call_is = refl })
    (λ (call : SoloCall encode c lane asked es).
    let parts = run_begins call.most (call.last ∷ []) c c1 (subst (λ (xs : List Event). CoreRun c xs c1) call.whole run) in
    let at = after_all c call.most in
    let a2 = steps_ask encode call.most c lane asked h call.steps parts.0 a in
    let t = answer_tells call.last at lane asked (fits_of encode at lane asked call.last call.next) (asks_of encode at lane asked call.last a2 call.next) call.answers in
    record {
      entry = t.entry;
      whole = ap calls_of call.whole ∙ (calls_both call.most (call.last ∷ []) ∙ (ap (λ (xs : List Entry). xs ++ calls_of (call.last ∷ [])) (steps_silent encode call.most c lane asked call.steps) ∙ t.whole));
      lane_is = t.lane_is;
      call_is = t.call_is;
    }) answered

pub lines_follow : (encode : Core → ℕ → Page) (script : Script) (lines : List (ℕ × ℕ)) (es : List Event) (c c1 : Core) → OpeningFrames c.shape → length script.lanes ≡ c.shape.lanes → Coherent c → IsAtRest c → SoloLines encode c script lines es → CoreRun c es c1 → FollowLines script lines (calls_of es)
lines_follow encode script [] es c c1 f wide h rest lines run = ap calls_of lines
lines_follow encode script (line ∷ later) es c c1 f wide h rest lines run =
    let own = lines.0 in
    let others = lines.1 in
    let parts = run_begins own others c c1 (subst (λ (xs : List Event). CoreRun c xs c1) lines.2 run) in
    let at = after_all c own in
    let asks = lines.3 in
    let s = shape_all own c in
    let within : line.0 < c.shape.lanes = subst (λ (n : ℕ). line.0 < n) wide (line_low script.lanes line asks.request asks.asks) in
    let first = answer_rest encode own c at line.0 asks.request f h rest within asks.answered parts.0 in
    let t = call_tells encode own c at line.0 asks.request h (λ x e. absurd (nothing (c.calls line.0) x (rest.still line.0) e)) asks.answered parts.0 in
    let k = lines_follow encode script later others at c1 (subst OpeningFrames (sym s) f) (wide ∙ ap (λ (w : Shape). w.lanes) (sym s)) (run_keeps c at own h parts.0) first.0 lines.4 parts.1 in
    (t.entry, calls_of others, ap calls_of lines.2 ∙ (calls_both own others ∙ ap (λ (xs : List Entry). xs ++ calls_of others) t.whole), record { lane = t.lane_is; request = asks.request; asks = asks.asks; call = t.call_is }, k)
