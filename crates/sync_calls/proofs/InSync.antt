-- A `sync` in flight, and what its lane's events leave of it.
use Rattle.std.proofs.Common.{◌≡◌, ℕ, ◌+◌, ◌<◌, Bool, true, false, Option, Some, None, refl, sym, ap, ◌∙◌, subst, ⊎_elim}
use Rattle.std.specs.Prelude.{◌≢◌, ◌||◌, not, if◌then◌else◌}
use Rattle.page_base.specs.Drive.{meta_pages}
use Rattle.plain_files.specs.declared.calls.Reply.{Reply}
use Rattle.plain_files.specs.declared.calls.Request.{Request}
use Rattle.plain_files.specs.Plain.{answer}
use Rattle.index_lists.specs.Words.{put, one_if}
use Rattle.index_lists.proofs.Puts.{put-same, put-other}
use Rattle.index_lists.proofs.Counts.{same_or_not}
use Rattle.core_state.specs.declared.actor.Actor.{Actor}
use Rattle.core_state.specs.declared.actor.Actor.TheVariants.{Lane}
use Rattle.core_state.specs.declared.event.Event.TheVariants.{End, FlushIn, MetaIn}
use Rattle.core_state.specs.State.{Page, Shape, LaneState, Claim, Flight, Errand, ToFlush, ToMeta, Out, DieState, Core}
use Rattle.core_state.specs.Reach.{is_sync, file_for}
use Rattle.core_state.specs.Dies.{owner, IsSyncing}
use Rattle.core_state.specs.DieEvents.{die_out, meta_of, marked_if, counted, home_written, stored_by, stored_of}
use Rattle.core_state.specs.PlainOf.{plain}
use Rattle.core_state.specs.PageEvents.{flight_at}
use Rattle.core_state.specs.EndEvent.{ended_of, ended_storing, ended_plainly, ended_by_fault, has_changed}
use Rattle.core_state.specs.LaneEvents.{replied}
use Rattle.core_state.specs.Coherent.{Coherent}
use Rattle.core_state.specs.Hold.{HeldLane, hold}
use Rattle.core_state.specs.Happens.{HoldsNone, after}
use Rattle.core_solo.proofs.Rests.{ended_is}
use Rattle.desk_turns.specs.Passing.{IsItsOwn, SameCall, SameCalls}
use Rattle.desk_turns.proofs.Later.{own_held, lane_same}
use Rattle.desk_turns.proofs.Shapes.{shape_kept}
use Rattle.quick_calls.specs.Flushing.{Flushes, MayFlushNow}
use Rattle.quick_calls.specs.MetaTurns.{MayStore}
use Rattle.quick_calls.proofs.Keeping.{again}
use Rattle.flushes.proofs.Known.{home_between}
use Rattle.quick_calls.specs.Ending.{EndsSync}
use Rattle.quick_calls.specs.Making.{IsFree}
use Rattle.quick_calls.proofs.Frees.{follows_keeps, free_replied}
use Rattle.sync_calls.specs.Stages.{IsInSync}

-- ---- what the lane may do

pub own_in_sync : (m : Bool) (c : Core) (lane : ℕ) (request : Request) (n : ℕ) → IsInSync m c lane request n → IsItsOwn c (Lane lane)
own_in_sync m c lane request n p = own_held c lane p.call p.flies p.held

pub is_its_sync : (m : Bool) (c : Core) (lane : ℕ) (request : Request) (n : ℕ) → (p : IsInSync m c lane request n) → is_sync p.call.claim.request.call ≡ true
is_its_sync m c lane request n p = sym (ap (λ (r : Request). is_sync r.call) p.request_is) ∙ p.sync

is_syncing : (m : Bool) (c : Core) (lane : ℕ) (request : Request) (n : ℕ) → IsInSync m c lane request n → IsSyncing (c.calls lane)
is_syncing m c lane request n p = record { flight = p.call; flies = p.flies; sync = is_its_sync m c lane request n p }

flushes_in_sync : (c : Core) (lane : ℕ) (request : Request) (n : ℕ) → IsInSync false c lane request n → Flushes false c (Lane lane)
flushes_in_sync c lane request n p =
    record {
      acts = (record { inside = p.inside; sync = λ ne. is_syncing false c lane request n p }, p.mark);
      own = own_in_sync false c lane request n p;
      closing = λ e. absurd (cc);
    }

pub may_flush : (c : Core) (lane : ℕ) (request : Request) (n : ℕ) → HoldsNone c (Lane lane) → IsInSync false c lane request n → MayFlushNow c (Lane lane)
may_flush c lane request n none p = record { none = none; flushes = flushes_in_sync c lane request n p }

pub may_store : (c : Core) (lane : ℕ) (request : Request) (n : ℕ) → HoldsNone c (Lane lane) → IsInSync false c lane request n → MayStore c (Lane lane) n
may_store c lane request n none p =
    record {
      none = none;
      own = own_in_sync false c lane request n p;
      closing = λ e. absurd (cc);
      writes = (is_syncing false c lane request n p, p.mark, ap meta_of p.flies ∙ p.number_is);
    }

pub ends_sync : (m : Bool) (c : Core) (lane : ℕ) (request : Request) (n : ℕ) → IsInSync m c lane request n → (m ≡ false → n ≡ meta_pages c.shape.blocks) → EndsSync c lane request m
ends_sync m c lane request n p all =
    record { call = p.call; flies = p.flies; held = p.held; request_is = p.request_is; sync = p.sync; mark = p.mark; all = λ e. p.number_is ∙ all e }

-- ---- it is found again

pub in_sync_kept : (m : Bool) (c c2 : Core) (lane : ℕ) (request : Request) (n : ℕ) → hold c2 (Lane lane) ≡ hold c (Lane lane) → c2.shape ≡ c.shape → IsInSync m c lane request n → IsInSync m c2 lane request n
in_sync_kept m c c2 lane request n same shape p =
    let g = again c c2 (Lane lane) lane p.call same p.flies (ap (owner lane) p.held) in
    record {
      sync = p.sync;
      call = g.call;
      flies = g.flies;
      held = g.same.phase ∙ p.held;
      request_is = p.request_is ∙ sym (ap (λ (x : Claim). x.request) g.same.claim);
      number_is = g.same.meta ∙ p.number_is;
      mark = g.mark ∙ p.mark;
      within = subst (λ (z : Shape). lane < z.lanes) (sym shape) p.within;
      inside = ap (λ (x : HeldLane). x.stage) (lane_same c c2 lane same) ∙ p.inside;
    }

-- a die goes out
pub in_sync_out : (m : Bool) (c : Core) (lane : ℕ) (request : Request) (n : ℕ) (a : Actor) (die : ℕ) (errand : Errand) → IsInSync m c lane request n → IsInSync m (die_out c a die errand) lane request n
in_sync_out m c lane request n a die errand p =
    record { sync = p.sync; call = p.call; flies = p.flies; held = p.held; request_is = p.request_is; number_is = p.number_is; mark = p.mark; within = p.within; inside = p.inside }

-- ---- a die comes home

-- no actor holds two
none_after : (c d : Core) (a : Actor) (die : ℕ) (out : Out) (x : DieState) → Coherent c → (c.dies die).out ≡ Some out → out.holder ≡ a → d.dies ≡ put c.dies die x → x.out ≡ None → HoldsNone d a
none_after c d a die out x h is mine dies home k o e theirs =
    ⊎_elim
    (λ (s : k ≡ die). let z : (d.dies k).out ≡ None = ap (λ (f : ℕ → DieState). (f k).out) dies ∙ (ap (λ (j : ℕ). (put c.dies die x j).out) s ∙ (ap (λ (y : DieState). y.out) (put-same c.dies die x) ∙ home)) in absurd (cc))
    (λ (ne : k ≢ die). let z : (c.dies k).out ≡ Some o = sym (ap (λ (y : DieState). y.out) (put-other c.dies die x k ne)) ∙ (sym (ap (λ (f : ℕ → DieState). (f k).out) dies) ∙ e) in
    absurd (ne (h.dies.one_each k die o out z is (theirs ∙ sym mine)))) (same_or_not k die)

same_some : (o p : Option Flight) (f : Flight) → o ≡ Some f → SameCalls o p → (g : Flight) × (p ≡ Some g) × SameCall f g
same_some None p f e s = absurd (cc)
same_some (Some x) p f e s = let z : x ≡ f = cc in subst (λ (y : Flight). (g : Flight) × (p ≡ Some g) × SameCall y g) z s

-- from the write of a block
pub block_lands : (c : Core) (lane : ℕ) (request : Request) (n die b v : ℕ) (page left : Page) (good : Bool) → Coherent c → (c.dies die).out ≡ Some (record { holder = Lane lane; errand = ToFlush b v page }) → IsInSync false c lane request n →
    HoldsNone (after c (FlushIn (Lane lane) die good left)) (Lane lane) × IsInSync (not good) (after c (FlushIn (Lane lane) die good left)) lane request n
block_lands c lane request n die b v page left good h out p =
    let d = after c (FlushIn (Lane lane) die good left) in
    let k = home_between c (Lane lane) die b v page left good h out (flushes_in_sync c lane request n p) in
    let g = same_some (c.calls lane) (d.calls lane) p.call p.flies k.1.call in (
      k.0.none,
      record {
        sync = p.sync;
        call = g.0;
        flies = g.1;
        held = g.2.phase ∙ p.held;
        request_is = p.request_is ∙ sym (ap (λ (x : Claim). x.request) g.2.claim);
        number_is = g.2.meta ∙ p.number_is;
        mark = k.0.flushes.acts.1;
        within = subst (λ (z : Shape). lane < z.lanes) (sym (shape_kept c (FlushIn (Lane lane) die good left))) p.within;
        inside = k.0.flushes.acts.0.inside;
      },
    )

more_if : (good : Bool) (m n : ℕ) → m ≡ n → m + one_if good ≡ n + one_if good
more_if good m n e = ap (λ (k : ℕ). k + one_if good) e

unmarked_if : (m x : Bool) → m ≡ false → (m || x) ≡ x
unmarked_if true x e = absurd (cc)
unmarked_if false x e = refl

-- from the write of a page of the meta data
stored_lands : (c : Core) (lane : ℕ) (request : Request) (n die number : ℕ) (bytes left : Page) (good : Bool) → Coherent c → (c.dies die).out ≡ Some (record { holder = Lane lane; errand = ToMeta number bytes }) → IsInSync false c lane request n →
    HoldsNone (stored_of c (Lane lane) die good left number bytes) (Lane lane) × IsInSync (not good) (stored_of c (Lane lane) die good left number bytes) lane request (n + one_if good)
stored_lands c lane request n die number bytes left good h out p =
    let d = stored_of c (Lane lane) die good left number bytes in
    let row : d.lanes lane ≡ marked_if (not good) (c.lanes lane) = put-same c.lanes lane (marked_if (not good) (c.lanes lane)) in (
      none_after c d (Lane lane) die (record { holder = Lane lane; errand = ToMeta number bytes }) (home_written (c.dies die) good) h out refl refl refl,
      record {
        sync = p.sync;
        call = record p.call { meta = p.call.meta + one_if good };
        flies = put-same c.calls lane (counted good (c.calls lane)) ∙ ap (counted good) p.flies;
        held = p.held;
        request_is = p.request_is;
        number_is = more_if good p.call.meta n p.number_is;
        mark = ap (λ (x : LaneState). x.mark) row ∙ unmarked_if (c.lanes lane).mark (not good) p.mark;
        within = p.within;
        inside = ap (λ (x : LaneState). x.stage) row ∙ p.inside;
      },
    )

pub stored_is : (c : Core) (lane die number : ℕ) (bytes left : Page) (good : Bool) → (c.dies die).out ≡ Some (record { holder = Lane lane; errand = ToMeta number bytes }) → after c (MetaIn (Lane lane) die good left) ≡ stored_of c (Lane lane) die good left number bytes
stored_is c lane die number bytes left good out = ap (stored_by c (Lane lane) die good left) out

pub page_lands : (c : Core) (lane : ℕ) (request : Request) (n die number : ℕ) (bytes left : Page) (good : Bool) → Coherent c → (c.dies die).out ≡ Some (record { holder = Lane lane; errand = ToMeta number bytes }) → IsInSync false c lane request n →
    HoldsNone (after c (MetaIn (Lane lane) die good left)) (Lane lane) × IsInSync (not good) (after c (MetaIn (Lane lane) die good left)) lane request (n + one_if good) × ((after c (MetaIn (Lane lane) die good left)).unclean ≡ c.unclean)
page_lands c lane request n die number bytes left good h out p =
    let is = sym (stored_is c lane die number bytes left good out) in
    let k = stored_lands c lane request n die number bytes left good h out p in (
      subst (λ (z : Core). HoldsNone z (Lane lane)) is k.0,
      subst (λ (z : Core). IsInSync (not good) z lane request (n + one_if good)) is k.1,
      sym (ap (λ (z : Core). z.unclean) is),
    )

-- ---- its end

record EndsRow (c d : Core) (lane : ℕ) : Type 0 where
  pub lanes : d.lanes ≡ put c.lanes lane (replied (c.lanes lane))

ended_row : (c : Core) (lane : ℕ) (call : Flight) (reply : Reply) → EndsRow c (ended_of c lane call reply) lane
ended_row c lane call reply = go (c.lanes lane).mark (has_changed call reply)
  where
    go : (t u : Bool) → EndsRow c (if t then ended_by_fault c lane call else (if u then ended_storing c lane call else ended_plainly c lane call)) lane
    go true u = record { lanes = refl }
    go false true = record { lanes = ap (λ (f : ℕ → LaneState). put f lane (replied (f lane))) (follows_keeps c (file_for c.names.files call.claim.request.call) (answer (plain c) call.claim.request.call).state).lanes }
    go false false = record { lanes = refl }

pub free_end : (m : Bool) (c : Core) (lane : ℕ) (request : Request) (n : ℕ) (reply : Reply) → HoldsNone c (Lane lane) → IsInSync m c lane request n → IsFree (after c (End lane request reply)) lane
free_end m c lane request n reply none p =
    let d = after c (End lane request reply) in
    let k = ended_is c lane (flight_at c.calls lane) reply in
    free_replied c d lane k.shape (ap (λ (f : ℕ → Option Flight). f lane) k.calls ∙ put-same c.calls lane None) k.dies (ended_row c lane (flight_at c.calls lane) reply).lanes p.within p.inside none
