-- The event of a turn is the one that the run of one thread makes.
use Rattle.std.proofs.Common.{◌≡◌, ℕ, Bool, true, false, List, [], Option, Some, None, sym, ap, ◌∙◌, arith}
use Rattle.std.specs.Prelude.{if◌then◌else◌, is_some, nat_lt, slice_get}
use Rattle.std.proofs.lemmas.Bool.Decides.{nat_tests}
use Rattle.page_base.specs.Drive.{meta_pages}
use Rattle.core_state.specs.declared.actor.Actor.{Actor}
use Rattle.core_state.specs.declared.event.Event.{Event}
use Rattle.core_state.specs.declared.event.Event.TheVariants.{Copy, Take, DieOut}
use Rattle.core_state.specs.declared.event.Purpose.TheVariants.{Fill, Meta}
use Rattle.core_state.specs.State.{Page, Mode, Shared, Exclusive, Flight, Core}
use Rattle.core_state.specs.Contents.{span_block, is_missing, die_of}
use Rattle.core_state.specs.Reach.{by_mode}
use Rattle.core_state.specs.DieEvents.{MayMeta, is_home}
use Rattle.core_solo.specs.Solo.{gather_event, flush_event, sync_event}
use Rattle.system_state.specs.declared.errand.Errand.{Errand}
use Rattle.system_pages.specs.declared.ways.Way.{Way}
use Rattle.system_pages.specs.declared.ways.Way.TheVariants.{ByPage, ByDie, Busy}
use Rattle.system_pages.specs.Ways.{way, way_at}
use Rattle.system_pages.specs.Events.{copy_event, take_event, way_gone}
use Rattle.system_metas.specs.Encode.{encode}
use Rattle.event_turns.proofs.Keeping.{at_flight}

-- how a page is got, by whether it must be read, and whether its die is at home
way_by : Bool → Bool → ℕ → Way
way_by t h n = if t then (if h then ByDie n else Busy n) else ByPage

event_by : Bool → ℕ → Mode → Actor → ℕ → ℕ → Event
event_by t n mode a lane i = if t then DieOut a n (Fill lane i) else by_mode mode (Copy a lane i) (Take a lane i)

copies : {D : Type 0} → (mode : Mode) (a : Actor) (lane i n : ℕ) (t h : Bool) (x : Option (Errand D)) → mode ≡ Shared → way_by t h n ≡ way_gone x → copy_event a lane i x ≡ event_by t n mode a lane i
unfolding way_by event_by
copies mode a lane i n true true None m e = absurd (cc)
copies mode a lane i n true false None m e = absurd (cc)
copies mode a lane i n false h None m e = sym (ap (λ (k : Mode). by_mode k (Copy a lane i) (Take a lane i)) m)
copies mode a lane i n true true (Some x) m e = let z : x.number ≡ n = cc in ap (λ (k : ℕ). DieOut a k (Fill lane i)) z
copies mode a lane i n true false (Some x) m e = absurd (cc)
copies mode a lane i n false h (Some x) m e = absurd (cc)

takes : {D : Type 0} → (mode : Mode) (a : Actor) (lane i n : ℕ) (t h : Bool) (x : Option (Errand D)) → mode ≡ Exclusive → way_by t h n ≡ way_gone x → take_event a lane i x ≡ event_by t n mode a lane i
unfolding way_by event_by
takes mode a lane i n true true None m e = absurd (cc)
takes mode a lane i n true false None m e = absurd (cc)
takes mode a lane i n false h None m e = sym (ap (λ (k : Mode). by_mode k (Copy a lane i) (Take a lane i)) m)
takes mode a lane i n true true (Some x) m e = let z : x.number ≡ n = cc in ap (λ (k : ℕ). DieOut a k (Fill lane i)) z
takes mode a lane i n true false (Some x) m e = absurd (cc)
takes mode a lane i n false h (Some x) m e = absurd (cc)

copies_at : {D : Type 0} → (c : Core) (a : Actor) (lane i : ℕ) (call : Flight) (o : Option ℕ) (x : Option (Errand D)) → call.claim.reach.mode ≡ Shared → way_at c o ≡ way_gone x → copy_event a lane i x ≡ gather_event c a lane call i o
unfolding way_by event_by
copies_at c a lane i call None x m e = copies call.claim.reach.mode a lane i 0 false false x m e
copies_at c a lane i call (Some b) x m e = copies call.claim.reach.mode a lane i (die_of c.shape b) (is_missing (c.blocks b)) (is_home (c.dies (die_of c.shape b))) x m e

takes_at : {D : Type 0} → (c : Core) (a : Actor) (lane i : ℕ) (call : Flight) (o : Option ℕ) (x : Option (Errand D)) → call.claim.reach.mode ≡ Exclusive → way_at c o ≡ way_gone x → take_event a lane i x ≡ gather_event c a lane call i o
unfolding way_by event_by
takes_at c a lane i call None x m e = takes call.claim.reach.mode a lane i 0 false false x m e
takes_at c a lane i call (Some b) x m e = takes call.claim.reach.mode a lane i (die_of c.shape b) (is_missing (c.blocks b)) (is_home (c.dies (die_of c.shape b))) x m e

way_of : {D : Type 0} → (c : Core) (lane i : ℕ) (call : Flight) (x : Option (Errand D)) → c.calls lane ≡ Some call → way c lane i ≡ way_gone x → way_at c (span_block c.places call.claim i) ≡ way_gone x
way_of c lane i call x flies e = sym (ap (λ (f : Flight). way_at c (span_block c.places f.claim i)) (at_flight c.calls lane call flies)) ∙ e

pub copies_next : {D : Type 0} → (c : Core) (a : Actor) (lane i : ℕ) (call : Flight) (x : Option (Errand D)) → c.calls lane ≡ Some call → call.claim.reach.mode ≡ Shared → way c lane i ≡ way_gone x → copy_event a lane i x ≡ gather_event c a lane call i (span_block c.places call.claim i)
copies_next c a lane i call x flies m e = copies_at c a lane i call (span_block c.places call.claim i) x m (way_of c lane i call x flies e)

pub takes_next : {D : Type 0} → (c : Core) (a : Actor) (lane i : ℕ) (call : Flight) (x : Option (Errand D)) → c.calls lane ≡ Some call → call.claim.reach.mode ≡ Exclusive → way c lane i ≡ way_gone x → take_event a lane i x ≡ gather_event c a lane call i (span_block c.places call.claim i)
takes_next c a lane i call x flies m e = takes_at c a lane i call (span_block c.places call.claim i) x m (way_of c lane i call x flies e)

-- a page of the meta data
write_by : Option Event → Bool → Bool → Event → Option Event
write_by flush t u e = if t then flush else (if u then Some e else None)

pub metas_next : (c : Core) (a : Actor) (die i : ℕ) (page : Page) → MayMeta c a die i page → c.unclean ≡ [] → page ≡ encode c i → sync_event encode c a i ≡ Some (DieOut a die (Meta i page))
unfolding write_by
metas_next c a die i page may clean bytes =
    let l = may.below in
    let u : nat_lt i (meta_pages c.shape.blocks) ≡ true = grind (arith, nat_tests) in
    let t : is_some (slice_get c.unclean 0) ≡ false = ap (λ (us : List ℕ). is_some (slice_get us 0)) clean in
    λ j. write_by (flush_event c a) (t j) (u j) (DieOut a (may.on_die j) (Meta i (sym bytes j)))
