-- Enter, Leave and Skip.
use Rattle.std.proofs.Common.{◌≡◌, ℕ, ◌+◌, Bool, Option, Some, None, refl, inl, inr}
use Rattle.std.specs.Prelude.{◌≢◌, ◌⊎◌}
use Rattle.index_lists.specs.Words.{put}
use Rattle.core_lemmas.specs.Request.{Request}
use Rattle.core_lemmas.specs.Actor.TheVariants.{Lane}
use Rattle.core_lemmas.specs.State.{LaneState, Inside, Gone, Out, Core}
use Rattle.core_lemmas.specs.Contents.{contents}
use Rattle.core_lemmas.specs.PlainOf.{plain_of}
use Rattle.core_lemmas.specs.Coherent.{Coherent}
use Rattle.core_lemmas.specs.LaneEvents.{entered, left_by, skipped, replied, MayEnter, MayLeave, MaySkip}
use Rattle.core_lemmas.specs.Happens.{HoldsNone}
use Rattle.core_lemmas.proofs.Lanes.{queued_lane, gathered_lane, dies_lane}

-- an option with no value is none
pub none_of : {A : Type 0} (o : Option A) → ((x : A) → o ≡ Some x → ⊥) → o ≡ None
none_of None h = refl
none_of (Some x) h = absurd (h x refl)

-- a lane without a call changes
pub idle_keeps : (c : Core) (lane last : ℕ) (x : LaneState) → c.calls lane ≡ None → ((die : ℕ) (out : Out) → (c.dies die).out ≡ Some out → (x.stage ≡ Inside) ⊎ (out.holder ≢ Lane lane)) →
    Coherent c → Coherent (record c { lanes = put c.lanes lane x; last = last })
idle_keeps c lane last x none stays h = record {
  placed = h.placed;
  copies = h.copies;
  clean = h.clean;
  unclean = h.unclean;
  lent = h.lent;
  locked = h.locked;
  in_flight = h.in_flight;
  tails = h.tails;
  frames = h.frames;
  orders = record { ordered = h.orders.ordered; queued = queued_lane c.queue c.lanes c.calls lane x none h.orders.queued };
  dies = dies_lane c.shape c.places c.blocks c.lanes c.calls c.dies lane x none stays h.dies;
  gathered = gathered_lane c.places (contents c.blocks) (plain_of c.shape c.names c.places (contents c.blocks)) c.lanes c.calls lane x none h.gathered;
}

pub enter_keeps : (c : Core) (lane : ℕ) → Coherent c → MayEnter c lane → Coherent (entered c lane)
enter_keeps c lane h may =
    idle_keeps c lane c.last (record (c.lanes lane) { stage = Inside })
    (none_of (c.calls lane) (λ call e. let i = (h.dies.in_turn lane call e).1 in let o = may.outside in cc))
    (λ die out e. inl refl) h

pub leave_keeps : (c : Core) (lane : ℕ) → Coherent c → HoldsNone c (Lane lane) → MayLeave c lane → Coherent (left_by c lane)
leave_keeps c lane h free may = idle_keeps c lane c.last (record (c.lanes lane) { stage = Gone }) may.idle.idle (λ die out e. inr (free die out e)) h

pub skip_keeps : (c : Core) (lane : ℕ) (request : Request) (fault : Bool) → Coherent c → MaySkip c lane request fault → Coherent (skipped c lane)
skip_keeps c lane request fault h may = idle_keeps c lane (c.last + 1) (replied (c.lanes lane)) may.idle.idle (λ die out e. inl may.idle.inside) h
