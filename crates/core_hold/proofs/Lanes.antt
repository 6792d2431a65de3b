-- Enter, Leave, Skip and Begin.
use Rattle.std.proofs.Common.{◌≡◌, ℕ, ◌+◌, Bool, Option, Some, None, refl, sym, ap, ◌∙◌}
use Rattle.std.specs.Prelude.{◌≢◌}
use Rattle.dispatcher.specs.declared.side.Side.{Side}
use Rattle.index_lists.specs.Words.{put}
use Rattle.core_quick.specs.Request.{Request}
use Rattle.core_quick.specs.Actor.{Actor}
use Rattle.core_quick.specs.Actor.TheVariants.{Lane}
use Rattle.core_quick.specs.Event.TheVariants.{Enter, Leave, Skip, Begin}
use Rattle.core_quick.specs.State.{LaneState, Inside, Gone, Held, Flight, Core}
use Rattle.core_quick.specs.Contents.{contents}
use Rattle.core_quick.specs.Reach.{claim_for}
use Rattle.core_quick.specs.LaneEvents.{replied, first_flight}
use Rattle.core_quick.specs.Hold.{call_seen, call_owned, hold}
use Rattle.core_quick.proofs.Idle.{none_of}
use Rattle.core_hold.specs.Keeps.{KeepsHolds}
use Rattle.core_hold.proofs.Actors.{not_owner, not_seeing}
use Rattle.core_hold.proofs.Views.{same_hold, lane_other, lane_other_call, seen_put, unseen, owned_put, owned_lane, not_owned}

-- nobody owns what isn't there
pub no_call_owned : (l l2 : LaneState) (a : Actor) (lane : ℕ) (o : Option Flight) → o ≡ None → call_owned l2 a lane o ≡ call_owned l a lane o
no_call_owned l l2 a lane o e = ap (call_owned l2 a lane) e ∙ sym (ap (call_owned l a lane) e)

-- another lane changes, which has no call
idle_holds : (c : Core) (lane last : ℕ) (x : LaneState) (a : Actor) → c.calls lane ≡ None → a ≢ Lane lane → hold (record c { lanes = put c.lanes lane x; last = last }) a ≡ hold c a
idle_holds c lane last x a none n =
    same_hold (hold (record c { lanes = put c.lanes lane x; last = last }) a) (hold c a) refl (lane_other c.lanes c.calls lane x a n) refl
    (owned_lane c.lanes a c.calls lane x (no_call_owned (c.lanes lane) x a lane (c.calls lane) none)) refl

pub enter_holds : (lane : ℕ) → KeepsHolds (Enter lane)
enter_holds lane c c2 a h s n =
    ap (λ (k : Core). hold k a) s.leaves
    ∙ idle_holds c lane c.last (record (c.lanes lane) { stage = Inside }) a
    (none_of (c.calls lane) (λ call e. let i = (h.dies.in_turn lane call e).1 in let o = s.may.outside in cc)) n

pub leave_holds : (lane : ℕ) → KeepsHolds (Leave lane)
leave_holds lane c c2 a h s n = ap (λ (k : Core). hold k a) s.leaves ∙ idle_holds c lane c.last (record (c.lanes lane) { stage = Gone }) a s.may.idle.idle n

pub skip_holds : (lane : ℕ) (request : Request) (fault : Bool) → KeepsHolds (Skip lane request fault)
skip_holds lane request fault c c2 a h s n = ap (λ (k : Core). hold k a) s.leaves ∙ idle_holds c lane (c.last + 1) (replied (c.lanes lane)) a s.may.idle.idle n

-- a lane's first call is its own
pub begin_holds : (lane : ℕ) (request : Request) (side : Side) → KeepsHolds (Begin lane request side)
begin_holds lane request side c c2 a h s n =
    let call = first_flight c.blocks c.places (claim_for c.names.files request side) in
    let none = s.may.ready.idle.idle in
    let free = not_owner a (Lane lane) lane Held refl n in
    ap (λ (k : Core). hold k a) s.leaves
    ∙ same_hold (hold (record c { calls = put c.calls lane (Some call) }) a) (hold c a) refl (lane_other_call c.lanes c.calls lane (Some call) a n)
    (seen_put c.names c.places (contents c.blocks) a c.calls lane (Some call)
    (unseen c.names c.places (contents c.blocks) a lane call (not_seeing a lane Held n free) ∙ sym (ap (call_seen c.names c.places (contents c.blocks) a lane) none)))
    (owned_put c.lanes a c.calls lane (Some call) (not_owned (c.lanes lane) a lane call free ∙ sym (ap (call_owned (c.lanes lane) a lane) none))) refl
