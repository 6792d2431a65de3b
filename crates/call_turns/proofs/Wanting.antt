-- A call that waits for room.
use Rattle.std.proofs.Common.{◌≡◌, ℕ, ◌+◌, Bool, true, false, Option, Some, None, refl}
use Rattle.std.specs.Prelude.{if◌then◌else◌, nat_lt}
use Rattle.dispatcher.specs.declared.side.Side.{Side}
use Rattle.plain_files.specs.declared.calls.Reply.{Reply}
use Rattle.plain_files.specs.declared.calls.Request.{Request}
use Rattle.plain_files.specs.Plain.{early}
use Rattle.core_state.specs.State.{LaneState, Core}
use Rattle.core_state.specs.PlainOf.{plain}
use Rattle.core_state.specs.Reach.{claim_for}
use Rattle.core_state.specs.Frames.{frames_at}
use Rattle.core_solo.specs.Solo.{is_wanting, solo_side}
use Rattle.system_state.specs.declared.not_yet.NotYet.{NotYet}
use Rattle.system_state.specs.declared.not_yet.NotYet.TheVariants.{Awaited, NoRoom}
use Rattle.system_lanes.specs.Waiting.{awaited_still}
use Rattle.page_steps.specs.Begun.{side_of, claim_at_side, waits_for, begin_waits, least_clash, used_at, need_of}
use Rattle.page_steps.specs.Ways.{Waits, way_by, begin_way}

no_room_awaited : (lanes : ℕ → LaneState) (o : Option (ℕ × ℕ)) (used need : ℕ) → awaited_still lanes o ≡ Some (NoRoom used need) → ⊥
no_room_awaited lanes None used need e = absurd (cc)
no_room_awaited lanes (Some a) used need e = go (nat_lt (lanes a.0).ended a.1) e
  where
    go : (t : Bool) → (if t then Some (Awaited a.0 (lanes a.0).ended) else None) ≡ Some (NoRoom used need) → ⊥
    go true f = absurd (cc)
    go false f = absurd (cc)

waits_last : (used need : ℕ) (a : Option NotYet) (r : Option Reply) (w : Option NotYet) (side : Side) (span : ℕ) → (a ≡ Some (NoRoom used need) → ⊥) → way_by a r w side span ≡ Waits (NoRoom used need) → (r ≡ None) × (w ≡ Some (NoRoom used need))
waits_last used need (Some y) r w side span not e = let z : Some y ≡ Some (NoRoom used need) = cc in absurd (not z)
waits_last used need None (Some reply) w side span not e = absurd (cc)
waits_last used need None None (Some y) side span not e = (refl, cc)
waits_last used need None None None side span not e = absurd (cc)

lacks_frames : (used need : ℕ) (clash : Option ℕ) (x y frames : ℕ) → waits_for clash x y frames ≡ Some (NoRoom used need) → nat_lt frames (x + y) ≡ true
lacks_frames used need (Some call) x y frames e = absurd (cc)
lacks_frames used need None x y frames e = go (nat_lt frames (x + y)) e
  where
    go : (t : Bool) → (if t then Some (NoRoom x y) else None) ≡ Some (NoRoom used need) → t ≡ true
    go true f = refl
    go false f = absurd (cc)

pub wants_room : (c : Core) (request : Request) (used need : ℕ) → begin_way c request ≡ Waits (NoRoom used need) →
    (early (plain c) request.call ≡ None) × (side_of c request ≡ solo_side c request) × (is_wanting c (claim_for c.names.files request (solo_side c request)) ≡ true)
wants_room c request used need e =
    let claim = claim_at_side c request in
    let w = waits_last used need (awaited_still c.lanes request.awaits) (early (plain c) request.call) (begin_waits c claim) (side_of c request) claim.reach.pages (no_room_awaited c.lanes request.awaits used need) e in
    (w.0, refl, lacks_frames used need (least_clash c claim) (used_at c claim.side) (need_of c claim) (frames_at claim.side c.shape) w.1)
