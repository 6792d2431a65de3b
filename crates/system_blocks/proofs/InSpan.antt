-- What a call in flight has: its blocks are apart and pinned, and its frames are among those that calls take.
use Rattle.std.proofs.Common.{◌≡◌, ℕ, ◌+◌, ◌<◌, ◌≤◌, true, get_or, Option, Some, ap, ◌∙◌, refl, arith}
use Rattle.std.specs.Prelude.{if◌then◌else◌}
use Rattle.dispatcher.specs.declared.side.Side.{Side}
use Rattle.dispatcher.specs.declared.side.Side.TheVariants.{Host, Drive}
use Rattle.coherence.specs.Paired.{by_side}
use Rattle.flash_die.specs.Dies.{DieView}
use Rattle.index_lists.specs.Words.{one_if}
use Rattle.core_state.specs.Words.{is_at, sum_to}
use Rattle.core_state.specs.State.{Flight, Core}
use Rattle.core_state.specs.Frames.{weight, is_side, frames_of}
use Rattle.core_state.specs.PageEvents.{spans}
use Rattle.core_state.specs.Coherent.{Coherent}
use Rattle.system_state.proofs.CoreStoresKeeping.{Alone}
use Rattle.system_state.specs.Jobs.{JobView}
use Rattle.system_state.specs.Cores.{core_of}
use Rattle.system_state.specs.Kept.{IsKept}
use Rattle.system_state.specs.declared.state.State.{State}
use Rattle.system_blocks.specs.Sweeps.{sweep, Along}
use Rattle.system_blocks.specs.Spans.{pages_from, unpinned, IsPinned}
use Rattle.system_blocks.proofs.Bulk.{Inside}
use Rattle.system_blocks.proofs.Counted.{sum_most, any_some, at_itself}
use Rattle.system_blocks.proofs.Pins.{PinsAre, pins_are, pinned_fits}

module _ {D J : Type 0} (seen : D → DieView) (suits : J → JobView → Type 0) where
  module _ (s : State D J) (lane : ℕ) (call : Flight) (k : IsKept seen suits s) (h : Coherent (core_of seen s)) (flies : (core_of seen s).calls lane ≡ Some call) where
    abbrev c : Core
    c = core_of seen s

    abbrev at : ℕ → Option ℕ
    at = pages_from s.meta.extents.placed call.claim.file call.claim.reach.first

    within : lane < s.sizes.lanes
    within = (h.dies.in_turn lane call flies).0

    pub own_alone : Alone at
    own_alone i j b e d = let z = (h.placed.have.apart call.claim.file call.claim.file (call.claim.reach.first + i) (call.claim.reach.first + j) b e d).1 in omega arith

    pub own_inside : Inside at s.sizes.blocks
    own_inside i b e = h.placed.have.within call.claim.file (call.claim.reach.first + i) b e

    pinned : (i b : ℕ) → i < call.claim.reach.pages → at i ≡ Some b → 0 < get_or s.pins.items b 0
    pinned i b l e =
        let p = k.pins.each b (own_inside i b e) in
        let some : spans c.places (c.calls lane) b ≡ true = ap (λ (o : Option Flight). spans c.places o b) flies ∙ any_some call.claim.reach.pages (λ j. is_at (at j) b) i l (at_itself (at i) b e) in
        let m = sum_most (λ j. one_if (spans c.places (c.calls j) b)) s.sizes.lanes lane within in
        let o = ap one_if some in
        omega arith

    -- a pin may be taken from each block of the span
    pub pins_fit : Along call.claim.reach.pages at unpinned IsPinned s.pins.items
    pins_fit = pinned_fits s.sizes.blocks call.claim.reach.pages at s.pins.items k.pins.count own_alone own_inside pinned

    -- and then has been
    pub pins_left : PinsAre s.sizes.blocks call.claim.reach.pages at s.pins.items (sweep call.claim.reach.pages at unpinned s.pins.items)
    pins_left = pins_are s.sizes.blocks at s.pins.items k.pins.count own_alone own_inside call.claim.reach.pages

    -- the frames of the call, at its side
    pub own_frames_are : (side : Side) → call.claim.side ≡ side → frames_of side (c.calls lane) ≡ sum_to call.claim.reach.pages (λ i. weight (call.frame i))
    own_frames_are Host e = ap (frames_of Host) flies ∙ ap (λ (z : Side). if is_side Host z then sum_to call.claim.reach.pages (λ i. weight (call.frame i)) else 0) e
    own_frames_are Drive e = ap (frames_of Drive) flies ∙ ap (λ (z : Side). if is_side Drive z then sum_to call.claim.reach.pages (λ i. weight (call.frame i)) else 0) e

    -- and those of all calls are no fewer
    pub frames_most : (side : Side) → call.claim.side ≡ side → sum_to call.claim.reach.pages (λ i. weight (call.frame i)) ≤ sum_to s.sizes.lanes (λ l. frames_of side (c.calls l))
    frames_most side e = let a = own_frames_are side e in let m = sum_most (λ j. frames_of side (c.calls j)) s.sizes.lanes lane within in omega arith

    pub taken_fits : sum_to call.claim.reach.pages (λ i. weight (call.frame i)) ≤ by_side call.claim.side s.taken.host s.taken.drive
    taken_fits = by call.claim.side refl
      where
        by : (side : Side) → call.claim.side ≡ side → sum_to call.claim.reach.pages (λ i. weight (call.frame i)) ≤ by_side side s.taken.host s.taken.drive
        by Host e = let m = frames_most Host e in let t = k.taken.host in omega arith
        by Drive e = let m = frames_most Drive e in let t = k.taken.drive in omega arith
