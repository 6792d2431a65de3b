-- How far a call gets that is to begin.
use Rattle.std.proofs.Common.{◌≡◌, ℕ, List, Option, Some, None, sym, ap, ◌∙◌}
use Rattle.flash_die.specs.Dies.{DieView}
use Rattle.plain_files.specs.declared.calls.Call.{Call}
use Rattle.plain_files.specs.declared.calls.Reply.{Reply}
use Rattle.plain_files.specs.declared.calls.Request.{Request}
use Rattle.plain_files.specs.Plain.{early}
use Rattle.core_state.specs.State.{Page, Shape, Places, LaneState, Core}
use Rattle.core_state.specs.Contents.{contents}
use Rattle.core_state.specs.PlainOf.{plain_of, plain}
use Rattle.system_state.specs.Cores.{core_of, names_of, lanes_of}
use Rattle.system_state.specs.declared.lanes.Lane.{Lane}
use Rattle.system_state.specs.declared.not_yet.NotYet.{NotYet}
use Rattle.system_state.specs.declared.state.Function.{Function}
use Rattle.system_state.specs.declared.state.State.{State}
use Rattle.system_lanes.specs.Waiting.{awaited_still}
use Rattle.system_begin.specs.Begun.{begin_waits, side_of, claim_at_side}
use Rattle.system_begin.specs.Ways.{Waits, Refused, way_by, begin_way}

-- what the tables tell of an early refusal is told of the core
pub early_at : {D J : Type 0} (seen : D → DieView) (s : State D J) (call : Call) (functions : List Function) (o : Option Reply) →
    ((shape : Shape) (places : Places) (pages : ℕ → Page) → o ≡ early (plain_of shape (names_of s.meta.names functions) places pages) call) → functions ≡ s.functions.items → early (plain (core_of seen s)) call ≡ o
early_at seen s call functions o e f =
    let c = core_of seen s in
    sym (e c.shape c.places (contents c.blocks) ∙ ap (λ (fs : List Function). early (plain_of c.shape (names_of s.meta.names fs) c.places (contents c.blocks)) call) f)

-- it awaits no call any more
pub awaits_none : (rows rows2 : List Lane) (awaits : Option (ℕ × ℕ)) (o : Option NotYet) → o ≡ awaited_still (lanes_of rows) awaits → rows ≡ rows2 → awaited_still (lanes_of rows2) awaits ≡ o
awaits_none rows rows2 awaits o e f = sym (e ∙ ap (λ (w : List Lane). awaited_still (lanes_of w) awaits) f)

module _ (c : Core) (request : Request) (free : awaited_still c.lanes request.awaits ≡ None) where
  pub refused_way : (reply : Reply) → early (plain c) request.call ≡ Some reply → Refused reply ≡ begin_way c request
  refused_way reply e =
      let a = free in
      let w = begin_waits c (claim_at_side c request) in
      sym (λ i. way_by (a i) (e i) w (side_of c request) (claim_at_side c request).reach.pages)

  pub waits_way : (y : NotYet) → early (plain c) request.call ≡ None → begin_waits c (claim_at_side c request) ≡ Some y → Waits y ≡ begin_way c request
  waits_way y e w =
      let a = free in
      sym (λ i. way_by (a i) (e i) (w i) (side_of c request) (claim_at_side c request).reach.pages)
