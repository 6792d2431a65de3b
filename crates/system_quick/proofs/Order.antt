-- What a call that needs no page waits for, by what comes first.
use Rattle.std.proofs.Common.{◌≡◌, ℕ, List, Option, Some, None, sym, ap, ◌∙◌}
use Rattle.flash_die.specs.Dies.{DieView}
use Rattle.plain_files.specs.declared.calls.Call.{Call}
use Rattle.plain_files.specs.declared.calls.Reply.{Reply}
use Rattle.plain_files.specs.declared.calls.Request.{Request}
use Rattle.plain_files.specs.Plain.{early}
use Rattle.core_state.specs.State.{Page, Shape, Places, Core}
use Rattle.core_state.specs.Contents.{contents}
use Rattle.core_state.specs.PlainOf.{plain_of, plain}
use Rattle.system_state.specs.Cores.{core_of, names_of, lanes_of}
use Rattle.system_state.specs.declared.lanes.Lane.{Lane}
use Rattle.system_state.specs.declared.not_yet.NotYet.{NotYet}
use Rattle.system_state.specs.declared.state.Function.{Function}
use Rattle.system_state.specs.declared.state.State.{State}
use Rattle.system_lanes.specs.Waiting.{awaited_still}
use Rattle.system_quick.specs.Waits.{in_the_way, waits_by, quick_waits}

-- what the tables tell of an early refusal is told of the core
pub early_at : {D J : Type 0} (seen : D → DieView) (s : State D J) (call : Call) (functions : List Function) (o : Option Reply) →
    ((shape : Shape) (places : Places) (pages : ℕ → Page) → o ≡ early (plain_of shape (names_of s.meta.names functions) places pages) call) → functions ≡ s.functions.items → early (plain (core_of seen s)) call ≡ o
early_at seen s call functions o e f =
    let c = core_of seen s in
    sym (e c.shape c.places (contents c.blocks) ∙ ap (λ (fs : List Function). early (plain_of c.shape (names_of s.meta.names fs) c.places (contents c.blocks)) call) f)

-- it awaits no call any more
pub awaits_none : (rows rows2 : List Lane) (awaits : Option (ℕ × ℕ)) (o : Option NotYet) → o ≡ awaited_still (lanes_of rows) awaits → rows ≡ rows2 → awaited_still (lanes_of rows2) awaits ≡ o
awaits_none rows rows2 awaits o e f = sym (e ∙ ap (λ (w : List Lane). awaited_still (lanes_of w) awaits) f)

module _ (c : Core) (request : Request) where
  pub refused_waits : (reply : Reply) → awaited_still c.lanes request.awaits ≡ None → early (plain c) request.call ≡ Some reply → quick_waits c request ≡ None
  refused_waits reply e f = λ i. waits_by (e i) (f i) (in_the_way c request.call)

  pub way_last : (o : Option NotYet) → awaited_still c.lanes request.awaits ≡ None → early (plain c) request.call ≡ None → o ≡ in_the_way c request.call → quick_waits c request ≡ o
  way_last o e f g = (λ i. waits_by (e i) (f i) (in_the_way c request.call)) ∙ sym g
