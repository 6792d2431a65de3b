-- A run determines the core that it leads to.
use Rattle.std.proofs.Common.{◌≡◌, List, [], ◌∷◌, sym, ◌∙◌}
use Rattle.core_state.specs.declared.event.Event.{Event}
use Rattle.core_state.specs.State.{Core}
use Rattle.core_state.specs.Happens.{CoreRun, after}
use Rattle.core_state.specs.Happens.{after_all}

pub leads_to : (events : List Event) (c0 c1 : Core) → CoreRun c0 events c1 → c1 ≡ after_all c0 events
leads_to [] c0 c1 r = r
leads_to (e ∷ es) c0 c1 r = leads_to es (after c0 e) c1 r.1

pub determined : (c0 c1 c2 : Core) (events : List Event) → CoreRun c0 events c1 → CoreRun c0 events c2 → c1 ≡ c2
determined c0 c1 c2 events a b = leads_to events c0 c1 a ∙ sym (leads_to events c0 c2 b)
