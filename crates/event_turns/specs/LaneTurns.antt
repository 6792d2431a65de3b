-- Turns of lanes that move no page. This project's own.
use Rattle.std.specs.Prelude.{◌≡◌, ℕ, Bool, true, List, [], ◌∷◌, Some, Result, Ok, Err}
use Rattle.plain_files.specs.declared.calls.Request.{Request}
use Rattle.plain_files.specs.declared.calls.Numbered.{Numbered}
use Rattle.core_state.specs.declared.event.Event.{Event}
use Rattle.core_state.specs.declared.event.Event.TheVariants.{Skip}
use Rattle.core_state.specs.State.{Core}
use Rattle.core_state.specs.Happens.{IsClosing}
use Rattle.system_state.specs.declared.not_yet.NotYet.{NotYet}
use Rattle.system_lanes.specs.Waiting.{awaited_still}
use Rattle.event_turns.specs.Words.{IsAnswered}

-- whether the system is closing, in core c
pub record ClosingSays (closing : Bool) (c : Core) (es : List Event) : Type 0 where
  pub are : es ≡ []
  pub closes : closing ≡ true → IsClosing c
  pub open_still : IsClosing c → closing ≡ true

-- a call is skipped, in core c, or the call that it awaits hasn't ended
abbrev pub SkipSays : ℕ → Request → Bool → Result Numbered NotYet → Core → List Event → Type 0
SkipSays lane request fault (Ok n) c es = (es ≡ Skip lane request fault ∷ []) × IsAnswered c (Skip lane request fault) lane request.call n
SkipSays lane request fault (Err y) c es = (es ≡ []) × (awaited_still c.lanes request.awaits ≡ Some y)
