-- A call that needs no page, over a desk. This project's own.
use Rattle.std.specs.Prelude.{◌≡◌, ℕ, List, [], ◌∷◌, Some, None, Result, Ok, Err}
use Rattle.plain_files.specs.declared.calls.Numbered.{Numbered}
use Rattle.plain_files.specs.declared.calls.Request.{Request}
use Rattle.core_state.specs.declared.event.Event.{Event}
use Rattle.core_state.specs.declared.event.Event.TheVariants.{Quick}
use Rattle.core_state.specs.State.{Core}
use Rattle.system_state.specs.declared.not_yet.NotYet.{NotYet}
use Rattle.page_steps.specs.LoadingOf.{Loading}
use Rattle.page_steps.specs.QuickWaits.{quick_waits}
use Rattle.page_steps.specs.Words.{IsAnswered}

-- it is answered in core c, with its reply as the event has it, or waits, and what it loads is as before
abbrev pub QuickSays : ℕ → Request → Loading → Loading → Result Numbered NotYet → Core → List Event → Type 0
QuickSays lane request before after (Ok n) c es =
    (es ≡ Quick lane request n.reply ∷ []) × (quick_waits c request ≡ None) × IsAnswered c (Quick lane request n.reply) lane request.call n
QuickSays lane request before after (Err y) c es = (es ≡ []) × (quick_waits c request ≡ Some y) × (after ≡ before)
