-- A call begins over a desk. This project's own.
use Rattle.std.specs.Prelude.{◌≡◌, ℕ, List, [], ◌∷◌, Result, Ok, Err}
use Rattle.dispatcher.specs.declared.side.Side.{Side}
use Rattle.plain_files.specs.declared.calls.Request.{Request}
use Rattle.core_state.specs.declared.event.Event.{Event}
use Rattle.core_state.specs.State.{Core}
use Rattle.system_state.specs.declared.not_yet.NotYet.{NotYet}
use Rattle.system_state.specs.declared.not_yet.NotYet.TheVariants.{NoRoom}
use Rattle.page_steps.specs.BegunAnswer.{Begun}
use Rattle.page_steps.specs.Begun.{side_of}
use Rattle.page_steps.specs.Ways.{begin_way, way_of, begin_event, IsNext}

-- a call begins, is refused, or waits, as its way in core c is; where it waits for room the side is found
abbrev pub BeginSays : ℕ → Request → Side → Result Begun NotYet → Core → List Event → Type 0
BeginSays lane request picked (Ok b) c es = (es ≡ begin_event lane request b ∷ []) × (way_of (Ok b) ≡ begin_way c request) × IsNext c.last b
BeginSays lane request picked (Err y) c es =
    (es ≡ []) × (way_of (Err y) ≡ begin_way c request) × ((used need : ℕ) → y ≡ NoRoom used need → picked ≡ side_of c request)
