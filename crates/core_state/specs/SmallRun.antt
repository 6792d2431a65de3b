-- A small run: a drive of one block and two lanes, in which a file is made, and a sync fails at its first page. This project's own.
-- It shows that the conditions of a core and of its events can be met.
use Rattle.std.specs.Prelude.{false, List, [], ◌∷◌, None}
use Rattle.page_base.specs.Bytes.{zero_page}
use Rattle.dispatcher.specs.declared.side.Side.TheVariants.{Host}
use Rattle.dispatcher.specs.declared.side.Place.TheVariants.{Auto}
use Rattle.plain_files.specs.declared.calls.Call.TheVariants.{Create, Sync}
use Rattle.plain_files.specs.declared.calls.Reply.TheVariants.{Id, Fault}
use Rattle.plain_files.specs.declared.calls.Request.{Request}
use Rattle.core_state.specs.declared.actor.Actor.TheVariants.{Lane}
use Rattle.core_state.specs.declared.event.Event.{Event}
use Rattle.core_state.specs.declared.event.Event.TheVariants.{Enter, Leave, Quick, Skip, Begin, DieOut, End, MetaIn}
use Rattle.core_state.specs.declared.event.Purpose.TheVariants.{Meta}
use Rattle.core_state.specs.State.{Core}
use Rattle.core_state.specs.Opening.{Image, opening_core}

-- one block, one die, no file
abbrev pub small_image : Image
small_image = record { blocks = 1; dies = 1; files = []; next = 1; places = λ f p. None; written = λ b. false; pages = λ p. zero_page }

-- with two lanes
abbrev pub small_core : Core
small_core = opening_core small_image 2 Auto

-- `create f`
abbrev pub create_f : Request
create_f = record { call = Create (102 ∷ []); awaits = None }

abbrev pub sync : Request
sync = record { call = Sync; awaits = None }

abbrev pub small_events : List Event
small_events =
    Enter 0 ∷ Enter 1 ∷ Quick 0 create_f (Id 1) ∷ Skip 1 create_f false ∷ Begin 1 sync Host ∷ DieOut (Lane 1) 0 (Meta 0 zero_page)
    ∷ MetaIn (Lane 1) 0 false zero_page ∷ End 1 sync Fault ∷ Leave 0 ∷ Leave 1 ∷ []
