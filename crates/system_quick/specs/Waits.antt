-- What a call that needs no page waits for. This project's own.
use Rattle.std.specs.Prelude.{ℕ, Bool, false, if◌then◌else◌, List, Option, Some, None, option_map}
use Rattle.plain_files.specs.declared.calls.Call.{Call}
use Rattle.plain_files.specs.declared.calls.Call.TheVariants.{Remove, Seal, Unload}
use Rattle.plain_files.specs.declared.calls.Reply.{Reply}
use Rattle.plain_files.specs.declared.calls.Request.{Request}
use Rattle.plain_files.specs.Plain.{early}
use Rattle.core_state.specs.Words.{first_to}
use Rattle.core_state.specs.State.{File, Claim, Core}
use Rattle.core_state.specs.Reach.{file_for, holds_file, uses_function}
use Rattle.core_state.specs.PlainOf.{plain}
use Rattle.core_state.specs.InFlight.{claims}
use Rattle.core_state.specs.LaneEvents.{is_unsealed}
use Rattle.system_state.specs.declared.not_yet.NotYet.{NotYet}
use Rattle.system_state.specs.declared.not_yet.NotYet.TheVariants.{Conflict, FnInUse}
use Rattle.system_lanes.specs.Waiting.{awaited_still}

-- a lane's call holds the file, or uses the function
abbrev pub holds : ℕ → Option Claim → Bool
holds id None = false
holds id (Some a) = holds_file a id

abbrev pub uses : List ℕ → Option Claim → Bool
uses name None = false
uses name (Some a) = uses_function a name

-- the least lane whose call does
abbrev pub least_holder : Core → ℕ → Option ℕ
least_holder c id = first_to c.shape.lanes (λ l. holds id (claims c.calls l))

abbrev pub least_user : Core → List ℕ → Option ℕ
least_user c name = first_to c.shape.lanes (λ l. uses name (claims c.calls l))

abbrev pub conflict_on : Core → Option File → Option NotYet
conflict_on c None = None
conflict_on c (Some f) = option_map (λ l. Conflict l) (least_holder c f.id)

abbrev pub use_of : Core → List ℕ → Option NotYet
use_of c name = option_map (λ l. FnInUse l) (least_user c name)

-- who is in the way of a call that nothing refuses: of a `remove`, of a `seal` of a file that isn't sealed, and of an `unload`
abbrev pub in_the_way : Core → Call → Option NotYet
in_the_way c (Remove name) = conflict_on c (file_for c.names.files (Remove name))
in_the_way c (Seal name) =
    if is_unsealed (file_for c.names.files (Seal name)) then conflict_on c (file_for c.names.files (Seal name)) else None
in_the_way c (Unload name) = use_of c name
in_the_way c call = None

-- The call that is awaited comes first. One that is refused waits for no other.
abbrev pub waits_by : Option NotYet → Option Reply → Option NotYet → Option NotYet
waits_by (Some awaited) refusal way = Some awaited
waits_by None (Some reply) way = None
waits_by None None way = way

abbrev pub quick_waits : Core → Request → Option NotYet
quick_waits c request = waits_by (awaited_still c.lanes request.awaits) (early (plain c) request.call) (in_the_way c request.call)
