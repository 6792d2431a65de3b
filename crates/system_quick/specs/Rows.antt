-- Rows of calls in flight that are in the way. This project's own.
use Rattle.std.specs.Prelude.{ℕ, ◌==◌, Bool, false, List, Option, Some, None}
use Rattle.core_state.specs.Reach.{word_is}
use Rattle.system_state.specs.declared.lanes.Call.{Call}

-- of a call on the file
abbrev pub row_holds : ℕ → Option Call → Bool
row_holds id None = false
row_holds id (Some call) = call.claim.file == id

-- of a call that runs the function
abbrev pub row_uses : List ℕ → Option Call → Bool
row_uses name None = false
row_uses name (Some call) = word_is call.claim.function name
