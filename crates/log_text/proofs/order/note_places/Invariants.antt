use Rattle.std.proofs.Common.{List, length}
use Rattle.plain_files.specs.History.{Entry}
use Rattle.log_text.specs.Places.{HasNoted, IsLogOf}
use Rattle.log_text.proofs.order.note_places.Given as goal

abbrev pub invariant-loop-k : goal.invariant-loop-k
invariant-loop-k l = (calls : List Entry) → IsLogOf calls l.log (length l.fn.places) → HasNoted l.log.lane l.k calls l.fn.places l.places
