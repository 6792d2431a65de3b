-- Which events may change what the plain machine sees. This project's own: those that answer a call by it, Quick and End.
use Rattle.std.specs.Prelude.{Bool, true, false}
use Rattle.core_lanes.specs.Event.{Event}
use Rattle.core_lanes.specs.Event.TheVariants.{Quick, End}

abbrev pub answers_call : Event → Bool
answers_call (Quick lane request reply) = true
answers_call (End lane request reply) = true
answers_call _ = false
