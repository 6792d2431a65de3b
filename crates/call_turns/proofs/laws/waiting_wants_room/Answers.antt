use Rattle.call_turns.proofs.Wanting.{wants_room}
use Rattle.call_turns.proofs.laws.waiting_wants_room.Goals as goal

pub returns : goal.returns
returns k = wants_room
