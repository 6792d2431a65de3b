use Rattle.std.proofs.Common.{◌≡◌, ◌+◌, drop}
use Rattle.edge_io.specs.Memory.{place}
use Rattle.edge_io.proofs.mem_room.place_of.Given as goal

abbrev pub invariant-loop-i : goal.invariant-loop-i
invariant-loop-i l = place l.files l.name ≡ l.i + place (drop l.i l.files) l.name
