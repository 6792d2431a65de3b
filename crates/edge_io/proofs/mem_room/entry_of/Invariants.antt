use Rattle.std.proofs.Common.{◌≡◌, drop}
use Rattle.edge_io.specs.Memory.{entry}
use Rattle.edge_io.proofs.mem_room.entry_of.Given as goal

abbrev pub invariant-loop-text : goal.invariant-loop-text
invariant-loop-text l = entry (drop l.text-index l.files) l.name ≡ entry l.files l.name
