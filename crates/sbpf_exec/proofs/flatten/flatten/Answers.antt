use Rattle.std.proofs.Common.{sym, arith}
use Rattle.sbpf_exec.proofs.CellTable.{stands_as, mirrors_more}
use Rattle.sbpf_exec.proofs.flatten.flatten.Goals as goal
use Rattle.sbpf_exec.proofs.flatten.flatten.Goals.{in-Some, in_default}

pub loop-slot-preserved : goal.loop-slot-preserved
loop-slot-preserved c = elim c.match-at_slot.branch [
  | in-Some w ↦ rw w.cells-is (mirrors_more _ _ _ _ c.loop-slot.invariant (omega arith) (stands_as _ _ _ w.cell_of.ensures (sym w.in-Some.ensures.value) w.in-Some.ensures.formed))
  | in_default w ↦ rw w.cells-is c.loop-slot.invariant
]
