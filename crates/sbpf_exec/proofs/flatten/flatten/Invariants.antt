use Rattle.sbpf_exec.specs.FlatCells.{Mirrors}
use Rattle.sbpf_exec.proofs.flatten.flatten.Given as goal

abbrev pub invariant-loop-slot : goal.invariant-loop-slot
invariant-loop-slot l = Mirrors l.cells l.code.insns
