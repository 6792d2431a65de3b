use Rattle.std.proofs.Common.{◌≡◌, ◌≤◌, take, vec_capacity}
use Rattle.sbpf_insn.proofs.code.fill.Given as goal

abbrev pub invariant-loop-cell : goal.invariant-loop-cell
invariant-loop-cell l = record { items : l.cells.items ≡ take l.cell-index l.from; room : vec_capacity l.fn.cells ≤ vec_capacity l.cells }
