use Rattle.std.proofs.Common.{◌≡◌, take}
use Rattle.pred_compile.proofs.assembling.assemble.Given as goal

abbrev pub invariant-loop-insn : goal.invariant-loop-insn
invariant-loop-insn l = l.code.insns ≡ take l.insn-index l.insns
