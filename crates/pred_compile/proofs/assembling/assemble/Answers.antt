use Rattle.pred_compile.proofs.Emitted.{room_left}
use Rattle.pred_compile.proofs.assembling.assemble.Goals as goal

pub push-requires-clause-slots : goal.push-requires-clause-slots
push-requires-clause-slots c = room_left c.loop-insn.code.insns c.args.insns.now c.loop-insn.insn-index _ c.loop-insn.invariant c.requires.short
