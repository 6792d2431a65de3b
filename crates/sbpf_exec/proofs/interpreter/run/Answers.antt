use Rattle.sbpf_exec.proofs.CellTable.{blank}
use Rattle.sbpf_exec.proofs.interpreter.run.Goals as goal

pub flatten-requires : goal.flatten-requires
flatten-requires c = blank 256 c.args.code.now.insns

pub flatten-requires-2 : goal.flatten-requires-2
flatten-requires-2 c = blank 4097 c.args.code.now.insns
