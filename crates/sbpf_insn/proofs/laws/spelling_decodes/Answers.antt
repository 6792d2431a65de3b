use Rattle.sbpf_insn.proofs.CodeSpelling.{decoded-spelling}
use Rattle.sbpf_insn.proofs.laws.spelling_decodes.Goals as goal

pub returns : goal.returns
returns c = λ code proper. decoded-spelling code proper
