use Rattle.sbpf_insn.proofs.AcceptedLaws.{accepted_exactly}
use Rattle.sbpf_insn.proofs.laws.accepted_exactly.Goals as goal

pub returns : goal.returns
returns c = λ code. accepted_exactly code
