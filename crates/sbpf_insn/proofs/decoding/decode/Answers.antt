use Rattle.std.proofs.Common.{arith}
use Rattle.sbpf_insn.proofs.CodeSpelling.{found_code, only_code}
use Rattle.sbpf_insn.proofs.decoding.decode.Goals as goal

pub returns-clause-found : goal.returns-clause-found
returns-clause-found c = found_code c.args.bytes.now c.read-result.result (λ i. omega (arith, c.type_inv.bytes i)) c.read-result.ensures.exact

pub returns-clause-only : goal.returns-clause-only
returns-clause-only c = λ code proper spelled. only_code c.args.bytes.now c.read-result.result code c.read-result.ensures.exact proper spelled
