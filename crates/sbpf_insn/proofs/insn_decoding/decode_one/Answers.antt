use Rattle.std.proofs.Common.{arith}
use Rattle.sbpf_insn.proofs.Found.{found_result}
use Rattle.sbpf_insn.proofs.insn_decoding.decode_one.Goals as goal

pub returns-clause-found : goal.returns-clause-found
returns-clause-found c = found_result c.args.bytes.now c.one.result c.one.ensures (λ i. omega (arith, c.type_inv.bytes i))
