use Rattle.std.proofs.Common.{arith}
use Rattle.bpf_bench.proofs.shaped.Goals as goal

pub shape-requires-clause-input : goal.shape-requires-clause-input
shape-requires-clause-input c = rw c.in-Ok.ensures.input (omega (arith, c.requires.pages, c.requires.len))
