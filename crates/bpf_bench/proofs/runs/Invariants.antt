use Rattle.sbpf_exec.specs.Parts.{IsShaped}
use Rattle.bpf_bench.proofs.runs.Given as goal

abbrev pub invariant-loop : goal.invariant-loop
invariant-loop l = IsShaped l.regions
