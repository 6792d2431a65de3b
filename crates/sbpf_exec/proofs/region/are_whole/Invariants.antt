use Rattle.std.proofs.Common.{take}
use Rattle.sbpf_exec.specs.Buffers.{AreWhole}
use Rattle.sbpf_exec.proofs.region.are_whole.Given as goal

abbrev pub invariant-loop-page : goal.invariant-loop-page
invariant-loop-page l = AreWhole (take l.page-index l.pages)
