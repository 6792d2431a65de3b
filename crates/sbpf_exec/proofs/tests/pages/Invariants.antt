use Rattle.std.proofs.Common.{◌≡◌, length}
use Rattle.sbpf_exec.proofs.tests.pages.Given as goal

abbrev pub invariant-loop-byte : goal.invariant-loop-byte
invariant-loop-byte l = length l.pages.items ≡ l.byte-index
