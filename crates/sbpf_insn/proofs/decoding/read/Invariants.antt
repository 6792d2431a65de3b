use Rattle.std.proofs.Common.{◌≡◌, ◌+◌, ◌*◌, length}
use Rattle.sbpf_insn.specs.Cells.{slots}
use Rattle.sbpf_insn.proofs.Loop.{ReadsSome}
use Rattle.sbpf_insn.proofs.decoding.read.Given as goal

abbrev pub invariant-loop-rest : goal.invariant-loop-rest
invariant-loop-rest l = record { reads : ReadsSome l.bytes l.code.insns l.rest; all : 8 * slots l.code.insns + length l.rest ≡ length l.bytes }

abbrev pub decreases-loop-rest : goal.decreases-loop-rest
decreases-loop-rest l = length l.rest
