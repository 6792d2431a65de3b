use Rattle.std.proofs.Common.{◌≡◌, take}
use Rattle.std.specs.List.{flat_map}
use Rattle.sbpf_insn.specs.Cells.{cells, insns_of}
use Rattle.sbpf_insn.specs.Table.{spelling}
use Rattle.sbpf_insn.proofs.encoding.encode.Given as goal

abbrev pub invariant-loop-slot : goal.invariant-loop-slot
invariant-loop-slot l = l.bytes.items ≡ flat_map spelling (insns_of (take l.slot (cells l.code.insns)))
