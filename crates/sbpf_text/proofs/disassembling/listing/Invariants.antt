use Rattle.std.proofs.Common.{◌≡◌, take}
use Rattle.std.specs.Prelude.{string_bytes}
use Rattle.sbpf_insn.specs.Cells.{cells, insns_of}
use Rattle.sbpf_text.specs.Print.{text_of}
use Rattle.sbpf_text.proofs.disassembling.listing.Given as goal

abbrev pub invariant-loop-slot : goal.invariant-loop-slot
invariant-loop-slot l = string_bytes l.text ≡ text_of (insns_of (take l.slot (cells l.code.insns)))
