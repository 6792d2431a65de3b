use Rattle.std.proofs.Common.{◌≡◌}
use Rattle.elf_bpf.specs.Elf.{first_below}
use Rattle.elf_bpf.specs.Sections.{is_relocation}
use Rattle.elf_bpf.proofs.FindLaws.{first_from}
use Rattle.elf_bpf.proofs.section.unrelocated.Given as goal

abbrev pub invariant-loop-other : goal.invariant-loop-other
invariant-loop-other l =
    let test = is_relocation l.bytes l.table l.number in
    first_from l.other l.table.count test ≡ first_below l.table.count test
