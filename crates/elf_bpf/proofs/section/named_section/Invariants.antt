use Rattle.std.proofs.Common.{◌≡◌}
use Rattle.elf_bpf.specs.Elf.{first_below}
use Rattle.elf_bpf.specs.Sections.{is_named}
use Rattle.elf_bpf.proofs.FindLaws.{first_from}
use Rattle.elf_bpf.proofs.section.named_section.Given as goal

abbrev pub invariant-loop-number : goal.invariant-loop-number
invariant-loop-number l =
    let test = is_named l.bytes l.table l.names l.section in
    first_from l.number l.table.count test ≡ first_below l.table.count test
