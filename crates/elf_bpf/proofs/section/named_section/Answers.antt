use Rattle.std.proofs.Common.{◌≡◌, true, false, refl, sym, ap, ◌∙◌, arith}
use Rattle.elf_bpf.specs.declared.section.SectionHeader.{SectionHeader}
use Rattle.elf_bpf.specs.Sections.{name_at, is_name, is_named}
use Rattle.elf_bpf.specs.Elf.{named_section}
use Rattle.elf_bpf.proofs.FindLaws.{passes_here, passes_later}
use Rattle.elf_bpf.proofs.section.named_section.Goals as goal

pub returns-then-is_name_at-clause-value : goal.returns-then-is_name_at-clause-value
unfolding named_section
returns-then-is_name_at-clause-value c =
    let test = is_named c.args.bytes.now c.args.table c.args.names.now c.args.section.now in
    let of_header = λ (h : SectionHeader). is_name c.args.section.now (name_at c.args.names.now h.name) in
    let here : test c.loop-number.number ≡ true = sym (ap of_header c.section_header-header.ensures) ∙ (sym c.is_name_at.ensures ∙ c.if-is_name_at.true) in
    rw (passes_here c.loop-number.number c.args.table.count test (omega arith) c.loop-number.invariant here) refl

pub loop-number-preserved : goal.loop-number-preserved
loop-number-preserved c =
    let test = is_named c.args.bytes.now c.args.table c.args.names.now c.args.section.now in
    let of_header = λ (h : SectionHeader). is_name c.args.section.now (name_at c.args.names.now h.name) in
    let here : test c.loop-number.number ≡ false = sym (ap of_header c.section_header-header.ensures) ∙ (sym c.is_name_at.ensures ∙ c.if-is_name_at.false) in
    passes_later c.loop-number.number c.args.table.count test (omega arith) c.loop-number.invariant here
