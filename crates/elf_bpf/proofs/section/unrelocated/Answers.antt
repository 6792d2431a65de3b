use Rattle.std.proofs.Common.{◌≡◌, true, false, refl, sym, ap, ◌∙◌, arith}
use Rattle.elf_bpf.specs.Sections.{relocates, is_relocation}
use Rattle.elf_bpf.specs.Elf.{unrelocated}
use Rattle.elf_bpf.proofs.FindLaws.{passes_here, passes_later}
use Rattle.elf_bpf.proofs.section.unrelocated.Goals as goal

pub returns-then-relocates : goal.returns-then-relocates
unfolding unrelocated
returns-then-relocates c =
    let test = is_relocation c.args.bytes.now c.args.table c.args.number in
    let here : test c.loop-other.other ≡ true = sym (ap (relocates c.args.number) c.section_header.ensures) ∙ (sym c.relocates.ensures ∙ c.if-relocates.true) in
    rw (passes_here c.loop-other.other c.args.table.count test (omega arith) c.loop-other.invariant here, c.header_place.ensures) refl

pub loop-other-preserved : goal.loop-other-preserved
loop-other-preserved c =
    let test = is_relocation c.args.bytes.now c.args.table c.args.number in
    let here : test c.loop-other.other ≡ false = sym (ap (relocates c.args.number) c.section_header.ensures) ∙ (sym c.relocates.ensures ∙ c.if-relocates.false) in
    passes_later c.loop-other.other c.args.table.count test (omega arith) c.loop-other.invariant here
