use Rattle.std.proofs.Common.{◌≡◌, true, length, arith, ap, sym, ◌∙◌}
use Rattle.sbpf_insn.specs.Program.{Program}
use Rattle.sbpf_insn.specs.Cells.{slots}
use Rattle.sbpf_insn.specs.Table.{is_well_formed}
use Rattle.sbpf_insn.proofs.CellLaws.{grown, grown_insns, slots_is}
use Rattle.sbpf_insn.proofs.code.Code.push.Goals as goal

pub invariant_of-self-2 : goal.invariant_of-self-2
invariant_of-self-2 c =
    let xs = c.self.inside.cells.items in
    let formed : is_well_formed c.args.insn ≡ true = grind (arith, c.requires.formed) in
    let same : slots c.args.self.now.insns ≡ length xs = ap (λ (p : Program). slots p.insns) (sym c.self.view_is) ∙ slots_is xs c.self.invariant.code in
    record {
      code = rw c.in_ok-put.ensures.ok (grown xs c.args.insn c.self.invariant.code formed c.in_ok-put.ensures.fit (omega (arith, c.requires.slots, same)));
      held = omega (arith, c.self.invariant.held, c.in_ok-put.ensures.room);
    }

pub returns-clause-ok : goal.returns-clause-ok
returns-clause-ok c = rw (c.in_ok-put.ensures.ok, ← c.self.view_is) (grown_insns c.self.inside.cells.items c.args.insn)
