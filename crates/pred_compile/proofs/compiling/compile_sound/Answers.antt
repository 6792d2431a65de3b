use Rattle.std.proofs.Common.{◌≡◌, ap, ◌∙◌}
use Rattle.std.specs.List.{list_all}
use Rattle.sbpf_insn.specs.Table.{is_well_formed}
use Rattle.pred_compile.proofs.Lands.{formed}
use Rattle.pred_compile.proofs.Kept.{code_selects, never_refused, short_program}
use Rattle.pred_compile.proofs.compiling.compile_sound.Goals as goal

pub assemble-requires-clause-formed : goal.assemble-requires-clause-formed
assemble-requires-clause-formed c = ap (list_all is_well_formed) (c.deref.ensures.value ∙ c.in_ok-insns.ensures) ∙ formed c.args.pred.now c.args.width

pub assemble-requires-clause-short : goal.assemble-requires-clause-short
assemble-requires-clause-short c = short_program c.deref.result.now c.args.pred.now c.args.width c.requires.few (c.deref.ensures.value ∙ c.in_ok-insns.ensures)

pub unreachable-requires : goal.unreachable-requires
unreachable-requires c = never_refused c.in_ok-code.code.insns c.args.pred.now c.args.width c.in-Err.field-0.fault c.requires.few (c.in_ok-code.ensures ∙ c.deref.ensures.value ∙ c.in_ok-insns.ensures) c.in-Err.ensures.fault.1

pub returns : goal.returns
returns c = code_selects c.in-Ok.verified c.args.pred.now c.args.width c.requires.some c.requires.short c.requires.few c.requires.fit (c.in-Ok.ensures.ok.0 ∙ c.in_ok-code.ensures ∙ c.deref.ensures.value ∙ c.in_ok-insns.ensures)
