use Rattle.std.proofs.Common.{ℕ, List, sym, ap, ◌∙◌}
use Rattle.sbpf_insn.specs.Machine as machine
use Rattle.span_bytes.specs.Spans.{span_part}
use Rattle.call_job.proofs.Executed.{part_paged, param_is}
use Rattle.call_job.proofs.execution.run_over_output.Goals as goal

pub returns-clause-outcome : goal.returns-clause-outcome
returns-clause-outcome c param h =
    ap (λ (o : List ℕ). machine.run c.args.code.now.insns (machine.shaped c.args.input o param) c.args.fuel) (sym (part_paged c.args.pages.items c.args.start c.args.len c.run_writing.ensures.whole c.requires.fits))
    ∙ (ap (λ (p : List ℕ). machine.run c.args.code.now.insns (machine.shaped c.args.input (span_part c.args.pages.items c.args.start c.args.len) p) c.args.fuel) (sym (param_is c.args.regions.now c.in-Some.regions param c.in-Some.is h))
    ∙ c.run_writing.ensures.outcome)
