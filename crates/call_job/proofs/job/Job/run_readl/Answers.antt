use Rattle.std.proofs.Common.{ℕ, List, Some, sym, ap, ◌∙◌}
use Rattle.std.specs.Prelude.{◌%◌}
use Rattle.sbpf_insn.specs.Machine as machine
use Rattle.core_outcomes.specs.Known.{paged_bytes}
use Rattle.span_bytes.specs.Spans.{page_in}
use Rattle.call_job.proofs.Executed.{none_paged}
use Rattle.call_job.proofs.job.Job.run_readl.Goals as goal

pub returns-clause-ran : goal.returns-clause-ran
returns-clause-ran c param h =
    let job = c.args.self.now in
    ap Some (sym (c.run_over_input-pages.ensures.outcome param h)
    ∙ (ap (λ (ps : List (List ℕ)). machine.run job.code.insns (machine.shaped (paged_bytes (page_in ps) c.place_of-start.result job.readable) c.replace-output.result param) c.args.fuel) (ap (λ v. v.items) c.replace-pages.ensures.value)
    ∙ (ap (λ (o : List ℕ). machine.run job.code.insns (machine.shaped (paged_bytes (page_in job.pages.items) c.place_of-start.result job.readable) o param) c.args.fuel) c.replace-output.ensures.value
    ∙ ap (λ (i : List ℕ). machine.run job.code.insns (machine.shaped i job.flat param) c.args.fuel) (none_paged (page_in job.pages.items) c.place_of-start.result (c.args.off % 4096) job.readable (λ l. c.place_of-start.ensures.value l)))))
