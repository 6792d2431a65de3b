use Rattle.std.proofs.Common.{ℕ, ◌+◌, ◌*◌, List, Some, length, get_or, sym, ap, ◌∙◌, arith}
use Rattle.std.specs.Prelude.{◌%◌}
use Rattle.sbpf_insn.specs.Machine as machine
use Rattle.sbpf_exec.specs.Outcomes.{outcome_of}
use Rattle.core_outcomes.specs.Known.{paged_bytes}
use Rattle.span_bytes.specs.Spans.{page_in, over, span_part}
use Rattle.call_job.proofs.Executed.{none_paged, none_part, paged_same, over_none, place_fits, slice_back}
use Rattle.call_job.proofs.job.Job.run_writel.Goals as goal

pub returns-clause-ran : goal.returns-clause-ran
returns-clause-ran c param h =
    let job = c.args.self.now in
    let place = c.args.off % 4096 in
    let start = c.place_of-start.result in
    let value = c.place_of-start.ensures.value in
    let new = c.run_over_output-pages.result.pages.items in
    let second = c.replace-second.result.items in
    let copied = ap (λ v. v.items) c.replace-second.ensures.value
    ∙ slice_back job.second.items c.copy_span.new.into job.second.len (omega (arith, job.second.ok.0, c.copy_span.auto.into, ap (λ (ps : List (List ℕ)). length ps) c.deref_mut.ensures.value)) (c.copy_span.auto.into ∙ ap (λ (ps : List (List ℕ)). length ps) c.deref_mut.ensures.value) in
    ap Some (ap (outcome_of c.run_over_output-pages.result.outcome) (none_part new place start c.args.n (λ l. sym (value l)))
    ∙ (sym (c.run_over_output-pages.ensures.outcome param h)
    ∙ (ap (λ (i : List ℕ). machine.run job.code.insns (machine.shaped i (paged_bytes (page_in second) start c.args.n) param) c.args.fuel) c.replace-input.ensures.value
    ∙ ap (λ (o : List ℕ). machine.run job.code.insns (machine.shaped job.flat o param) c.args.fuel)
    (paged_same (page_in second) (page_in job.pages.items) start c.args.n job.reach.pages (place_fits c.args.off c.args.n start job.reach.pages value c.place_of-start.ensures.none c.requires.fits)
    (λ i l. ap (λ (ps : List (List ℕ)). page_in ps i) copied ∙ (c.copy_span.ensures i l ∙ ap (λ (ps : List (List ℕ)). page_in ps i) c.deref.ensures.value))
    ∙ none_paged (page_in job.pages.items) start place c.args.n value))))

pub returns-clause-wrote : goal.returns-clause-wrote
returns-clause-wrote c =
    let job = c.args.self.now in
    let place = c.args.off % 4096 in
    let start = c.place_of-start.result in
    let value = c.place_of-start.ensures.value in
    let new = c.run_over_output-pages.result.pages.items in
    let second = c.replace-second.result.items in
    let copied = ap (λ v. v.items) c.replace-second.ensures.value
    ∙ slice_back job.second.items c.copy_span.new.into job.second.len (omega (arith, job.second.ok.0, c.copy_span.auto.into, ap (λ (ps : List (List ℕ)). length ps) c.deref_mut.ensures.value)) (c.copy_span.auto.into ∙ ap (λ (ps : List (List ℕ)). length ps) c.deref_mut.ensures.value) in
    let count = c.run_over_output-pages.ensures.count in
    let a = ap (λ (ps : List (List ℕ)). length ps) copied in
    let b = c.copy_span.auto.into in
    let d = ap (λ (ps : List (List ℕ)). length ps) c.deref_mut.ensures.value in
    let enough = c.requires.second in
    record {
      long = ap (λ (bytes : List ℕ). length bytes) (none_part new place start c.args.n (λ l. sym (value l))) ∙ c.run_over_output-pages.ensures.output;
      many = omega arith;
      bytes = λ i j l k.
          c.run_over_output-pages.ensures.bytes i j (omega arith) k
          ∙ (ap (λ (p : List ℕ). over start (span_part new start c.args.n) (4096 * i + j) (get_or p j 0))
          (ap (λ (ps : List (List ℕ)). page_in ps i) copied ∙ (c.copy_span.ensures i l ∙ ap (λ (ps : List (List ℕ)). page_in ps i) c.deref.ensures.value))
          ∙ (over_none start place c.args.n (4096 * i + j) (get_or (page_in job.pages.items i) j 0) (span_part new start c.args.n) c.run_over_output-pages.ensures.output value
          ∙ ap (λ (bytes : List ℕ). over place bytes (4096 * i + j) (get_or (page_in job.pages.items i) j 0)) (none_part new start place c.args.n value)));
    }
