use Rattle.std.proofs.Common.{◌≡◌, ℕ, List, length, ap, ◌∙◌, take, drop, subst, sym, refl}
use Rattle.sbpf_insn.specs.Machine as machine
use Rattle.sbpf_exec.specs.declared.region.Region.{Region}
use Rattle.sbpf_exec.specs.Buffers.{region_bytes, part, placed}
use Rattle.sbpf_exec.specs.Parts.{input_of, output_of, param_of}
use Rattle.span_bytes.specs.Spans.{span_part}
use Rattle.span_bytes.proofs.Running.{whole, IsAt, read_run, read_whole}
use Rattle.span_bytes.proofs.runs.run_reading.Goals as goal

pub returns-clause-outcome : goal.returns-clause-outcome
returns-clause-outcome c =
    let input = span_part c.args.pages.items c.args.start c.args.len in
    let a = c.swap_input-input.ensures in
    let b = c.swap_output-output.ensures in
    let in_is : part (input_of c.swap_output-output.new.regions) c.args.start c.args.len ≡ input = ap (λ (r : Region). part r c.args.start c.args.len) (b.input ∙ a.input) in
    let out_is : part (output_of c.swap_output-output.new.regions) 0 (length c.as_slice-out_len.result.now) ≡ c.args.output = ap (λ (r : Region). part r 0 (length c.as_slice-out_len.result.now)) b.output ∙ (ap (λ (n : ℕ). take n (drop 0 c.args.output)) (ap (λ (xs : List ℕ). length xs) c.as_slice-out_len.ensures) ∙ whole c.args.output) in
    read_run c.args.code.now.insns c.args.fuel input c.args.output (param_of c.args.regions.now) c.flat_bytes.result c.shape.new.self c.run-outcome.new.regions c.run-outcome.result c.shape.ensures.shaped
    (c.shape.ensures.regions ∙ (ap (λ (i : List ℕ). machine.shaped i (part (output_of c.swap_output-output.new.regions) 0 (length c.as_slice-out_len.result.now)) (param_of c.swap_output-output.new.regions)) in_is
    ∙ (ap (λ (o : List ℕ). machine.shaped input o (param_of c.swap_output-output.new.regions)) out_is ∙ ap (λ (p : List ℕ). machine.shaped input c.args.output p) (b.param ∙ a.param))))
    (c.shape.ensures.output ∙ ap (λ (r : Region). placed r 0 (length c.as_slice-out_len.result.now)) b.output) c.run-outcome.ensures.within c.run-outcome.ensures.outcome
    (c.flat_bytes.ensures ∙ ap region_bytes (c.swap_output-written.ensures.was ∙ c.swap_input-read.ensures.output))

pub returns-clause-whole : goal.returns-clause-whole
returns-clause-whole c =
    read_whole c.shape.new.self c.args.pages.items c.args.start c.args.len c.shape.ensures.shaped
    (subst (λ (r : Region). IsAt r c.args.pages.items c.args.start c.args.len)
    (sym (c.shape.ensures.input ∙ ap (λ (r : Region). placed r c.args.start c.args.len) (c.swap_output-output.ensures.input ∙ c.swap_input-input.ensures.input))) (refl, refl, refl))
