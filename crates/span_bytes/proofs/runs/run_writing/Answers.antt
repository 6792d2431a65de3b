use Rattle.std.proofs.Common.{◌≡◌, ℕ, List, length, ap, ◌∙◌, take, drop, subst, sym, refl}
use Rattle.sbpf_insn.specs.Machine as machine
use Rattle.sbpf_exec.specs.declared.region.Region.{Region}
use Rattle.sbpf_exec.specs.Buffers.{part, placed}
use Rattle.sbpf_exec.specs.Parts.{input_of, output_of, param_of}
use Rattle.span_bytes.specs.Kinds.{pages_of}
use Rattle.span_bytes.specs.Spans.{span_part}
use Rattle.span_bytes.proofs.Running.{whole, IsAt, Wrote, write_run}
use Rattle.span_bytes.proofs.runs.run_writing.Goals as goal
use Rattle.span_bytes.proofs.runs.run_writing.Goals.{Joined-input}

wrote : (c : Joined-input) → Wrote c.args.code.now.insns c.args.fuel c.args.input (param_of c.args.regions.now) c.run-outcome.result c.args.pages.items c.into_pages.result.items c.args.start c.args.len
wrote c =
    let n = length c.as_slice-in_len.result.now in
    let a = c.swap_input-input.ensures in
    let b = c.swap_output-output.ensures in
    let output = span_part c.args.pages.items c.args.start c.args.len in
    let in_is : part (input_of c.swap_output-output.new.regions) 0 n ≡ c.args.input = ap (λ (r : Region). part r 0 n) (b.input ∙ a.input) ∙ (ap (λ (k : ℕ). take k (drop 0 c.args.input)) (ap (λ (xs : List ℕ). length xs) c.as_slice-in_len.ensures) ∙ whole c.args.input) in
    let out_is : part (output_of c.swap_output-output.new.regions) c.args.start c.args.len ≡ output = ap (λ (r : Region). part r c.args.start c.args.len) b.output in
    let at : IsAt (output_of c.shape.new.self) c.args.pages.items c.args.start c.args.len = subst (λ (r : Region). IsAt r c.args.pages.items c.args.start c.args.len) (sym (c.shape.ensures.output ∙ ap (λ (r : Region). placed r c.args.start c.args.len) b.output)) (refl, refl, refl) in
    subst (λ (ps : List (List ℕ)). Wrote c.args.code.now.insns c.args.fuel c.args.input (param_of c.args.regions.now) c.run-outcome.result c.args.pages.items ps c.args.start c.args.len)
    (sym (c.into_pages.ensures ∙ ap pages_of (c.swap_output-written.ensures.was ∙ c.swap_input-read.ensures.output)))
    (write_run c.args.code.now.insns c.args.fuel c.args.input (param_of c.args.regions.now) c.args.pages.items c.args.start c.args.len c.shape.new.self c.run-outcome.new.regions c.run-outcome.result c.shape.ensures.shaped
    (c.shape.ensures.regions ∙ (ap (λ (i : List ℕ). machine.shaped i (part (output_of c.swap_output-output.new.regions) c.args.start c.args.len) (param_of c.swap_output-output.new.regions)) in_is
    ∙ (ap (λ (o : List ℕ). machine.shaped c.args.input o (param_of c.swap_output-output.new.regions)) out_is ∙ ap (λ (p : List ℕ). machine.shaped c.args.input output p) (b.param ∙ a.param))))
    at c.run-outcome.ensures.within c.run-outcome.ensures.outcome)

pub returns-clause-outcome : goal.returns-clause-outcome
returns-clause-outcome c = (wrote c).ran

pub returns-clause-output : goal.returns-clause-output
returns-clause-output c = (wrote c).long

pub returns-clause-bytes : goal.returns-clause-bytes
returns-clause-bytes c = (wrote c).bytes

pub returns-clause-whole : goal.returns-clause-whole
returns-clause-whole c = (wrote c).whole
