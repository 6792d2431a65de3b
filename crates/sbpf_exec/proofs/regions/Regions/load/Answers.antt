use Rattle.std.proofs.Common.{ℕ, ◌%◌, ◌^◌, List, length, sym, ap, ◌∙◌}
use Rattle.sbpf_exec.proofs.Areas.{load_nowhere, load_context, load_param}
use Rattle.sbpf_exec.specs.Parts.{machine_regions}
use Rattle.sbpf_exec.proofs.Shaped.{short, number_if, loads_input, loads_output, loads_stack}
use Rattle.sbpf_exec.proofs.regions.Regions.load.Goals as goal

pub returns-then-area-eq2 : goal.returns-then-area-eq2
returns-then-area-eq2 c = loads_input c.args.self.now c.args.top c.args.address c.args.size c.region_number.result c.requires c.if-area-eq2.true c.region_number.ensures

pub returns-then-area-eq3 : goal.returns-then-area-eq3
returns-then-area-eq3 c = loads_output c.args.self.now c.args.top c.args.address c.args.size c.region_number-then-area-eq3.result c.requires c.if-area-eq3.true c.region_number-then-area-eq3.ensures

pub returns-then-area-eq5 : goal.returns-then-area-eq5
returns-then-area-eq5 c = loads_stack c.args.self.now c.args.top c.args.address c.args.size c.stack_number.result c.requires c.if-area-eq5.true c.stack_number.ensures.number

pub returns-then-area-eq4 : goal.returns-then-area-eq4
returns-then-area-eq4 c =
    c.flat_number.ensures ∙ ap (λ (b : List ℕ). number_if c.args.size b (length b) (c.args.address % 2 ^ 32)) c.as_slice.ensures ∙ sym (load_param (machine_regions c.args.self.now) c.args.top c.args.address c.args.size (short c.args.self.now c.requires) c.if-area-eq4.true)

pub returns-then-area-eq1 : goal.returns-then-area-eq1
returns-then-area-eq1 c =
    c.flat_number-then-area-eq1.ensures ∙ sym (load_context (machine_regions c.args.self.now) c.args.top c.args.address c.args.size (short c.args.self.now c.requires) c.if-area-eq1.true)

pub returns-else-area-eq1 : goal.returns-else-area-eq1
returns-else-area-eq1 c = sym (load_nowhere (machine_regions c.args.self.now) c.args.top c.args.address c.args.size (short c.args.self.now c.requires) c.if-area-eq1.false c.if-area-eq2.false c.if-area-eq3.false c.if-area-eq4.false c.if-area-eq5.false)
