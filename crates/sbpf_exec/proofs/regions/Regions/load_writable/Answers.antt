use Rattle.std.proofs.Common.{sym}
use Rattle.sbpf_exec.proofs.Areas.{writable_nowhere}
use Rattle.sbpf_exec.specs.Parts.{machine_regions}
use Rattle.sbpf_exec.proofs.Shaped.{short, fetches_output, fetches_stack}
use Rattle.sbpf_exec.proofs.regions.Regions.load_writable.Goals as goal

pub returns-then-area-eq3 : goal.returns-then-area-eq3
returns-then-area-eq3 c = fetches_output c.args.self.now c.args.top c.args.address c.args.size c.region_number.result c.requires c.if-area-eq3.true c.region_number.ensures

pub returns-then-area-eq5 : goal.returns-then-area-eq5
returns-then-area-eq5 c = fetches_stack c.args.self.now c.args.top c.args.address c.args.size c.stack_number.result c.requires c.if-area-eq5.true c.stack_number.ensures.number

pub returns-else-area-eq5 : goal.returns-else-area-eq5
returns-else-area-eq5 c = sym (writable_nowhere (machine_regions c.args.self.now) c.args.top c.args.address c.args.size (short c.args.self.now c.requires) c.if-area-eq3.false c.if-area-eq5.false)
