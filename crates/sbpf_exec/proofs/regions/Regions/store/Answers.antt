use Rattle.sbpf_exec.proofs.Areas.{store_nowhere}
use Rattle.sbpf_exec.specs.Parts.{machine_regions}
use Rattle.sbpf_exec.proofs.Shaped.{short, stores_output, stores_stack, refuses_output, refuses_stack}
use Rattle.sbpf_exec.proofs.regions.Regions.store.Goals as goal

pub returns-then-area-eq3-clause-done : goal.returns-then-area-eq3-clause-done
returns-then-area-eq3-clause-done c = λ held. stores_output c.args.self.now c.put_in_region.new.region c.args.top c.args.address c.args.value c.args.size c.put_in_region.result c.requires c.if-area-eq3.true c.put_in_region.ensures.done c.put_in_region.ensures.bytes held

pub returns-then-area-eq3-clause-refused : goal.returns-then-area-eq3-clause-refused
returns-then-area-eq3-clause-refused c = λ failed. refuses_output c.args.self.now c.args.top c.args.address c.args.value c.args.size c.put_in_region.result c.requires c.if-area-eq3.true c.put_in_region.ensures.done failed

pub returns-then-area-eq5-clause-done : goal.returns-then-area-eq5-clause-done
returns-then-area-eq5-clause-done c = λ held. stores_stack c.args.self.now c.put_in_stack.new.stack c.args.top c.args.address c.args.value c.args.size c.put_in_stack.result c.requires c.if-area-eq5.true c.put_in_stack.ensures.done c.put_in_stack.ensures.bytes held

pub returns-then-area-eq5-clause-refused : goal.returns-then-area-eq5-clause-refused
returns-then-area-eq5-clause-refused c = λ failed. refuses_stack c.args.self.now c.args.top c.args.address c.args.value c.args.size c.put_in_stack.result c.requires c.if-area-eq5.true c.put_in_stack.ensures.done failed

pub returns-else-area-eq5-clause-refused : goal.returns-else-area-eq5-clause-refused
returns-else-area-eq5-clause-refused c = λ failed. store_nowhere (machine_regions c.args.self.now) c.args.top c.args.address c.args.value c.args.size (short c.args.self.now c.requires) c.if-area-eq3.false c.if-area-eq5.false
