use Rattle.sbpf_exec.proofs.Shaped.{held_stack}
use Rattle.sbpf_exec.proofs.regions.Regions.number_in_stack.Goals as goal

pub returns : goal.returns
returns c = held_stack c.args.self.now c.args.top c.args.address c.page_number.result c.args.size c.requires.shaped c.requires.inside c.page_number.ensures.value
