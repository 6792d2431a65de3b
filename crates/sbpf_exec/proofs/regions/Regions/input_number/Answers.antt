use Rattle.sbpf_exec.proofs.Shaped.{held_input}
use Rattle.sbpf_exec.proofs.regions.Regions.input_number.Goals as goal

pub returns : goal.returns
returns c = held_input c.args.self.now c.args.top c.args.address c.inside_number.result c.args.size c.requires.shaped c.requires.inside c.inside_number.ensures
