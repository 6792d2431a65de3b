use Rattle.sbpf_exec.proofs.Shaped.{held_output}
use Rattle.sbpf_exec.proofs.regions.Regions.output_number.Goals as goal

pub returns : goal.returns
returns c = held_output c.args.self.now c.args.top c.args.address c.inside_number.result c.args.size c.requires.shaped c.requires.inside c.inside_number.ensures
