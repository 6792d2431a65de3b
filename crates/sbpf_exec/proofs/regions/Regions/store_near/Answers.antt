use Rattle.sbpf_exec.proofs.Shaped.{put_in_held, stores_output, refuses_output}
use Rattle.sbpf_exec.proofs.regions.Regions.store_near.Goals as goal

pub returns-then-is_in_stack-clause-done : goal.returns-then-is_in_stack-clause-done
returns-then-is_in_stack-clause-done c = λ held. put_in_held c.args.self.now c.put_in_one.new.page c.args.top c.args.address c.args.value c.args.size c.requires (c.is_in_stack.ensures c.if-is_in_stack.true) c.put_in_one.ensures.value

pub returns-then-is_in_output-clause-done : goal.returns-then-is_in_output-clause-done
returns-then-is_in_output-clause-done c = λ held. stores_output c.args.self.now c.put_in_region.new.region c.args.top c.args.address c.args.value c.args.size c.put_in_region.result c.requires (c.is_in_output.ensures c.if-is_in_output.true).0 c.put_in_region.ensures.done c.put_in_region.ensures.bytes held

pub returns-then-is_in_output-clause-refused : goal.returns-then-is_in_output-clause-refused
returns-then-is_in_output-clause-refused c = λ failed. refuses_output c.args.self.now c.args.top c.args.address c.args.value c.args.size c.put_in_region.result c.requires (c.is_in_output.ensures c.if-is_in_output.true).0 c.put_in_region.ensures.done failed
