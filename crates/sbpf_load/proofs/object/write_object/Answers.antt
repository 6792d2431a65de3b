use Rattle.sbpf_load.proofs.ObjectLaws.{object_written}
use Rattle.sbpf_load.proofs.object.write_object.Goals as goal

pub returns-clause-again : goal.returns-clause-again
returns-clause-again c = object_written c.args.code.now c.code-code.result.now.insns c.slots.result c.in_ok-bytes.bytes.items _ _ c.code-code.ensures.code c.slots.ensures.proper c.code-code.ensures.unrefused c.slots.ensures.count c.in_ok-spelled.ensures.spelled c.deref.ensures.value c.in_ok-bytes.ensures
