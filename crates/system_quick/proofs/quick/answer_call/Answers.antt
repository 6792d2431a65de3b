use Rattle.std.proofs.Common.{Some, sym, ap, ◌∙◌}
use Rattle.core_state.specs.Reach.{file_by}
use Rattle.system_state.specs.Cores.{core_of}
use Rattle.system_quick.specs.Waits.{in_the_way}
use Rattle.system_quick.proofs.Outcome.{kept_of, coherent_of}
use Rattle.system_quick.proofs.InTheWay.{unheld, unheld_unsealed, unused}
use Rattle.system_quick.proofs.quick.answer_call.Goals as goal

pub remove_file_of-requires-clause-clear : goal.remove_file_of-requires-clause-clear
remove_file_of-requires-clause-clear g c = unheld g.D.Die.seen g.J.CallJob.suits c.args.state.now (kept_of g.D.Die.seen g.J.CallJob.suits c.args.state.now c.args.lane c.args.request.now c.requires.asked) (coherent_of g.D.Die.seen g.J.CallJob.suits c.args.state.now c.args.lane c.args.request.now c.requires.asked)
    (file_by (core_of g.D.Die.seen c.args.state.now).names.files (Some c.in-Remove.word)) (sym (ap (in_the_way (core_of g.D.Die.seen c.args.state.now)) c.in-Remove.is) ∙ c.requires.way)

pub seal_file-requires-clause-clear : goal.seal_file-requires-clause-clear
seal_file-requires-clause-clear g c = unheld_unsealed g.D.Die.seen g.J.CallJob.suits c.args.state.now (kept_of g.D.Die.seen g.J.CallJob.suits c.args.state.now c.args.lane c.args.request.now c.requires.asked) (coherent_of g.D.Die.seen g.J.CallJob.suits c.args.state.now c.args.lane c.args.request.now c.requires.asked)
    (file_by (core_of g.D.Die.seen c.args.state.now).names.files (Some c.in-Seal.word)) (sym (ap (in_the_way (core_of g.D.Die.seen c.args.state.now)) c.in-Seal.is) ∙ c.requires.way)

pub unload_function-requires-clause-clear : goal.unload_function-requires-clause-clear
unload_function-requires-clause-clear g c = unused g.D.Die.seen g.J.CallJob.suits c.args.state.now (kept_of g.D.Die.seen g.J.CallJob.suits c.args.state.now c.args.lane c.args.request.now c.requires.asked) (coherent_of g.D.Die.seen g.J.CallJob.suits c.args.state.now c.args.lane c.args.request.now c.requires.asked)
    c.in-Unload.word (sym (ap (in_the_way (core_of g.D.Die.seen c.args.state.now)) c.in-Unload.is) ∙ c.requires.way)
