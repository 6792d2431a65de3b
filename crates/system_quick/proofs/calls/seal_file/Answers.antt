use Rattle.std.proofs.Common.{refl, ap}
use Rattle.plain_files.specs.declared.calls.Call.TheVariants.{Seal}
use Rattle.plain_files.specs.declared.calls.Reply.TheVariants.{Done}
use Rattle.core_state.specs.PlainOf.{plain}
use Rattle.system_state.specs.Cores.{core_of}
use Rattle.call_checks.proofs.Refused.{file_test}
use Rattle.system_quick.proofs.Outcome.{is_answered, row_there, kept_of, coherent_of, early_of, outcome_for}
use Rattle.system_quick.proofs.Effects.{seal_outcome, file_found, row_held}
use Rattle.system_quick.proofs.calls.seal_file.Goals as goal

pub answered-requires-clause-row : goal.answered-requires-clause-row
answered-requires-clause-row g c = row_there g.D.Die.seen g.J.CallJob.suits c.args.state.now c.args.lane c.args.request.now c.requires.asked

pub answered-requires-clause-last : goal.answered-requires-clause-last
answered-requires-clause-last g c = c.requires.asked.last

pub file_there-file-requires : goal.file_there-file-requires
file_there-file-requires g c = file_found g.D.Die.seen g.J.CallJob.suits c.args.state.now (kept_of g.D.Die.seen g.J.CallJob.suits c.args.state.now c.args.lane c.args.request.now c.requires.asked) (coherent_of g.D.Die.seen g.J.CallJob.suits c.args.state.now c.args.lane c.args.request.now c.requires.asked) c.args.word.now (file_test (Seal c.args.word.now) (plain (core_of g.D.Die.seen c.args.state.now)) (early_of g.D.Die.seen g.J.CallJob.suits c.args.state.now c.args.lane c.args.request.now (Seal c.args.word.now) c.requires.asked c.requires.call))

pub seal-requires : goal.seal-requires
seal-requires g c = row_held g.D.Die.seen g.J.CallJob.suits c.args.state.now (kept_of g.D.Die.seen g.J.CallJob.suits c.args.state.now c.args.lane c.args.request.now c.requires.asked) (coherent_of g.D.Die.seen g.J.CallJob.suits c.args.state.now c.args.lane c.args.request.now c.requires.asked) c.len-files.ensures.sound c.args.word.now c.file_there-file.result c.file_there-file.ensures

pub returns : goal.returns
returns g c =
    let e = early_of g.D.Die.seen g.J.CallJob.suits c.args.state.now c.args.lane c.args.request.now (Seal c.args.word.now) c.requires.asked c.requires.call in
    is_answered g.D.Die.seen g.J.CallJob.suits c.args.state.now c.args.lane c.args.request.now c.requires.asked Done (record c.args.state.now { meta = record c.args.state.now.meta { names = c.seal.new.self } })
    (outcome_for g.D.Die.seen g.J.CallJob.suits c.args.state.now (record c.args.state.now { meta = record c.args.state.now.meta { names = c.seal.new.self } }) c.args.request.now.call (Seal c.args.word.now) Done _ c.requires.call refl (seal_outcome g.D.Die.seen g.J.CallJob.suits c.args.state.now (kept_of g.D.Die.seen g.J.CallJob.suits c.args.state.now c.args.lane c.args.request.now c.requires.asked) (coherent_of g.D.Die.seen g.J.CallJob.suits c.args.state.now c.args.lane c.args.request.now c.requires.asked) c.len-files.ensures.sound c.args.word.now c.file_there-file.result c.file_there-file.ensures e c.requires.clear _ (ap (λ w. record c.args.state.now { meta = record c.args.state.now.meta { names = w } }) c.seal.ensures)))
    c.answered.new.state c.answered.ensures.replied g.met.D.Die.sound c.answered.result c.answered.ensures.number c.answered.ensures.reply
