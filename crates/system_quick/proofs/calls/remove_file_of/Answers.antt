use Rattle.std.proofs.Common.{refl}
use Rattle.plain_files.specs.declared.calls.Call.TheVariants.{Remove}
use Rattle.plain_files.specs.declared.calls.Reply.TheVariants.{Done}
use Rattle.core_state.specs.PlainOf.{plain}
use Rattle.system_state.specs.Cores.{core_of}
use Rattle.call_checks.proofs.Refused.{file_test}
use Rattle.system_quick.proofs.Gone.{go_fits, marks_fit, remove_outcome}
use Rattle.system_quick.proofs.Outcome.{is_answered, row_there, kept_of, coherent_of, early_of, outcome_for}
use Rattle.system_quick.proofs.Effects.{file_found, row_held, row_short}
use Rattle.system_quick.proofs.calls.remove_file_of.Goals as goal

pub answered-requires-clause-row : goal.answered-requires-clause-row
answered-requires-clause-row g c = row_there g.D.Die.seen g.J.CallJob.suits c.args.state.now c.args.lane c.args.request.now c.requires.asked

pub answered-requires-clause-last : goal.answered-requires-clause-last
answered-requires-clause-last g c = c.requires.asked.last

pub file_there-file-requires : goal.file_there-file-requires
file_there-file-requires g c = file_found g.D.Die.seen g.J.CallJob.suits c.args.state.now (kept_of g.D.Die.seen g.J.CallJob.suits c.args.state.now c.args.lane c.args.request.now c.requires.asked) (coherent_of g.D.Die.seen g.J.CallJob.suits c.args.state.now c.args.lane c.args.request.now c.requires.asked) c.args.word.now (file_test (Remove c.args.word.now) (plain (core_of g.D.Die.seen c.args.state.now)) (early_of g.D.Die.seen g.J.CallJob.suits c.args.state.now c.args.lane c.args.request.now (Remove c.args.word.now) c.requires.asked c.requires.call))

pub remove_file-requires-clause-there : goal.remove_file-requires-clause-there
remove_file-requires-clause-there g c = row_held g.D.Die.seen g.J.CallJob.suits c.args.state.now (kept_of g.D.Die.seen g.J.CallJob.suits c.args.state.now c.args.lane c.args.request.now c.requires.asked) (coherent_of g.D.Die.seen g.J.CallJob.suits c.args.state.now c.args.lane c.args.request.now c.requires.asked) c.len-files.ensures.sound c.args.word.now c.file_there-file.result c.file_there-file.ensures

pub remove_file-requires-clause-short : goal.remove_file-requires-clause-short
remove_file-requires-clause-short g c = row_short g.D.Die.seen g.J.CallJob.suits c.args.state.now (kept_of g.D.Die.seen g.J.CallJob.suits c.args.state.now c.args.lane c.args.request.now c.requires.asked) (coherent_of g.D.Die.seen g.J.CallJob.suits c.args.state.now c.args.lane c.args.request.now c.requires.asked) c.len-files.ensures.sound c.args.word.now c.file_there-file.result c.file_there-file.ensures

pub remove_file-requires-clause-pair : goal.remove_file-requires-clause-pair
remove_file-requires-clause-pair g c = go_fits g.D.Die.seen g.J.CallJob.suits c.args.state.now (kept_of g.D.Die.seen g.J.CallJob.suits c.args.state.now c.args.lane c.args.request.now c.requires.asked) (coherent_of g.D.Die.seen g.J.CallJob.suits c.args.state.now c.args.lane c.args.request.now c.requires.asked) c.len-files.ensures.sound c.blocks-blocks.ensures.sound.order c.args.word.now c.file_there-file.result c.file_there-file.ensures c.requires.versions

pub remove_file-requires-clause-written : goal.remove_file-requires-clause-written
remove_file-requires-clause-written g c = marks_fit g.D.Die.seen g.J.CallJob.suits c.args.state.now (kept_of g.D.Die.seen g.J.CallJob.suits c.args.state.now c.args.lane c.args.request.now c.requires.asked) (coherent_of g.D.Die.seen g.J.CallJob.suits c.args.state.now c.args.lane c.args.request.now c.requires.asked) c.len-files.ensures.sound c.blocks-blocks.ensures.sound.order c.args.word.now c.file_there-file.result c.file_there-file.ensures

pub returns : goal.returns
returns g c =
    let e = early_of g.D.Die.seen g.J.CallJob.suits c.args.state.now c.args.lane c.args.request.now (Remove c.args.word.now) c.requires.asked c.requires.call in
    is_answered g.D.Die.seen g.J.CallJob.suits c.args.state.now c.args.lane c.args.request.now c.requires.asked Done (record c.args.state.now { pair = c.remove_file.new.pair; meta = c.remove_file.new.meta })
    (outcome_for g.D.Die.seen g.J.CallJob.suits c.args.state.now (record c.args.state.now { pair = c.remove_file.new.pair; meta = c.remove_file.new.meta }) c.args.request.now.call (Remove c.args.word.now) Done _ c.requires.call refl (remove_outcome g.D.Die.seen g.J.CallJob.suits c.args.state.now (kept_of g.D.Die.seen g.J.CallJob.suits c.args.state.now c.args.lane c.args.request.now c.requires.asked) (coherent_of g.D.Die.seen g.J.CallJob.suits c.args.state.now c.args.lane c.args.request.now c.requires.asked) c.len-files.ensures.sound c.blocks-blocks.ensures.sound.order c.args.word.now c.file_there-file.result c.file_there-file.ensures c.requires.clear e _ (let p = c.remove_file.ensures.pair in let m = c.remove_file.ensures.meta in λ i. record c.args.state.now { pair = p i; meta = m i })))
    c.answered.new.state c.answered.ensures.replied g.met.D.Die.sound c.answered.result c.answered.ensures.number c.answered.ensures.reply
