use Rattle.plain_files.specs.declared.calls.Call.TheVariants.{OpenFile}
use Rattle.system_quick.proofs.Outcome.{is_answered, row_there, kept_of, coherent_of, early_of, outcome_for}
use Rattle.system_quick.proofs.Effects.{open_outcome}
use Rattle.system_quick.proofs.calls.open_file.Goals as goal

pub answered-requires-clause-row : goal.answered-requires-clause-row
answered-requires-clause-row g c = row_there g.D.Die.seen g.J.CallJob.suits c.args.state.now c.args.lane c.args.request.now c.requires.asked

pub answered-requires-clause-last : goal.answered-requires-clause-last
answered-requires-clause-last g c = c.requires.asked.last

pub returns : goal.returns
returns g c =
    let e = early_of g.D.Die.seen g.J.CallJob.suits c.args.state.now c.args.lane c.args.request.now (OpenFile c.args.word.now) c.requires.asked c.requires.call in
    is_answered g.D.Die.seen g.J.CallJob.suits c.args.state.now c.args.lane c.args.request.now c.requires.asked c.open_named-reply.result c.args.state.now
    (outcome_for g.D.Die.seen g.J.CallJob.suits c.args.state.now c.args.state.now c.args.request.now.call (OpenFile c.args.word.now) c.open_named-reply.result _ c.requires.call c.open_named-reply.ensures (open_outcome g.D.Die.seen g.J.CallJob.suits c.args.state.now (kept_of g.D.Die.seen g.J.CallJob.suits c.args.state.now c.args.lane c.args.request.now c.requires.asked) (coherent_of g.D.Die.seen g.J.CallJob.suits c.args.state.now c.args.lane c.args.request.now c.requires.asked) c.args.word.now e))
    c.answered.new.state c.answered.ensures.replied g.met.D.Die.sound c.answered.result c.answered.ensures.number c.answered.ensures.reply
