use Rattle.std.proofs.Common.{◌∙◌, ◌∷◌, [], ap, subst}
use Rattle.plain_files.specs.declared.calls.Request.{Request}
use Rattle.core_state.specs.declared.event.Event.TheVariants.{End}
use Rattle.system_state.specs.Cores.{core_of}
use Rattle.system_state.specs.Made.{Made}
use Rattle.system_state.specs.Stands.{Stands}
use Rattle.system_ends.specs.Landed.{reply_at}
use Rattle.desk_turns.specs.Making.{Makes}
use Rattle.call_job.specs.Suits.{Suits}
use Rattle.system_state.proofs.Standing.{stands_coherent}
use Rattle.job_events.proofs.Ends.{tables_there}
use Rattle.job_events.proofs.ending.end_with.Goals as goal

pub finish_call-ending-requires-clause-tables : goal.finish_call-ending-requires-clause-tables
finish_call-ending-requires-clause-tables g c =
    let t = tables_there g.D.Die.seen (record c.args.state.now { jobs = c.args.jobs.value }) c.args.lane c.args.job.now c.requires.standing c.requires.ends in
    record { blocks = t.blocks; lanes = t.lanes }

pub finish_call-ending-requires-clause-coherent : goal.finish_call-ending-requires-clause-coherent
finish_call-ending-requires-clause-coherent g c =
    let k = c.requires.standing in
    stands_coherent g.D.Die.seen Suits (record c.args.state.now { jobs = c.args.jobs.value }) k.o k.h k.stands

pub returns-clause-reply : goal.returns-clause-reply
returns-clause-reply g c = c.end_call.ensures.reply ∙ ap (λ (q : Request). reply_at (core_of g.D.Die.seen c.args.state.now) c.args.lane q) c.finish_call-ending.ensures.request

pub returns-clause-made : goal.returns-clause-made
returns-clause-made g c =
    subst (λ (q : Request). Made g.D.Die.seen Suits (record c.args.state.now { jobs = c.args.jobs.value }) (End c.args.lane q c.end_call.result.reply) c.end_call.new.state) c.finish_call-ending.ensures.request c.end_call.ensures.made

pub returns-clause-stands : goal.returns-clause-stands
returns-clause-stands g c =
    subst (λ (q : Request). Makes (Stands g.D.Die.seen Suits) (record c.args.state.now { jobs = c.args.jobs.value }) (End c.args.lane q c.end_call.result.reply ∷ []) c.end_call.new.state) c.finish_call-ending.ensures.request c.end_call.ensures.stands
