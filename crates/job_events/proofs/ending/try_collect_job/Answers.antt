use Rattle.std.proofs.Common.{◌≡◌, ◌++◌, ◌∷◌, [], ◌∙◌, sym, ap, subst}
use Rattle.turn_cell.specs.History.{entry}
use Rattle.plain_files.specs.declared.calls.Request.{Request}
use Rattle.core_state.specs.declared.event.Event.TheVariants.{End}
use Rattle.system_state.specs.Cores.{core_of}
use Rattle.system_state.specs.Made.{Made}
use Rattle.system_state.specs.Stands.{Stands}
use Rattle.system_state.specs.declared.state.State.{State}
use Rattle.system_ends.specs.Landed.{reply_at}
use Rattle.call_job.specs.Suits.{Suits}
use Rattle.call_job.specs.declared.job.Job.{Job}
use Rattle.job_events.specs.Ended.{CanEnd}
use Rattle.job_events.proofs.Ends.{can_collect}
use Rattle.job_events.proofs.ending.try_collect_job.Goals as goal

pub end_with-numbered-requires-clause-ends : goal.end_with-numbered-requires-clause-ends
end_with-numbered-requires-clause-ends g c =
    subst (λ (s : State g.row.D.Denot Job). CanEnd (core_of g.D.Die.seen s) c.args.lane c.in-Ok.job) (sym c.in-Ok.ensures.out.0)
    (can_collect g.D.Die.seen c.args.state.now c.args.lane c.in-Ok.job c.requires.standing c.requires.away c.in-Ok.ensures.reported c.in-Ok.ensures.suits)

pub returns-in-Ok-clause-reply : goal.returns-in-Ok-clause-reply
returns-in-Ok-clause-reply g c =
    c.end_with-numbered.ensures.reply
    ∙ (ap (λ (s : State g.row.D.Denot Job). reply_at (core_of g.D.Die.seen s) c.args.lane c.in-Ok.job.request) c.in-Ok.ensures.out.0
    ∙ ap (λ (q : Request). reply_at (core_of g.D.Die.seen c.args.state.now) c.args.lane q) (sym c.end_with-numbered.ensures.request))

pub returns-in-Ok-clause-made : goal.returns-in-Ok-clause-made
returns-in-Ok-clause-made g c =
    let out = c.in-Ok.ensures.out.0 in
    let jobs = c.of-jobs.ensures in
    let same : record c.take_reported.new.state { jobs = c.of-jobs.result.value } ≡ c.args.state.now = λ i. record (out i) { jobs = jobs i } in
    let request = c.end_with-numbered.ensures.request in
    subst (λ (s : State g.row.D.Denot Job). Made g.D.Die.seen Suits s (End c.args.lane c.end_with-numbered.new.job.request c.end_with-numbered.result.reply) c.end_with-numbered.new.state) same
    (subst (λ (q : Request). Made g.D.Die.seen Suits (record c.take_reported.new.state { jobs = c.of-jobs.result.value }) (End c.args.lane q c.end_with-numbered.result.reply) c.end_with-numbered.new.state) (sym request) c.end_with-numbered.ensures.made)

pub returns-in-Ok-clause-stands : goal.returns-in-Ok-clause-stands
returns-in-Ok-clause-stands g c = λ o h n k.
    let out = c.in-Ok.ensures.out.0 in
    let jobs = c.of-jobs.ensures in
    let same : record c.take_reported.new.state { jobs = c.of-jobs.result.value } ≡ c.args.state.now = λ i. record (out i) { jobs = jobs i } in
    let request = c.end_with-numbered.ensures.request in
    subst (λ (q : Request). Stands g.D.Die.seen Suits c.end_with-numbered.new.state o (h ++ entry n (End c.args.lane q c.end_with-numbered.result.reply) ∷ [])) (sym request)
    (c.end_with-numbered.ensures.stands o h n (subst (λ (s : State g.row.D.Denot Job). Stands g.D.Die.seen Suits s o h) (sym same) k))
