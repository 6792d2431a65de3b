use Rattle.std.proofs.Common.{sym, ap, subst}
use Rattle.std.specs.Prelude.{not}
use Rattle.turn_cell.specs.Passes.{opening_of, view}
use Rattle.core_state.specs.declared.actor.Actor.TheVariants.{Lane}
use Rattle.call_job.specs.declared.job.Job.{Job}
use Rattle.desk_turns.specs.Passing.{core_seen}
use Rattle.system_state.specs.Cores.{core_of}
use Rattle.job_turns.specs.Books.{opening_in}
use Rattle.job_turns.specs.Words.{IsSmall}
use Rattle.call_finishes.proofs.Ending.{does_fill, acts_still, ends_there, held_there, none_there, finish_any, fill_worn, begun_at_host, numbered_as}
use Rattle.call_finishes.proofs.finish.finish_call.Goals as goal

pub turn_end_job-requires-clause-acts : goal.turn_end_job-requires-clause-acts
turn_end_job-requires-clause-acts g c =
    let o = opening_of opening_in c.args.desk.now.turn.now in
    let v = view c.args.desk.now.pass in
    let q = opening_of opening_in c.fill_span.new.desk.turn.now in
    let u = view c.fill_span.new.desk.pass in
    let e = c.fill_span.ensures in
    let good = c.in_ok-fill_span.field-0 in
    let p = does_fill g.D.Die.seen o v u c.args.lane c.args.job.now c.fill_span.new.job good c.requires.begun e.same c.in_ok-fill_span.ensures.left c.in_ok-fill_span.ensures.did in
    acts_still g.D.Die.seen o q v u (Lane c.args.lane) _ e.turn.1 p c.requires.acts

pub turn_end_job-requires-clause-hands : goal.turn_end_job-requires-clause-hands
turn_end_job-requires-clause-hands g c =
    let o = opening_of opening_in c.args.desk.now.turn.now in
    let v = view c.args.desk.now.pass in
    let q = opening_of opening_in c.fill_span.new.desk.turn.now in
    let u = view c.fill_span.new.desk.pass in
    let e = c.fill_span.ensures in
    let good = c.in_ok-fill_span.field-0 in
    let p = does_fill g.D.Die.seen o v u c.args.lane c.args.job.now c.fill_span.new.job good c.requires.begun e.same c.in_ok-fill_span.ensures.left c.in_ok-fill_span.ensures.did in
    none_there g.D.Die.seen o q v u c.args.lane (not good) c.fill_span.new.job e.turn.1 p

pub turn_end_job-requires-clause-held : goal.turn_end_job-requires-clause-held
turn_end_job-requires-clause-held g c =
    let o = opening_of opening_in c.args.desk.now.turn.now in
    let v = view c.args.desk.now.pass in
    let q = opening_of opening_in c.fill_span.new.desk.turn.now in
    let u = view c.fill_span.new.desk.pass in
    let e = c.fill_span.ensures in
    let good = c.in_ok-fill_span.field-0 in
    let p = does_fill g.D.Die.seen o v u c.args.lane c.args.job.now c.fill_span.new.job good c.requires.begun e.same c.in_ok-fill_span.ensures.left c.in_ok-fill_span.ensures.did in
    held_there g.D.Die.seen o q v u c.args.lane (not good) c.fill_span.new.job e.turn.1 p

pub turn_end_job-requires-clause-ends : goal.turn_end_job-requires-clause-ends
turn_end_job-requires-clause-ends g c =
    let o = opening_of opening_in c.args.desk.now.turn.now in
    let v = view c.args.desk.now.pass in
    let q = opening_of opening_in c.fill_span.new.desk.turn.now in
    let u = view c.fill_span.new.desk.pass in
    let e = c.fill_span.ensures in
    let good = c.in_ok-fill_span.field-0 in
    let p = does_fill g.D.Die.seen o v u c.args.lane c.args.job.now c.fill_span.new.job good c.requires.begun e.same c.in_ok-fill_span.ensures.left c.in_ok-fill_span.ensures.did in
    ends_there g.D.Die.seen o q v u c.args.lane (not good) c.fill_span.new.job e.turn.1 p

pub turn_end_job-requires-clause-small : goal.turn_end_job-requires-clause-small
turn_end_job-requires-clause-small g c = subst (λ z. IsSmall z.value) (sym c.fill_span.ensures.turn.1) c.requires.small

pub returns-clause-did : goal.returns-clause-did
returns-clause-did g c =
    let o = opening_of opening_in c.args.desk.now.turn.now in
    let v = view c.args.desk.now.pass in
    let q = opening_of opening_in c.fill_span.new.desk.turn.now in
    let u = view c.fill_span.new.desk.pass in
    let e = c.fill_span.ensures in
    let good = c.in_ok-fill_span.field-0 in
    let p = does_fill g.D.Die.seen o v u c.args.lane c.args.job.now c.fill_span.new.job good c.requires.begun e.same c.in_ok-fill_span.ensures.left c.in_ok-fill_span.ensures.did in
    finish_any g.D.Die.seen o q v u (view c.turn_end_job.new.desk.pass) c.args.lane (not good) c.args.job.now c.fill_span.new.job c.turn_end_job.result e.turn.1 (ap (λ (j : Job). j.request) e.same) c.requires.acts p c.turn_end_job.ensures.did c.turn_end_job.ensures.went

pub returns-clause-numbered : goal.returns-clause-numbered
returns-clause-numbered g c = λ n is.
    let e = c.fill_span.ensures in
    numbered_as g.D.Die.seen (opening_of opening_in c.args.desk.now.turn.now) (opening_of opening_in c.fill_span.new.desk.turn.now) ((view c.turn_end_job.new.desk.pass)) c.args.lane c.fill_span.new.job.request c.args.job.now.request n e.turn.1 (ap (λ (j : Job). j.request) e.same) (c.turn_end_job.ensures.numbered n is)

pub returns-in_err-fill_span-clause-did : goal.returns-in_err-fill_span-clause-did
returns-in_err-fill_span-clause-did g c =
    let o = opening_of opening_in c.args.desk.now.turn.now in
    let v = view c.args.desk.now.pass in
    let u = view c.fill_span.new.desk.pass in
    fill_worn g.D.Die.seen o v u c.args.lane c.args.job.now c.fill_span.new.job c.in_err-fill_span.field-0.0 c.from_residual.result c.from_residual.ensures.0 (begun_at_host (core_seen (core_of g.D.Die.seen) o v) c.args.lane c.args.job.now c.requires.begun) c.in_err-fill_span.ensures.did
