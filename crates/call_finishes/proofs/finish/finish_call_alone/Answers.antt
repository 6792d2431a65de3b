use Rattle.std.proofs.Common.{sym, ap, subst, inl}
use Rattle.std.specs.Prelude.{not}
use Rattle.turn_cell.specs.Desks.{view_alone, opening_alone}
use Rattle.call_job.specs.declared.job.Job.{Job}
use Rattle.desk_turns.specs.Passing.{core_seen}
use Rattle.system_state.specs.Cores.{core_of}
use Rattle.job_turns.specs.Books.{opening_in}
use Rattle.job_turns.specs.Words.{IsSmall}
use Rattle.call_finishes.proofs.Ending.{does_fill, ends_there, held_there, none_there, finish_any, fill_worn, begun_at_host, numbered_as, home_after}
use Rattle.call_finishes.proofs.finish.finish_call_alone.Goals as goal

pub turn_end_job-requires-clause-hands : goal.turn_end_job-requires-clause-hands
turn_end_job-requires-clause-hands g c =
    let o = opening_alone opening_in c.args.alone.now in
    let v = view_alone c.args.alone.now in
    let q = opening_alone opening_in c.fill_span_alone.new.alone in
    let u = view_alone c.fill_span_alone.new.alone in
    let e = c.fill_span_alone.ensures in
    let good = c.in_ok-fill_span_alone.field-0 in
    let p = does_fill g.D.Die.seen o v u c.args.lane c.args.job.now c.fill_span_alone.new.job good c.requires.begun e.same c.in_ok-fill_span_alone.ensures.left c.in_ok-fill_span_alone.ensures.did in
    none_there g.D.Die.seen o q v u c.args.lane (not good) c.fill_span_alone.new.job e.turn.1 p

pub turn_end_job-requires-clause-held : goal.turn_end_job-requires-clause-held
turn_end_job-requires-clause-held g c =
    let o = opening_alone opening_in c.args.alone.now in
    let v = view_alone c.args.alone.now in
    let q = opening_alone opening_in c.fill_span_alone.new.alone in
    let u = view_alone c.fill_span_alone.new.alone in
    let e = c.fill_span_alone.ensures in
    let good = c.in_ok-fill_span_alone.field-0 in
    let p = does_fill g.D.Die.seen o v u c.args.lane c.args.job.now c.fill_span_alone.new.job good c.requires.begun e.same c.in_ok-fill_span_alone.ensures.left c.in_ok-fill_span_alone.ensures.did in
    held_there g.D.Die.seen o q v u c.args.lane (not good) c.fill_span_alone.new.job e.turn.1 p

pub turn_end_job-requires-clause-ends : goal.turn_end_job-requires-clause-ends
turn_end_job-requires-clause-ends g c =
    let o = opening_alone opening_in c.args.alone.now in
    let v = view_alone c.args.alone.now in
    let q = opening_alone opening_in c.fill_span_alone.new.alone in
    let u = view_alone c.fill_span_alone.new.alone in
    let e = c.fill_span_alone.ensures in
    let good = c.in_ok-fill_span_alone.field-0 in
    let p = does_fill g.D.Die.seen o v u c.args.lane c.args.job.now c.fill_span_alone.new.job good c.requires.begun e.same c.in_ok-fill_span_alone.ensures.left c.in_ok-fill_span_alone.ensures.did in
    ends_there g.D.Die.seen o q v u c.args.lane (not good) c.fill_span_alone.new.job e.turn.1 p

pub turn_end_job-requires-clause-small : goal.turn_end_job-requires-clause-small
turn_end_job-requires-clause-small g c = subst (λ z. IsSmall z.value) (sym c.fill_span_alone.ensures.turn.1) c.requires.small

pub returns-clause-did : goal.returns-clause-did
returns-clause-did g c =
    let o = opening_alone opening_in c.args.alone.now in
    let v = view_alone c.args.alone.now in
    let q = opening_alone opening_in c.fill_span_alone.new.alone in
    let u = view_alone c.fill_span_alone.new.alone in
    let e = c.fill_span_alone.ensures in
    let good = c.in_ok-fill_span_alone.field-0 in
    let p = does_fill g.D.Die.seen o v u c.args.lane c.args.job.now c.fill_span_alone.new.job good c.requires.begun e.same c.in_ok-fill_span_alone.ensures.left c.in_ok-fill_span_alone.ensures.did in
    finish_any g.D.Die.seen o q v u (view_alone c.turn_end_job.new.desk) c.args.lane (not good) c.args.job.now c.fill_span_alone.new.job c.turn_end_job.result e.turn.1 (ap (λ (j : Job). j.request) e.same) (inl c.requires.free.2.0) p c.turn_end_job.ensures.did c.turn_end_job.ensures.went

pub returns-clause-numbered : goal.returns-clause-numbered
returns-clause-numbered g c = λ n is.
    let e = c.fill_span_alone.ensures in
    numbered_as g.D.Die.seen (opening_alone opening_in c.args.alone.now) (opening_alone opening_in c.fill_span_alone.new.alone) ((view_alone c.turn_end_job.new.desk)) c.args.lane c.fill_span_alone.new.job.request c.args.job.now.request n e.turn.1 (ap (λ (j : Job). j.request) e.same) (c.turn_end_job.ensures.numbered n is)

pub returns-clause-home : goal.returns-clause-home
returns-clause-home g c =
    let o = opening_alone opening_in c.args.alone.now in
    let v = view_alone c.args.alone.now in
    let q = opening_alone opening_in c.fill_span_alone.new.alone in
    let u = view_alone c.fill_span_alone.new.alone in
    let e = c.fill_span_alone.ensures in
    let good = c.in_ok-fill_span_alone.field-0 in
    let p = does_fill g.D.Die.seen o v u c.args.lane c.args.job.now c.fill_span_alone.new.job good c.requires.begun e.same c.in_ok-fill_span_alone.ensures.left c.in_ok-fill_span_alone.ensures.did in
    home_after g.D.Die.seen o v (view_alone c.turn_end_job.new.desk) c.args.lane c.args.job.now.request c.turn_end_job.result c.requires.free.2.0 c.requires.home (finish_any g.D.Die.seen o q v u (view_alone c.turn_end_job.new.desk) c.args.lane (not good) c.args.job.now c.fill_span_alone.new.job c.turn_end_job.result e.turn.1 (ap (λ (j : Job). j.request) e.same) (inl c.requires.free.2.0) p c.turn_end_job.ensures.did c.turn_end_job.ensures.went)

pub returns-in_err-fill_span_alone-clause-did : goal.returns-in_err-fill_span_alone-clause-did
returns-in_err-fill_span_alone-clause-did g c =
    let o = opening_alone opening_in c.args.alone.now in
    let v = view_alone c.args.alone.now in
    let u = view_alone c.fill_span_alone.new.alone in
    fill_worn g.D.Die.seen o v u c.args.lane c.args.job.now c.fill_span_alone.new.job c.in_err-fill_span_alone.field-0.0 c.from_residual.result c.from_residual.ensures.0 (begun_at_host (core_seen (core_of g.D.Die.seen) o v) c.args.lane c.args.job.now c.requires.begun) c.in_err-fill_span_alone.ensures.did
