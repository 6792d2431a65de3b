use Rattle.std.proofs.Common.{sym, subst, inl}
use Rattle.std.specs.Prelude.{not}
use Rattle.turn_cell.specs.Desks.{view_alone, opening_alone}
use Rattle.system_state.specs.Cores.{core_of}
use Rattle.desk_turns.specs.Passing.{core_seen}
use Rattle.call_finishes.specs.Books.{opening_in}
use Rattle.call_finishes.specs.Words.{IsSmall}
use Rattle.call_finishes.proofs.Ending.{ends_there, held_there, none_there, finish_any, fill_worn, numbered_as, home_after}
use Rattle.lambda_finishes.proofs.Running.{ready_there, runs_still, fresh_still, does_run, host_says, begun_host, run_request}
use Rattle.lambda_finishes.proofs.host.finish_at_host_alone.Goals as goal

pub run_gathered-requires-clause-ready : goal.run_gathered-requires-clause-ready
run_gathered-requires-clause-ready g c =
    let o = opening_alone opening_in c.args.alone.now in
    let v = view_alone c.args.alone.now in
    let u = view_alone c.fill_span_alone.new.alone in
    let mid = c.fill_span_alone.new.job in
    let e = c.fill_span_alone.ensures in
    let good = c.in_ok-good.good in
    let left = c.in_ok-good.ensures.left in
    ready_there g.D.Die.seen o v u c.args.lane mid good left c.in_ok-good.ensures.did

pub run_gathered-requires-clause-lambda : goal.run_gathered-requires-clause-lambda
run_gathered-requires-clause-lambda g c =
    runs_still (core_seen (core_of g.D.Die.seen) (opening_alone opening_in c.args.alone.now) (view_alone c.args.alone.now)) c.args.lane c.args.job.now c.fill_span_alone.new.job c.requires.begun c.fill_span_alone.ensures.same

pub run_gathered-requires-clause-fresh : goal.run_gathered-requires-clause-fresh
run_gathered-requires-clause-fresh g c =
    fresh_still c.args.job.now c.fill_span_alone.new.job c.fill_span_alone.ensures.same c.requires.begun.gathering.fresh

pub turn_end_job-requires-clause-hands : goal.turn_end_job-requires-clause-hands
turn_end_job-requires-clause-hands g c =
    let o = opening_alone opening_in c.args.alone.now in
    let v = view_alone c.args.alone.now in
    let u = view_alone c.fill_span_alone.new.alone in
    let mid = c.fill_span_alone.new.job in
    let e = c.fill_span_alone.ensures in
    let good = c.in_ok-good.good in
    let left = c.in_ok-good.ensures.left in
    let q = opening_alone opening_in c.fill_span_alone.new.alone in
    let new = c.run_gathered.new.job in
    let ran = c.run_gathered.ensures in
    let p = does_run g.D.Die.seen o v u c.args.lane c.args.job.now mid new good c.requires.begun e.same left ran.same ran.ready ran.ran c.in_ok-good.ensures.did in
    none_there g.D.Die.seen o q v u c.args.lane (not good) new e.turn.1 p

pub turn_end_job-requires-clause-held : goal.turn_end_job-requires-clause-held
turn_end_job-requires-clause-held g c =
    let o = opening_alone opening_in c.args.alone.now in
    let v = view_alone c.args.alone.now in
    let u = view_alone c.fill_span_alone.new.alone in
    let mid = c.fill_span_alone.new.job in
    let e = c.fill_span_alone.ensures in
    let good = c.in_ok-good.good in
    let left = c.in_ok-good.ensures.left in
    let q = opening_alone opening_in c.fill_span_alone.new.alone in
    let new = c.run_gathered.new.job in
    let ran = c.run_gathered.ensures in
    let p = does_run g.D.Die.seen o v u c.args.lane c.args.job.now mid new good c.requires.begun e.same left ran.same ran.ready ran.ran c.in_ok-good.ensures.did in
    held_there g.D.Die.seen o q v u c.args.lane (not good) new e.turn.1 p

pub turn_end_job-requires-clause-ends : goal.turn_end_job-requires-clause-ends
turn_end_job-requires-clause-ends g c =
    let o = opening_alone opening_in c.args.alone.now in
    let v = view_alone c.args.alone.now in
    let u = view_alone c.fill_span_alone.new.alone in
    let mid = c.fill_span_alone.new.job in
    let e = c.fill_span_alone.ensures in
    let good = c.in_ok-good.good in
    let left = c.in_ok-good.ensures.left in
    let q = opening_alone opening_in c.fill_span_alone.new.alone in
    let new = c.run_gathered.new.job in
    let ran = c.run_gathered.ensures in
    let p = does_run g.D.Die.seen o v u c.args.lane c.args.job.now mid new good c.requires.begun e.same left ran.same ran.ready ran.ran c.in_ok-good.ensures.did in
    ends_there g.D.Die.seen o q v u c.args.lane (not good) new e.turn.1 p

pub turn_end_job-requires-clause-small : goal.turn_end_job-requires-clause-small
turn_end_job-requires-clause-small g c =
    subst (λ z. IsSmall z.value) (sym c.fill_span_alone.ensures.turn.1) c.requires.small

pub returns-clause-did : goal.returns-clause-did
returns-clause-did g c =
    let o = opening_alone opening_in c.args.alone.now in
    let v = view_alone c.args.alone.now in
    let u = view_alone c.fill_span_alone.new.alone in
    let mid = c.fill_span_alone.new.job in
    let e = c.fill_span_alone.ensures in
    let good = c.in_ok-good.good in
    let left = c.in_ok-good.ensures.left in
    let q = opening_alone opening_in c.fill_span_alone.new.alone in
    let new = c.run_gathered.new.job in
    let ran = c.run_gathered.ensures in
    let p = does_run g.D.Die.seen o v u c.args.lane c.args.job.now mid new good c.requires.begun e.same left ran.same ran.ready ran.ran c.in_ok-good.ensures.did in
    host_says g.D.Die.seen o v (view_alone c.turn_end_job.new.desk) c.args.lane c.args.job.now.request c.turn_end_job.result
    (finish_any g.D.Die.seen o q v u (view_alone c.turn_end_job.new.desk) c.args.lane (not good) c.args.job.now new c.turn_end_job.result e.turn.1 (run_request c.args.job.now mid new e.same ran.same) (inl c.requires.free.2.0) p c.turn_end_job.ensures.did c.turn_end_job.ensures.went)

pub returns-clause-numbered : goal.returns-clause-numbered
returns-clause-numbered g c =
    let o = opening_alone opening_in c.args.alone.now in
    let v = view_alone c.args.alone.now in
    let u = view_alone c.fill_span_alone.new.alone in
    let mid = c.fill_span_alone.new.job in
    let e = c.fill_span_alone.ensures in
    let good = c.in_ok-good.good in
    let left = c.in_ok-good.ensures.left in
    let q = opening_alone opening_in c.fill_span_alone.new.alone in
    let new = c.run_gathered.new.job in
    let ran = c.run_gathered.ensures in
    let p = does_run g.D.Die.seen o v u c.args.lane c.args.job.now mid new good c.requires.begun e.same left ran.same ran.ready ran.ran c.in_ok-good.ensures.did in
    λ n is. numbered_as g.D.Die.seen o q (view_alone c.turn_end_job.new.desk) c.args.lane new.request c.args.job.now.request n e.turn.1 (run_request c.args.job.now mid new e.same ran.same) (c.turn_end_job.ensures.numbered n is)

pub returns-in_err-good-clause-did : goal.returns-in_err-good-clause-did
returns-in_err-good-clause-did g c =
    let o = opening_alone opening_in c.args.alone.now in
    let v = view_alone c.args.alone.now in
    let u = view_alone c.fill_span_alone.new.alone in
    host_says g.D.Die.seen o v u c.args.lane c.args.job.now.request c.from_residual.result
    (fill_worn g.D.Die.seen o v u c.args.lane c.args.job.now c.fill_span_alone.new.job c.in_err-good.field-0.0 c.from_residual.result c.from_residual.ensures.0 (begun_host (core_seen (core_of g.D.Die.seen) o v) c.args.lane c.args.job.now c.requires.begun) c.in_err-good.ensures.did)

pub returns-clause-home : goal.returns-clause-home
returns-clause-home g c =
    let o = opening_alone opening_in c.args.alone.now in
    let v = view_alone c.args.alone.now in
    let u = view_alone c.fill_span_alone.new.alone in
    let mid = c.fill_span_alone.new.job in
    let e = c.fill_span_alone.ensures in
    let good = c.in_ok-good.good in
    let left = c.in_ok-good.ensures.left in
    let q = opening_alone opening_in c.fill_span_alone.new.alone in
    let new = c.run_gathered.new.job in
    let ran = c.run_gathered.ensures in
    let p = does_run g.D.Die.seen o v u c.args.lane c.args.job.now mid new good c.requires.begun e.same left ran.same ran.ready ran.ran c.in_ok-good.ensures.did in
    home_after g.D.Die.seen o v (view_alone c.turn_end_job.new.desk) c.args.lane c.args.job.now.request c.turn_end_job.result c.requires.free.2.0 c.requires.home
    (finish_any g.D.Die.seen o q v u (view_alone c.turn_end_job.new.desk) c.args.lane (not good) c.args.job.now new c.turn_end_job.result e.turn.1 (run_request c.args.job.now mid new e.same ran.same) (inl c.requires.free.2.0) p c.turn_end_job.ensures.did c.turn_end_job.ensures.went)
