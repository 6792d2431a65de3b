use Rattle.std.proofs.Common.{◌≡◌, ℕ, ◌≤◌, ◌^◌, Ok, inl, sym, subst}
use Rattle.turn_cell.specs.Desks.{view_alone, opening_alone}
use Rattle.system_state.specs.Cores.{core_of}
use Rattle.call_job.specs.Suits.{Suits}
use Rattle.call_job.specs.declared.job.Job.{Job}
use Rattle.desk_turns.specs.Passing.{Turn, Does}
use Rattle.fill_steps.specs.Books.{opening_in}
use Rattle.fill_steps.specs.JobTurns.{FetchSays}
use Rattle.drive_worker.specs.Serving.{ServeSays, closes}
use Rattle.drive_worker.specs.declared.serve.Served.TheVariants.{One, Empty}
use Rattle.drive_worker.proofs.Serving.{fetched_with, found_none, served, serve_worn, fetch_worn, serve_home, fetched_home}
use Rattle.drive_worker.proofs.serve.serve_one_alone.Goals as goal

pub returns-in_err-answer-clause-did : goal.returns-in_err-answer-clause-did
returns-in_err-answer-clause-did g c = fetch_worn g.D.Die.seen (opening_alone opening_in c.args.alone.now) (view_alone c.args.alone.now) (view_alone c.turn_fetch.new.desk) c.args.worker c.from_residual.result c.from_residual.ensures.0 c.in_err-answer.ensures.went

pub serve_call_alone-requires-clause-fetched : goal.serve_call_alone-requires-clause-fetched
serve_call_alone-requires-clause-fetched g c =
    let o = opening_alone opening_in c.args.alone.now in
    let v = view_alone c.args.alone.now in
    let q = opening_alone opening_in c.turn_fetch.new.desk in
    let u = view_alone c.turn_fetch.new.desk in
    let same = c.turn_fetch.ensures.turn.1 in
    let x : ℕ × Job = (c.in-Ok.lane, c.in-Ok.job) in
    let is : c.in_ok-answer.answer ≡ Ok x = cc in
    let t = subst (λ r. Turn (core_of g.D.Die.seen) o v u (FetchSays Suits c.args.worker r)) is c.in_ok-answer.ensures.did in
    fetched_with g.D.Die.seen o q v u c.args.worker x same (inl c.requires.free.2.0) c.requires.worker t

pub serve_call_alone-requires-clause-home : goal.serve_call_alone-requires-clause-home
serve_call_alone-requires-clause-home g c =
    let o = opening_alone opening_in c.args.alone.now in
    let v = view_alone c.args.alone.now in
    let q = opening_alone opening_in c.turn_fetch.new.desk in
    let u = view_alone c.turn_fetch.new.desk in
    let same = c.turn_fetch.ensures.turn.1 in
    let x : ℕ × Job = (c.in-Ok.lane, c.in-Ok.job) in
    let is : c.in_ok-answer.answer ≡ Ok x = cc in
    let t = subst (λ r. Turn (core_of g.D.Die.seen) o v u (FetchSays Suits c.args.worker r)) is c.in_ok-answer.ensures.did in
    fetched_home g.D.Die.seen o q v u c.args.worker x same c.requires.free.2.0 t c.requires.home

pub serve_call_alone-requires-clause-small : goal.serve_call_alone-requires-clause-small
serve_call_alone-requires-clause-small g c = subst (λ z. z.value.places.reads ≤ 2 ^ 62) (sym c.turn_fetch.ensures.turn.1) c.requires.small

pub returns-in_err-serve_call_alone-in-Ok-clause-did : goal.returns-in_err-serve_call_alone-in-Ok-clause-did
returns-in_err-serve_call_alone-in-Ok-clause-did g c =
    let o = opening_alone opening_in c.args.alone.now in
    let v = view_alone c.args.alone.now in
    let q = opening_alone opening_in c.turn_fetch.new.desk in
    let u = view_alone c.turn_fetch.new.desk in
    let same = c.turn_fetch.ensures.turn.1 in
    let x : ℕ × Job = (c.in-Ok.lane, c.in-Ok.job) in
    let is : c.in_ok-answer.answer ≡ Ok x = cc in
    let t = subst (λ r. Turn (core_of g.D.Die.seen) o v u (FetchSays Suits c.args.worker r)) is c.in_ok-answer.ensures.did in
    serve_worn g.D.Die.seen o q v u (view_alone c.serve_call_alone.new.alone) c.args.worker x c.in_err-serve_call_alone-in-Ok.field-0.0 c.from_residual-in_err-serve_call_alone-in-Ok.result c.from_residual-in_err-serve_call_alone-in-Ok.ensures.0 same t c.in_err-serve_call_alone-in-Ok.ensures.did

pub returns-in_ok-serve_call_alone-in-Ok-clause-did : goal.returns-in_ok-serve_call_alone-in-Ok-clause-did
returns-in_ok-serve_call_alone-in-Ok-clause-did g c =
    let o = opening_alone opening_in c.args.alone.now in
    let v = view_alone c.args.alone.now in
    let q = opening_alone opening_in c.turn_fetch.new.desk in
    let u = view_alone c.turn_fetch.new.desk in
    let same = c.turn_fetch.ensures.turn.1 in
    let x : ℕ × Job = (c.in-Ok.lane, c.in-Ok.job) in
    let is : c.in_ok-answer.answer ≡ Ok x = cc in
    let t = subst (λ r. Turn (core_of g.D.Die.seen) o v u (FetchSays Suits c.args.worker r)) is c.in_ok-answer.ensures.did in
    served g.D.Die.seen o q v u (view_alone c.serve_call_alone.new.alone) c.args.worker x same t c.in_ok-serve_call_alone-in-Ok.ensures.did

pub returns-in-Err-clause-did : goal.returns-in-Err-clause-did
returns-in-Err-clause-did g c =
    let o = opening_alone opening_in c.args.alone.now in
    let v = view_alone c.args.alone.now in
    let q = opening_alone opening_in c.turn_fetch.new.desk in
    let u = view_alone c.turn_fetch.new.desk in
    let same = c.turn_fetch.ensures.turn.1 in
    let t = subst (λ r. Turn (core_of g.D.Die.seen) o v u (FetchSays Suits c.args.worker r)) c.in-Err.is c.in_ok-answer.ensures.did in
    subst (λ b. Does v u (ServeSays g.D.Die.seen o v u c.args.worker (Ok (Empty b)))) (sym c.closes.ensures) (found_none g.D.Die.seen o v u c.args.worker c.in-Err.refused (inl c.requires.free.2.0) c.requires.worker t)

pub returns-in_ok-serve_call_alone-in-Ok-clause-home : goal.returns-in_ok-serve_call_alone-in-Ok-clause-home
returns-in_ok-serve_call_alone-in-Ok-clause-home g c =
    let o = opening_alone opening_in c.args.alone.now in
    let v = view_alone c.args.alone.now in
    let q = opening_alone opening_in c.turn_fetch.new.desk in
    let u = view_alone c.turn_fetch.new.desk in
    let same = c.turn_fetch.ensures.turn.1 in
    let w = view_alone c.serve_call_alone.new.alone in
    let x : ℕ × Job = (c.in-Ok.lane, c.in-Ok.job) in
    let is : c.in_ok-answer.answer ≡ Ok x = cc in
    let t = subst (λ r. Turn (core_of g.D.Die.seen) o v u (FetchSays Suits c.args.worker r)) is c.in_ok-answer.ensures.did in
    serve_home g.D.Die.seen o v w c.args.worker (Ok (One x.0)) c.requires.free.2.0 c.requires.home (served g.D.Die.seen o q v u w c.args.worker x same t c.in_ok-serve_call_alone-in-Ok.ensures.did)

pub returns-in-Err-clause-home : goal.returns-in-Err-clause-home
returns-in-Err-clause-home g c =
    let o = opening_alone opening_in c.args.alone.now in
    let v = view_alone c.args.alone.now in
    let q = opening_alone opening_in c.turn_fetch.new.desk in
    let u = view_alone c.turn_fetch.new.desk in
    let same = c.turn_fetch.ensures.turn.1 in
    let t = subst (λ r. Turn (core_of g.D.Die.seen) o v u (FetchSays Suits c.args.worker r)) c.in-Err.is c.in_ok-answer.ensures.did in
    serve_home g.D.Die.seen o v u c.args.worker (Ok (Empty (closes c.in-Err.refused))) c.requires.free.2.0 c.requires.home (found_none g.D.Die.seen o v u c.args.worker c.in-Err.refused (inl c.requires.free.2.0) c.requires.worker t)
