use Rattle.std.proofs.Common.{◌≡◌, ℕ, ◌≤◌, ◌^◌, Ok, sym, subst}
use Rattle.turn_cell.specs.Passes.{opening_of, view}
use Rattle.system_state.specs.Cores.{core_of}
use Rattle.call_job.specs.Suits.{Suits}
use Rattle.call_job.specs.declared.job.Job.{Job}
use Rattle.desk_turns.specs.Passing.{Turn, Does}
use Rattle.fill_steps.specs.Books.{opening_in}
use Rattle.fill_steps.specs.JobTurns.{FetchSays}
use Rattle.drive_worker.specs.Serving.{ServeSays}
use Rattle.drive_worker.specs.declared.serve.Served.TheVariants.{Empty}
use Rattle.drive_worker.proofs.Serving.{fetched_with, fetched_acts, found_none, served, serve_worn, fetch_worn}
use Rattle.drive_worker.proofs.serve.serve_one.Goals as goal

pub returns-in_err-answer-clause-did : goal.returns-in_err-answer-clause-did
returns-in_err-answer-clause-did g c = fetch_worn g.D.Die.seen (opening_of opening_in c.args.desk.now.turn.now) (view c.args.desk.now.pass) (view c.turn_fetch.new.desk.pass) c.args.worker c.from_residual.result c.from_residual.ensures.0 c.in_err-answer.ensures.went

pub serve_call-requires-clause-fetched : goal.serve_call-requires-clause-fetched
serve_call-requires-clause-fetched g c =
    let o = opening_of opening_in c.args.desk.now.turn.now in
    let v = view c.args.desk.now.pass in
    let q = opening_of opening_in c.turn_fetch.new.desk.turn.now in
    let u = view c.turn_fetch.new.desk.pass in
    let same = c.turn_fetch.ensures.turn.1 in
    let x : ℕ × Job = (c.in-Ok.lane, c.in-Ok.job) in
    let is : c.in_ok-answer.answer ≡ Ok x = cc in
    let t = subst (λ r. Turn (core_of g.D.Die.seen) o v u (FetchSays Suits c.args.worker r)) is c.in_ok-answer.ensures.did in
    fetched_with g.D.Die.seen o q v u c.args.worker x same c.requires.acts c.requires.worker t

pub serve_call-requires-clause-acts : goal.serve_call-requires-clause-acts
serve_call-requires-clause-acts g c =
    let o = opening_of opening_in c.args.desk.now.turn.now in
    let v = view c.args.desk.now.pass in
    let q = opening_of opening_in c.turn_fetch.new.desk.turn.now in
    let u = view c.turn_fetch.new.desk.pass in
    let same = c.turn_fetch.ensures.turn.1 in
    let x : ℕ × Job = (c.in-Ok.lane, c.in-Ok.job) in
    let is : c.in_ok-answer.answer ≡ Ok x = cc in
    let t = subst (λ r. Turn (core_of g.D.Die.seen) o v u (FetchSays Suits c.args.worker r)) is c.in_ok-answer.ensures.did in
    fetched_acts g.D.Die.seen o q v u c.args.worker x same t c.requires.acts

pub serve_call-requires-clause-small : goal.serve_call-requires-clause-small
serve_call-requires-clause-small g c = subst (λ z. z.value.places.reads ≤ 2 ^ 62) (sym c.turn_fetch.ensures.turn.1) c.requires.small

pub returns-in_err-serve_call-in-Ok-clause-did : goal.returns-in_err-serve_call-in-Ok-clause-did
returns-in_err-serve_call-in-Ok-clause-did g c =
    let o = opening_of opening_in c.args.desk.now.turn.now in
    let v = view c.args.desk.now.pass in
    let q = opening_of opening_in c.turn_fetch.new.desk.turn.now in
    let u = view c.turn_fetch.new.desk.pass in
    let same = c.turn_fetch.ensures.turn.1 in
    let x : ℕ × Job = (c.in-Ok.lane, c.in-Ok.job) in
    let is : c.in_ok-answer.answer ≡ Ok x = cc in
    let t = subst (λ r. Turn (core_of g.D.Die.seen) o v u (FetchSays Suits c.args.worker r)) is c.in_ok-answer.ensures.did in
    serve_worn g.D.Die.seen o q v u (view c.serve_call.new.desk.pass) c.args.worker x c.in_err-serve_call-in-Ok.field-0.0 c.from_residual-in_err-serve_call-in-Ok.result c.from_residual-in_err-serve_call-in-Ok.ensures.0 same t c.in_err-serve_call-in-Ok.ensures.did

pub returns-in_ok-serve_call-in-Ok-clause-did : goal.returns-in_ok-serve_call-in-Ok-clause-did
returns-in_ok-serve_call-in-Ok-clause-did g c =
    let o = opening_of opening_in c.args.desk.now.turn.now in
    let v = view c.args.desk.now.pass in
    let q = opening_of opening_in c.turn_fetch.new.desk.turn.now in
    let u = view c.turn_fetch.new.desk.pass in
    let same = c.turn_fetch.ensures.turn.1 in
    let x : ℕ × Job = (c.in-Ok.lane, c.in-Ok.job) in
    let is : c.in_ok-answer.answer ≡ Ok x = cc in
    let t = subst (λ r. Turn (core_of g.D.Die.seen) o v u (FetchSays Suits c.args.worker r)) is c.in_ok-answer.ensures.did in
    served g.D.Die.seen o q v u (view c.serve_call.new.desk.pass) c.args.worker x same t c.in_ok-serve_call-in-Ok.ensures.did

pub returns-in-Err-clause-did : goal.returns-in-Err-clause-did
returns-in-Err-clause-did g c =
    let o = opening_of opening_in c.args.desk.now.turn.now in
    let v = view c.args.desk.now.pass in
    let q = opening_of opening_in c.turn_fetch.new.desk.turn.now in
    let u = view c.turn_fetch.new.desk.pass in
    let same = c.turn_fetch.ensures.turn.1 in
    let t = subst (λ r. Turn (core_of g.D.Die.seen) o v u (FetchSays Suits c.args.worker r)) c.in-Err.is c.in_ok-answer.ensures.did in
    subst (λ b. Does v u (ServeSays g.D.Die.seen o v u c.args.worker (Ok (Empty b)))) (sym c.closes.ensures) (found_none g.D.Die.seen o v u c.args.worker c.in-Err.refused c.requires.acts c.requires.worker t)
