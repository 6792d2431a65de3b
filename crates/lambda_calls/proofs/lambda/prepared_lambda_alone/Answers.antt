use Rattle.std.proofs.Common.{◌≡◌, ℕ, None, sym, subst}
use Rattle.turn_cell.specs.Desks.{view_alone, opening_alone}
use Rattle.system_state.specs.Cores.{core_of}
use Rattle.desk_turns.specs.Passing.{core_seen}
use Rattle.data_calls.specs.Books.{opening_in}
use Rattle.data_calls.specs.Words.{IsSmall}
use Rattle.data_calls.proofs.Whole.{ended_told, numbered_as}
use Rattle.data_calls.specs.Finishing.{AreOfCall}
use Rattle.lambda_calls.proofs.Whole.{takes_served, start_worn, ended_call, begun_there, asked_there, begun_call, alone_there, begun_told, job_as, begun_ok}
use Rattle.lambda_calls.proofs.lambda.prepared_lambda_alone.Goals as goal

pub returns-in_err-beginning-clause-did : goal.returns-in_err-beginning-clause-did
returns-in_err-beginning-clause-did g c =
    let o = opening_alone opening_in c.args.alone.now in
    let v = view_alone c.args.alone.now in
    let q = opening_alone opening_in c.begin_call_alone.new.alone in
    let u = view_alone c.begin_call_alone.new.alone in
    let old = c.args.prepared.job in
    let e = c.begin_call_alone.ensures in
    start_worn g.D.Die.seen (AreOfCall c.args.lane) o v u c.args.lane old.request c.in_err-beginning.field-0.0 c.from_residual.result (takes_served c.args.lane) c.from_residual.ensures.0 c.in_err-beginning.ensures.did

pub returns-in-Ended-clause-did : goal.returns-in-Ended-clause-did
returns-in-Ended-clause-did g c =
    let o = opening_alone opening_in c.args.alone.now in
    let v = view_alone c.args.alone.now in
    let q = opening_alone opening_in c.begin_call_alone.new.alone in
    let u = view_alone c.begin_call_alone.new.alone in
    let old = c.args.prepared.job in
    let e = c.begin_call_alone.ensures in
    ended_call g.D.Die.seen (AreOfCall c.args.lane) o v u c.args.lane old.request c.in_ok-beginning.beginning c.in-Ended.numbered (takes_served c.args.lane) c.in-Ended.is c.in_ok-beginning.ensures.did

pub returns-in-Ended-clause-numbered : goal.returns-in-Ended-clause-numbered
returns-in-Ended-clause-numbered g c =
    λ n is. c.in_ok-beginning.ensures.numbered n (ended_told c.in_ok-beginning.beginning c.in-Ended.numbered n c.in-Ended.is is)

pub finish_at_alone-requires-clause-begun : goal.finish_at_alone-requires-clause-begun
finish_at_alone-requires-clause-begun g c =
    let o = opening_alone opening_in c.args.alone.now in
    let v = view_alone c.args.alone.now in
    let q = opening_alone opening_in c.begin_call_alone.new.alone in
    let u = view_alone c.begin_call_alone.new.alone in
    let old = c.args.prepared.job in
    let e = c.begin_call_alone.ensures in
    let made = c.into_job.result in
    let j = job_as g.D.Die.seen (core_seen (core_of g.D.Die.seen) o u) c.args.lane old c.begin_call_alone.new.prepared.job made (begun_ok c.in_ok-beginning.beginning) c.into_job.ensures c.in_ok-beginning.ensures.job in
    begun_there g.D.Die.seen o q v u c.args.lane old.request c.in-Started.side old made c.in_ok-beginning.beginning e.turn.1 c.in-Started.is c.requires.lambda c.in_ok-beginning.ensures.did j

pub finish_at_alone-requires-clause-small : goal.finish_at_alone-requires-clause-small
finish_at_alone-requires-clause-small g c =
    subst (λ z. IsSmall z.value) (sym c.begin_call_alone.ensures.turn.1) c.requires.small

pub finish_at_alone-requires-clause-home : goal.finish_at_alone-requires-clause-home
finish_at_alone-requires-clause-home g c =
    let o = opening_alone opening_in c.args.alone.now in
    let v = view_alone c.args.alone.now in
    let q = opening_alone opening_in c.begin_call_alone.new.alone in
    let u = view_alone c.begin_call_alone.new.alone in
    let old = c.args.prepared.job in
    let e = c.begin_call_alone.ensures in
    subst (λ z. (die : ℕ) → ((core_seen (core_of g.D.Die.seen) z u).dies die).out ≡ None) (sym e.turn.1) c.in_ok-beginning.ensures.home

pub returns-in-Started-clause-did : goal.returns-in-Started-clause-did
returns-in-Started-clause-did g c =
    let o = opening_alone opening_in c.args.alone.now in
    let v = view_alone c.args.alone.now in
    let q = opening_alone opening_in c.begin_call_alone.new.alone in
    let u = view_alone c.begin_call_alone.new.alone in
    let old = c.args.prepared.job in
    let e = c.begin_call_alone.ensures in
    let made = c.into_job.result in
    let j = job_as g.D.Die.seen (core_seen (core_of g.D.Die.seen) o u) c.args.lane old c.begin_call_alone.new.prepared.job made (begun_ok c.in_ok-beginning.beginning) c.into_job.ensures c.in_ok-beginning.ensures.job in
    let w = view_alone c.finish_at_alone.new.alone in
    begun_call g.D.Die.seen (AreOfCall c.args.lane) o q v u w c.args.lane old.request made.request c.in-Started.side c.in_ok-beginning.beginning c.finish_at_alone.result (takes_served c.args.lane) e.turn.1
    (asked_there g.D.Die.seen o v u c.args.lane old.request c.in-Started.side old made c.in_ok-beginning.beginning c.in-Started.is c.in_ok-beginning.ensures.did j) c.in-Started.is c.in_ok-beginning.ensures.did c.finish_at_alone.ensures.did

pub returns-in-Started-clause-numbered : goal.returns-in-Started-clause-numbered
returns-in-Started-clause-numbered g c =
    let o = opening_alone opening_in c.args.alone.now in
    let v = view_alone c.args.alone.now in
    let q = opening_alone opening_in c.begin_call_alone.new.alone in
    let u = view_alone c.begin_call_alone.new.alone in
    let old = c.args.prepared.job in
    let e = c.begin_call_alone.ensures in
    let made = c.into_job.result in
    let j = job_as g.D.Die.seen (core_seen (core_of g.D.Die.seen) o u) c.args.lane old c.begin_call_alone.new.prepared.job made (begun_ok c.in_ok-beginning.beginning) c.into_job.ensures c.in_ok-beginning.ensures.job in
    let w = view_alone c.finish_at_alone.new.alone in
    λ n is. numbered_as g.D.Die.seen o q w c.args.lane made.request old.request n e.turn.1
    (asked_there g.D.Die.seen o v u c.args.lane old.request c.in-Started.side old made c.in_ok-beginning.beginning c.in-Started.is c.in_ok-beginning.ensures.did j) (c.finish_at_alone.ensures.numbered n is)

pub finish_at_alone-requires-clause-alone : goal.finish_at_alone-requires-clause-alone
finish_at_alone-requires-clause-alone g c =
    let o = opening_alone opening_in c.args.alone.now in
    let v = view_alone c.args.alone.now in
    let q = opening_alone opening_in c.begin_call_alone.new.alone in
    let u = view_alone c.begin_call_alone.new.alone in
    let old = c.args.prepared.job in
    let e = c.begin_call_alone.ensures in
    let made = c.into_job.result in
    let j = job_as g.D.Die.seen (core_seen (core_of g.D.Die.seen) o u) c.args.lane old c.begin_call_alone.new.prepared.job made (begun_ok c.in_ok-beginning.beginning) c.into_job.ensures c.in_ok-beginning.ensures.job in
    alone_there g.D.Die.seen o q u c.args.lane old.request made.request e.turn.1
    (asked_there g.D.Die.seen o v u c.args.lane old.request c.in-Started.side old made c.in_ok-beginning.beginning c.in-Started.is c.in_ok-beginning.ensures.did j)
    (c.in_ok-beginning.ensures.alone c.in-Started.side (begun_told c.in_ok-beginning.beginning c.in-Started.side c.in-Started.is))
