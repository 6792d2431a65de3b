use Rattle.std.proofs.Common.{sym, subst}
use Rattle.turn_cell.specs.Passes.{opening_of, view}
use Rattle.core_state.specs.declared.actor.Actor.TheVariants.{Lane}
use Rattle.system_state.specs.Cores.{core_of}
use Rattle.desk_turns.specs.Making.{AreOf}
use Rattle.desk_turns.specs.Passing.{ActsFor, core_seen}
use Rattle.data_calls.specs.Books.{opening_in}
use Rattle.data_calls.specs.Words.{IsSmall}
use Rattle.data_calls.proofs.Ending.{acts_after}
use Rattle.data_calls.proofs.Whole.{ended_told, numbered_as}
use Rattle.lambda_calls.proofs.Whole.{takes_own, start_worn, ended_call, begun_there, asked_there, begun_call, job_as, begun_ok}
use Rattle.lambda_calls.proofs.lambda.prepared_lambda.Goals as goal

pub returns-in_err-beginning-clause-did : goal.returns-in_err-beginning-clause-did
returns-in_err-beginning-clause-did g c =
    let o = opening_of opening_in c.args.desk.now.turn.now in
    let v = view c.args.desk.now.pass in
    let q = opening_of opening_in c.begin_call.new.desk.turn.now in
    let u = view c.begin_call.new.desk.pass in
    let old = c.args.prepared.job in
    let e = c.begin_call.ensures in
    start_worn g.D.Die.seen (AreOf (Lane c.args.lane)) o v u c.args.lane old.request c.in_err-beginning.field-0.0 c.from_residual.result (takes_own c.args.lane) c.from_residual.ensures.0 c.in_err-beginning.ensures.did

pub returns-in-Ended-clause-did : goal.returns-in-Ended-clause-did
returns-in-Ended-clause-did g c =
    let o = opening_of opening_in c.args.desk.now.turn.now in
    let v = view c.args.desk.now.pass in
    let q = opening_of opening_in c.begin_call.new.desk.turn.now in
    let u = view c.begin_call.new.desk.pass in
    let old = c.args.prepared.job in
    let e = c.begin_call.ensures in
    ended_call g.D.Die.seen (AreOf (Lane c.args.lane)) o v u c.args.lane old.request c.in_ok-beginning.beginning c.in-Ended.numbered (takes_own c.args.lane) c.in-Ended.is c.in_ok-beginning.ensures.did

pub returns-in-Ended-clause-numbered : goal.returns-in-Ended-clause-numbered
returns-in-Ended-clause-numbered g c =
    λ n is. c.in_ok-beginning.ensures.numbered n (ended_told c.in_ok-beginning.beginning c.in-Ended.numbered n c.in-Ended.is is)

pub finish_at-requires-clause-acts : goal.finish_at-requires-clause-acts
finish_at-requires-clause-acts g c =
    let o = opening_of opening_in c.args.desk.now.turn.now in
    let v = view c.args.desk.now.pass in
    let q = opening_of opening_in c.begin_call.new.desk.turn.now in
    let u = view c.begin_call.new.desk.pass in
    let old = c.args.prepared.job in
    let e = c.begin_call.ensures in
    let p = c.in_ok-beginning.ensures.did in
    subst (λ z. ActsFor (core_of g.D.Die.seen) z u (Lane c.args.lane)) (sym e.turn.1) (acts_after g.D.Die.seen o v u (Lane c.args.lane) p.events p.went c.requires.acts)

pub finish_at-requires-clause-begun : goal.finish_at-requires-clause-begun
finish_at-requires-clause-begun g c =
    let o = opening_of opening_in c.args.desk.now.turn.now in
    let v = view c.args.desk.now.pass in
    let q = opening_of opening_in c.begin_call.new.desk.turn.now in
    let u = view c.begin_call.new.desk.pass in
    let old = c.args.prepared.job in
    let e = c.begin_call.ensures in
    let made = c.into_job.result in
    let j = job_as g.D.Die.seen (core_seen (core_of g.D.Die.seen) o u) c.args.lane old c.begin_call.new.prepared.job made (begun_ok c.in_ok-beginning.beginning) c.into_job.ensures c.in_ok-beginning.ensures.job in
    begun_there g.D.Die.seen o q v u c.args.lane old.request c.in-Started.side old made c.in_ok-beginning.beginning e.turn.1 c.in-Started.is c.requires.lambda c.in_ok-beginning.ensures.did j

pub finish_at-requires-clause-small : goal.finish_at-requires-clause-small
finish_at-requires-clause-small g c =
    subst (λ z. IsSmall z.value) (sym c.begin_call.ensures.turn.1) c.requires.small

pub returns-in-Started-clause-did : goal.returns-in-Started-clause-did
returns-in-Started-clause-did g c =
    let o = opening_of opening_in c.args.desk.now.turn.now in
    let v = view c.args.desk.now.pass in
    let q = opening_of opening_in c.begin_call.new.desk.turn.now in
    let u = view c.begin_call.new.desk.pass in
    let old = c.args.prepared.job in
    let e = c.begin_call.ensures in
    let made = c.into_job.result in
    let j = job_as g.D.Die.seen (core_seen (core_of g.D.Die.seen) o u) c.args.lane old c.begin_call.new.prepared.job made (begun_ok c.in_ok-beginning.beginning) c.into_job.ensures c.in_ok-beginning.ensures.job in
    let w = view c.finish_at.new.desk.pass in
    begun_call g.D.Die.seen (AreOf (Lane c.args.lane)) o q v u w c.args.lane old.request made.request c.in-Started.side c.in_ok-beginning.beginning c.finish_at.result (takes_own c.args.lane) e.turn.1
    (asked_there g.D.Die.seen o v u c.args.lane old.request c.in-Started.side old made c.in_ok-beginning.beginning c.in-Started.is c.in_ok-beginning.ensures.did j) c.in-Started.is c.in_ok-beginning.ensures.did c.finish_at.ensures.did

pub returns-in-Started-clause-numbered : goal.returns-in-Started-clause-numbered
returns-in-Started-clause-numbered g c =
    let o = opening_of opening_in c.args.desk.now.turn.now in
    let v = view c.args.desk.now.pass in
    let q = opening_of opening_in c.begin_call.new.desk.turn.now in
    let u = view c.begin_call.new.desk.pass in
    let old = c.args.prepared.job in
    let e = c.begin_call.ensures in
    let made = c.into_job.result in
    let j = job_as g.D.Die.seen (core_seen (core_of g.D.Die.seen) o u) c.args.lane old c.begin_call.new.prepared.job made (begun_ok c.in_ok-beginning.beginning) c.into_job.ensures c.in_ok-beginning.ensures.job in
    let w = view c.finish_at.new.desk.pass in
    λ n is. numbered_as g.D.Die.seen o q w c.args.lane made.request old.request n e.turn.1
    (asked_there g.D.Die.seen o v u c.args.lane old.request c.in-Started.side old made c.in_ok-beginning.beginning c.in-Started.is c.in_ok-beginning.ensures.did j) (c.finish_at.ensures.numbered n is)
