use Rattle.std.proofs.Common.{sym, subst}
use Rattle.turn_cell.specs.Passes.{opening_of, view}
use Rattle.core_state.specs.declared.actor.Actor.TheVariants.{Lane}
use Rattle.system_state.specs.Cores.{core_of}
use Rattle.desk_turns.specs.Passing.{ActsFor}
use Rattle.call_starts.specs.Books.{opening_in}
use Rattle.call_starts.specs.Words.{IsSmall}
use Rattle.call_starts.proofs.Ending.{acts_after}
use Rattle.data_calls.proofs.Whole.{start_worn, ended_call, ended_told, begun_there, asked_there, begun_call, numbered_as}
use Rattle.data_calls.proofs.data.prepared_call.Goals as goal

pub returns-in_err-beginning-clause-did : goal.returns-in_err-beginning-clause-did
returns-in_err-beginning-clause-did g c =
    let o = opening_of opening_in c.args.desk.now.turn.now in
    let v = view c.args.desk.now.pass in
    let q = opening_of opening_in c.begin_call.new.desk.turn.now in
    let u = view c.begin_call.new.desk.pass in
    let old = c.args.prepared.now.job in
    let e = c.begin_call.ensures in
    start_worn g.D.Die.seen o v u c.args.lane old.request c.in_err-beginning.field-0.0 c.from_residual.result c.from_residual.ensures.0 c.in_err-beginning.ensures.did

pub returns-in-Ended-clause-did : goal.returns-in-Ended-clause-did
returns-in-Ended-clause-did g c =
    let o = opening_of opening_in c.args.desk.now.turn.now in
    let v = view c.args.desk.now.pass in
    let q = opening_of opening_in c.begin_call.new.desk.turn.now in
    let u = view c.begin_call.new.desk.pass in
    let old = c.args.prepared.now.job in
    let e = c.begin_call.ensures in
    ended_call g.D.Die.seen o v u c.args.lane old.request c.in_ok-beginning.beginning c.in-Ended.numbered c.in-Ended.is c.in_ok-beginning.ensures.did

pub returns-in-Ended-clause-numbered : goal.returns-in-Ended-clause-numbered
returns-in-Ended-clause-numbered g c =
    λ n is. c.in_ok-beginning.ensures.numbered n (ended_told c.in_ok-beginning.beginning c.in-Ended.numbered n c.in-Ended.is is)

pub finish_call-requires-clause-acts : goal.finish_call-requires-clause-acts
finish_call-requires-clause-acts g c =
    let o = opening_of opening_in c.args.desk.now.turn.now in
    let v = view c.args.desk.now.pass in
    let q = opening_of opening_in c.begin_call.new.desk.turn.now in
    let u = view c.begin_call.new.desk.pass in
    let old = c.args.prepared.now.job in
    let e = c.begin_call.ensures in
    let p = c.in_ok-beginning.ensures.did in
    subst (λ z. ActsFor (core_of g.D.Die.seen) z u (Lane c.args.lane)) (sym e.turn.1) (acts_after g.D.Die.seen o v u (Lane c.args.lane) p.events p.went c.requires.acts)

pub finish_call-requires-clause-begun : goal.finish_call-requires-clause-begun
finish_call-requires-clause-begun g c =
    let o = opening_of opening_in c.args.desk.now.turn.now in
    let v = view c.args.desk.now.pass in
    let q = opening_of opening_in c.begin_call.new.desk.turn.now in
    let u = view c.begin_call.new.desk.pass in
    let old = c.args.prepared.now.job in
    let e = c.begin_call.ensures in
    begun_there g.D.Die.seen o q v u c.args.lane old.request c.in-Started.field-0 old c.begin_call.new.prepared.job c.in_ok-beginning.beginning e.turn.1 c.in-Started.is c.requires.data c.requires.plain c.in_ok-beginning.ensures.did c.in_ok-beginning.ensures.job

pub finish_call-requires-clause-small : goal.finish_call-requires-clause-small
finish_call-requires-clause-small g c =
    subst (λ z. IsSmall z.value) (sym c.begin_call.ensures.turn.1) c.requires.small

pub returns-in-Started-clause-did : goal.returns-in-Started-clause-did
returns-in-Started-clause-did g c =
    let o = opening_of opening_in c.args.desk.now.turn.now in
    let v = view c.args.desk.now.pass in
    let q = opening_of opening_in c.begin_call.new.desk.turn.now in
    let u = view c.begin_call.new.desk.pass in
    let old = c.args.prepared.now.job in
    let e = c.begin_call.ensures in
    let w = view c.finish_call.new.desk.pass in
    begun_call g.D.Die.seen o q v u w c.args.lane old.request c.begin_call.new.prepared.job.request c.in-Started.field-0 c.in_ok-beginning.beginning c.finish_call.result e.turn.1
    (asked_there g.D.Die.seen o v u c.args.lane old.request c.in-Started.field-0 old c.begin_call.new.prepared.job c.in_ok-beginning.beginning c.in-Started.is c.in_ok-beginning.ensures.did c.in_ok-beginning.ensures.job) c.in-Started.is c.in_ok-beginning.ensures.did c.finish_call.ensures.did

pub returns-in-Started-clause-numbered : goal.returns-in-Started-clause-numbered
returns-in-Started-clause-numbered g c =
    let o = opening_of opening_in c.args.desk.now.turn.now in
    let v = view c.args.desk.now.pass in
    let q = opening_of opening_in c.begin_call.new.desk.turn.now in
    let u = view c.begin_call.new.desk.pass in
    let old = c.args.prepared.now.job in
    let e = c.begin_call.ensures in
    let w = view c.finish_call.new.desk.pass in
    λ n is. numbered_as g.D.Die.seen o q w c.args.lane c.begin_call.new.prepared.job.request old.request n e.turn.1
    (asked_there g.D.Die.seen o v u c.args.lane old.request c.in-Started.field-0 old c.begin_call.new.prepared.job c.in_ok-beginning.beginning c.in-Started.is c.in_ok-beginning.ensures.did c.in_ok-beginning.ensures.job) (c.finish_call.ensures.numbered n is)
