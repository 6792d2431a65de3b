use Rattle.std.proofs.Common.{sym, subst}
use Rattle.turn_cell.specs.Passes.{opening_of, view}
use Rattle.core_state.specs.declared.actor.Actor.TheVariants.{Lane}
use Rattle.system_state.specs.Cores.{core_of}
use Rattle.desk_turns.specs.Passing.{core_seen}
use Rattle.call_finishes.specs.Books.{opening_in}
use Rattle.call_finishes.specs.Words.{IsSmall}
use Rattle.call_finishes.proofs.Ending.{acts_still}
use Rattle.lambda_finishes.proofs.Sending.{may_submit, suits_queued, does_send, drive_on, sent_worn, out_after, number_after}
use Rattle.lambda_finishes.proofs.drive.finish_at_drive.Goals as goal

pub turn_submit-requires-clause-hands : goal.turn_submit-requires-clause-hands
turn_submit-requires-clause-hands g c = c.requires.begun.gathering.between.none

pub turn_submit-requires-clause-may : goal.turn_submit-requires-clause-may
turn_submit-requires-clause-may g c =
    may_submit (core_seen (core_of g.D.Die.seen) (opening_of opening_in c.args.desk.now.turn.now) (view c.args.desk.now.pass)) c.args.lane c.args.job c.requires.begun

pub turn_submit-requires-clause-job : goal.turn_submit-requires-clause-job
turn_submit-requires-clause-job g c =
    suits_queued (core_seen (core_of g.D.Die.seen) (opening_of opening_in c.args.desk.now.turn.now) (view c.args.desk.now.pass)) c.args.lane c.args.job c.requires.begun

pub collect-requires-clause-acts : goal.collect-requires-clause-acts
collect-requires-clause-acts g c =
    let o = opening_of opening_in c.args.desk.now.turn.now in
    let v = view c.args.desk.now.pass in
    let u = view c.turn_submit.new.desk.pass in
    let p = does_send g.D.Die.seen o v u c.args.lane c.args.job c.requires.acts c.requires.begun c.in_ok-turn_submit.ensures.did in
    acts_still g.D.Die.seen o (opening_of opening_in c.turn_submit.new.desk.turn.now) v u (Lane c.args.lane) _ c.turn_submit.ensures.turn.1 p c.requires.acts

pub collect-requires-clause-out : goal.collect-requires-clause-out
collect-requires-clause-out g c =
    let o = opening_of opening_in c.args.desk.now.turn.now in
    let v = view c.args.desk.now.pass in
    let u = view c.turn_submit.new.desk.pass in
    let p = does_send g.D.Die.seen o v u c.args.lane c.args.job c.requires.acts c.requires.begun c.in_ok-turn_submit.ensures.did in
    out_after g.D.Die.seen o (opening_of opening_in c.turn_submit.new.desk.turn.now) v u c.args.lane c.args.job.request c.turn_submit.ensures.turn.1 p

pub collect-requires-clause-small : goal.collect-requires-clause-small
collect-requires-clause-small g c = subst (λ z. IsSmall z.value) (sym c.turn_submit.ensures.turn.1) c.requires.small

pub returns-clause-did : goal.returns-clause-did
returns-clause-did g c =
    let o = opening_of opening_in c.args.desk.now.turn.now in
    let v = view c.args.desk.now.pass in
    let u = view c.turn_submit.new.desk.pass in
    let p = does_send g.D.Die.seen o v u c.args.lane c.args.job c.requires.acts c.requires.begun c.in_ok-turn_submit.ensures.did in
    drive_on g.D.Die.seen o (opening_of opening_in c.turn_submit.new.desk.turn.now) v u (view c.collect.new.desk.pass) c.args.lane c.args.job.request c.collect.result c.turn_submit.ensures.turn.1 p c.collect.ensures.did

pub returns-clause-numbered : goal.returns-clause-numbered
returns-clause-numbered g c = λ n is.
    let o = opening_of opening_in c.args.desk.now.turn.now in
    let v = view c.args.desk.now.pass in
    let u = view c.turn_submit.new.desk.pass in
    let p = does_send g.D.Die.seen o v u c.args.lane c.args.job c.requires.acts c.requires.begun c.in_ok-turn_submit.ensures.did in
    number_after g.D.Die.seen o (opening_of opening_in c.turn_submit.new.desk.turn.now) v u (view c.collect.new.desk.pass) c.args.lane c.args.job.request n c.turn_submit.ensures.turn.1 p (c.collect.ensures.numbered n is)

pub returns-in_err-turn_submit-clause-did : goal.returns-in_err-turn_submit-clause-did
returns-in_err-turn_submit-clause-did g c =
    sent_worn g.D.Die.seen (opening_of opening_in c.args.desk.now.turn.now) (view c.args.desk.now.pass) (view c.turn_submit.new.desk.pass) c.args.lane c.args.job.request c.from_residual.result c.from_residual.ensures.0 c.in_err-turn_submit.ensures.went
