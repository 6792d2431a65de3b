use Rattle.std.proofs.Common.{true, Ok, subst}
use Rattle.system_state.specs.Cores.{core_of}
use Rattle.desk_turns.specs.Passing.{Turn}
use Rattle.quick_calls.specs.LaneTurns.{SkipSays}
use Rattle.call_begins.specs.declared.step.BeginStep.TheVariants.{Ended, Waits}
use Rattle.call_begins.proofs.Stepping.{skipped_step, awaits_step, skipped_told, begins_at}
use Rattle.call_begins.proofs.step.step_marked.Goals as goal

pub returns-in-Ok-clause-did : goal.returns-in-Ok-clause-did
returns-in-Ok-clause-did g c =
    let o = g.K.Desk.opening c.args.desk.now in
    let v = g.K.Desk.view c.args.desk.now in
    let u = g.K.Desk.view c.turn_skip.new.desk in
    let t = subst (λ r. Turn (core_of g.D.Die.seen) o v u (SkipSays c.args.lane c.args.request.now true r)) c.in-Ok.is c.in_ok-answer.ensures.did in
    skipped_step g.D.Die.seen o v u c.args.lane c.args.request.now c.in-Ok.numbered c.requires.acts c.requires.lane t

pub returns-in-Ok-clause-numbered : goal.returns-in-Ok-clause-numbered
returns-in-Ok-clause-numbered g c = λ n is. c.in_ok-answer.ensures.numbered n (skipped_told c.in_ok-answer.answer c.in-Ok.numbered n c.in-Ok.is is)

pub returns-in-Err-clause-did : goal.returns-in-Err-clause-did
returns-in-Err-clause-did g c =
    let o = g.K.Desk.opening c.args.desk.now in
    let v = g.K.Desk.view c.args.desk.now in
    let u = g.K.Desk.view c.turn_skip.new.desk in
    let t = subst (λ r. Turn (core_of g.D.Die.seen) o v u (SkipSays c.args.lane c.args.request.now true r)) c.in-Err.is c.in_ok-answer.ensures.did in
    awaits_step g.D.Die.seen o v u c.args.lane c.args.request.now c.in-Err.field-0 c.requires.acts c.requires.lane t

pub returns-in-Ok-clause-begins : goal.returns-in-Ok-clause-begins
returns-in-Ok-clause-begins g c =
    let o = g.K.Desk.opening c.args.desk.now in
    let v = g.K.Desk.view c.args.desk.now in
    let u = g.K.Desk.view c.turn_skip.new.desk in
    begins_at g.D.Die.seen o v u (SkipSays c.args.lane c.args.request.now true c.in_ok-answer.answer) (Ok (Ended c.in-Ok.numbered)) c.in_ok-answer.ensures.did

pub returns-in-Err-clause-begins : goal.returns-in-Err-clause-begins
returns-in-Err-clause-begins g c =
    let o = g.K.Desk.opening c.args.desk.now in
    let v = g.K.Desk.view c.args.desk.now in
    let u = g.K.Desk.view c.turn_skip.new.desk in
    begins_at g.D.Die.seen o v u (SkipSays c.args.lane c.args.request.now true c.in_ok-answer.answer) (Ok Waits) c.in_ok-answer.ensures.did
