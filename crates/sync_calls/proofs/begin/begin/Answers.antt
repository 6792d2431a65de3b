use Rattle.std.proofs.Common.{inr, sym, subst, ap, ◌∙◌, Ok}
use Rattle.std.specs.Result.{IsErr}
use Rattle.page_base.specs.Drive.{meta_pages}
use Rattle.desk_turns.specs.Passing.{Does}
use Rattle.sync_calls.specs.declared.stages.Stage.TheVariants.{Idle, Flush}
use Rattle.sync_calls.specs.Stages.{StepSays}
use Rattle.sync_calls.proofs.Stepping.{started_step, ended_not, waits_step, step_worn, on_told}
use Rattle.sync_calls.proofs.begin.begin.Goals as goal

pub turn_begin-requires-clause-hands : goal.turn_begin-requires-clause-hands
turn_begin-requires-clause-hands g c = c.requires.at.none

pub turn_begin-requires-clause-idle : goal.turn_begin-requires-clause-idle
turn_begin-requires-clause-idle g c = c.requires.at.idle

pub turn_begin-requires-clause-unmarked : goal.turn_begin-requires-clause-unmarked
turn_begin-requires-clause-unmarked g c = c.requires.at.mark

pub turn_begin-requires-clause-kind : goal.turn_begin-requires-clause-kind
turn_begin-requires-clause-kind g c = inr c.requires.kind

pub begun-requires : goal.begun-requires
begun-requires g c = λ n is. ended_not g.D.Die.seen (g.K.Desk.opening c.args.desk.now) (g.K.Desk.view c.args.desk.now) (g.K.Desk.view c.turn_begin.new.desk) c.args.lane c.args.request.now c.turn_begin.new.picked n c.in_ok-answer.answer (c.in-Ok.is ∙ ap Ok is) c.requires.kind c.in_ok-answer.ensures.did

pub returns-in-Ok-clause-did : goal.returns-in-Ok-clause-did
returns-in-Ok-clause-did g c =
    let o = g.K.Desk.opening c.args.desk.now in
    let v = g.K.Desk.view c.args.desk.now in
    let u = g.K.Desk.view c.turn_begin.new.desk in
    let count = meta_pages o.value.sizes.blocks in
    subst (λ r. Does v u (StepSays g.D.Die.seen o v u c.args.lane c.args.request.now count Idle (Ok r))) (sym c.begun.ensures)
    (started_step g.D.Die.seen o v u c.args.lane c.args.request.now count c.turn_begin.new.picked c.in-Ok.answer c.in_ok-answer.answer c.in-Ok.is c.requires.acts c.requires.kind c.requires.at c.in_ok-answer.ensures.did)

pub returns-in-Ok-clause-open_still : goal.returns-in-Ok-clause-open_still
returns-in-Ok-clause-open_still g c = λ n is. on_told Flush c.begun.result n c.begun.ensures is

pub returns-in-Err-clause-did : goal.returns-in-Err-clause-did
returns-in-Err-clause-did g c =
    let o = g.K.Desk.opening c.args.desk.now in
    let v = g.K.Desk.view c.args.desk.now in
    let u = g.K.Desk.view c.turn_begin.new.desk in
    let count = meta_pages o.value.sizes.blocks in
    waits_step g.D.Die.seen o v u c.args.lane c.args.request.now count c.turn_begin.new.picked c.in-Err.field-0 c.in_ok-answer.answer c.in-Err.is c.requires.acts c.requires.kind c.requires.at c.in_ok-answer.ensures.did

pub returns-in_err-answer-clause-did : goal.returns-in_err-answer-clause-did
returns-in_err-answer-clause-did g c = step_worn g.D.Die.seen (g.K.Desk.opening c.args.desk.now) (g.K.Desk.view c.args.desk.now) (g.K.Desk.view c.turn_begin.new.desk) c.args.lane c.args.request.now (meta_pages (g.K.Desk.opening c.args.desk.now).value.sizes.blocks) Idle c.from_residual.result c.from_residual.ensures.0 c.in_err-answer.ensures.went

pub returns-in_err-answer-clause-open_still : goal.returns-in_err-answer-clause-open_still
returns-in_err-answer-clause-open_still g c = λ n is. let e = c.from_residual.ensures.0 in let z = subst IsErr is e in absurd (cc)
