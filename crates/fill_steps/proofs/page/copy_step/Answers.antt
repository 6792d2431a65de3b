use Rattle.std.proofs.Common.{◌≡◌, sym, subst, Some, None, Ok}
use Rattle.system_state.specs.Cores.{core_of}
use Rattle.system_pages.specs.Events.{copy_event}
use Rattle.desk_turns.specs.Passing.{ActsFor, Turn, Does}
use Rattle.event_turns.specs.PageTurns.{GatherSays, IsFillInHand}
use Rattle.event_turns.proofs.FlushSteps.{acts_on}
use Rattle.fill_steps.specs.Pages.{PageSays}
use Rattle.fill_steps.proofs.Trying.{copied_page, shared_page, waits_page, page_worn, home_worn}
use Rattle.fill_steps.proofs.page.copy_step.Goals as goal

pub fill_home-requires-clause-acts : goal.fill_home-requires-clause-acts
fill_home-requires-clause-acts g c =
    let o = g.K.Desk.opening c.args.desk.now in
    let v = g.K.Desk.view c.args.desk.now in
    let u = g.K.Desk.view c.turn_copy.new.desk in
    let e = c.in-Ok-Some.errand in
    let is : c.in_ok-answer.answer ≡ Ok (Some e) = cc in
    let t = subst (λ r. Turn (core_of g.D.Die.seen) o v u (GatherSays (copy_event c.args.actor c.args.lane c.args.i) c.args.lane c.args.i c.args.page.now c.turn_copy.new.into r)) is c.in_ok-answer.ensures.did in
    subst (λ z. ActsFor (core_of g.D.Die.seen) z u c.args.actor) (sym c.turn_copy.ensures.turn.1) (acts_on g.D.Die.seen o v u c.args.actor (GatherSays (copy_event c.args.actor c.args.lane c.args.i) c.args.lane c.args.i c.args.page.now c.turn_copy.new.into (Ok (Some e))) t c.requires.acts)

pub fill_home-requires-clause-errand : goal.fill_home-requires-clause-errand
fill_home-requires-clause-errand g c =
    let e = c.in-Ok-Some.errand in
    let h = c.in_ok-answer.ensures.out e (cc) in
    (h.0, subst (λ z. IsFillInHand g.D.Die.seen z (g.K.Desk.view c.turn_copy.new.desk).seen c.args.actor c.args.lane c.args.i e) (sym c.turn_copy.ensures.turn.1) h.1)

pub returns-in-Ok-None-clause-did : goal.returns-in-Ok-None-clause-did
returns-in-Ok-None-clause-did g c =
    let o = g.K.Desk.opening c.args.desk.now in
    let v = g.K.Desk.view c.args.desk.now in
    let u = g.K.Desk.view c.turn_copy.new.desk in
    let is : c.in_ok-answer.answer ≡ Ok None = cc in
    let t = subst (λ r. Turn (core_of g.D.Die.seen) o v u (GatherSays (copy_event c.args.actor c.args.lane c.args.i) c.args.lane c.args.i c.args.page.now c.turn_copy.new.into r)) is c.in_ok-answer.ensures.did in
    copied_page g.D.Die.seen o v u c.args.actor c.args.lane c.args.i c.args.page.now c.turn_copy.new.into c.requires.acts c.requires.at t

pub returns-in-Err-clause-did : goal.returns-in-Err-clause-did
returns-in-Err-clause-did g c =
    let o = g.K.Desk.opening c.args.desk.now in
    let v = g.K.Desk.view c.args.desk.now in
    let u = g.K.Desk.view c.turn_copy.new.desk in
    let t = subst (λ r. Turn (core_of g.D.Die.seen) o v u (GatherSays (copy_event c.args.actor c.args.lane c.args.i) c.args.lane c.args.i c.args.page.now c.turn_copy.new.into r)) c.in-Err.is c.in_ok-answer.ensures.did in
    waits_page g.D.Die.seen o v u (copy_event c.args.actor c.args.lane c.args.i) c.args.actor c.args.lane c.args.i _ c.args.page.now c.turn_copy.new.into c.in-Err.field-0 c.requires.acts c.requires.at t

pub returns-in_ok-good-in-Ok-Some-clause-did : goal.returns-in_ok-good-in-Ok-Some-clause-did
returns-in_ok-good-in-Ok-Some-clause-did g c =
    let o = g.K.Desk.opening c.args.desk.now in
    let v = g.K.Desk.view c.args.desk.now in
    let u = g.K.Desk.view c.turn_copy.new.desk in
    let w = g.K.Desk.view c.fill_home.new.desk in
    let e = c.in-Ok-Some.errand in
    let is : c.in_ok-answer.answer ≡ Ok (Some e) = cc in
    let t = subst (λ r. Turn (core_of g.D.Die.seen) o v u (GatherSays (copy_event c.args.actor c.args.lane c.args.i) c.args.lane c.args.i c.args.page.now c.turn_copy.new.into r)) is c.in_ok-answer.ensures.did in
    subst (λ r. Does v w (PageSays g.D.Die.seen o v w c.args.actor c.args.lane c.args.i c.fill_home.new.page (Ok r))) (sym c.put_in.ensures)
    (shared_page g.D.Die.seen o (g.K.Desk.opening c.turn_copy.new.desk) v u w c.args.actor c.args.lane c.args.i c.args.page.now c.turn_copy.new.into c.fill_home.new.page e c.in_ok-good-in-Ok-Some.good c.turn_copy.ensures.turn.1 c.requires.acts c.requires.at t c.in_ok-good-in-Ok-Some.ensures.did c.in_ok-good-in-Ok-Some.ensures.failed)

pub returns-in_err-good-in-Ok-Some-clause-did : goal.returns-in_err-good-in-Ok-Some-clause-did
returns-in_err-good-in-Ok-Some-clause-did g c =
    let o = g.K.Desk.opening c.args.desk.now in
    let v = g.K.Desk.view c.args.desk.now in
    let u = g.K.Desk.view c.turn_copy.new.desk in
    let w = g.K.Desk.view c.fill_home.new.desk in
    let e = c.in-Ok-Some.errand in
    let is : c.in_ok-answer.answer ≡ Ok (Some e) = cc in
    let t = subst (λ r. Turn (core_of g.D.Die.seen) o v u (GatherSays (copy_event c.args.actor c.args.lane c.args.i) c.args.lane c.args.i c.args.page.now c.turn_copy.new.into r)) is c.in_ok-answer.ensures.did in
    home_worn g.D.Die.seen o v u w (GatherSays (copy_event c.args.actor c.args.lane c.args.i) c.args.lane c.args.i c.args.page.now c.turn_copy.new.into (Ok (Some e))) c.args.actor c.args.lane c.args.i e.number c.fill_home.new.page c.from_residual-in_err-good-in-Ok-Some.result c.from_residual-in_err-good-in-Ok-Some.ensures.0 t t.says.0 c.in_err-good-in-Ok-Some.ensures.went

pub returns-in_err-answer-clause-did : goal.returns-in_err-answer-clause-did
returns-in_err-answer-clause-did g c = page_worn g.D.Die.seen (g.K.Desk.opening c.args.desk.now) (g.K.Desk.view c.args.desk.now) (g.K.Desk.view c.turn_copy.new.desk) c.args.actor c.args.lane c.args.i c.turn_copy.new.into c.from_residual.result c.from_residual.ensures.0 c.in_err-answer.ensures.went
