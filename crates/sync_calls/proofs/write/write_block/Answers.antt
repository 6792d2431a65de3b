use Rattle.std.proofs.Common.{◌+◌, Ok, refl, sym, subst}
use Rattle.std.specs.Result.{IsErr}
use Rattle.page_base.specs.Drive.{meta_pages}
use Rattle.core_state.specs.declared.actor.Actor.TheVariants.{Lane}
use Rattle.core_state.specs.declared.event.Event.TheVariants.{FlushOut}
use Rattle.core_state.specs.State.{ToFlush}
use Rattle.system_state.specs.Cores.{core_of}
use Rattle.desk_turns.specs.Passing.{ActsFor, IsItsOwn, core_seen, Turn, Does}
use Rattle.quick_calls.specs.Flushing.{IsInHand, OutSays}
use Rattle.quick_calls.proofs.FlushSteps.{acts_on}
use Rattle.sync_calls.specs.Stages.{StepSays}
use Rattle.sync_calls.specs.declared.stages.Stage.TheVariants.{Flush}
use Rattle.sync_calls.proofs.InSync.{may_flush}
use Rattle.sync_calls.proofs.Stepping.{block_step, refused_step, step_worn, home_worn, out_own, flushed_told, refused_told}
use Rattle.sync_calls.proofs.write.write_block.Goals as goal

pub turn_flush_out-requires-clause-may : goal.turn_flush_out-requires-clause-may
turn_flush_out-requires-clause-may g c =
    let at = c.requires.at in
    may_flush (core_seen (core_of g.D.Die.seen) (g.K.Desk.opening c.args.desk.now) (g.K.Desk.view c.args.desk.now)) c.args.lane at.0 0 at.1.0 at.1.1

pub block_home-requires-clause-acts : goal.block_home-requires-clause-acts
block_home-requires-clause-acts g c =
    let e = c.in-Ok.errand in
    let o = g.K.Desk.opening c.args.desk.now in
    let v = g.K.Desk.view c.args.desk.now in
    let u = g.K.Desk.view c.turn_flush_out.new.desk in
    let t = subst (λ r. Turn (core_of g.D.Die.seen) o v u (OutSays (Lane c.args.lane) c.turn_flush_out.new.into r)) c.in-Ok.is c.in_ok-answer.ensures.did in
    subst (λ z. ActsFor (core_of g.D.Die.seen) z u (Lane c.args.lane)) (sym c.turn_flush_out.ensures.turn.1) (acts_on g.D.Die.seen o v u (Lane c.args.lane) (OutSays (Lane c.args.lane) c.turn_flush_out.new.into (Ok e)) t c.requires.acts)

pub block_home-requires-clause-own : goal.block_home-requires-clause-own
block_home-requires-clause-own g c =
    let e = c.in-Ok.errand in
    let o = g.K.Desk.opening c.args.desk.now in
    let v = g.K.Desk.view c.args.desk.now in
    let u = g.K.Desk.view c.turn_flush_out.new.desk in
    let at = c.requires.at in
    let t = subst (λ r. Turn (core_of g.D.Die.seen) o v u (OutSays (Lane c.args.lane) c.turn_flush_out.new.into r)) c.in-Ok.is c.in_ok-answer.ensures.did in
    subst (λ z. IsItsOwn (core_seen (core_of g.D.Die.seen) z u) (Lane c.args.lane)) (sym c.turn_flush_out.ensures.turn.1)
    (out_own g.D.Die.seen o v u c.args.lane at.0 0 (OutSays (Lane c.args.lane) c.turn_flush_out.new.into (Ok e)) e.number e.subject t t.says.0 c.requires.acts at.1.1)

pub block_home-requires-clause-errand : goal.block_home-requires-clause-errand
block_home-requires-clause-errand g c =
    let e = c.in-Ok.errand in
    let h = c.in_ok-answer.ensures.out e (cc) in
    (h.0, (h.1.0, subst (λ z. IsInHand g.D.Die.seen z (g.K.Desk.view c.turn_flush_out.new.desk).seen (Lane c.args.lane) (ToFlush e.subject h.1.0 c.turn_flush_out.new.into) (z.value.sizes.meta + e.subject) e) (sym c.turn_flush_out.ensures.turn.1) h.1.1))

pub returns-in_ok-good-in-Ok-clause-did : goal.returns-in_ok-good-in-Ok-clause-did
returns-in_ok-good-in-Ok-clause-did g c = λ request at.
    let e = c.in-Ok.errand in
    let o = g.K.Desk.opening c.args.desk.now in
    let v = g.K.Desk.view c.args.desk.now in
    let u = g.K.Desk.view c.turn_flush_out.new.desk in
    let w = g.K.Desk.view c.block_home.new.desk in
    let count = meta_pages o.value.sizes.blocks in
    let t = subst (λ r. Turn (core_of g.D.Die.seen) o v u (OutSays (Lane c.args.lane) c.turn_flush_out.new.into r)) c.in-Ok.is c.in_ok-answer.ensures.did in
    subst (λ r. Does v w (StepSays g.D.Die.seen o v w c.args.lane request count Flush (Ok r))) (sym c.flushed.ensures)
    (block_step g.D.Die.seen o (g.K.Desk.opening c.turn_flush_out.new.desk) v u w c.args.lane request count c.turn_flush_out.new.into e c.in_ok-good-in-Ok.good c.turn_flush_out.ensures.turn.1 c.requires.acts at t c.in_ok-good-in-Ok.ensures.did c.in_ok-good-in-Ok.ensures.failed)

pub returns-in-Err-clause-did : goal.returns-in-Err-clause-did
returns-in-Err-clause-did g c = λ request at.
    let o = g.K.Desk.opening c.args.desk.now in
    let v = g.K.Desk.view c.args.desk.now in
    let u = g.K.Desk.view c.turn_flush_out.new.desk in
    let count = meta_pages o.value.sizes.blocks in
    let t = subst (λ r. Turn (core_of g.D.Die.seen) o v u (OutSays (Lane c.args.lane) c.turn_flush_out.new.into r)) c.in-Err.is c.in_ok-answer.ensures.did in
    subst (λ r. Does v u (StepSays g.D.Die.seen o v u c.args.lane request count Flush (Ok r))) (sym c.refused.ensures)
    (refused_step g.D.Die.seen o v u c.args.lane request count c.turn_flush_out.new.into c.in-Err.y c.requires.acts at t)

pub returns-in_err-answer-clause-did : goal.returns-in_err-answer-clause-did
returns-in_err-answer-clause-did g c = λ request at.
    step_worn g.D.Die.seen (g.K.Desk.opening c.args.desk.now) (g.K.Desk.view c.args.desk.now) (g.K.Desk.view c.turn_flush_out.new.desk) c.args.lane request (meta_pages (g.K.Desk.opening c.args.desk.now).value.sizes.blocks) Flush c.from_residual.result c.from_residual.ensures.0 c.in_err-answer.ensures.went

pub returns-in_err-good-in-Ok-clause-did : goal.returns-in_err-good-in-Ok-clause-did
returns-in_err-good-in-Ok-clause-did g c = λ request at.
    let e = c.in-Ok.errand in
    let o = g.K.Desk.opening c.args.desk.now in
    let v = g.K.Desk.view c.args.desk.now in
    let u = g.K.Desk.view c.turn_flush_out.new.desk in
    let w = g.K.Desk.view c.block_home.new.desk in
    let t = subst (λ r. Turn (core_of g.D.Die.seen) o v u (OutSays (Lane c.args.lane) c.turn_flush_out.new.into r)) c.in-Ok.is c.in_ok-answer.ensures.did in
    home_worn g.D.Die.seen o v u w c.args.lane request (meta_pages o.value.sizes.blocks) Flush (OutSays (Lane c.args.lane) c.turn_flush_out.new.into (Ok e)) (FlushOut (Lane c.args.lane) e.number e.subject) c.from_residual-in_err-good-in-Ok.result c.from_residual-in_err-good-in-Ok.ensures.0 t t.says.0 refl refl c.in_err-good-in-Ok.ensures.went

pub returns-in_ok-good-in-Ok-clause-open_still : goal.returns-in_ok-good-in-Ok-clause-open_still
returns-in_ok-good-in-Ok-clause-open_still g c = λ n is. flushed_told c.in_ok-good-in-Ok.good c.flushed.result n c.flushed.ensures is

pub returns-in-Err-clause-open_still : goal.returns-in-Err-clause-open_still
returns-in-Err-clause-open_still g c = λ n is. refused_told c.in-Err.y c.refused.result n c.refused.ensures is

pub returns-in_err-answer-clause-open_still : goal.returns-in_err-answer-clause-open_still
returns-in_err-answer-clause-open_still g c = λ n is. let e = c.from_residual.ensures.0 in let z = subst IsErr is e in absurd (cc)

pub returns-in_err-good-in-Ok-clause-open_still : goal.returns-in_err-good-in-Ok-clause-open_still
returns-in_err-good-in-Ok-clause-open_still g c = λ n is. let e = c.from_residual-in_err-good-in-Ok.ensures.0 in let z = subst IsErr is e in absurd (cc)
