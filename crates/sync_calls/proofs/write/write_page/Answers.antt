use Rattle.std.proofs.Common.{◌+◌, Ok, refl, sym, subst}
use Rattle.std.specs.Result.{IsErr}
use Rattle.page_base.specs.Drive.{meta_pages}
use Rattle.core_state.specs.declared.actor.Actor.TheVariants.{Lane}
use Rattle.core_state.specs.declared.event.Event.TheVariants.{DieOut}
use Rattle.core_state.specs.declared.event.Purpose.TheVariants.{Meta}
use Rattle.core_state.specs.State.{ToMeta}
use Rattle.system_state.specs.Cores.{core_of}
use Rattle.desk_turns.specs.Passing.{ActsFor, IsItsOwn, core_seen, Turn, Does}
use Rattle.quick_calls.specs.Flushing.{IsInHand}
use Rattle.quick_calls.specs.MetaTurns.{MetaSays}
use Rattle.quick_calls.specs.MetaAnswer.TheVariants.{Sent}
use Rattle.quick_calls.proofs.FlushSteps.{acts_on}
use Rattle.sync_calls.specs.Stages.{StepSays}
use Rattle.sync_calls.specs.declared.stages.Stage.TheVariants.{Store}
use Rattle.sync_calls.proofs.InSync.{may_store}
use Rattle.sync_calls.proofs.Stepping.{page_step, busy_step, unclean_step, step_worn, home_worn, page_own, stored_told}
use Rattle.sync_calls.proofs.write.write_page.Goals as goal

pub turn_meta_out-requires-clause-may : goal.turn_meta_out-requires-clause-may
turn_meta_out-requires-clause-may g c =
    let at = c.requires.at in
    may_store (core_seen (core_of g.D.Die.seen) (g.K.Desk.opening c.args.desk.now) (g.K.Desk.view c.args.desk.now)) c.args.lane at.0 c.args.number at.1.0 at.1.1

pub page_home-requires-clause-acts : goal.page_home-requires-clause-acts
page_home-requires-clause-acts g c =
    let e = c.in-Sent.errand in
    let o = g.K.Desk.opening c.args.desk.now in
    let v = g.K.Desk.view c.args.desk.now in
    let u = g.K.Desk.view c.turn_meta_out.new.desk in
    let t = subst (λ r. Turn (core_of g.D.Die.seen) o v u (MetaSays (Lane c.args.lane) c.args.number c.turn_meta_out.new.into r)) c.in-Sent.is c.in_ok-out.ensures.did in
    subst (λ z. ActsFor (core_of g.D.Die.seen) z u (Lane c.args.lane)) (sym c.turn_meta_out.ensures.turn.1) (acts_on g.D.Die.seen o v u (Lane c.args.lane) (MetaSays (Lane c.args.lane) c.args.number c.turn_meta_out.new.into (Sent e)) t c.requires.acts)

pub page_home-requires-clause-own : goal.page_home-requires-clause-own
page_home-requires-clause-own g c =
    let e = c.in-Sent.errand in
    let o = g.K.Desk.opening c.args.desk.now in
    let v = g.K.Desk.view c.args.desk.now in
    let u = g.K.Desk.view c.turn_meta_out.new.desk in
    let at = c.requires.at in
    let t = subst (λ r. Turn (core_of g.D.Die.seen) o v u (MetaSays (Lane c.args.lane) c.args.number c.turn_meta_out.new.into r)) c.in-Sent.is c.in_ok-out.ensures.did in
    subst (λ z. IsItsOwn (core_seen (core_of g.D.Die.seen) z u) (Lane c.args.lane)) (sym c.turn_meta_out.ensures.turn.1)
    (page_own g.D.Die.seen o v u c.args.lane at.0 c.args.number (MetaSays (Lane c.args.lane) c.args.number c.turn_meta_out.new.into (Sent e)) e.number c.turn_meta_out.new.into t t.says.0 c.requires.acts at.1.1)

pub page_home-requires-clause-errand : goal.page_home-requires-clause-errand
page_home-requires-clause-errand g c =
    let e = c.in-Sent.errand in
    let h = c.in_ok-out.ensures.out e (cc) in
    (h.0, subst (λ z. IsInHand g.D.Die.seen z (g.K.Desk.view c.turn_meta_out.new.desk).seen (Lane c.args.lane) (ToMeta e.subject c.turn_meta_out.new.into) e.subject e) (sym c.turn_meta_out.ensures.turn.1) h.1)

pub returns-in_ok-good-in-Sent-clause-did : goal.returns-in_ok-good-in-Sent-clause-did
returns-in_ok-good-in-Sent-clause-did g c = λ request at.
    let e = c.in-Sent.errand in
    let o = g.K.Desk.opening c.args.desk.now in
    let v = g.K.Desk.view c.args.desk.now in
    let u = g.K.Desk.view c.turn_meta_out.new.desk in
    let w = g.K.Desk.view c.page_home.new.desk in
    let count = meta_pages o.value.sizes.blocks in
    let t = subst (λ r. Turn (core_of g.D.Die.seen) o v u (MetaSays (Lane c.args.lane) c.args.number c.turn_meta_out.new.into r)) c.in-Sent.is c.in_ok-out.ensures.did in
    subst (λ r. Does v w (StepSays g.D.Die.seen o v w c.args.lane request count (Store c.args.number) (Ok r))) (sym c.stored.ensures)
    (page_step g.D.Die.seen o (g.K.Desk.opening c.turn_meta_out.new.desk) v u w c.args.lane request count c.args.number c.turn_meta_out.new.into e c.in_ok-good-in-Sent.good c.turn_meta_out.ensures.turn.1 c.requires.acts c.requires.below at t c.in_ok-good-in-Sent.ensures.did c.in_ok-good-in-Sent.ensures.failed)

pub returns-in-Busy-clause-did : goal.returns-in-Busy-clause-did
returns-in-Busy-clause-did g c = λ request at.
    let o = g.K.Desk.opening c.args.desk.now in
    let v = g.K.Desk.view c.args.desk.now in
    let u = g.K.Desk.view c.turn_meta_out.new.desk in
    let t = subst (λ r. Turn (core_of g.D.Die.seen) o v u (MetaSays (Lane c.args.lane) c.args.number c.turn_meta_out.new.into r)) c.in-Busy.is c.in_ok-out.ensures.did in
    busy_step g.D.Die.seen o v u c.args.lane request (meta_pages o.value.sizes.blocks) c.args.number c.turn_meta_out.new.into c.in-Busy.die c.requires.acts at t

pub returns-in-Unclean-clause-did : goal.returns-in-Unclean-clause-did
returns-in-Unclean-clause-did g c = λ request at.
    let o = g.K.Desk.opening c.args.desk.now in
    let v = g.K.Desk.view c.args.desk.now in
    let u = g.K.Desk.view c.turn_meta_out.new.desk in
    let t = subst (λ r. Turn (core_of g.D.Die.seen) o v u (MetaSays (Lane c.args.lane) c.args.number c.turn_meta_out.new.into r)) c.in-Unclean.is c.in_ok-out.ensures.did in
    unclean_step g.D.Die.seen o v u c.args.lane request (meta_pages o.value.sizes.blocks) c.args.number c.turn_meta_out.new.into c.requires.acts at t

pub returns-in_err-out-clause-did : goal.returns-in_err-out-clause-did
returns-in_err-out-clause-did g c = λ request at.
    step_worn g.D.Die.seen (g.K.Desk.opening c.args.desk.now) (g.K.Desk.view c.args.desk.now) (g.K.Desk.view c.turn_meta_out.new.desk) c.args.lane request (meta_pages (g.K.Desk.opening c.args.desk.now).value.sizes.blocks) (Store c.args.number) c.from_residual.result c.from_residual.ensures.0 c.in_err-out.ensures.went

pub returns-in_err-good-in-Sent-clause-did : goal.returns-in_err-good-in-Sent-clause-did
returns-in_err-good-in-Sent-clause-did g c = λ request at.
    let e = c.in-Sent.errand in
    let o = g.K.Desk.opening c.args.desk.now in
    let v = g.K.Desk.view c.args.desk.now in
    let u = g.K.Desk.view c.turn_meta_out.new.desk in
    let w = g.K.Desk.view c.page_home.new.desk in
    let t = subst (λ r. Turn (core_of g.D.Die.seen) o v u (MetaSays (Lane c.args.lane) c.args.number c.turn_meta_out.new.into r)) c.in-Sent.is c.in_ok-out.ensures.did in
    home_worn g.D.Die.seen o v u w c.args.lane request (meta_pages o.value.sizes.blocks) (Store c.args.number) (MetaSays (Lane c.args.lane) c.args.number c.turn_meta_out.new.into (Sent e)) (DieOut (Lane c.args.lane) e.number (Meta c.args.number c.turn_meta_out.new.into)) c.from_residual-in_err-good-in-Sent.result c.from_residual-in_err-good-in-Sent.ensures.0 t t.says.0 refl refl c.in_err-good-in-Sent.ensures.went

pub returns-in_ok-good-in-Sent-clause-open_still : goal.returns-in_ok-good-in-Sent-clause-open_still
returns-in_ok-good-in-Sent-clause-open_still g c = λ n is. stored_told c.in_ok-good-in-Sent.good (c.args.number + 1) c.stored.result n c.stored.ensures is

pub returns-in_err-out-clause-open_still : goal.returns-in_err-out-clause-open_still
returns-in_err-out-clause-open_still g c = λ n is. let e = c.from_residual.ensures.0 in let z = subst IsErr is e in absurd (cc)

pub returns-in_err-good-in-Sent-clause-open_still : goal.returns-in_err-good-in-Sent-clause-open_still
returns-in_err-good-in-Sent-clause-open_still g c = λ n is. let e = c.from_residual-in_err-good-in-Sent.ensures.0 in let z = subst IsErr is e in absurd (cc)
