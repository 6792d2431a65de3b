use Rattle.std.proofs.Common.{◌+◌, refl, sym, subst, Ok}
use Rattle.core_state.specs.declared.actor.Actor.TheVariants.{Closer}
use Rattle.core_state.specs.declared.event.Event.TheVariants.{DieOut, FlushOut}
use Rattle.core_state.specs.declared.event.Purpose.TheVariants.{Meta}
use Rattle.core_state.specs.State.{ToFlush, ToMeta}
use Rattle.core_state.specs.Happens.{IsClosing}
use Rattle.system_state.specs.Cores.{core_of}
use Rattle.desk_turns.specs.Passing.{ActsFor, core_seen, Turn, Does}
use Rattle.page_steps.specs.Flushing.{IsInHand}
use Rattle.page_steps.proofs.FlushSteps.{acts_on}
use Rattle.settling.specs.Next.{NextSays}
use Rattle.settling.specs.Steps.{StepSays}
use Rattle.settling.specs.declared.next.Next.TheVariants.{Block, Meta as PageOut, Busy, Stored}
use Rattle.settling.proofs.Stepping.{going_closing, block_step, page_step, waits_step, done_step, step_worn, home_worn}
use Rattle.settling.proofs.step.settle_step.Goals as goal

pub block_home-requires-clause-acts : goal.block_home-requires-clause-acts
block_home-requires-clause-acts g c =
    let e = c.in-Block.errand in
    let o = g.K.Desk.opening c.args.desk.now in
    let v = g.K.Desk.view c.args.desk.now in
    let u = g.K.Desk.view c.turn_next.new.desk in
    let P = NextSays c.turn_next.new.into (Block e) in
    let t = subst (λ r. Turn (core_of g.D.Die.seen) o v u (NextSays c.turn_next.new.into r)) c.in-Block.is c.in_ok-next.ensures.did in
    subst (λ z. ActsFor (core_of g.D.Die.seen) z u Closer) (sym c.turn_next.ensures.turn.1) (acts_on g.D.Die.seen o v u Closer P t c.requires.acts)

pub block_home-requires-clause-closing : goal.block_home-requires-clause-closing
block_home-requires-clause-closing g c =
    let e = c.in-Block.errand in
    let o = g.K.Desk.opening c.args.desk.now in
    let v = g.K.Desk.view c.args.desk.now in
    let u = g.K.Desk.view c.turn_next.new.desk in
    let P = NextSays c.turn_next.new.into (Block e) in
    let t = subst (λ r. Turn (core_of g.D.Die.seen) o v u (NextSays c.turn_next.new.into r)) c.in-Block.is c.in_ok-next.ensures.did in
    subst (λ z. IsClosing (core_seen (core_of g.D.Die.seen) z u)) (sym c.turn_next.ensures.turn.1) (going_closing g.D.Die.seen o v u P (FlushOut Closer e.number e.subject) t t.says.0 c.requires.acts c.in_ok-next.ensures.coherent c.requires.may)

pub block_home-requires-clause-errand : goal.block_home-requires-clause-errand
block_home-requires-clause-errand g c =
    let e = c.in-Block.errand in
    let h = c.in_ok-next.ensures.block e (cc) in
    (h.0, (h.1.0, subst (λ z. IsInHand g.D.Die.seen z (g.K.Desk.view c.turn_next.new.desk).seen Closer (ToFlush e.subject h.1.0 c.turn_next.new.into) (z.value.sizes.meta + e.subject) e) (sym c.turn_next.ensures.turn.1) h.1.1))

pub page_home-requires-clause-acts : goal.page_home-requires-clause-acts
page_home-requires-clause-acts g c =
    let e = c.in-Meta.errand in
    let o = g.K.Desk.opening c.args.desk.now in
    let v = g.K.Desk.view c.args.desk.now in
    let u = g.K.Desk.view c.turn_next.new.desk in
    let P = NextSays c.turn_next.new.into (PageOut e) in
    let t = subst (λ r. Turn (core_of g.D.Die.seen) o v u (NextSays c.turn_next.new.into r)) c.in-Meta.is c.in_ok-next.ensures.did in
    subst (λ z. ActsFor (core_of g.D.Die.seen) z u Closer) (sym c.turn_next.ensures.turn.1) (acts_on g.D.Die.seen o v u Closer P t c.requires.acts)

pub page_home-requires-clause-closing : goal.page_home-requires-clause-closing
page_home-requires-clause-closing g c =
    let e = c.in-Meta.errand in
    let o = g.K.Desk.opening c.args.desk.now in
    let v = g.K.Desk.view c.args.desk.now in
    let u = g.K.Desk.view c.turn_next.new.desk in
    let P = NextSays c.turn_next.new.into (PageOut e) in
    let t = subst (λ r. Turn (core_of g.D.Die.seen) o v u (NextSays c.turn_next.new.into r)) c.in-Meta.is c.in_ok-next.ensures.did in
    subst (λ z. IsClosing (core_seen (core_of g.D.Die.seen) z u)) (sym c.turn_next.ensures.turn.1) (going_closing g.D.Die.seen o v u P (DieOut Closer e.number (Meta e.subject c.turn_next.new.into)) t t.says.0 c.requires.acts c.in_ok-next.ensures.coherent c.requires.may)

pub page_home-requires-clause-errand : goal.page_home-requires-clause-errand
page_home-requires-clause-errand g c =
    let e = c.in-Meta.errand in
    let h = c.in_ok-next.ensures.page e (cc) in
    (h.0, subst (λ z. IsInHand g.D.Die.seen z (g.K.Desk.view c.turn_next.new.desk).seen Closer (ToMeta e.subject c.turn_next.new.into) e.subject e) (sym c.turn_next.ensures.turn.1) h.1)

pub returns-in_ok-good-in-Block-clause-did : goal.returns-in_ok-good-in-Block-clause-did
returns-in_ok-good-in-Block-clause-did g c =
    let e = c.in-Block.errand in
    let o = g.K.Desk.opening c.args.desk.now in
    let v = g.K.Desk.view c.args.desk.now in
    let u = g.K.Desk.view c.turn_next.new.desk in
    let w = g.K.Desk.view c.block_home.new.desk in
    let t = subst (λ r. Turn (core_of g.D.Die.seen) o v u (NextSays c.turn_next.new.into r)) c.in-Block.is c.in_ok-next.ensures.did in
    subst (λ r. Does v w (StepSays g.D.Die.seen o v w (Ok r))) (sym c.stepped.ensures)
    (block_step g.D.Die.seen o (g.K.Desk.opening c.turn_next.new.desk) v u w c.turn_next.new.into e c.in_ok-good-in-Block.good c.turn_next.ensures.turn.1 c.requires.acts c.requires.may c.in_ok-next.ensures.coherent t c.in_ok-good-in-Block.ensures.did c.in_ok-good-in-Block.ensures.failed)

pub returns-in_ok-good-in-Meta-clause-did : goal.returns-in_ok-good-in-Meta-clause-did
returns-in_ok-good-in-Meta-clause-did g c =
    let e = c.in-Meta.errand in
    let o = g.K.Desk.opening c.args.desk.now in
    let v = g.K.Desk.view c.args.desk.now in
    let u = g.K.Desk.view c.turn_next.new.desk in
    let w = g.K.Desk.view c.page_home.new.desk in
    let t = subst (λ r. Turn (core_of g.D.Die.seen) o v u (NextSays c.turn_next.new.into r)) c.in-Meta.is c.in_ok-next.ensures.did in
    let h = c.in_ok-next.ensures.page e (cc) in
    subst (λ r. Does v w (StepSays g.D.Die.seen o v w (Ok r))) (sym c.stepped-in-Meta.ensures)
    (page_step g.D.Die.seen o (g.K.Desk.opening c.turn_next.new.desk) v u w c.turn_next.new.into e c.in_ok-good-in-Meta.good c.turn_next.ensures.turn.1 c.requires.acts c.requires.may c.in_ok-next.ensures.coherent t h.1 c.in_ok-good-in-Meta.ensures.did c.in_ok-good-in-Meta.ensures.failed)

pub returns-in-Busy-clause-did : goal.returns-in-Busy-clause-did
returns-in-Busy-clause-did g c =
    let o = g.K.Desk.opening c.args.desk.now in
    let v = g.K.Desk.view c.args.desk.now in
    let u = g.K.Desk.view c.turn_next.new.desk in
    let t = subst (λ r. Turn (core_of g.D.Die.seen) o v u (NextSays c.turn_next.new.into r)) c.in-Busy.is c.in_ok-next.ensures.did in
    waits_step g.D.Die.seen o v u c.turn_next.new.into c.in-Busy.die c.requires.acts c.requires.may c.in_ok-next.ensures.coherent t

pub returns-in-Stored-clause-did : goal.returns-in-Stored-clause-did
returns-in-Stored-clause-did g c =
    let o = g.K.Desk.opening c.args.desk.now in
    let v = g.K.Desk.view c.args.desk.now in
    let u = g.K.Desk.view c.turn_next.new.desk in
    let t = subst (λ r. Turn (core_of g.D.Die.seen) o v u (NextSays c.turn_next.new.into r)) c.in-Stored.is c.in_ok-next.ensures.did in
    done_step g.D.Die.seen o v u c.turn_next.new.into c.requires.acts c.requires.may c.in_ok-next.ensures.coherent t

pub returns-in_err-good-in-Block-clause-did : goal.returns-in_err-good-in-Block-clause-did
returns-in_err-good-in-Block-clause-did g c =
    let e = c.in-Block.errand in
    let o = g.K.Desk.opening c.args.desk.now in
    let v = g.K.Desk.view c.args.desk.now in
    let u = g.K.Desk.view c.turn_next.new.desk in
    let w = g.K.Desk.view c.block_home.new.desk in
    let t = subst (λ r. Turn (core_of g.D.Die.seen) o v u (NextSays c.turn_next.new.into r)) c.in-Block.is c.in_ok-next.ensures.did in
    home_worn g.D.Die.seen o v u w (NextSays c.turn_next.new.into (Block e)) (FlushOut Closer e.number e.subject) c.from_residual-in_err-good-in-Block.result c.from_residual-in_err-good-in-Block.ensures.0 t t.says.0 refl c.in_err-good-in-Block.ensures.went

pub returns-in_err-good-in-Meta-clause-did : goal.returns-in_err-good-in-Meta-clause-did
returns-in_err-good-in-Meta-clause-did g c =
    let e = c.in-Meta.errand in
    let o = g.K.Desk.opening c.args.desk.now in
    let v = g.K.Desk.view c.args.desk.now in
    let u = g.K.Desk.view c.turn_next.new.desk in
    let w = g.K.Desk.view c.page_home.new.desk in
    let t = subst (λ r. Turn (core_of g.D.Die.seen) o v u (NextSays c.turn_next.new.into r)) c.in-Meta.is c.in_ok-next.ensures.did in
    home_worn g.D.Die.seen o v u w (NextSays c.turn_next.new.into (PageOut e)) (DieOut Closer e.number (Meta e.subject c.turn_next.new.into)) c.from_residual-in_err-good-in-Meta.result c.from_residual-in_err-good-in-Meta.ensures.0 t t.says.0 refl c.in_err-good-in-Meta.ensures.went

pub returns-in_err-next-clause-did : goal.returns-in_err-next-clause-did
returns-in_err-next-clause-did g c = step_worn g.D.Die.seen (g.K.Desk.opening c.args.desk.now) (g.K.Desk.view c.args.desk.now) (g.K.Desk.view c.turn_next.new.desk) c.from_residual.result c.from_residual.ensures.0 c.in_err-next.ensures.went
