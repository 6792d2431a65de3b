use Rattle.std.proofs.Common.{refl, sym, subst, Ok}
use Rattle.core_state.specs.declared.actor.Actor.TheVariants.{Flusher}
use Rattle.core_state.specs.Happens.{HoldsNone}
use Rattle.system_state.specs.Cores.{core_of}
use Rattle.desk_turns.specs.Passing.{ActsFor, core_seen, Does}
use Rattle.desk_turns.proofs.Went.{went_turn}
use Rattle.event_turns.specs.Flushing.{MayFlushNow}
use Rattle.event_turns.specs.LaneTurns.{ClosingSays}
use Rattle.flusher.specs.Flusher.{StepSays}
use Rattle.flusher.proofs.Stepping.{flusher_may, none_then, acts_then, closing_step, flushed_on, step_worn, flush_worn}
use Rattle.flusher.proofs.step.flusher_step.Goals as goal

pub flush_once-requires-clause-acts : goal.flush_once-requires-clause-acts
flush_once-requires-clause-acts g c =
    let o = g.K.Desk.opening c.args.desk.now in
    let v = g.K.Desk.view c.args.desk.now in
    let u = g.K.Desk.view c.turn_closing.new.desk in
    let t = c.in_ok-closes.ensures.did in
    subst (λ z. ActsFor (core_of g.D.Die.seen) z u (Flusher c.args.flusher)) (sym c.turn_closing.ensures.turn.1)
    (acts_then g.D.Die.seen o v u c.args.flusher t.events (went_turn (core_of g.D.Die.seen) o v u (ClosingSays c.in_ok-closes.closes) t) c.requires.acts)

pub flush_once-requires-clause-may : goal.flush_once-requires-clause-may
flush_once-requires-clause-may g c =
    let o = g.K.Desk.opening c.args.desk.now in
    let v = g.K.Desk.view c.args.desk.now in
    let u = g.K.Desk.view c.turn_closing.new.desk in
    let t = c.in_ok-closes.ensures.did in
    subst (λ z. MayFlushNow (core_seen (core_of g.D.Die.seen) z u) (Flusher c.args.flusher)) (sym c.turn_closing.ensures.turn.1)
    (flusher_may (core_seen (core_of g.D.Die.seen) o u) c.args.flusher (none_then g.D.Die.seen o v u c.args.flusher c.in_ok-closes.closes c.requires.acts c.requires.none t))

pub returns-then-closes-clause-did : goal.returns-then-closes-clause-did
returns-then-closes-clause-did g c =
    closing_step g.D.Die.seen (g.K.Desk.opening c.args.desk.now) (g.K.Desk.view c.args.desk.now) (g.K.Desk.view c.turn_closing.new.desk) c.args.flusher c.in_ok-closes.closes c.if-closes.true c.requires.acts c.requires.none c.in_ok-closes.ensures.did

pub returns-clause-did : goal.returns-clause-did
returns-clause-did g c =
    let o = g.K.Desk.opening c.args.desk.now in
    let v = g.K.Desk.view c.args.desk.now in
    let u = g.K.Desk.view c.turn_closing.new.desk in
    let w = g.K.Desk.view c.flush_once.new.desk in
    subst (λ r. Does v w (StepSays g.D.Die.seen o v w c.args.flusher (Ok r))) (sym c.flushed_step.ensures)
    (flushed_on g.D.Die.seen o (g.K.Desk.opening c.turn_closing.new.desk) v u w c.args.flusher c.in_ok-closes.closes c.in_ok-flushed.flushed c.turn_closing.ensures.turn.1 c.in_ok-closes.ensures.did c.in_ok-flushed.ensures.did)

pub returns-in_err-flushed-clause-did : goal.returns-in_err-flushed-clause-did
returns-in_err-flushed-clause-did g c =
    let o = g.K.Desk.opening c.args.desk.now in
    let v = g.K.Desk.view c.args.desk.now in
    let u = g.K.Desk.view c.turn_closing.new.desk in
    let w = g.K.Desk.view c.flush_once.new.desk in
    flush_worn g.D.Die.seen o (g.K.Desk.opening c.turn_closing.new.desk) v u w c.args.flusher c.in_ok-closes.closes c.in_err-flushed.field-0.0 c.from_residual-in_err-flushed.result c.from_residual-in_err-flushed.ensures.0 c.in_ok-closes.ensures.did c.in_err-flushed.ensures.did

pub returns-in_err-closes-clause-did : goal.returns-in_err-closes-clause-did
returns-in_err-closes-clause-did g c = step_worn g.D.Die.seen (g.K.Desk.opening c.args.desk.now) (g.K.Desk.view c.args.desk.now) (g.K.Desk.view c.turn_closing.new.desk) c.args.flusher c.from_residual.result c.from_residual.ensures.0 c.in_err-closes.ensures.went
