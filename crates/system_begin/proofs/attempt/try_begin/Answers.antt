use Rattle.std.proofs.Common.{◌∷◌, ◌++◌, [], None, Some, sym, subst}
use Rattle.dispatcher.specs.declared.side.Side.{Side}
use Rattle.turn_cell.specs.History.{entry}
use Rattle.core_state.specs.declared.event.Event.TheVariants.{Begin}
use Rattle.system_state.specs.Cores.{core_of}
use Rattle.system_state.specs.Made.{Made}
use Rattle.system_state.specs.Stands.{Stands}
use Rattle.system_begin.proofs.Attempts.{early_at, awaits_none, refused_way, waits_way}
use Rattle.system_begin.proofs.attempt.try_begin.Goals as goal

pub refuse-number-requires-clause-refusal : goal.refuse-number-requires-clause-refusal
refuse-number-requires-clause-refusal g c = early_at g.D.Die.seen c.args.state.now c.args.request.now.call c.deref-2.result.now (Some c.in-Some-early.reply) c.in-Some-early.ensures c.deref-2.ensures.value

pub returns-in-Some-early-clause-way : goal.returns-in-Some-early-clause-way
returns-in-Some-early-clause-way g c = refused_way (core_of g.D.Die.seen c.args.state.now) c.args.request.now (awaits_none c.deref.result.now c.args.state.now.lanes.items c.args.request.now.awaits None c.in_default.ensures c.deref.ensures.value) c.in-Some-early.reply
    (early_at g.D.Die.seen c.args.state.now c.args.request.now.call c.deref-2.result.now (Some c.in-Some-early.reply) c.in-Some-early.ensures c.deref-2.ensures.value)

pub start-requires-clause-not_early : goal.start-requires-clause-not_early
start-requires-clause-not_early g c = early_at g.D.Die.seen c.args.state.now c.args.request.now.call c.deref-2.result.now None c.in_default-early.ensures c.deref-2.ensures.value

pub returns-in-Ok-clause-made : goal.returns-in-Ok-clause-made
returns-in-Ok-clause-made g c = subst (λ (x : Side). Made g.D.Die.seen g.J.CallJob.suits c.args.state.now (Begin c.args.lane c.args.request.now x) c.start.new.state) (sym c.in-Ok.ensures.picked) c.in-Ok.ensures.made

pub returns-in-Ok-clause-stands : goal.returns-in-Ok-clause-stands
returns-in-Ok-clause-stands g c = λ o h n st. subst (λ (x : Side). Stands g.D.Die.seen g.J.CallJob.suits c.start.new.state o (h ++ entry n (Begin c.args.lane c.args.request.now x) ∷ [])) (sym c.in-Ok.ensures.picked) (c.in-Ok.ensures.stands o h n st)

pub returns-in-Err-clause-way : goal.returns-in-Err-clause-way
returns-in-Err-clause-way g c = waits_way (core_of g.D.Die.seen c.args.state.now) c.args.request.now (awaits_none c.deref.result.now c.args.state.now.lanes.items c.args.request.now.awaits None c.in_default.ensures c.deref.ensures.value) c.in-Err.y
    (early_at g.D.Die.seen c.args.state.now c.args.request.now.call c.deref-2.result.now None c.in_default-early.ensures c.deref-2.ensures.value) c.in-Err.ensures.not_yet
