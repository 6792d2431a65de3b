use Rattle.std.proofs.Common.{Some, None}
use Rattle.system_state.specs.Cores.{core_of}
use Rattle.system_lanes.proofs.Awaiting.{has_awaited}
use Rattle.system_quick.proofs.Order.{early_at, awaits_none, refused_waits, way_last}
use Rattle.system_quick.proofs.quick.try_quick.Goals as goal

pub refuse-number-requires-clause-refusal : goal.refuse-number-requires-clause-refusal
refuse-number-requires-clause-refusal g c = early_at g.D.Die.seen c.args.state.now c.args.request.now.call c.deref-2.result.now (Some c.in-Some-early.reply) c.in-Some-early.ensures c.deref-2.ensures.value

pub returns-in-Some-early-clause-clear : goal.returns-in-Some-early-clause-clear
returns-in-Some-early-clause-clear g c = refused_waits (core_of g.D.Die.seen c.args.state.now) c.args.request.now c.in-Some-early.reply (awaits_none c.deref.result.now c.args.state.now.lanes.items c.args.request.now.awaits None c.in_default.ensures c.deref.ensures.value) (early_at g.D.Die.seen c.args.state.now c.args.request.now.call c.deref-2.result.now (Some c.in-Some-early.reply) c.in-Some-early.ensures c.deref-2.ensures.value)

pub returns-in-Some-in_the_way-clause-not_yet : goal.returns-in-Some-in_the_way-clause-not_yet
returns-in-Some-in_the_way-clause-not_yet g c = way_last (core_of g.D.Die.seen c.args.state.now) c.args.request.now (Some c.in-Some-in_the_way.y) (awaits_none c.deref.result.now c.args.state.now.lanes.items c.args.request.now.awaits None c.in_default.ensures c.deref.ensures.value) (early_at g.D.Die.seen c.args.state.now c.args.request.now.call c.deref-2.result.now None c.in_default-early.ensures c.deref-2.ensures.value) c.in-Some-in_the_way.ensures

pub answer_call-requires-clause-asked : goal.answer_call-requires-clause-asked
answer_call-requires-clause-asked g c = record {
  standing = c.requires.standing;
  hands = c.requires.hands;
  ready = record { idle = c.requires.idle; unmarked = c.requires.unmarked; awaited = has_awaited (core_of g.D.Die.seen c.args.state.now).lanes c.args.request.now.awaits (awaits_none c.deref.result.now c.args.state.now.lanes.items c.args.request.now.awaits None c.in_default.ensures c.deref.ensures.value) };
  not_early = (early_at g.D.Die.seen c.args.state.now c.args.request.now.call c.deref-2.result.now None c.in_default-early.ensures c.deref-2.ensures.value);
  last = c.requires.last;
}

pub returns-clause-clear : goal.returns-clause-clear
returns-clause-clear g c = way_last (core_of g.D.Die.seen c.args.state.now) c.args.request.now None (awaits_none c.deref.result.now c.args.state.now.lanes.items c.args.request.now.awaits None c.in_default.ensures c.deref.ensures.value) (early_at g.D.Die.seen c.args.state.now c.args.request.now.call c.deref-2.result.now None c.in_default-early.ensures c.deref-2.ensures.value) c.in_default-in_the_way.ensures
