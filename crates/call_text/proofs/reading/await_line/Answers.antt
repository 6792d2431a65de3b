use Rattle.std.proofs.Common.{List, sym, subst}
use Rattle.script_words.specs.declared.script.Lane.{Lane}
use Rattle.call_text.specs.Building.{HasRoom}
use Rattle.call_text.proofs.Kept.{HasRoom-calls}
use Rattle.call_text.proofs.KeptSteps.{ended_at}
use Rattle.call_text.proofs.reading.await_line.Goals as goal

pub awaited-requires : goal.awaited-requires
awaited-requires c = subst (λ (lanes : List Lane). HasRoom lanes) (sym c.deref.ensures.value) (HasRoom-calls c.args.script.now.lanes.items c.args.script.now.order.items c.args.script.now.awaits.items c.requires.kept.0)

pub add_await-requires-clause-ended : goal.add_await-requires-clause-ended
add_await-requires-clause-ended c = ended_at c.args.script.now.lanes.items _ c.args.script.now.order.items c.args.script.now.awaits.items _ _ c.requires.kept.0 c.deref.ensures.value c.in-Some.ensures
