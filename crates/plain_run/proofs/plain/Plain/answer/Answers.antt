use Rattle.std.proofs.Common.{sym}
use Rattle.plain_run.proofs.EarlyParts.{early_parts}
use Rattle.plain_run.proofs.plain.Plain.answer.Goals as goal

pub effect-requires-clause-short : goal.effect-requires-clause-short
effect-requires-clause-short c = (early_parts c.args.self.now c.args.call.now (sym c.in-None.ensures)).0

pub effect-requires-clause-file : goal.effect-requires-clause-file
effect-requires-clause-file c = (early_parts c.args.self.now c.args.call.now (sym c.in-None.ensures)).1

pub effect-requires-clause-function : goal.effect-requires-clause-function
effect-requires-clause-function c = (early_parts c.args.self.now c.args.call.now (sym c.in-None.ensures)).2

pub effect-requires-clause-within : goal.effect-requires-clause-within
effect-requires-clause-within c = (early_parts c.args.self.now c.args.call.now (sym c.in-None.ensures)).3
