use Rattle.std.proofs.Common.{Some, ap, sym}
use Rattle.call_checks.proofs.Found.{name_found}
use Rattle.call_checks.proofs.claims.name_of.Goals as goal

pub returns-in-Some : goal.returns-in-Some
returns-in-Some c = ap Some (name_found c.args.word.now c.args.functions.now c.in-Some.function.now (sym c.in-Some.ensures))
