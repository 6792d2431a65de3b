use Rattle.std.proofs.Common.{◌≡◌, ◌≤◌, Some, None, sym}
use Rattle.std.specs.Prelude.{◌^◌, bytes_eq}
use Rattle.system_state.specs.declared.state.Function.{Function}
use Rattle.system_begin.proofs.Picked.{e_found, found_all}
use Rattle.system_begin.proofs.sides.profile_named.Goals as goal

pub returns-in-Some-clause-value : goal.returns-in-Some-clause-value
returns-in-Some-clause-value c = e_found c.args.functions.now c.args.word.now (Some c.in-Some.function.now) c.in-Some.ensures

pub returns-in-Some-clause-priced : goal.returns-in-Some-clause-priced
returns-in-Some-clause-priced c = found_all (λ (f : Function). f.profile.e ≤ 2 ^ 32) (λ (f : Function). bytes_eq f.name c.args.word.now) c.args.functions.now c.in-Some.function.now c.requires (sym c.in-Some.ensures)

pub returns-in-None-clause-value : goal.returns-in-None-clause-value
returns-in-None-clause-value c = e_found c.args.functions.now c.args.word.now None c.in-None.ensures
