use Rattle.std.proofs.Common.{List, ℕ, Option, map, sym, ap, ◌∙◌}
use Rattle.core_state.specs.Sides.{learnt}
use Rattle.system_state.specs.Cores.{function_of}
use Rattle.system_ends.proofs.Taught.{learns_none}
use Rattle.system_ends.proofs.learning.learn_run.Goals as goal

pub returns-in-None-clause-learnt : goal.returns-in-None-clause-learnt
returns-in-None-clause-learnt c =
    let fs = map function_of c.args.functions.now.items in
    sym (ap (λ (o : Option (List ℕ)). map (learnt o c.args.used c.args.pages) fs) c.in-None.is ∙ learns_none c.args.used c.args.pages fs)
