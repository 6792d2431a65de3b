use Rattle.std.proofs.Common.{map, string_bytes}
use Rattle.command_words.specs.Commands.{command_of}
use Rattle.stack_top.proofs.Exactness.{is_exact, only_runs_wear}
use Rattle.stack_top.proofs.Keeping.{keeps}
use Rattle.stack_top.proofs.Plans.{main_plans}
use Rattle.stack_top.proofs.top_main.stack_main.Goals as goal

pub returns-clause-exact : goal.returns-clause-exact
returns-clause-exact g c = is_exact _ _ _ _ c.answered_all.ensures.cause

pub returns-clause-unworn : goal.returns-clause-unworn
returns-clause-unworn g c =
    only_runs_wear (command_of (map string_bytes c.args.words.now)) _ _ _ c.answered_all.ensures.cause

pub returns-clause-same : goal.returns-clause-same
returns-clause-same g c =
    keeps _ _ _ _ _ (main_plans (g.R.Room.names c.args.room.now) (command_of (map string_bytes c.args.words.now))) c.answered_all.ensures.cause c.answered_all.ensures.same
