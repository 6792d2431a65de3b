use Rattle.std.proofs.Common.{map, string_bytes}
use Rattle.command_words.specs.Commands.{scan_command}
use Rattle.stack_top.proofs.Exactness.{is_exact, not_worn}
use Rattle.stack_top.proofs.Keeping.{keeps}
use Rattle.stack_top.proofs.Plans.{any_plans, scan_words_plans}
use Rattle.stack_top.proofs.top_scan.stack_scan.Goals as goal

pub returns-clause-exact : goal.returns-clause-exact
returns-clause-exact g c = is_exact _ _ _ _ c.scan_answered.ensures.cause

pub returns-clause-unworn : goal.returns-clause-unworn
returns-clause-unworn g c =
    not_worn _ _ _ _ _ (scan_words_plans (g.R.Room.names c.args.room.now) (scan_command (map string_bytes c.args.words.now))) c.scan_answered.ensures.cause

pub returns-clause-same : goal.returns-clause-same
returns-clause-same g c =
    keeps _ _ _ _ _ (any_plans _ _ _ (scan_words_plans (g.R.Room.names c.args.room.now) (scan_command (map string_bytes c.args.words.now)))) c.scan_answered.ensures.cause c.scan_answered.ensures.same
