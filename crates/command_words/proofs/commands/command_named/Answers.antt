use Rattle.command_words.proofs.Asked.{other_named}
use Rattle.command_words.proofs.commands.command_named.Goals as goal

pub returns-in_default-clause-ok : goal.returns-in_default-clause-ok
returns-in_default-clause-ok c = other_named _ _ _ c.in_default.not-scan c.in_default.not-run c.asked_quiet.ensures.ok
