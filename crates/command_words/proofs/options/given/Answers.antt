use Rattle.std.proofs.Common.{◌∙◌, string_bytes}
use Rattle.command_words.proofs.Few.{none_given}
use Rattle.command_words.proofs.options.given.Goals as goal

pub returns : goal.returns
returns c = none_given string_bytes c.args.key.now c.loop-rest.rest.now c.in_default.len_below ∙ c.loop-rest.invariant
