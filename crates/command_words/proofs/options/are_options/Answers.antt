use Rattle.std.proofs.Common.{◌∙◌, string_bytes}
use Rattle.command_words.proofs.Few.{few_options}
use Rattle.command_words.proofs.options.are_options.Goals as goal

pub returns : goal.returns
returns c = c.is_empty.ensures ∙ few_options string_bytes c.args.threads c.loop-rest.rest.now c.in_default.len_below ∙ c.loop-rest.invariant
