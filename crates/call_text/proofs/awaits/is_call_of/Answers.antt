use Rattle.std.proofs.Common.{rules, tests, ◌∙◌, ap}
use Rattle.std.specs.Prelude.{is_some}
use Rattle.script_words.specs.Words.{first_of}
use Rattle.call_text.proofs.FirstWords.{line_calls}
use Rattle.call_text.proofs.awaits.is_call_of.Goals as goal

pub returns : goal.returns
returns c =
    c.is_some.ensures ∙ ap (λ o. is_some o) c.verb_of.ensures
    ∙ line_calls c.args.name.now c.args.line.now c.cut_word.result.0.now c.cut_word-2.result.0.now c.cut_word.ensures.word (c.cut_word-2.ensures.word ∙ ap first_of c.cut_word.ensures.rest) (search (rules, tests)) (search (rules, tests))
