use Rattle.std.proofs.Common.{rules, tests, ◌∙◌, ap}
use Rattle.script_words.specs.Words.{first_of}
use Rattle.call_text.proofs.FirstWords.{end_line_alone}
use Rattle.call_text.proofs.blocks.ends_block.Goals as goal

pub returns-then-eq : goal.returns-then-eq
returns-then-eq c =
    c.is_empty.ensures ∙ end_line_alone c.args.line.now c.cut_word.result.0.now c.cut_word-then-eq.result.0.now c.cut_word.ensures.word (c.cut_word-then-eq.ensures.word ∙ ap first_of c.cut_word.ensures.rest) (search (rules, tests))
