use Rattle.std.proofs.Common.{drop, ap, ◌∙◌}
use Rattle.script_words.specs.Words.{words}
use Rattle.script_words.proofs.WordCuts.{word_cut}
use Rattle.script_words.proofs.lexing.cut_word.Goals as goal

pub returns-clause-rest : goal.returns-clause-rest
returns-clause-rest c =
    let left = c.behind_blanks-left.result.now in
    ap words (c.split_at.ensures.back ∙ ap (λ k. drop k left) c.blank_at.ensures.is) ∙ (word_cut c.args.text.now left c.behind_blanks-left.ensures).1
