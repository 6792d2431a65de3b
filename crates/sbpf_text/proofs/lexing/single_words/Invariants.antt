use Rattle.std.proofs.Common.{◌≡◌, map, take}
use Rattle.sbpf_text.specs.Lexing.{single_word}
use Rattle.sbpf_text.proofs.lexing.single_words.Given as goal

abbrev pub invariant-loop-part : goal.invariant-loop-part
invariant-loop-part l = map (λ x. x.now) l.words.items ≡ map single_word (map (λ x. x.now) (take l.part-index l.parts))
