use Rattle.std.proofs.Common.{ℕ, List, ◌++◌, ap, ◌∙◌, arith}
use Rattle.std.proofs.lemmas.List.{take_all}
use Rattle.drive_array.proofs.gathering.append.Goals as goal

pub returns-clause-bytes : goal.returns-clause-bytes
returns-clause-bytes c = c.in_ok-extend_from_slice.ensures.items ∙ ap (λ (added : List ℕ). c.args.bytes.now.items ++ added) (c.read.ensures.value ∙ take_all 4096 c.args.page.now (omega (arith, c.read.ensures.whole)))
