use Rattle.std.proofs.Common.{◌≡◌, ◌≤◌, ℕ, ◌++◌, length, take, ap, ◌∙◌, arith}
use Rattle.std.proofs.lemmas.List.{take_all, length-replicate}
use Rattle.image_format.proofs.image.add_page.Goals as goal

pub returns-clause-value : goal.returns-clause-value
returns-clause-value c =
    let page = c.args.page.now in
    let short : length page ≤ 4096 = omega (arith, c.read.ensures.whole) in
    let same : c.read.new.into ≡ page = c.read.ensures.value ∙ ap (λ n. take n page) (length-replicate {A = ℕ} 4096 0) ∙ take_all 4096 page short in
    c.in_ok-extend_from_slice.ensures.items ∙ ap (λ bytes. c.args.into.now.items ++ bytes) same
