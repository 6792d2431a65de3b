use Rattle.std.proofs.Common.{◌≡◌, ◌≤◌, List, ℕ, [], length, ap, sym, subst, ◌∙◌, arith}
use Rattle.std.proofs.lemmas.List.{get_or_read, take_all}
use Rattle.std.proofs.lemmas.List.Elements.{All-more}
use Rattle.flash_die.specs.Dies.{AreWhole}
use Rattle.flash_die.proofs.steps.whole.Goals as goal

pub loop-page-preserved : goal.loop-page-preserved
loop-page-preserved c =
    let pages = c.deref-page-items.result.now in
    let read = get_or_read pages c.loop-page.page-index c.page-item.result c.loop-page-test.true c.page-item.is [] in
    All-more (λ (page : List ℕ). length page ≡ 4096) pages c.loop-page.page-index [] c.loop-page-test.true c.loop-page.invariant (ap length (sym read) ∙ c.byte.ensures.whole)

pub returns-clause-whole : goal.returns-clause-whole
returns-clause-whole c =
    let pages = c.deref-page-items.result.now in
    let ended : length pages ≤ c.loop-page.page-index = omega (arith, c.loop-page-test.false) in
    subst AreWhole (take_all c.loop-page.page-index pages ended ∙ c.deref-page-items.ensures.value) c.loop-page.invariant
