use Rattle.std.proofs.Common.{◌≡◌, ℕ, List, ◌++◌, length, take, get_or, ap, sym, subst, ◌∙◌, arith, append_assoc}
use Rattle.std.specs.List.{flat_map, AllByRecursion}
use Rattle.image_format.proofs.Imaged.{joined, whole_more, blocks_all}
use Rattle.image_format.proofs.image.add_blocks.Goals as goal

pub loop-page-preserved : goal.loop-page-preserved
loop-page-preserved c =
    let i = c.loop-page.page-index in
    let pages = c.args.blocks.now in
    let old = c.args.into.now.items in
    let page = c.page-item.result in
    let item : page ≡ get_or pages i page = c.page-item.is in
    let front = flat_map (λ page. page) (take i pages) in
    record {
      value =
          c.in_ok-add_page.ensures.value ∙ ap (λ ys. ys ++ page) c.loop-page.invariant.value ∙ append_assoc old front page
          ∙ ap (λ ys. old ++ ys) (ap (λ ys. front ++ ys) item ∙ sym (joined pages i page c.loop-page-test.true));
      whole = whole_more pages i page c.loop-page-test.true c.loop-page.invariant.whole (ap length (sym item) ∙ c.add_page.ensures.whole);
    }

pub returns-clause-value : goal.returns-clause-value
returns-clause-value c =
    c.loop-page.invariant.value ∙ ap (λ pages. c.args.into.now.items ++ flat_map (λ page. page) pages) (blocks_all c.args.blocks.now c.loop-page.page-index (omega arith))

pub returns-clause-whole : goal.returns-clause-whole
returns-clause-whole c =
    subst (AllByRecursion (λ (page : List ℕ). length page ≡ 4096)) (blocks_all c.args.blocks.now c.loop-page.page-index (omega arith)) c.loop-page.invariant.whole
