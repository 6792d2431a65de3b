use Rattle.std.proofs.Common.{[], Some, true, refl, ap, ◌∙◌}
use Rattle.std.proofs.lemmas.List.{get_or_read}
use Rattle.page_base.specs.Bytes.{zero_page}
use Rattle.flash_die.specs.Dies.{with_page}
use Rattle.ftl_die.proofs.Loaded.{loaded_more}
use Rattle.ftl_die.proofs.loading.load_pages.Goals as goal

pub loop-i-preserved : goal.loop-i-preserved
loop-i-preserved g c =
    let pages = c.args.pages.now in
    let before = c.loop-i.invariant in
    let done = c.in-Ok.ensures {u = tt} in
    let bytes = get_or_read pages c.loop-i.i c.index-pages-i.result c.loop-i-test.true c.index-pages-i.is [] in
    record {
      pages = done.ok (refl {a = true})
          ∙ ap (λ o. with_page o c.loop-i.i c.index-pages-i.result) before.pages
          ∙ ap Some (loaded_more pages c.loop-i.i c.index-pages-i.result zero_page c.loop-i-test.true bytes);
      size = done.counts.size ∙ before.size;
      sure = done.counts.most ∙ before.sure;
    }
