use Rattle.std.proofs.Common.{◌≡◌, ◌<◌, ap, sym, ◌∙◌, arith, add-one, length, get_or, List, ℕ}
use Rattle.sbpf_exec.proofs.PageLaws.{whole_more}
use Rattle.sbpf_exec.proofs.region.are_whole.Goals as goal

pub loop-page-preserved : goal.loop-page-preserved
loop-page-preserved c =
    let i = c.loop-page.page-index in
    let page : List ℕ = c.page-item.result in
    let lt : i < length c.args.pages.now = omega arith in
    let len : length (get_or c.args.pages.now i page) ≡ 4096 = ap length (sym c.page-item.is) ∙ c.byte-first.ensures.whole in
    rw (add-one i) (whole_more c.args.pages.now i page c.loop-page.invariant lt len)
