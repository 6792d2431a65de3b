use Rattle.std.proofs.Common.{◌≡◌, ◌≤◌, ℕ, Option, ap, subst, sym, ◌∙◌, arith}
use Rattle.std.specs.Prelude.{is_some, not, ◌&&◌}
use Rattle.core_state.specs.Contents.{is_missing}
use Rattle.core_state.specs.Sides.{at_block}
use Rattle.system_blocks.specs.Spans.{pages_from}
use Rattle.system_begin.specs.Begun.{bare}
use Rattle.system_begin.proofs.Room.{count_most}
use Rattle.system_begin.proofs.Starts.{count_at}
use Rattle.system_begin.proofs.sides.call_counts.Goals as goal

pub returns-clause-value : goal.returns-clause-value
returns-clause-value c =
    let r = c.args.reach.now in
    let x = c.start_of-first.result in
    let e = c.start_of-first.ensures in
    let at = pages_from c.args.extents.now.placed c.args.file in
    let b = bare c.args.pair.now in
    let p = c.span_counts.ensures.pages in
    let m = c.span_counts.ensures.missing ∙ count_at r.pages r.first x at (at_block b is_missing) e in
    let h = c.span_counts.ensures.host ∙ count_at r.pages r.first x at (at_block b (λ y. is_some y.host)) e in
    let o = c.span_counts.ensures.out ∙ c.output_pages-out.ensures.value in
    let u = c.span_counts.ensures.unclean ∙ count_at r.pages r.first x at (at_block b (λ y. is_some y.host && not y.clean)) e in
    λ i. record { pages = p i; missing = m i; host = h i; out = o i; unclean = u i }

pub returns-clause-counts : goal.returns-clause-counts
returns-clause-counts c =
    let r = c.args.reach.now in
    let few = c.requires.few in
    let x = c.start_of-first.result in
    let at = pages_from c.args.extents.now.placed c.args.file x in
    let b = bare c.args.pair.now in
    let p = c.span_counts.ensures.pages in
    let m = c.span_counts.ensures.missing in
    let h = c.span_counts.ensures.host in
    let o = c.span_counts.ensures.out in
    let u = c.span_counts.ensures.unclean in
    let om = c.output_pages-out.ensures.most in
    let mm = count_most r.pages (λ i. at_block b is_missing (at i)) in
    let hm = count_most r.pages (λ i. at_block b (λ y. is_some y.host) (at i)) in
    let um = count_most r.pages (λ i. at_block b (λ y. is_some y.host && not y.clean) (at i)) in
    record { most_pages = omega arith; most_missing = omega arith; of_pages = omega arith; most_out = omega arith; most_unclean = omega arith }
