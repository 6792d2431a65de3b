use Rattle.std.proofs.Common.{◌-◌, take, drop, refl, arith}
use Rattle.std.proofs.lemmas.List.{length-take, length-drop}
use Rattle.span_bytes.proofs.Pointwise.{patch_at, taken_at}
use Rattle.span_bytes.proofs.pages.patch_page.Goals as goal

pub returns-then-from-to-clause-bytes : goal.returns-then-from-to-clause-bytes
returns-then-from-to-clause-bytes c j l =
    let n = c.min-to.result - c.args.start - (c.max-from.result - c.args.start) in
    let part = take n (drop (c.max-from.result - c.args.start) c.args.bytes.now) in
    let f = c.max-from.ensures in
    let t = c.min-to.ensures in
    let m = c.if-from-to.true in
    let a = length-drop (c.max-from.result - c.args.start) c.args.bytes.now in
    let b = length-take n (drop (c.max-from.result - c.args.start) c.args.bytes.now) in
    patch_at c.args.page.now c.args.bytes.now part c.patch.new.self c.args.i c.args.start c.max-from.result c.min-to.result j c.byte-first.ensures.whole f t m (omega arith)
    (λ k w. taken_at c.args.bytes.now part (c.max-from.result - c.args.start) n refl k (omega arith)) c.patch.ensures.value l
