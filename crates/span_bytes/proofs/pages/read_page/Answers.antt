use Rattle.std.proofs.Common.{◌-◌, ◌*◌, take, drop, length, refl, arith}
use Rattle.std.proofs.lemmas.List.{length-take, length-drop}
use Rattle.span_bytes.proofs.Pointwise.{read_at, taken_at}
use Rattle.span_bytes.proofs.pages.read_page.Goals as goal

pub returns-then-from-to : goal.returns-then-from-to
returns-then-from-to c k l =
    let n = c.min-to.result - c.args.start - (c.max-from.result - c.args.start) in
    let f = c.max-from.ensures in
    let t = c.min-to.ensures in
    let m = c.if-from-to.true in
    let a = length-drop (c.max-from.result - c.args.start) c.args.data.now in
    let b = length-take n (drop (c.max-from.result - c.args.start) c.args.data.now) in
    let long = c.read.auto.into in
    read_at c.args.data.now c.read.new.into c.args.page.now c.args.i c.args.start c.max-from.result c.min-to.result n k f t m refl (omega arith)
    (λ j w. taken_at c.args.page.now c.read.new.into (c.max-from.result - c.args.i * 4096) (length (take n (drop (c.max-from.result - c.args.start) c.args.data.now))) c.read.ensures.value j (omega arith)) l
