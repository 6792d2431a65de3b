use Rattle.std.proofs.Common.{◌≡◌, ap, sym, ◌∙◌, arith}
use Rattle.extent_map.specs.Places.{Places, block_of}
use Rattle.extent_map.specs.Owners.{before_of}
use Rattle.extent_map.proofs.Searches.{is_there, is_other, is_past, both_are}
use Rattle.extent_map.proofs.map.ExtentMap.block_of.Goals as goal

pub returns-then-i-len : goal.returns-then-i-len
returns-then-i-len c =
    let i = c.self.inside in
    let is : c.before-i.result ≡ before_of c.args.file c.args.page i.placed.items = c.before-i.ensures.value ∙ ap (before_of c.args.file c.args.page) c.deref.ensures.value in
    is_past c.args.file c.args.page i.placed.items c.before-i.result c.self.invariant.0.order is (omega (arith, c.if-i-len.true, i.placed.ok)) ∙ ap (λ (s : Places). block_of c.args.file c.args.page s.placed) c.self.view_is

pub returns-then-not-is_at : goal.returns-then-not-is_at
returns-then-not-is_at c =
    let i = c.self.inside in
    let is : c.before-i.result ≡ before_of c.args.file c.args.page i.placed.items = c.before-i.ensures.value ∙ ap (before_of c.args.file c.args.page) c.deref.ensures.value in
    is_other c.args.file c.args.page i.placed.items c.before-i.result c.index.result.now c.self.invariant.0.order is (omega (arith, c.if-i-len.false, i.placed.ok)) c.index.ensures (sym c.is_at.ensures ∙ c.if-not-is_at.true) ∙ ap (λ (s : Places). block_of c.args.file c.args.page s.placed) c.self.view_is

pub returns : goal.returns
returns c =
    let i = c.self.inside in
    let is : c.before-i.result ≡ before_of c.args.file c.args.page i.placed.items = c.before-i.ensures.value ∙ ap (before_of c.args.file c.args.page) c.deref.ensures.value in
    let both = both_are c.args.file c.args.page c.index.result.now (sym c.is_at.ensures ∙ c.if-not-is_at.false) in
    is_there c.args.file c.args.page i.placed.items c.before-i.result c.index.result.now c.self.invariant.0.order is (omega (arith, c.if-i-len.false, i.placed.ok)) c.index.ensures both.0 both.1 ∙ ap (λ (s : Places). block_of c.args.file c.args.page s.placed) c.self.view_is
