use Rattle.std.proofs.Common.{◌≡◌, ◌+◌, ◌-◌, ◌++◌, ◌∷◌, [], suc, length, take, drop, ap, ◌∙◌, arith}
use Rattle.std.proofs.lemmas.List.{length-take}
use Rattle.page_base.specs.Bytes.{patched}
use Rattle.image_format.specs.Tables.{pages_from}
use Rattle.image_format.proofs.Cut.{pages_more, pages_none, page_whole, pages_step, pages_done}
use Rattle.image_format.proofs.mounting.push_pages.Goals as goal

pub split_at-requires : goal.split_at-requires
split_at-requires c =
    let n : c.args.count - c.loop.counter ≡ suc (c.args.count - (c.loop.counter + 1)) = omega (arith, c.loop-test.true) in
    omega (arith, c.loop.invariant.rest, n)

pub loop-preserved : goal.loop-preserved
loop-preserved c =
    let k = c.loop.counter in
    let xs = c.loop.rest.now in
    let left : c.args.count - k ≡ suc (c.args.count - (k + 1)) = omega (arith, c.loop-test.true) in
    let front : c.split_at.result.0.now ≡ take 4096 xs = c.split_at.ensures.front in
    let len : length (take 4096 xs) ≡ 4096 = omega (arith, length-take 4096 xs, c.loop.invariant.rest, left) in
    let page : c.patch.new.self ≡ take 4096 xs = c.patch.ensures.value ∙ ap (patched c.in_ok-page.page 0) front ∙ page_whole c.in_ok-page.page (take 4096 xs) c.in_ok-page.ensures len in
    record {
      rest = omega (arith, c.loop.invariant.rest, left, c.split_at.ensures.back_len);
      value =
          ap (λ ys. c.push.new.self.items ++ pages_from ys (c.args.count - (k + 1))) c.split_at.ensures.back
          ∙ pages_step c.loop.into.items c.push.new.self.items _ (take 4096 xs) _ (pages_from (drop 4096 xs) (c.args.count - (k + 1))) (c.in_ok-push.ensures.items ∙ ap (λ p. c.loop.into.items ++ p ∷ []) page) (pages_more xs (c.args.count - k) (c.args.count - (k + 1)) left) c.loop.invariant.value;
    }

pub returns : goal.returns
returns c = pages_done c.loop.into.items _ _ (pages_none c.loop.rest.now (c.args.count - c.loop.counter) (omega arith)) c.loop.invariant.value
