use Rattle.std.proofs.Common.{◌≡◌, ◌<◌, length, slice_index_or, subst, arith}
use Rattle.std.proofs.lemmas.List.{get_or_default}
use Rattle.crews.specs.Crews.{IsServed}
use Rattle.crews.proofs.Joins.{gathered_on, untouched_on, same_on, item_at, gathered_all}
use Rattle.crews.proofs.joining.join_all.Goals as goal

pub loop-post-preserved : goal.loop-post-preserved
loop-post-preserved g c =
    let i = c.loop-post.invariant in
    let k = c.loop-post.post-index in
    let olds = c.args.posts.now in
    let posts = c.loop-post.posts in
    let it = c.post-item.result in
    let item = slice_index_or posts k it in
    let low : k < length olds = c.loop-post-test.true in
    let long : length posts ≡ length olds = omega arith in
    let is = get_or_default posts k it item (omega arith) in
    let at = item_at g.D.Die.seen c.args.turn.now olds posts k item low long is i.1 in
    let served = subst (IsServed g.D.Die.seen c.args.turn.now k) (at item) (c.requires.served k item low) in (
      gathered_on g.D.Die.seen c.args.turn.now olds k item c.loop-post.root c.join_post.new.root i.0 low at served c.join_post.ensures.root c.join_post.ensures.view,
      untouched_on g.D.Die.seen c.args.turn.now olds posts k c.join_post.new.post i.1,
      same_on g.D.Die.seen c.args.turn.now olds posts k item c.join_post.new.post low long is c.join_post.ensures.post i.2,
    )

pub returns-clause-root : goal.returns-clause-root
returns-clause-root g c =
    gathered_all g.D.Die.seen c.args.turn.now c.args.posts.now c.loop-post.post-index c.loop-post.root (omega arith) c.loop-post.invariant.0
