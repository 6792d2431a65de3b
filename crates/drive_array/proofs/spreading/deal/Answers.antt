use Rattle.std.proofs.Common.{◌∙◌, arith}
use Rattle.std.proofs.lemmas.Iterator.Adapters.{YieldsList-from_vec}
use Rattle.std.proofs.lemmas.Iterator.Consumers.{YieldsList-turn}
use Rattle.std.proofs.lemmas.Nat.{mod_below}
use Rattle.drive_array.proofs.Dealing.{dealt_none, dealt_count, dealt_fits, dealt_more}
use Rattle.drive_array.proofs.spreading.deal.Goals as goal

pub loop-page-init : goal.loop-page-init
loop-page-init c = dealt_none c.args.dies c.args.shares.now.items c.requires.empty

pub index_mut-share-requires : goal.index_mut-share-requires
index_mut-share-requires c =
    omega (arith, mod_below c.loop-page.number c.args.dies c.requires.some, dealt_count _ _ _ _ _ c.loop-page.invariant, c.loop-page.shares.ok.0)

pub add-requires : goal.add-requires
add-requires c =
    let gives = c.into_iter-page-iterator.ensures.into_iter_gives in
    let turn = YieldsList-turn (YieldsList-from_vec c.args.pages.items gives.0 (gives.1 ∙ c.args.pages.ok.0)) c.loop-page.yielded c.loop-page.page-iterator c.loop-page.yielded_by c.next.result c.next.new.self c.in-Some.page c.in-Some.is c.next.ensures.steps in
    let fits = dealt_fits c.args.dies c.loop-page.number c.loop-page.yielded c.args.shares.now.items c.loop-page.shares.items c.index_mut-share.result.now c.requires.some c.loop-page.invariant c.index_mut-share.ensures.value in
    omega (arith, turn.0, fits, c.requires.few)

pub loop-page-preserved : goal.loop-page-preserved
loop-page-preserved c =
    dealt_more c.args.dies c.loop-page.number c.loop-page.yielded c.args.shares.now.items c.loop-page.shares.items c.index_mut-share.result.now c.add.new.self c.in-Some.page c.requires.some c.loop-page.invariant c.index_mut-share.ensures.value c.in_ok-add.ensures.pages c.in_ok-add.ensures.plan
