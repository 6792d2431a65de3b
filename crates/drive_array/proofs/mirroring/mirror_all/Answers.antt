use Rattle.std.proofs.Common.{[], ◌∷◌, length, ap, ◌∙◌}
use Rattle.std.specs.Prelude.{map}
use Rattle.std.proofs.lemmas.List.{map-append}
use Rattle.std.proofs.lemmas.Iterator.{YieldsList-from_zip}
use Rattle.std.proofs.lemmas.Iterator.Adapters.{YieldsList-from_vec}
use Rattle.std.proofs.lemmas.Iterator.Consumers.{YieldsList-turn, YieldsList-end, YieldsList-at}
use Rattle.mirror_die.specs.Mirror.{made_of, seen_of}
use Rattle.drive_array.specs.Mirrors.{mirror_of}
use Rattle.mirror_die.specs.Views.{view_of}
use Rattle.drive_array.proofs.Pairs.{pairs_at, beside_more, beside_end}
use Rattle.drive_array.proofs.mirroring.mirror_all.Goals as goal

pub mirrored-requires : goal.mirrored-requires
mirrored-requires c =
    let road = YieldsList-at c.into_iter-first-iterator.ensures.into_iter_gives (YieldsList-from_zip (YieldsList-at c.zip-first-items.ensures.first (YieldsList-from_vec c.args.firsts.items c.into_iter.ensures.rest (c.into_iter.ensures.len ∙ c.args.firsts.ok.0))) (YieldsList-from_vec c.args.seconds.items c.zip-first-items.ensures.second.0 (c.zip-first-items.ensures.second.1 ∙ c.args.seconds.ok.0))) in
    let turn = YieldsList-turn road c.loop-first.yielded c.loop-first.first-iterator c.loop-first.yielded_by c.next.result c.next.new.self (c.in-Some.first, c.in-Some.second) c.in-Some.is c.next.ensures.steps in
    pairs_at c.args.firsts.items c.args.seconds.items (length c.loop-first.yielded) c.in-Some.first c.in-Some.second c.requires turn.0 turn.1

pub loop-first-preserved : goal.loop-first-preserved
loop-first-preserved c =
    let pushed = c.in_ok-push.ensures.items in
    let last = c.in_ok-mirrored.field-0 in
    let dies = c.loop-first.dies.items in (
      beside_more mirror_of (map (λ d. view_of d) dies) (map (λ d. view_of d) c.push.new.self.items) (view_of last) c.loop-first.yielded c.in-Some.first c.in-Some.second (ap (map (λ d. view_of d)) pushed ∙ map-append (λ d. view_of d) dies (last ∷ [])) c.loop-first.invariant.0 c.in_ok-mirrored.ensures.die,
      beside_more made_of (map (λ d. seen_of (view_of d)) dies) (map (λ d. seen_of (view_of d)) c.push.new.self.items) (seen_of (view_of last)) c.loop-first.yielded c.in-Some.first c.in-Some.second (ap (map (λ d. seen_of (view_of d))) pushed ∙ map-append (λ d. seen_of (view_of d)) dies (last ∷ [])) c.loop-first.invariant.1 c.in_ok-mirrored.ensures.seen,
    )

pub returns-clause-dies : goal.returns-clause-dies
returns-clause-dies c =
    let road = YieldsList-at c.into_iter-first-iterator.ensures.into_iter_gives (YieldsList-from_zip (YieldsList-at c.zip-first-items.ensures.first (YieldsList-from_vec c.args.firsts.items c.into_iter.ensures.rest (c.into_iter.ensures.len ∙ c.args.firsts.ok.0))) (YieldsList-from_vec c.args.seconds.items c.zip-first-items.ensures.second.0 (c.zip-first-items.ensures.second.1 ∙ c.args.seconds.ok.0))) in
    let all = YieldsList-end road c.loop-first.yielded c.loop-first.first-iterator c.loop-first.yielded_by c.next.result c.next.new.self c.in-None.is c.next.ensures.steps in
    c.loop-first.invariant.0 ∙ beside_end mirror_of c.args.firsts.items c.args.seconds.items c.loop-first.yielded all.0

pub returns-clause-seen : goal.returns-clause-seen
returns-clause-seen c =
    let road = YieldsList-at c.into_iter-first-iterator.ensures.into_iter_gives (YieldsList-from_zip (YieldsList-at c.zip-first-items.ensures.first (YieldsList-from_vec c.args.firsts.items c.into_iter.ensures.rest (c.into_iter.ensures.len ∙ c.args.firsts.ok.0))) (YieldsList-from_vec c.args.seconds.items c.zip-first-items.ensures.second.0 (c.zip-first-items.ensures.second.1 ∙ c.args.seconds.ok.0))) in
    let all = YieldsList-end road c.loop-first.yielded c.loop-first.first-iterator c.loop-first.yielded_by c.next.result c.next.new.self c.in-None.is c.next.ensures.steps in
    c.loop-first.invariant.1 ∙ beside_end made_of c.args.firsts.items c.args.seconds.items c.loop-first.yielded all.0
