use Rattle.std.proofs.Common.{◌≡◌, ◌+◌, ◌<◌, ◌++◌, ◌∷◌, [], length, ap, sym, subst, ◌∙◌, arith}
use Rattle.std.specs.Prelude.{IsOk, insert}
use Rattle.std.specs.Vec.{vec_capacity}
use Rattle.std.proofs.lemmas.Bool.{cond-true}
use Rattle.name_table.specs.Hashes.{Indexed, entry, of_hash, before, RisesFrom}
use Rattle.name_table.proofs.Classes.{put_is, rises_put}
use Rattle.name_table.proofs.index.NameIndex.add.Goals as goal

pub invariant_of-self : goal.invariant_of-self
invariant_of-self c =
    let i = c.self.inside in
    let room : length i.entries.items < vec_capacity i.entries = subst (λ (x : Indexed). length x.entries < x.room) (sym c.self.view_is) c.requires in
    let ok : IsOk c.insert.result = c.insert.ensures.succeeds (omega (arith, room, i.entries.ok)) in
    let at : c.before-at.result ≡ before (c.args.hash + 1) i.entries.items = c.before-at.ensures.value ∙ ap (before (c.args.hash + 1)) c.deref.ensures.value in
    let items : c.insert.new.self.items ≡ insert i.entries.items (before (c.args.hash + 1) i.entries.items) (entry c.args.hash c.args.id) = c.insert.ensures.items ∙ cond-true _ _ _ ok ∙ ap (λ n. insert i.entries.items n (entry c.args.hash c.args.id)) at in
    subst (RisesFrom 0) (sym items) (rises_put c.args.hash c.args.id 0 i.entries.items c.self.invariant (omega arith))

pub returns-clause-classes : goal.returns-clause-classes
returns-clause-classes c =
    let i = c.self.inside in
    let room : length i.entries.items < vec_capacity i.entries = subst (λ (x : Indexed). length x.entries < x.room) (sym c.self.view_is) c.requires in
    let ok : IsOk c.insert.result = c.insert.ensures.succeeds (omega (arith, room, i.entries.ok)) in
    let at : c.before-at.result ≡ before (c.args.hash + 1) i.entries.items = c.before-at.ensures.value ∙ ap (before (c.args.hash + 1)) c.deref.ensures.value in
    let items : c.insert.new.self.items ≡ insert i.entries.items (before (c.args.hash + 1) i.entries.items) (entry c.args.hash c.args.id) = c.insert.ensures.items ∙ cond-true _ _ _ ok ∙ ap (λ n. insert i.entries.items n (entry c.args.hash c.args.id)) at in
    λ q. ap (of_hash q) items ∙ put_is c.args.hash c.args.id 0 i.entries.items c.self.invariant q ∙ ap (λ (x : Indexed). of_hash q (x.entries ++ entry c.args.hash c.args.id ∷ [])) c.self.view_is
