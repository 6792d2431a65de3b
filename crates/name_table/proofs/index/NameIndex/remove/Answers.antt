use Rattle.std.proofs.Common.{◌≡◌, ◌+◌, ◌<◌, length, ap, sym, subst, ◌∙◌, arith}
use Rattle.std.specs.Prelude.{remove}
use Rattle.name_table.specs.Hashes.{Indexed, of_hash, without_id, before, RisesFrom}
use Rattle.name_table.proofs.Classes.{gone_at, part_within, rises_remove}
use Rattle.name_table.proofs.index.NameIndex.remove.Goals as goal

pub remove-requires : goal.remove-requires
remove-requires c =
    let i = c.self.inside in
    let part : c.with_hash.result.now ≡ of_hash c.args.hash i.entries.items = c.with_hash.ensures ∙ ap (of_hash c.args.hash) c.deref-2.ensures.value in
    let within : c.place_of-at.result < length (of_hash c.args.hash i.entries.items) = omega (arith, c.place_of-at.ensures.within, ap length part) in
    let from : c.before-from.result ≡ before c.args.hash i.entries.items = c.before-from.ensures.value ∙ ap (before c.args.hash) c.deref.ensures.value in
    omega (arith, from, part_within 0 c.args.hash i.entries.items c.place_of-at.result c.self.invariant within, i.entries.ok)

pub invariant_of-self : goal.invariant_of-self
invariant_of-self c =
    let i = c.self.inside in
    subst (RisesFrom 0) (sym c.remove.ensures.items) (rises_remove 0 i.entries.items _ c.self.invariant)

pub returns-clause-gone : goal.returns-clause-gone
returns-clause-gone c =
    let i = c.self.inside in
    let part : c.with_hash.result.now ≡ of_hash c.args.hash i.entries.items = c.with_hash.ensures ∙ ap (of_hash c.args.hash) c.deref-2.ensures.value in
    let within : c.place_of-at.result < length (of_hash c.args.hash i.entries.items) = omega (arith, c.place_of-at.ensures.within, ap length part) in
    let from : c.before-from.result ≡ before c.args.hash i.entries.items = c.before-from.ensures.value ∙ ap (before c.args.hash) c.deref.ensures.value in
    let gone = gone_at 0 c.args.hash i.entries.items c.place_of-at.result c.self.invariant within in
    let items : c.remove.new.self.items ≡ remove i.entries.items (before c.args.hash i.entries.items + c.place_of-at.result) = c.remove.ensures.items ∙ ap (λ n. remove i.entries.items (n + c.place_of-at.result)) from in
    ap (of_hash c.args.hash) items ∙ gone.own ∙ sym (ap (λ xs. remove xs c.place_of-at.result) part) ∙ c.place_of-at.ensures.gone ∙ ap (without_id c.args.id) part ∙ ap (λ (x : Indexed). without_id c.args.id (of_hash c.args.hash x.entries)) c.self.view_is

pub returns-clause-others : goal.returns-clause-others
returns-clause-others c =
    let i = c.self.inside in
    let part : c.with_hash.result.now ≡ of_hash c.args.hash i.entries.items = c.with_hash.ensures ∙ ap (of_hash c.args.hash) c.deref-2.ensures.value in
    let within : c.place_of-at.result < length (of_hash c.args.hash i.entries.items) = omega (arith, c.place_of-at.ensures.within, ap length part) in
    let from : c.before-from.result ≡ before c.args.hash i.entries.items = c.before-from.ensures.value ∙ ap (before c.args.hash) c.deref.ensures.value in
    let gone = gone_at 0 c.args.hash i.entries.items c.place_of-at.result c.self.invariant within in
    let items : c.remove.new.self.items ≡ remove i.entries.items (before c.args.hash i.entries.items + c.place_of-at.result) = c.remove.ensures.items ∙ ap (λ n. remove i.entries.items (n + c.place_of-at.result)) from in
    λ q ne. ap (of_hash q) items ∙ gone.others q ne ∙ ap (λ (x : Indexed). of_hash q x.entries) c.self.view_is
