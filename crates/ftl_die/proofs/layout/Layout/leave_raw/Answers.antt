use Rattle.std.proofs.Common.{◌/◌, ◌-◌, ℕ, set, sym, subst, arith}
use Rattle.std.proofs.lemmas.List.{get_or_read}
use Rattle.ftl_die.specs.declared.place.Place.TheVariants.{Unwritten}
use Rattle.ftl_die.specs.Layouts.{IsLayout}
use Rattle.ftl_die.proofs.Changes.{left_raw, live-some}
use Rattle.ftl_die.proofs.layout.Layout.leave_raw.Goals as goal

pub overflow_sub-index_mut : goal.overflow_sub-index_mut
overflow_sub-index_mut c =
    let self = c.args.self.now in
    let block = c.args.raw / 64 in
    let below = self.laid.within c.args.page c.args.raw c.requires.there in
    let is = get_or_read self.live.items block c.index_mut.result.now below c.index_mut.ensures.value 0 in
    let some = live-some self.places.items c.args.page c.args.raw c.requires.page c.requires.there in
    let count = self.laid.counted block below in
    omega (arith, is, some, count)

pub invariant_of-self : goal.invariant_of-self
invariant_of-self c =
    let self = c.args.self.now in
    let block = c.args.raw / 64 in
    let below = self.laid.within c.args.page c.args.raw c.requires.there in
    let is = get_or_read self.live.items block c.index_mut.result.now below c.index_mut.ensures.value 0 in
    record { laid = subst (λ (n : ℕ). IsLayout (set self.places.items c.args.page Unwritten) self.used.items (set self.live.items block (n - 1)) self.owners.items) (sym is) (left_raw self.places.items self.used.items self.live.items self.owners.items c.args.page c.args.raw self.laid c.requires.page c.requires.there) }
