use Rattle.std.proofs.Common.{◌≡◌, ◌<◌, ◌/◌, ◌+◌, ℕ, length, get_or, set, sym, ap, subst, ◌∙◌, arith}
use Rattle.std.proofs.lemmas.List.{set-set, length-set, get_or-set_same, get_or_read}
use Rattle.ftl_die.specs.declared.place.Place.TheVariants.{Unwritten, At}
use Rattle.ftl_die.specs.Layouts.{IsLayout}
use Rattle.ftl_die.proofs.Changes.{laid_at, live_in-le}
use Rattle.ftl_die.proofs.layout.Layout.lay.Goals as goal

pub returns-clause-places : goal.returns-clause-places
returns-clause-places c = rw c.release.ensures.places (set-set c.args.self.now.places.items c.args.page Unwritten (At c.args.raw))

pub overflow_add-index_mut : goal.overflow_add-index_mut
overflow_add-index_mut c =
    let self = c.release.new.self in
    let block = c.args.raw / 64 in
    let sizes : length self.used.items ≡ length c.args.self.now.used.items = ap length c.release.ensures.used in
    let below : block < length self.live.items = omega (arith, self.laid.blocks, sizes, c.requires.raw) in
    let is = get_or_read self.live.items block c.index_mut.result.now below c.index_mut.ensures.value 0 in
    let count = self.laid.counted block below in
    let most = live_in-le block self.places.items in
    omega (arith, is, count, most, self.laid.roomy, self.laid.few)

pub invariant_of-self : goal.invariant_of-self
invariant_of-self c =
    let self = c.release.new.self in
    let block = c.args.raw / 64 in
    let sizes : length self.used.items ≡ length c.args.self.now.used.items = ap length c.release.ensures.used in
    let below : block < length self.live.items = omega (arith, self.laid.blocks, sizes, c.requires.raw) in
    let is = get_or_read self.live.items block c.index_mut.result.now below c.index_mut.ensures.value 0 in
    let pages : length self.places.items ≡ length c.args.self.now.places.items = ap length c.release.ensures.places ∙ length-set c.args.self.now.places.items c.args.page Unwritten in
    let inside : c.args.page < length self.places.items = omega (arith, pages, c.requires.page) in
    let nowhere : get_or self.places.items c.args.page Unwritten ≡ Unwritten = ap (λ places. get_or places c.args.page Unwritten) c.release.ensures.places ∙ get_or-set_same c.args.self.now.places.items c.args.page Unwritten Unwritten c.requires.page in
    record { laid = subst (λ (n : ℕ). IsLayout (set self.places.items c.args.page (At c.args.raw)) self.used.items (set self.live.items block (n + 1)) self.owners.items) (sym is) (laid_at self.places.items self.used.items self.live.items self.owners.items c.args.page c.args.raw self.laid inside nowhere below) }
