use Rattle.std.proofs.Common.{◌≡◌, ◌<◌, ℕ, List, Option, true, [], length, map, get_or, refl, ap, sym, subst, ◌∙◌, arith}
use Rattle.std.proofs.lemmas.List.{get_or_read}
use Rattle.page_base.specs.Bytes.{zero_page}
use Rattle.flash_die.specs.Dies.{AreWhole}
use Rattle.ftl_die.specs.declared.place.Place.TheVariants.{Unwritten, Held}
use Rattle.ftl_die.specs.Stored.{content}
use Rattle.ftl_die.proofs.Changes.{slot-below}
use Rattle.ftl_die.proofs.Went.{read_went, counts_none}
use Rattle.ftl_die.proofs.ftl_die.FtlDieDie.read.Goals as goal

pub index-requires : goal.index-requires
index-requires g c =
    let die = c.args.self.now in
    let lies : get_or die.layout.places.items c.args.page Unwritten ≡ Held c.in-Held.slot = sym (c.in-Held.ensures {u = tt}) in
    let below = slot-below die.layout.places.items die.layout.used.items die.layout.live.items die.layout.owners.items c.args.page c.in-Held.slot die.layout.laid lies in
    omega (arith, below, die.buffer, die.slots.ok.0)

pub returns-in-Unwritten : goal.returns-in-Unwritten
unfolding zero_page
returns-in-Unwritten g c =
    let die = c.args.self.now in
    let raw = g.R.RawFlash.seen die.raw in
    let lies : get_or die.layout.places.items c.args.page Unwritten ≡ Unwritten = sym (c.in-Unwritten.ensures {u = tt}) in
    read_went raw raw die.slots.items die.layout.places.items c.args.page true c.args.into.now c.clear_from.new.self c.requires (counts_none raw) refl
    (λ _. c.clear_from.ensures.value ∙ sym (ap (content raw.pages die.slots.items) lies))
    (λ e. absurd (cc))

pub invariant_of-self-clause-each_whole : goal.invariant_of-self-clause-each_whole
invariant_of-self-clause-each_whole g c =
    let die = c.args.self.now in
    subst (λ (p : List (Option (List ℕ))). AreWhole (map (content p die.slots.items) die.layout.places.items)) (sym c.read.ensures.pages) die.each_whole

pub returns-in-Held : goal.returns-in-Held
returns-in-Held g c =
    let die = c.args.self.now in
    let raw = g.R.RawFlash.seen die.raw in
    let lies : get_or die.layout.places.items c.args.page Unwritten ≡ Held c.in-Held.slot = sym (c.in-Held.ensures {u = tt}) in
    let below = slot-below die.layout.places.items die.layout.used.items die.layout.live.items die.layout.owners.items c.args.page c.in-Held.slot die.layout.laid lies in
    let under : c.in-Held.slot < length die.slots.items = omega (arith, below, die.buffer) in
    let bytes = get_or_read die.slots.items c.in-Held.slot c.index.result.now under c.index.ensures [] in
    read_went raw raw die.slots.items die.layout.places.items c.args.page true c.args.into.now c.copy_from.new.self c.requires (counts_none raw) refl
    (λ _. c.copy_from.ensures.value ∙ bytes ∙ sym (ap (content raw.pages die.slots.items) lies))
    (λ e. absurd (cc))
