use Rattle.std.proofs.Common.{◌≡◌, ℕ, ◌+◌, ◌<◌, false, [], length, get_or, set, None, ap, sym, ◌∙◌, rules, arith}
use Rattle.std.specs.Prelude.{is_ok}
use Rattle.std.proofs.lemmas.List.{set-get_or, get_or_read}
use Rattle.ftl_die.specs.Places.{one_held}
use Rattle.ftl_die.specs.Stored.{content}
use Rattle.ftl_die.proofs.Moving.{laid_moves, kept_moves, laid_stored, page_inside}
use Rattle.ftl_die.proofs.steps.settle.Goals as goal

pub returns-in-None-clause-used : goal.returns-in-None-clause-used
returns-in-None-clause-used g c =
    let layout = c.args.layout.now in
    let none : get_or layout.owners.items c.args.slot None ≡ None = sym (c.in-None.ensures {u = tt}) in
    let same : get_or layout.used.items c.args.block 0 + one_held (get_or layout.owners.items c.args.slot None) ≡ get_or layout.used.items c.args.block 0 = rw none (omega arith) in
    sym (ap (λ (n : ℕ). set layout.used.items c.args.block n) same ∙ set-get_or layout.used.items c.args.block 0)

pub lay-requires-clause-page : goal.lay-requires-clause-page
lay-requires-clause-page g c =
    let layout = c.args.layout.now in
    let lies = layout.laid.owned c.args.slot c.in-Some.page (sym (c.in-Some.ensures {u = tt})) in
    let inside = page_inside layout.places.items c.in-Some.page c.args.slot lies in
    let done = c.in_ok-at-in-Some.ensures {u = tt} in
    omega (arith, inside, ap length done.places)

pub returns-in_err-at-in-Some-clause-moves : goal.returns-in_err-at-in-Some-clause-moves
returns-in_err-at-in-Some-clause-moves g c =
    let layout = c.args.layout.now in
    let failed = c.in_err-at-in-Some.ensures {u = tt} in
    let bad : is_ok c.from_residual.result ≡ false = first_of (search rules, grind arith) in
    rw bad (kept_moves _ _ c.args.slots.now layout.places.items _ layout.used.items false c.requires.stored failed.kept failed.counts failed.places)

pub returns-in_ok-at-in-Some-clause-moves : goal.returns-in_ok-at-in-Some-clause-moves
returns-in_ok-at-in-Some-clause-moves g c =
    let layout = c.args.layout.now in
    let lies = layout.laid.owned c.args.slot c.in-Some.page (sym (c.in-Some.ensures {u = tt})) in
    let inside = page_inside layout.places.items c.in-Some.page c.args.slot lies in
    let done = c.in_ok-at-in-Some.ensures {u = tt} in
    let under : c.args.slot < length c.args.slots.now = omega (arith, c.requires.slots, c.requires.slot) in
    let old = g.R.RawFlash.seen c.args.raw.now in
    let bytes = get_or_read c.args.slots.now c.args.slot c.index-slots-slot.result under c.index-slots-slot.is [] in
    rw c.lay.ensures.places (rw done.places (laid_moves old _ c.args.slots.now layout.places.items layout.used.items c.in-Some.page c.in_ok-at-in-Some.at c.index-slots-slot.result c.requires.stored inside done.kept done.at.1 (bytes ∙ sym (ap (content old.pages c.args.slots.now) lies)) done.counts))

pub returns-in_ok-at-in-Some-clause-stored : goal.returns-in_ok-at-in-Some-clause-stored
returns-in_ok-at-in-Some-clause-stored g c =
    let layout = c.args.layout.now in
    let lies = layout.laid.owned c.args.slot c.in-Some.page (sym (c.in-Some.ensures {u = tt})) in
    let inside = page_inside layout.places.items c.in-Some.page c.args.slot lies in
    let done = c.in_ok-at-in-Some.ensures {u = tt} in
    laid_stored _ c.program_next.new.layout.places.items _ c.program_next.new.layout.used.items _ c.in-Some.page c.in_ok-at-in-Some.at c.index-slots-slot.result done.stored (omega (arith, inside, ap length done.places)) done.at.1 c.lay.ensures.places c.lay.ensures.used
