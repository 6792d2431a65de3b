use Rattle.std.proofs.Common.{◌≡◌, ℕ, List, length, ap, sym, subst, ◌∙◌, arith}
use Rattle.std.proofs.lemmas.List.{with_items_is}
use Rattle.flash_die.specs.Dies.{AreWhole}
use Rattle.ftl_die.specs.Stored.{contents}
use Rattle.ftl_die.proofs.ftl_die.FtlDie.hold_all.Goals as goal

pub invariant_of-self-clause-each_whole : goal.invariant_of-self-clause-each_whole
invariant_of-self-clause-each_whole g c =
    let die = c.args.self.now in
    let held = c.hold_live.new in
    let len : length held.slots ≡ die.slots.len = grind arith in
    let slots = with_items_is die.slots held.slots len in
    subst AreWhole (sym (ap (λ (s : List (List ℕ)). contents (g.R.RawFlash.seen held.raw) s held.layout.places.items) slots
    ∙ c.hold_live.ensures.moves.contents
    ∙ ap (λ (s : List (List ℕ)). contents (g.R.RawFlash.seen die.raw) s die.layout.places.items) c.deref_mut.ensures.value)) die.each_whole

pub invariant_of-self-clause-buffer : goal.invariant_of-self-clause-buffer
invariant_of-self-clause-buffer g c =
    let die = c.args.self.now in
    let len : length c.hold_live.new.slots ≡ die.slots.len = grind arith in
    let size : length c.hold_live.new.slots ≡ 64 = grind arith in
    ap length (with_items_is die.slots c.hold_live.new.slots len) ∙ size
