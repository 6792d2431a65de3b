use Rattle.std.proofs.Common.{◌≡◌, ◌+◌, ◌<◌, ◌≤◌, ℕ, List, true, false, length, get_or, ap, sym, subst, ◌∙◌, rules, arith}
use Rattle.std.specs.Prelude.{is_ok}
use Rattle.std.proofs.lemmas.List.{length-set, get_or-set_same}
use Rattle.flash_die.specs.Dies.{AreWhole}
use Rattle.ftl_die.specs.Places.{live_in, held_in}
use Rattle.ftl_die.proofs.Moving.{moves_both}
use Rattle.ftl_die.proofs.ftl_die.FtlDie.collect.Goals as goal

pub returns-in_err-erase_block-clause-moves : goal.returns-in_err-erase_block-clause-moves
returns-in_err-erase_block-clause-moves g c =
    let bad : is_ok c.from_residual-in_err-erase_block.result ≡ false = first_of (search rules, grind arith) in
    rw bad (moves_both _ _ _ _ _ _ _ _ _ true false c.in_ok-hold_all.ensures.moves (c.in_err-erase_block.ensures.moves c.hold_all.new.self.slots.items))

pub returns-clause-moves : goal.returns-clause-moves
returns-clause-moves g c =
    let settled = rw c.deref.ensures.value at c.settle_all.ensures.moves in
    moves_both _ _ _ _ _ _ _ _ _ true (is_ok c.settle_all.result) c.in_ok-hold_all.ensures.moves
    (moves_both _ _ _ _ _ _ _ _ _ true (is_ok c.settle_all.result) (c.in_ok-erase_block.ensures.moves c.hold_all.new.self.slots.items) settled)

pub invariant_of-self-in-Break-branch-2 : goal.invariant_of-self-in-Break-branch-2
invariant_of-self-in-Break-branch-2 g c =
    let held = c.hold_all.new.self in
    let failed = c.in_err-erase_block.ensures in
    record {
      stored = failed.stored;
      each_whole = subst AreWhole (sym (failed.moves held.slots.items).contents) held.each_whole;
      buffer = held.buffer;
      head_in = rw failed.used held.head_in;
      spare_in = rw failed.used held.spare_in;
      spared = rw (failed.owners, failed.places, failed.used) held.spared;
    }

pub invariant_of-self-2-clause-each_whole : goal.invariant_of-self-2-clause-each_whole
invariant_of-self-2-clause-each_whole g c =
    let held = c.hold_all.new.self in
    let settled = rw c.deref.ensures.value at c.settle_all.ensures.moves in
    subst AreWhole (sym (settled.contents ∙ (c.in_ok-erase_block.ensures.moves held.slots.items).contents)) held.each_whole

pub invariant_of-self-2-clause-spared : goal.invariant_of-self-2-clause-spared
invariant_of-self-2-clause-spared g c =
    let block = c.fewest-block.result in
    let held = c.hold_all.new.self in
    let erased = c.erase_block.new.layout in
    let done = c.in_ok-hold_all.ensures in
    let after = c.in_ok-erase_block.ensures {u = tt} in
    let dead : live_in block erased.places.items ≡ 0 = ap (live_in block) after.places ∙ done.dead in
    let sizes : length erased.used.items ≡ length held.layout.used.items = ap length after.used ∙ length-set held.layout.used.items block 0 in
    let within : block < length erased.used.items = omega (arith, c.fewest-block.ensures.within, ap length done.used, sizes) in
    let count : get_or c.settle_all.new.layout.used.items block 0 ≡ held_in erased.owners.items =
    ap (λ (u : List ℕ). get_or u block 0) c.settle_all.ensures.used ∙ get_or-set_same erased.used.items block (held_in erased.owners.items) 0 within in
    let settled = c.settle_all.new.layout in
    let all : held_in settled.owners.items + live_in block settled.places.items ≤ get_or settled.used.items block 0 = omega (arith, c.settle_all.ensures.sum, dead, count) in
    subst (λ (b : ℕ). held_in settled.owners.items + live_in b settled.places.items ≤ get_or settled.used.items b 0) (sym done.spare) all
