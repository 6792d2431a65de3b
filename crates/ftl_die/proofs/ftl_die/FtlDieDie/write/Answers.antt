use Rattle.std.proofs.Common.{◌≡◌, ◌<◌, ◌+◌, List, true, false, length, get_or, set, Some, refl, ap, ◌∙◌, rules, arith}
use Rattle.std.specs.Prelude.{is_ok}
use Rattle.std.proofs.lemmas.List.{length-set}
use Rattle.std.proofs.lemmas.Result.{err_from_is_err_and}
use Rattle.ftl_die.specs.declared.place.Place.{Place}
use Rattle.ftl_die.specs.declared.place.Place.TheVariants.{Unwritten, At}
use Rattle.ftl_die.specs.Places.{vacated}
use Rattle.ftl_die.proofs.Changes.{spared_kept, spared_more}
use Rattle.ftl_die.proofs.Moving.{moves_both, kept_moves, laid_stored}
use Rattle.ftl_die.proofs.Went.{write_failed, write_done}
use Rattle.ftl_die.proofs.Wholeness.{kept_whole, laid_whole}
use Rattle.ftl_die.proofs.ftl_die.FtlDieDie.write.Goals as goal

pub returns-in_err-make_room-clause-went : goal.returns-in_err-make_room-clause-went
returns-in_err-make_room-clause-went g c =
    let die = c.args.self.now in
    let now = c.make_room.new.self in
    let bad : is_ok c.from_residual.result ≡ false = first_of (search rules, grind arith) in
    rw bad (write_failed _ _ die.slots.items now.slots.items die.layout.places.items now.layout.places.items c.args.page c.args.from.now c.in_err-make_room.ensures.moves)

pub returns-in_err-at-clause-went : goal.returns-in_err-at-clause-went
returns-in_err-at-clause-went g c =
    let die = c.args.self.now in
    let now = c.make_room.new.self in
    let failed = c.in_err-at.ensures {u = tt} in
    let kept = kept_moves _ _ now.slots.items now.layout.places.items c.program_next.new.layout.places.items now.layout.used.items false now.stored failed.kept failed.counts failed.places in
    let moves = moves_both _ _ _ _ _ _ _ _ _ true false c.in_ok-make_room.ensures.moves kept in
    let bad : is_ok c.from_residual-in_err-at.result ≡ false = first_of (search rules, grind arith) in
    rw bad (write_failed _ _ die.slots.items now.slots.items die.layout.places.items c.program_next.new.layout.places.items c.args.page c.args.from.now moves)

pub returns-in_err-at-clause-err : goal.returns-in_err-at-clause-err
returns-in_err-at-clause-err g c =
    let now = c.make_room.new.self in
    let failed = c.in_err-at.ensures {u = tt} in
    let kept = kept_moves _ _ now.slots.items now.layout.places.items c.program_next.new.layout.places.items now.layout.used.items false now.stored failed.kept failed.counts failed.places in
    let p = err_from_is_err_and c.from_residual-in_err-at.result c.from_residual-in_err-at.ensures.1 in
    rw (p.1) (ap Some (kept.contents ∙ c.in_ok-make_room.ensures.moves.contents))

pub invariant_of-self : goal.invariant_of-self
invariant_of-self g c =
    let now = c.make_room.new.self in
    let later = c.program_next.new in
    let failed = c.in_err-at.ensures {u = tt} in
    let sizes : length later.layout.used.items ≡ length now.layout.used.items = ap length failed.used ∙ length-set now.layout.used.items now.head (get_or now.layout.used.items now.head 0 + 1) in
    record {
      stored = failed.stored;
      each_whole = kept_whole (g.R.RawFlash.seen now.raw) (g.R.RawFlash.seen later.raw) now.slots.items now.layout.places.items later.layout.places.items now.layout.used.items now.stored failed.kept failed.places now.each_whole;
      buffer = now.buffer;
      head_in = omega (arith, now.head_in, sizes);
      spare_in = omega (arith, now.spare_in, sizes);
      spared = rw (failed.owners, failed.places, failed.used) (spared_more now.layout.places.items now.layout.used.items now.layout.owners.items now.head now.spare now.head_in now.spared);
    }

pub invariant_of-self-2-clause-each_whole : goal.invariant_of-self-2-clause-each_whole
invariant_of-self-2-clause-each_whole g c =
    let now = c.make_room.new.self in
    let raw = c.program_next.new.raw in
    let done = c.in_ok-at.ensures {u = tt} in
    let size = c.in_ok-make_room.ensures.moves.size in
    let here : c.args.page < length now.layout.places.items = omega (arith, c.requires, size) in
    laid_whole (g.R.RawFlash.seen now.raw) (g.R.RawFlash.seen raw) now.slots.items now.layout.places.items c.lay.new.self.places.items now.layout.used.items c.args.page c.in_ok-at.at c.args.from.now now.stored here done.kept done.at.1
    (c.lay.ensures.places ∙ ap (λ (p : List Place). set p c.args.page (At c.in_ok-at.at)) done.places)
    (g.met.R.RawFlash.sound raw) now.each_whole

pub invariant_of-self-2-clause-stored : goal.invariant_of-self-2-clause-stored
invariant_of-self-2-clause-stored g c =
    let now = c.make_room.new.self in
    let done = c.in_ok-at.ensures {u = tt} in
    let size = c.in_ok-make_room.ensures.moves.size in
    let here : c.args.page < length c.program_next.new.layout.places.items = omega (arith, c.requires, size, ap length done.places) in
    laid_stored _ c.program_next.new.layout.places.items _ c.program_next.new.layout.used.items _ c.args.page c.in_ok-at.at c.args.from.now done.stored here done.at.1 c.lay.ensures.places c.lay.ensures.used

pub invariant_of-self-2-clause-spared : goal.invariant_of-self-2-clause-spared
invariant_of-self-2-clause-spared g c =
    let now = c.make_room.new.self in
    let done = c.in_ok-at.ensures {u = tt} in
    let size = c.in_ok-make_room.ensures.moves.size in
    let here : c.args.page < length now.layout.places.items = omega (arith, c.requires, size) in
    let kept = spared_kept now.layout.places.items now.layout.used.items now.layout.owners.items now.head now.spare c.args.page c.in_ok-at.at here done.at.0 now.head_in now.spared in
    let places : c.lay.new.self.places.items ≡ set now.layout.places.items c.args.page (At c.in_ok-at.at) = c.lay.ensures.places ∙ ap (λ (p : List Place). set p c.args.page (At c.in_ok-at.at)) done.places in
    let owners : c.lay.new.self.owners.items ≡ vacated (get_or now.layout.places.items c.args.page Unwritten) now.layout.owners.items = c.lay.ensures.owners ∙ rw (done.places, done.owners) refl in
    let used : c.lay.new.self.used.items ≡ set now.layout.used.items now.head (get_or now.layout.used.items now.head 0 + 1) = c.lay.ensures.used ∙ done.used in
    rw (places, owners, used) kept

pub returns-clause-went : goal.returns-clause-went
returns-clause-went g c =
    let die = c.args.self.now in
    let now = c.make_room.new.self in
    let done = c.in_ok-at.ensures {u = tt} in
    write_done _ _ _ die.slots.items now.slots.items die.layout.places.items now.layout.places.items c.lay.new.self.places.items now.layout.used.items c.args.page c.in_ok-at.at c.args.from.now c.requires c.in_ok-make_room.ensures.moves now.stored done.counts done.kept done.at.1
    (c.lay.ensures.places ∙ ap (λ (p : List Place). set p c.args.page (At c.in_ok-at.at)) done.places)
