use Rattle.std.proofs.Common.{◌≡◌, ◌<◌, ℕ, length, false, leb, ◌||◌, sym, subst, ◌∙◌, arith}
use Rattle.std.proofs.lemmas.Bool.Decides.{nat_tests}
use Rattle.name_table.specs.Files.{IdsBelow}
use Rattle.name_table.proofs.Tables.{below_next}
use Rattle.name_table.proofs.Kept.{none_there}
use Rattle.name_table.proofs.files.Names.create.Goals as goal

has_room : (files next : ℕ) → (leb 4096 files || leb 4294967295 next) ≡ false → (files < 4096) × (next < 4294967295)
has_room files next is = grind (arith, nat_tests)

pub place-requires : goal.place-requires
place-requires c =
    let room = has_room (length c.args.self.now.files) c.args.self.now.next (sym c.is_full.ensures ∙ c.if-is_full.false) in
    record {
      low = omega (arith, c.next_id-id.ensures, c.len-files.ensures.sound.next.0);
      high = omega (arith, c.next_id-id.ensures, room.1);
      above = subst (λ id. IdsBelow id c.args.self.now.files) (sym c.next_id-id.ensures) (below_next c.args.self.now.next c.args.self.now.files c.len-files.ensures.sound.each);
      new = none_there _ (sym c.in_default.is ∙ c.find.ensures);
      room = room.0;
    }
