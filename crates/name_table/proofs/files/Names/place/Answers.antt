use Rattle.std.proofs.Common.{◌≡◌, ◌++◌, ◌∷◌, [], ◌<◌, length, max, ap, sym, subst, ◌∙◌, refl, arith}
use Rattle.std.specs.Prelude.{IsOk, None, ◌+◌}
use Rattle.std.proofs.lemmas.Bool.{cond-true}
use Rattle.name_table.specs.Files.{Table, free_slot, new_file, file_named, IdsBelow}
use Rattle.name_table.specs.Hashes.{hash_of}
use Rattle.name_table.proofs.Tables.{below_at}
use Rattle.name_table.proofs.Indexes.{indexes_push}
use Rattle.name_table.specs.Inside.{MarksSlots}
use Rattle.name_table.proofs.Slots.{has_room}
use Rattle.name_table.proofs.Kept.{placed_kept, file_with}
use Rattle.name_table.proofs.files.Names.place.Goals as goal

pub index_mut-requires : goal.index_mut-requires
index_mut-requires c =
    let i = c.self.inside in
    let few : length i.files.items < 4096 = subst (λ (t : Table). length t.files < 4096) (sym c.self.view_is) c.requires.room in
    let free : c.free_slot-slot.result ≡ free_slot i.files.items = c.free_slot-slot.ensures.value i.files.items (subst (λ t. MarksSlots t i.files.items) (sym c.deref.ensures.value) c.self.invariant.1) in
    let room = has_room i.files.items few in
    let len : length i.taken.items ≡ 4096 = c.self.invariant.1.len in
    omega (arith, free, room.0, len, i.taken.ok)

pub invariant_of-self : goal.invariant_of-self
invariant_of-self c =
    let i = c.self.inside in
    let few : length i.files.items < 4096 = subst (λ (t : Table). length t.files < 4096) (sym c.self.view_is) c.requires.room in
    let free : c.free_slot-slot.result ≡ free_slot i.files.items = c.free_slot-slot.ensures.value i.files.items (subst (λ t. MarksSlots t i.files.items) (sym c.deref.ensures.value) c.self.invariant.1) in
    let k = placed_kept i.files.items i.taken.items i.next c.args.id c.args.name (c.self.invariant.0, c.self.invariant.1) few (subst (λ (t : Table). file_named c.args.name t.files ≡ None) (sym c.self.view_is) c.requires.new) c.requires.low c.requires.high (below_at c.args.id i.files.items (subst (λ (t : Table). IdsBelow c.args.id t.files) (sym c.self.view_is) c.requires.above)) c.as_slice.ensures.named in
    let ok : IsOk c.push.result = c.push.ensures.succeeds (omega (arith, few, i.files.ok, c.self.invariant.2)) in
    let items : c.push.new.self.items ≡ i.files.items ++ new_file c.args.id c.args.name i.files.items ∷ [] = c.push.ensures.items ∙ cond-true _ _ _ ok ∙ ap (λ s. i.files.items ++ file_with c.args.id c.args.name s ∷ []) free in
    let next : c.max-self-inside.result ≡ max i.next (c.args.id + 1) = c.max-self-inside.ensures in
    let hash : c.hash_of-hash.result ≡ hash_of c.args.name = c.hash_of-hash.ensures ∙ ap hash_of c.as_slice.ensures.value in
    let index = indexes_push i.index c.add.new.self i.files.items (new_file c.args.id c.args.name i.files.items) c.hash_of-hash.result c.args.id hash refl c.self.invariant.3 c.add.ensures.classes c.add.ensures.count c.add.ensures.room in
    rw (items, next, free) (k.0, k.1, omega (arith, c.push.ensures.capacity, c.self.invariant.2), index)
