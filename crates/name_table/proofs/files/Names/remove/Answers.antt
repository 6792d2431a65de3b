use Rattle.std.proofs.Common.{◌≡◌, ap, sym, subst, ◌∙◌, arith}
use Rattle.std.specs.Prelude.{IsSome}
use Rattle.name_table.specs.Files.{Table, file_of, without}
use Rattle.name_table.specs.Inside.{below}
use Rattle.name_table.proofs.Kept.{here_of, same_here, removed_is, without_kept, table_of, file_here}
use Rattle.name_table.specs.Hashes.{hash_of}
use Rattle.name_table.proofs.Indexes.{entry_there, indexes_without}
use Rattle.name_table.proofs.files.Names.remove.Goals as goal

pub remove-file-requires : goal.remove-file-requires
remove-file-requires c =
    let i = c.self.inside in
    let there : IsSome (file_of c.args.id i.files.items) = subst (λ (t : Table). IsSome (file_of c.args.id t.files)) (sym c.self.view_is) c.requires in
    let is : c.lower-i.result ≡ below c.args.id i.files.items = c.lower-i.ensures.value ∙ ap (below c.args.id) c.deref.ensures.value in
    let s = here_of c.args.id c.lower-i.result i.files.items i.taken.items i.next (c.self.invariant.0, c.self.invariant.1) there is in
    omega (arith, s.within, i.files.ok)

pub invariant_of-self : goal.invariant_of-self
invariant_of-self c =
    let i = c.self.inside in
    let there : IsSome (file_of c.args.id i.files.items) = subst (λ (t : Table). IsSome (file_of c.args.id t.files)) (sym c.self.view_is) c.requires in
    let is : c.lower-i.result ≡ below c.args.id i.files.items = c.lower-i.ensures.value ∙ ap (below c.args.id) c.deref.ensures.value in
    let s = here_of c.args.id c.lower-i.result i.files.items i.taken.items i.next (c.self.invariant.0, c.self.invariant.1) there is in
    let here = same_here c.args.id c.lower-i.result i.files.items c.remove-file.result s c.remove-file.ensures.value in
    let gone = removed_is c.args.id c.lower-i.result i.files.items i.taken.items i.next (c.self.invariant.0, c.self.invariant.1) there is in
    let k = without_kept i.files.items i.taken.items i.next c.args.id c.lower-i.result c.remove-file.result (c.self.invariant.0, c.self.invariant.1) here gone in
    let items : c.remove-file.new.self.items ≡ without c.args.id i.files.items = c.remove-file.ensures.items ∙ sym gone in
    let hash : c.hash_of-hash.result ≡ hash_of c.remove-file.result.name = c.hash_of-hash.ensures ∙ ap hash_of c.as_slice.ensures.value in
    let index = indexes_without i.index c.remove.new.self i.files.items c.remove-file.new.self.items c.args.id c.hash_of-hash.result c.remove-file.result c.self.invariant.3 (file_here c.args.id c.lower-i.result i.files.items i.taken.items i.next c.remove-file.result (c.self.invariant.0, c.self.invariant.1) there is c.remove-file.ensures.value) hash items c.remove.ensures.gone c.remove.ensures.others c.remove.ensures.count c.remove.ensures.room in
    rw items (k.0, k.1, omega (arith, c.remove-file.ensures.capacity, c.self.invariant.2), rw (← items) index)

pub returns : goal.returns
returns c =
    let i = c.self.inside in
    let there : IsSome (file_of c.args.id i.files.items) = subst (λ (t : Table). IsSome (file_of c.args.id t.files)) (sym c.self.view_is) c.requires in
    let is : c.lower-i.result ≡ below c.args.id i.files.items = c.lower-i.ensures.value ∙ ap (below c.args.id) c.deref.ensures.value in
    let gone = removed_is c.args.id c.lower-i.result i.files.items i.taken.items i.next (c.self.invariant.0, c.self.invariant.1) there is in
    let items : c.remove-file.new.self.items ≡ without c.args.id i.files.items = c.remove-file.ensures.items ∙ sym gone in
    ap (λ fs. table_of fs i.next) items ∙ ap (λ (t : Table). table_of (without c.args.id t.files) t.next) c.self.view_is

pub remove-requires : goal.remove-requires
remove-requires c =
    let i = c.self.inside in
    let there : IsSome (file_of c.args.id i.files.items) = subst (λ (t : Table). IsSome (file_of c.args.id t.files)) (sym c.self.view_is) c.requires in
    let is : c.lower-i.result ≡ below c.args.id i.files.items = c.lower-i.ensures.value ∙ ap (below c.args.id) c.deref.ensures.value in
    let here = file_here c.args.id c.lower-i.result i.files.items i.taken.items i.next c.remove-file.result (c.self.invariant.0, c.self.invariant.1) there is c.remove-file.ensures.value in
    entry_there i.index i.files.items c.args.id c.hash_of-hash.result c.remove-file.result c.self.invariant.3 here (c.hash_of-hash.ensures ∙ ap hash_of c.as_slice.ensures.value)
