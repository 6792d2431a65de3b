use Rattle.std.proofs.Common.{◌≡◌, ap, sym, subst, ◌∙◌, refl, arith}
use Rattle.std.specs.Prelude.{IsSome}
use Rattle.name_table.specs.declared.files.FileRec.{FileRec}
use Rattle.name_table.specs.Files.{Table, file_of, changed}
use Rattle.name_table.specs.Inside.{below}
use Rattle.name_table.proofs.Tables.{Keeps, same_count}
use Rattle.name_table.proofs.Indexes.{indexes_changed}
use Rattle.name_table.proofs.Kept.{here_of, set_is, changed_kept, table_of}
use Rattle.name_table.proofs.files.Names.set_len.Goals as goal

pub index_mut-requires : goal.index_mut-requires
index_mut-requires c =
    let i = c.self.inside in
    let there : IsSome (file_of c.args.id i.files.items) = subst (λ (t : Table). IsSome (file_of c.args.id t.files)) (sym c.self.view_is) c.requires.there in
    let is : c.lower-i.result ≡ below c.args.id i.files.items = c.lower-i.ensures.value ∙ ap (below c.args.id) c.deref.ensures.value in
    let s = here_of c.args.id c.lower-i.result i.files.items i.taken.items i.next (c.self.invariant.0, c.self.invariant.1) there is in
    omega (arith, s.within, i.files.ok)

pub invariant_of-self : goal.invariant_of-self
invariant_of-self c =
    let i = c.self.inside in
    let change : FileRec → FileRec = λ f. record f { len = c.args.len } in
    let there : IsSome (file_of c.args.id i.files.items) = subst (λ (t : Table). IsSome (file_of c.args.id t.files)) (sym c.self.view_is) c.requires.there in
    let is : c.lower-i.result ≡ below c.args.id i.files.items = c.lower-i.ensures.value ∙ ap (below c.args.id) c.deref.ensures.value in
    let same = set_is change c.args.id c.lower-i.result i.files.items i.taken.items i.next c.index_mut.result.now (c.self.invariant.0, c.self.invariant.1) there is c.index_mut.ensures.value in
    let keeps : Keeps change = record { id = λ f. refl; name = λ f. refl; slot = λ f. refl } in
    let k = changed_kept change i.files.items i.taken.items i.next c.args.id keeps (λ f h. (h.0, h.1, c.requires.small, h.3)) (c.self.invariant.0, c.self.invariant.1) in
    rw same (k.0, k.1, c.self.invariant.2, indexes_changed change i.index c.args.id i.files.items keeps (same_count change c.args.id i.files.items) c.self.invariant.3)

pub returns : goal.returns
returns c =
    let i = c.self.inside in
    let change : FileRec → FileRec = λ f. record f { len = c.args.len } in
    let there : IsSome (file_of c.args.id i.files.items) = subst (λ (t : Table). IsSome (file_of c.args.id t.files)) (sym c.self.view_is) c.requires.there in
    let is : c.lower-i.result ≡ below c.args.id i.files.items = c.lower-i.ensures.value ∙ ap (below c.args.id) c.deref.ensures.value in
    let same = set_is change c.args.id c.lower-i.result i.files.items i.taken.items i.next c.index_mut.result.now (c.self.invariant.0, c.self.invariant.1) there is c.index_mut.ensures.value in
    ap (λ fs. table_of fs i.next) same ∙ ap (λ (t : Table). table_of (changed c.args.id change t.files) t.next) c.self.view_is
