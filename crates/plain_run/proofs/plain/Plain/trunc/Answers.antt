use Rattle.std.proofs.Common.{◌≡◌, ℕ, List, length, set, Some, ap, subst, ◌∙◌, sym}
use Rattle.std.specs.Prelude.{slice_get}
use Rattle.plain_files.specs.declared.calls.PlainFile.{PlainFile}
use Rattle.plain_files.specs.Lists.{with_changed}
use Rattle.plain_files.specs.Plain.{State, is_file, file_in, bytes_in, with_length}
use Rattle.plain_files.specs.declared.calls.Reply.TheVariants.{Done}
use Rattle.plain_run.proofs.Stores.{length_exact, store_refused, store_done, same_at, parts_of}
use Rattle.plain_run.proofs.plain.Plain.trunc.Goals as goal

pub returns-then-not-has_room : goal.returns-then-not-has_room
returns-then-not-has_room c =
    let name = c.args.name.now in
    let i = c.place-i.result in
    let was : State = record { files = c.self.inside.files.items; next = c.self.inside.next; functions = c.self.inside.functions.items; capacity = c.self.inside.capacity } in
    let new : List ℕ = with_length (bytes_in was name) c.args.len in
    let P : State → Type 0 = λ s. slice_get s.files i ≡ Some (file_in s name) in
    let found : P was = subst P (sym c.self.view_is) c.place-i.ensures.found in
    let Q : State → Type 0 = λ s. with_changed (is_file name) (λ f. record f { bytes = new }) s.files ≡ set s.files i (record (file_in s name) { bytes = new }) in
    let changed : Q was = subst Q (sym c.self.view_is) (c.place-i.ensures.changed (λ f. record f { bytes = new })) in
    let len : c.args.len ≡ length new = sym (length_exact (bytes_in was name) c.args.len) in
    let refused = store_refused was name new Done i c.args.len c.has_room.result c.deref.result.now c.deref.ensures.value found changed c.has_room.ensures len c.if-not-has_room.true in
    rw (← c.self.view_is) (parts_of _ _ was refused)

pub invariant_of-self-2 : goal.invariant_of-self-2
invariant_of-self-2 c =
    let name = c.args.name.now in
    let i = c.place-i.result in
    let was : State = record { files = c.self.inside.files.items; next = c.self.inside.next; functions = c.self.inside.functions.items; capacity = c.self.inside.capacity } in
    let new : List ℕ = with_length (bytes_in was name) c.args.len in
    let P : State → Type 0 = λ s. slice_get s.files i ≡ Some (file_in s name) in
    let found : P was = subst P (sym c.self.view_is) c.place-i.ensures.found in
    let Q : State → Type 0 = λ s. with_changed (is_file name) (λ f. record f { bytes = new }) s.files ≡ set s.files i (record (file_in s name) { bytes = new }) in
    let changed : Q was = subst Q (sym c.self.view_is) (c.place-i.ensures.changed (λ f. record f { bytes = new })) in
    let len : c.args.len ≡ length new = sym (length_exact (bytes_in was name) c.args.len) in
    let held : file_in was name ≡ c.index_mut.result.now = same_at was.files i (file_in was name) c.index_mut.result.now found c.index_mut.ensures.value in
    let given : c.set_len_of.new.file ≡ record (file_in was name) { bytes = new } = c.in_ok-set_len_of.ensures.ok ∙ ap (λ (f : PlainFile). record f { bytes = with_length f.bytes c.args.len }) (sym held) in
    let stored = store_done was name new Done i c.args.len c.has_room.result c.deref.result.now c.set_len_of.new.file c.deref.ensures.value found changed c.has_room.ensures len c.if-not-has_room.false given in
    stored.0

pub returns : goal.returns
returns c =
    let name = c.args.name.now in
    let i = c.place-i.result in
    let was : State = record { files = c.self.inside.files.items; next = c.self.inside.next; functions = c.self.inside.functions.items; capacity = c.self.inside.capacity } in
    let new : List ℕ = with_length (bytes_in was name) c.args.len in
    let P : State → Type 0 = λ s. slice_get s.files i ≡ Some (file_in s name) in
    let found : P was = subst P (sym c.self.view_is) c.place-i.ensures.found in
    let Q : State → Type 0 = λ s. with_changed (is_file name) (λ f. record f { bytes = new }) s.files ≡ set s.files i (record (file_in s name) { bytes = new }) in
    let changed : Q was = subst Q (sym c.self.view_is) (c.place-i.ensures.changed (λ f. record f { bytes = new })) in
    let len : c.args.len ≡ length new = sym (length_exact (bytes_in was name) c.args.len) in
    let held : file_in was name ≡ c.index_mut.result.now = same_at was.files i (file_in was name) c.index_mut.result.now found c.index_mut.ensures.value in
    let given : c.set_len_of.new.file ≡ record (file_in was name) { bytes = new } = c.in_ok-set_len_of.ensures.ok ∙ ap (λ (f : PlainFile). record f { bytes = with_length f.bytes c.args.len }) (sym held) in
    let stored = store_done was name new Done i c.args.len c.has_room.result c.deref.result.now c.set_len_of.new.file c.deref.ensures.value found changed c.has_room.ensures len c.if-not-has_room.false given in
    rw (← c.self.view_is) (parts_of _ _ (record was { files = set was.files i c.set_len_of.new.file }) stored.1)
