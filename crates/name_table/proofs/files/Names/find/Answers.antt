use Rattle.std.proofs.Common.{◌≡◌, ap, ◌∙◌}
use Rattle.std.specs.Prelude.{option_map}
use Rattle.name_table.specs.Files.{Table, file_named, file_of}
use Rattle.name_table.specs.Hashes.{hash_of, of_hash}
use Rattle.name_table.specs.Inside.{is_named, first_of}
use Rattle.name_table.proofs.Indexes.{find_is}
use Rattle.name_table.proofs.files.Names.find.Goals as goal

pub returns : goal.returns
returns c =
    let i = c.self.inside in
    let name = c.args.name.now in
    let entries : c.with_hash-entries.result.now ≡ of_hash (hash_of name) i.index.entries = c.with_hash-entries.ensures ∙ ap (λ h. of_hash h i.index.entries) (c.hash_of.ensures ∙ ap hash_of c.as_slice.ensures.value) in
    c.first_named.ensures
    ∙ ap (λ fs. first_of (λ id. is_named name (file_of id fs)) c.with_hash-entries.result.now) c.deref.ensures.value
    ∙ ap (first_of (λ id. is_named name (file_of id i.files.items))) entries
    ∙ find_is name i.files.items i.index c.self.invariant.0.rise c.self.invariant.3
    ∙ ap (λ (t : Table). option_map (λ f. f.id) (file_named name t.files)) c.self.view_is
