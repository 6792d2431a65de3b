use Rattle.std.proofs.Common.{◌≡◌, ℕ, List, Option, Some, subst, sym, ap, ◌∙◌}
use Rattle.std.specs.Prelude.{IsTrue, option_map}
use Rattle.name_table.specs.Name.{is_name}
use Rattle.name_table.specs.declared.files.FileRec.{FileRec}
use Rattle.name_table.specs.Files.{file_named}
use Rattle.call_checks.proofs.Found.{no_name, by_id_found}
use Rattle.call_checks.proofs.finding.file_named.Goals as goal

pub returns-in_err-name : goal.returns-in_err-name
returns-in_err-name c = c.from_residual.ensures ∙ sym (no_name c.args.names.now.next c.args.names.now.files c.args.word.now c.len-files.ensures.sound.each
    (λ t. c.in_err-name.ensures (subst (λ (w : List ℕ). IsTrue (is_name w)) (sym c.as_slice.ensures) t)))

pub returns : goal.returns
returns c =
    let w : c.in_ok-name.name ≡ c.args.word.now = c.in_ok-name.ensures.1 ∙ c.as_slice.ensures in
    let found : Some c.in_ok-id.id ≡ option_map (λ (f : FileRec). f.id) (file_named c.in_ok-name.name c.args.names.now.files) = c.in_ok-id.ensures in
    c.by_id.ensures.value
    ∙ (by_id_found c.in_ok-name.name c.args.names.now.files c.in_ok-id.id c.len-files.ensures.sound.rise found
    ∙ ap (λ (x : List ℕ). file_named x c.args.names.now.files) w)
