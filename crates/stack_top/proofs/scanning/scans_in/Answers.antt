use Rattle.std.proofs.Common.{◌≡◌, ℕ, List, None, ◌∙◌, subst}
use Rattle.plain_files.specs.Plain.{file_of}
use Rattle.stack_top.proofs.Scanned.{none_scanned}
use Rattle.stack_top.proofs.scanning.scans_in.Goals as goal

pub returns-in-None-clause-decided : goal.returns-in-None-clause-decided
returns-in-None-clause-decided g c =
    let P : List ℕ → Type 0 = λ name. None ≡ file_of name c.args.plain.now.files in
    none_scanned (g.R.Room.names c.args.room.now) 0 0 (file_of c.args.file.now c.args.plain.now.files) c.args.name.now c.args.pieces.now c.args.param.now
    (subst P (c.as_bytes.ensures.value ∙ c.as_str.ensures) c.in-None.ensures)
