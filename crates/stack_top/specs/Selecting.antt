-- `predc PRED WIDTH OUT` and `select IMAGE FILE PRED WIDTH`: code that selects the records which satisfy a predicate, and the
-- numbers of the records of a file that do. This project's own.
use Rattle.std.specs.Prelude.{ℕ, List, [], ◌∷◌, Option, Some, None, Result, Ok, Err}
use Rattle.plain_files.specs.declared.calls.PlainFile.{PlainFile}
use Rattle.plain_files.specs.Plain.{file_of}
use Rattle.plain_image.specs.Opened.{Opened}
use Rattle.predicates.specs.declared.pred.Pred.{Pred}
use Rattle.predicates.specs.Fields.{field_fault}
use Rattle.predicates.specs.Select.{select}
use Rattle.pred_text.specs.declared.fault.PredFault.{PredFault}
use Rattle.pred_text.specs.Reading.{read_pred}
use Rattle.select_lines.specs.Lines.{select_lines}
use Rattle.stack_top.specs.Acts.{name_of}
use Rattle.stack_top.specs.declared.acts.Act.TheVariants as act
use Rattle.stack_top.specs.declared.refusal.Refusal.TheVariants as refused
use Rattle.stack_top.specs.Scripts.{reads_image}
use Rattle.stack_top.specs.Works.{Finish, refuses, does, compiles_to, Work, reads, ends}

-- ---- code

-- a predicate over records of so many bytes, and its first node whose field these don't have, if there is one
abbrev pub compiled : List ℕ → ℕ → Pred → Option ℕ → Finish
compiled out width p None = compiles_to p width (name_of out)
compiled out width p (Some node) = refuses (refused.BadField node)

-- what was read as a predicate
abbrev pub compiled_text : List ℕ → ℕ → Result Pred PredFault → Finish
compiled_text out width (Ok p) = compiled out width p (field_fault p width)
compiled_text out width (Err fault) = refuses (refused.BadPred fault)

abbrev pub predc_work : List ℕ → ℕ → List ℕ → Work
predc_work pred width out = reads pred (λ text. ends (compiled_text out width (read_pred text)))

-- ---- records

-- the same, over the bytes of a file
abbrev pub selected : List ℕ → ℕ → Pred → Option ℕ → Finish
selected bytes width p None = does (act.Print (select_lines (select p width bytes)) ∷ [])
selected bytes width p (Some node) = refuses (refused.BadField node)

abbrev pub selected_text : List ℕ → ℕ → Result Pred PredFault → Finish
selected_text bytes width (Ok p) = selected bytes width p (field_fault p width)
selected_text bytes width (Err fault) = refuses (refused.BadPred fault)

-- the file PRED, over the bytes of a file
abbrev pub selects_from : List ℕ → List ℕ → ℕ → Work
selects_from bytes pred width = reads pred (λ text. ends (selected_text bytes width (read_pred text)))

-- the file of the image, which is looked for before PRED is read
abbrev pub selects_in : Option PlainFile → List ℕ → ℕ → Work
selects_in None pred width = ends (refuses refused.NoFile)
selects_in (Some file) pred width = selects_from file.bytes pred width

abbrev pub select_on : Opened → List ℕ → List ℕ → ℕ → Work
select_on opened file pred width = selects_in (file_of file opened.drive.plain.files) pred width

abbrev pub select_work : List ℕ → List ℕ → List ℕ → ℕ → Work
select_work image file pred width = reads_image image (λ opened. select_on opened file pred width)
