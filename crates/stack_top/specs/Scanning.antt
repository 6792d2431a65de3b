-- `scan IMAGE FILE OBJ CHUNK FUEL CAP PARAM`: the replies of a function on each piece of a file. This project's own.
use Rattle.std.specs.Prelude.{ℕ, List, [], ◌∷◌, length, if◌then◌else◌, Option, Some, None, Result, Ok, Err}
use Rattle.chunk_scan.specs.Pieces.{is_within_limits}
use Rattle.chunk_scan.specs.Scan.{scan}
use Rattle.command_words.specs.declared.command.Scan.{Scan}
use Rattle.command_words.specs.Places.{PieceRun}
use Rattle.plain_files.specs.declared.calls.PlainFile.{PlainFile}
use Rattle.plain_files.specs.Plain.{file_of}
use Rattle.plain_image.specs.Opened.{Opened}
use Rattle.sbpf_insn.specs.declared.insn.Insn.{Insn}
use Rattle.sbpf_load.specs.declared.object.ObjectErr.{ObjectErr}
use Rattle.sbpf_load.specs.Objects.{object_read}
use Rattle.scan_lines.specs.Lines.{scan_lines}
use Rattle.stack_top.specs.declared.acts.Act.TheVariants as act
use Rattle.stack_top.specs.declared.refusal.Refusal.TheVariants as refused
use Rattle.stack_top.specs.Objects.{object_refusal}
use Rattle.stack_top.specs.Scripts.{reads_image}
use Rattle.stack_top.specs.Works.{Finish, refuses, does, Work, reads, ends}

-- a function over the bytes of a file, within the limits on its pieces and their outputs
abbrev pub scanned : List ℕ → PieceRun → List ℕ → List Insn → Finish
scanned bytes pieces param code =
    if is_within_limits pieces.chunk (length bytes) pieces.cap
    then does (act.Print (scan_lines (scan code bytes pieces.chunk pieces.fuel pieces.cap param)) ∷ [])
    else refuses refused.PastLimit

-- what was read as an object
abbrev pub scanned_by : List ℕ → PieceRun → List ℕ → List ℕ → Result (List Insn) ObjectErr → Finish
scanned_by bytes pieces param object (Ok code) = scanned bytes pieces param code
scanned_by bytes pieces param object (Err e) = refuses (object_refusal object e)

-- the file OBJ, over the bytes of a file
abbrev pub scans_from : List ℕ → List ℕ → PieceRun → List ℕ → Work
scans_from bytes name pieces param = reads name (λ object. ends (scanned_by bytes pieces param object (object_read object)))

-- the file of the image, which is looked for before OBJ is read
abbrev pub scans_in : Option PlainFile → List ℕ → PieceRun → List ℕ → Work
scans_in None name pieces param = ends (refuses refused.NoFile)
scans_in (Some file) name pieces param = scans_from file.bytes name pieces param

abbrev pub scan_on : Opened → List ℕ → List ℕ → PieceRun → List ℕ → Work
scan_on opened file name pieces param = scans_in (file_of file opened.drive.plain.files) name pieces param

abbrev pub scan_work : Scan → Work
scan_work asked = reads_image asked.image (λ opened. scan_on opened asked.file asked.object asked.pieces asked.param)
