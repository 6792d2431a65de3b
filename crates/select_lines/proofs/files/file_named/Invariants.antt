use Rattle.std.proofs.Common.{◌≡◌, drop}
use Rattle.plain_files.specs.Plain.{file_of}
use Rattle.select_lines.proofs.files.file_named.Given as goal

abbrev pub invariant-loop-i : goal.invariant-loop-i
invariant-loop-i l = file_of l.name (drop l.i l.plain.files) ≡ file_of l.name l.plain.files
