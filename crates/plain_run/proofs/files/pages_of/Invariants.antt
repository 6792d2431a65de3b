use Rattle.std.proofs.Common.{◌≡◌, take}
use Rattle.plain_files.specs.Plain.{pages_of}
use Rattle.plain_run.proofs.files.pages_of.Given as goal

abbrev pub invariant-loop-file : goal.invariant-loop-file
invariant-loop-file l = l.all ≡ pages_of (take l.file-index l.files)
