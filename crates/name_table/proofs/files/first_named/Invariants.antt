use Rattle.std.proofs.Common.{◌≡◌, drop}
use Rattle.name_table.specs.Files.{file_of}
use Rattle.name_table.specs.Inside.{is_named, first_of}
use Rattle.name_table.proofs.files.first_named.Given as goal

abbrev pub invariant-loop-entry : goal.invariant-loop-entry
invariant-loop-entry l = first_of (λ id. is_named l.name (file_of id l.files)) (drop l.entry-index l.entries) ≡ first_of (λ id. is_named l.name (file_of id l.files)) l.entries
