-- The file that `scan` finds.
use Rattle.std.proofs.Common.{◌≡◌, ℕ, List, Option, Some, None, Err, refl, subst}
use Rattle.std.specs.Prelude.{Result}
use Rattle.command_words.specs.Places.{PieceRun}
use Rattle.edge_io.specs.Edges.{Names}
use Rattle.plain_files.specs.declared.calls.PlainFile.{PlainFile}
use Rattle.stack_top.specs.declared.plan.Plan.{Plan}
use Rattle.stack_top.specs.declared.refusal.Refusal.{Refusal}
use Rattle.stack_top.specs.declared.refusal.Refusal.TheVariants as refused
use Rattle.stack_top.specs.Decided.{IsDecided}
use Rattle.stack_top.specs.Scanning.{scans_from, scans_in}

-- the work goes on with a file that is found, and ends where none is
pub found_scanned : (told : Option Names) (before now : ℕ) (found : Option PlainFile) (file : PlainFile) (name : List ℕ) (pieces : PieceRun) (param : List ℕ) (result : Result Plan Refusal) → Some file ≡ found → IsDecided told before now (scans_from file.bytes name pieces param) result → IsDecided told before now (scans_in found name pieces param) result
found_scanned told before now found file name pieces param result is decided =
    let P : Option PlainFile → Type 0 = λ f. IsDecided told before now (scans_in f name pieces param) result in subst P is decided

pub none_scanned : (told : Option Names) (before now : ℕ) (found : Option PlainFile) (name : List ℕ) (pieces : PieceRun) (param : List ℕ) → None ≡ found → IsDecided told before now (scans_in found name pieces param) (Err refused.NoFile)
none_scanned told before now found name pieces param is =
    let P : Option PlainFile → Type 0 = λ f. IsDecided told before now (scans_in f name pieces param) (Err refused.NoFile) in
    subst P is (record { finish = _; comes = refl; allows = refl })
