-- What is asked for, where it is.
use Rattle.std.proofs.Common.{◌≡◌, ℕ, List, Bool, true, false, bytes_eq, refl}
use Rattle.std.proofs.lemmas.Slice.Eq.{bytes_eq-Decides}
use Rattle.std.specs.Prelude.{IsSome, IfOk, Option, Some, None, Result, codes}
use Rattle.command_words.specs.declared.command.Command.{Command}
use Rattle.command_words.specs.declared.command.Quiet.{Quiet}
use Rattle.command_words.specs.declared.command.Run.{Run}
use Rattle.command_words.specs.declared.command.Scan.{Scan}
use Rattle.command_words.specs.Commands.{asked_quiet, asked_scan, asked_run, quiet_named, command_named}

pub quiet_asked : (asked : Option Quiet) → IsSome asked → IsSome (asked_quiet asked)
quiet_asked None is = is
quiet_asked (Some asked) is = refl

pub scan_asked : (asked : Option Scan) → IsSome asked → IsSome (asked_scan asked)
scan_asked None is = is
scan_asked (Some asked) is = refl

pub run_asked : (asked : Option Run) → IsSome asked → IsSome (asked_run asked)
run_asked None is = is
run_asked (Some asked) is = refl

another : (word other : List ℕ) → (word ≡ other → ⊥) → bytes_eq word other ≡ false
another word other differs = go (bytes_eq word other) refl
  where
    go : (b : Bool) → bytes_eq word other ≡ b → bytes_eq word other ≡ false
    go true is = absurd (differs ((bytes_eq-Decides word other).0 is))
    go false is = is

-- a command of another word
pub other_named : {E : Type 0} (verb : List ℕ) (rest : List (List ℕ)) (result : Result (Option Command) E) → (verb ≡ codes "scan" → ⊥) → (verb ≡ codes "run" → ⊥)
    → IfOk result (λ command. command ≡ asked_quiet (quiet_named verb rest)) → IfOk result (λ command. command ≡ command_named verb rest)
other_named verb rest result one two ok = rw (another verb (codes "scan") one, another verb (codes "run") two) ok
