-- How many calls have failed, of those that were made.
use Rattle.std.proofs.Common.{◌≡◌, ℕ, zero, suc, ◌+◌, ◌≤◌, true, false, List, refl, arith}
use Rattle.std.specs.Prelude.{if◌then◌else◌}
use Rattle.edge_io.specs.Memory.{is_listed}
use Rattle.flash_die.specs.Failures.{failed_of}

-- no more calls have failed than were made
pub failed_of-made : (made : ℕ) (numbers : List ℕ) → failed_of made numbers ≤ made
unfolding failed_of
failed_of-made zero numbers = omega arith
failed_of-made (suc made) numbers =
    elim (is_listed (suc made) numbers) as (λ b. failed_of made numbers + (if b then 1 else 0) ≤ suc made) [
      | true ↦ omega (arith, failed_of-made made numbers)
      | false ↦ omega (arith, failed_of-made made numbers)
    ]

-- no call yet
pub failed_of-first : (numbers : List ℕ) → failed_of 0 numbers ≡ 0
unfolding failed_of
failed_of-first numbers = refl
