-- The law of a die in memory, and its proof: the calls that have failed are at most the numbers that its plan lists. This project's own.
use Rattle.std.proofs.Common.{◌≡◌, ℕ, zero, suc, ◌+◌, ◌^◌, ◌<◌, ◌≤◌, true, false, List, [], ◌∷◌, length, refl, arith}
use Rattle.std.specs.Prelude.{if◌then◌else◌, ◌==◌, ◌||◌}
use Rattle.std.specs.List.{All}
use Rattle.edge_io.specs.Memory.{is_listed}
use Rattle.flash_die.specs.Dies.{PlanView, AreWhole, IsDie}
use Rattle.flash_die.specs.Failures.{failed_of, told_die}

-- no number is listed
failed_of-none : (made : ℕ) → failed_of made [] ≡ 0
unfolding failed_of
failed_of-none zero = refl
failed_of-none (suc made) = omega (arith, failed_of-none made)

-- a number that is listed and not reached
failed_of-above : (made number : ℕ) (numbers : List ℕ) → made < number → failed_of made (number ∷ numbers) ≤ failed_of made numbers
unfolding failed_of
failed_of-above zero number numbers above = omega arith
failed_of-above (suc made) number numbers above =
    let below : failed_of made (number ∷ numbers) ≤ failed_of made numbers = failed_of-above made number numbers (omega arith) in
    elim (number == suc made) as (λ b. (number == suc made) ≡ b → failed_of made (number ∷ numbers) + (if b || is_listed (suc made) numbers then 1 else 0) ≤ failed_of made numbers + (if is_listed (suc made) numbers then 1 else 0)) [
      | true ↦ λ same. absurd (grind arith)
      | false ↦ λ differ. omega (arith, below)
    ] refl

-- a number that is listed
failed_of-one : (made number : ℕ) (numbers : List ℕ) → failed_of made (number ∷ numbers) ≤ failed_of made numbers + 1
unfolding failed_of
failed_of-one zero number numbers = omega arith
failed_of-one (suc made) number numbers =
    elim (number == suc made) as (λ b. (number == suc made) ≡ b → failed_of made (number ∷ numbers) + (if b || is_listed (suc made) numbers then 1 else 0) ≤ failed_of made numbers + (if is_listed (suc made) numbers then 1 else 0) + 1) [
      | true ↦ λ same.
          let above : made < number = grind arith in
          omega (arith, failed_of-above made number numbers above)
      | false ↦ λ differ. omega (arith, failed_of-one made number numbers)
    ] refl

-- no more calls have failed than numbers are listed
pub failed_of-within : (made : ℕ) (numbers : List ℕ) → failed_of made numbers ≤ length numbers
failed_of-within made [] = omega (arith, failed_of-none made)
failed_of-within made (number ∷ numbers) = omega (arith, failed_of-one made number numbers, failed_of-within made numbers)

pub sound_die : (pages : List (List ℕ)) (plan : PlanView) → AreWhole pages → plan.reads ≤ 2 ^ 32 → plan.writes ≤ 2 ^ 32 → All (λ number. number < 2 ^ 32) plan.failing_reads → All (λ number. number < 2 ^ 32) plan.failing_writes → IsDie (told_die pages plan)
sound_die pages plan each_whole reads writes failing_reads failing_writes = record {
  whole = refl;
  each_whole = each_whole;
  bounded = omega (arith, failed_of-within plan.reads plan.failing_reads, failed_of-within plan.writes plan.failing_writes);
  planned = record { reads = reads; writes = writes; failing_reads = failing_reads; failing_writes = failing_writes };
}
