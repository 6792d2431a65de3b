-- A call of raw flash in memory is one of raw flash.
use Rattle.std.proofs.Common.{◌≡◌, ℕ, ◌+◌, ◌≤◌, ◌<◌, Bool, true, false, List, length, get_or, Option, Some, None, is_some, refl, ap, ◌∙◌, inl, inr, set, arith}
use Rattle.std.specs.Prelude.{if◌then◌else◌}
use Rattle.std.proofs.lemmas.List.{get_or_past}
use Rattle.std.proofs.lemmas.Bool.{cases_lt}
use Rattle.flash_raw.specs.Raw.{RawCounts, RawProgram, IsProgrammed}
use Rattle.flash_raw.specs.Calls.{RawPlan, told_raw, faults_of, most_of}

-- a programmed page is one of the pages
pub programmed-within : (pages : List (Option (List ℕ))) (page : ℕ) → IsProgrammed pages page → page < length pages
programmed-within pages page programmed =
    elim (cases_lt page (length pages)) [
      | inl within ↦ within
      | inr beyond ↦ absurd (let none = get_or_past pages page None beyond in let p : is_some (get_or pages page None) ≡ true = programmed in cc)
    ]

-- the counts of a call, which has failed or not
pub counted : (old new : List (Option (List ℕ))) (blocks : ℕ) (plan later : RawPlan) (good : Bool) → faults_of later ≡ faults_of plan + (if good then 0 else 1) → most_of later ≡ most_of plan → RawCounts (told_raw old blocks plan) good (told_raw new blocks later)
counted old new blocks plan later good faults most = record {
  blocks = refl;
  most = grind arith;
  later = elim good as (λ b. faults_of later ≡ faults_of plan + (if b then 0 else 1) → faults_of plan ≤ faults_of later) [
    | true ↦ λ e. omega (arith, e)
    | false ↦ λ e. omega (arith, e)
  ] faults;
  failed = λ bad. let rose : faults_of later ≡ faults_of plan + 1 = grind (arith, faults, bad) in omega (arith, rose);
}

-- the programming of a page, whatever bytes it leaves
pub program_went : (pages new : List (Option (List ℕ))) (blocks : ℕ) (plan later : RawPlan) (page : ℕ) (good : Bool) (bytes left : List ℕ) → faults_of later ≡ faults_of plan + (if good then 0 else 1) → most_of later ≡ most_of plan → new ≡ set pages page (Some left) → (good ≡ true → left ≡ bytes) → RawProgram (told_raw pages blocks plan) page good bytes (told_raw new blocks later)
program_went pages new blocks plan later page good bytes left faults most is ok = record {
  counts = counted pages new blocks plan later good faults most;
  ok = λ fine. is ∙ ap (λ (b : List ℕ). set pages page (Some b)) (ok fine);
  err = λ bad. record { left = left; same = is };
}
