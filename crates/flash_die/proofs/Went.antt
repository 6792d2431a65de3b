-- A call of a die in memory is one of a die.
use Rattle.std.proofs.Common.{◌≡◌, ℕ, suc, ◌+◌, ◌^◌, ◌<◌, ◌≤◌, Bool, true, false, not, List, [], length, get_or, set, refl, ap, ◌∙◌, sym, subst, arith, drop, ◌-◌, ◌++◌, Some, length-append, length-drop}
use Rattle.std.specs.Prelude.{if◌then◌else◌, ◌==◌, nat_lt}
use Rattle.std.specs.List.{All}
use Rattle.std.proofs.lemmas.List.{drop_all, append-nil, length-set}
use Rattle.std.proofs.lemmas.List.Folds.{list_any_none}
use Rattle.edge_io.specs.Memory.{is_listed}
use Rattle.page_base.specs.Bytes.{patched}
use Rattle.flash_die.specs.Dies.{PlanView, IsPlan, next_number, read_fails, after_read, write_fails, after_write, WentRead, WentWrite}
use Rattle.flash_die.specs.Failures.{failed_of, told_die}
use Rattle.flash_die.specs.Memory.{plan_of}
use Rattle.flash_die.specs.declared.die_mem.DieMem.{DieMem}

-- no number is listed that none of the list reaches
is_listed-beyond : (number : ℕ) (numbers : List ℕ) → All (λ n. n < number) numbers → is_listed number numbers ≡ false
is_listed-beyond number numbers small = list_any_none (λ n. n == number) numbers (λ k d within. let low = small k d within in grind arith)

-- one more call
pub failed_of-next : (made : ℕ) (numbers : List ℕ) → made ≤ 2 ^ 32 → All (λ n. n < 2 ^ 32) numbers → failed_of (next_number made) numbers ≡ failed_of made numbers + (if is_listed (next_number made) numbers then 1 else 0)
unfolding failed_of
failed_of-next made numbers within small =
    elim (nat_lt made (2 ^ 32)) as (λ b. nat_lt made (2 ^ 32) ≡ b → failed_of (next_number made) numbers ≡ failed_of made numbers + (if is_listed (next_number made) numbers then 1 else 0)) [
      | true ↦ λ below.
          let next : next_number made ≡ suc made = grind arith in
          rw next refl
      | false ↦ λ ended.
          let same : made ≡ 2 ^ 32 = grind arith in
          let next : next_number made ≡ made = grind arith in
          let none : is_listed made numbers ≡ false = rw same (is_listed-beyond (2 ^ 32) numbers small) in
          rw next (rw none (omega arith))
    ] refl

pub read_went : (pages : List (List ℕ)) (plan later : PlanView) (page : ℕ) (good : Bool) (before after : List ℕ) → IsPlan plan → later ≡ after_read plan → good ≡ not (read_fails plan) → (good ≡ true → after ≡ get_or pages page []) → (good ≡ false → after ≡ before) → WentRead (told_die pages plan) page good before after (told_die pages later)
read_went pages plan later page good before after is is_later fails ok err =
    let next = failed_of-next plan.reads plan.failing_reads is.reads is.failing_reads in
    subst (λ (p : PlanView). WentRead (told_die pages plan) page good before after (told_die pages p)) (sym is_later) (record {
      counts = record {
        size = refl;
        most = refl;
        later = omega (arith, next);
        failed = λ bad. let listed : read_fails plan ≡ true = grind arith in grind (arith, next);
      };
      plan = refl;
      planned = fails;
      pages = refl;
      ok = ok;
      err = err;
    })

pub write_went : (pages new : List (List ℕ)) (plan later : PlanView) (page : ℕ) (good : Bool) (bytes left : List ℕ) → IsPlan plan → later ≡ after_write plan → good ≡ not (write_fails plan) → new ≡ set pages page left → (good ≡ true → left ≡ bytes) → WentWrite (told_die pages plan) page good bytes (told_die new later)
write_went pages new plan later page good bytes left is is_later fails is_new ok =
    let next = failed_of-next plan.writes plan.failing_writes is.writes is.failing_writes in
    subst (λ (p : PlanView). WentWrite (told_die pages plan) page good bytes (told_die new p)) (sym is_later) (record {
      counts = record {
        size = ap length is_new ∙ length-set pages page left;
        most = refl;
        later = omega (arith, next);
        failed = λ bad. let listed : write_fails plan ≡ true = grind arith in grind (arith, next);
      };
      plan = refl;
      planned = fails;
      ok = λ fine. ap Some (is_new ∙ ap (set pages page) (ok fine));
      err = λ bad. record { left = left; same = ap Some is_new };
    })

-- the plan of a die is one
pub is_plan : (die : DieMem) → IsPlan (plan_of die)
is_plan die = record { reads = die.reads_end; writes = die.writes_end; failing_reads = die.small_reads; failing_writes = die.small_writes }

-- bytes of a whole page, put at its front
pub patched-whole : (page bytes : List ℕ) → length bytes ≡ 4096 → length (patched page 0 bytes) ≡ 4096 → patched page 0 bytes ≡ bytes
patched-whole page bytes all whole =
    let lengths : length (bytes ++ drop (0 + length bytes) page) ≡ length bytes + (length page - (0 + length bytes)) = length-append bytes (drop (0 + length bytes) page) ∙ ap (λ n. length bytes + n) (length-drop (0 + length bytes) page) in
    let short : length page ≤ 0 + length bytes = omega (arith, all, whole, lengths) in
    ap (λ rest. bytes ++ rest) (drop_all (0 + length bytes) page short) ∙ append-nil bytes
