-- A span without pages may be taken to begin at 0.
use Rattle.std.proofs.Common.{◌≡◌, ℕ, zero, suc, ◌+◌, ◌<◌, ◌≤◌, Bool, true, false, Option, refl, sym, ap, ◌∙◌, arith}
use Rattle.std.specs.Prelude.{◌==◌, ◌^◌, nat_lt, if◌then◌else◌}
use Rattle.std.proofs.lemmas.Bool.Decides.{nat_tests}
use Rattle.core_state.specs.State.{Frame, NoFrame}
use Rattle.system_blocks.specs.Sweeps.{sweep}
use Rattle.system_blocks.proofs.Walks.{sweep-none}
use Rattle.index_lists.specs.Words.{one_if}
use Rattle.core_state.specs.Words.{count_to}
use Rattle.system_ends.proofs.After.{sum-none}
use Rattle.system_begin.proofs.Clashes.{below_none}

pos : (n : ℕ) → (suc n == 0) ≡ false
pos n = grind (arith, nat_tests)

same_first : (n first x : ℕ) → x ≡ (if suc n == 0 then 0 else first) → x ≡ first
same_first n first x e = e ∙ ap (λ (t : Bool). if t then 0 else first) (pos n)

pub start_small : (n first x : ℕ) → x ≡ (if n == 0 then 0 else first) → n ≤ 65 → (0 < n → first + n ≤ 65537) → x + n < 4294967296
start_small zero first x e few h = omega arith
start_small (suc n) first x e few h = let s = same_first n first x e in let m = h (omega arith) in omega arith

pub frame_at : (n first x i : ℕ) (G : ℕ → Frame) → x ≡ (if n == 0 then 0 else first) → (if nat_lt i n then G x else NoFrame) ≡ (if nat_lt i n then G first else NoFrame)
frame_at zero first x i G e = ap (λ (t : Bool). if t then G x else NoFrame) (below_none i) ∙ sym (ap (λ (t : Bool). if t then G first else NoFrame) (below_none i))
frame_at (suc n) first x i G e = ap (λ (y : ℕ). if nat_lt i (suc n) then G y else NoFrame) (same_first n first x e)

pub sweep_at : {A : Type 0} (n first x : ℕ) (at : ℕ → ℕ → Option ℕ) (step : ℕ → ℕ → A → A) (s : A) → x ≡ (if n == 0 then 0 else first) → sweep n (at x) step s ≡ sweep n (at first) step s
sweep_at zero first x at step s e = sweep-none (at x) step s ∙ sym (sweep-none (at first) step s)
sweep_at (suc n) first x at step s e = ap (λ (y : ℕ). sweep (suc n) (at y) step s) (same_first n first x e)

pub count_at : (n first x : ℕ) (at : ℕ → ℕ → Option ℕ) (test : Option ℕ → Bool) → x ≡ (if n == 0 then 0 else first) → count_to n (λ i. test (at x i)) ≡ count_to n (λ i. test (at first i))
count_at zero first x at test e = sum-none (λ i. one_if (test (at x i))) ∙ sym (sum-none (λ i. one_if (test (at first i))))
count_at (suc n) first x at test e = ap (λ (y : ℕ). count_to (suc n) (λ i. test (at y i))) (same_first n first x e)
