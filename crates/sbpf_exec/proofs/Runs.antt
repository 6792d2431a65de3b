-- A run goes on by a step, and ends where the fuel is spent.
use Rattle.std.proofs.Common.{◌≡◌, ℕ, suc, ◌+◌, ◌-◌, ◌<◌, ◌≤◌, List, refl, ap, ◌∙◌, arith}
use Rattle.sbpf_insn.specs.declared.insn.Insn.{Insn}
use Rattle.sbpf_insn.specs.Machine.{State, Next, Goes, Spent, after, step, run_from}
use Rattle.sbpf_exec.specs.Steps.{Reaches}

steps : (n used : ℕ) (code : List Insn) (m : State) (next : Next) → step code m ≡ next → run_from (suc n) used code m ≡ after next m (used + 1) (run_from n (used + 1) code)
unfolding run_from
steps n used code m next e = ap (λ (x : Next). after x m (used + 1) (run_from n (used + 1) code)) e

-- one step of the fuel that is left
pub step_left : (fuel left : ℕ) (code : List Insn) (m : State) (next : Next) → 0 < left → left ≤ fuel → step code m ≡ next → run_from left (fuel - left) code m ≡ after next m (fuel - (left - 1)) (run_from (left - 1) (fuel - (left - 1)) code)
step_left fuel left code m next some within e =
    let n : left ≡ suc (left - 1) = omega arith in
    let u : fuel - left + 1 ≡ fuel - (left - 1) = omega arith in
    ap (λ (k : ℕ). run_from k (fuel - left) code m) n ∙ steps (left - 1) (fuel - left) code m next e ∙ ap (λ (k : ℕ). after next m k (run_from (left - 1) k code)) u

pub spent : (left used : ℕ) (code : List Insn) (m : State) → left ≤ 0 → run_from left used code m ≡ Spent
unfolding run_from
spent left used code m none =
    let n : left ≡ 0 = omega arith in
    rw n refl

-- ---- several steps

pub reach_none : (n : ℕ) (code : List Insn) (m : State) → n ≡ 0 → Reaches n code m m
reach_none n code m none = λ left used.
    let a : left + n ≡ left = omega arith in
    let b : used ≡ used + n = omega arith in
    ap (λ (k : ℕ). run_from k used code m) a ∙ ap (λ (k : ℕ). run_from left k code m) b

pub reach_more : (n k : ℕ) (code : List Insn) (m mid next : State) → k ≡ n + 1 → Reaches n code m mid → step code mid ≡ Goes next → Reaches k code m next
reach_more n k code m mid next more reaches goes = λ left used.
    let a : left + k ≡ suc left + n = omega arith in
    let b : used + n + 1 ≡ used + k = omega arith in
    ap (λ (x : ℕ). run_from x used code m) a ∙ reaches (suc left) used ∙ steps left (used + n) code mid (Goes next) goes ∙ ap (λ (x : ℕ). run_from left x code next) b

pub reach_both : (n k j : ℕ) (code : List Insn) (m mid next : State) → j ≡ n + k → Reaches n code m mid → Reaches k code mid next → Reaches j code m next
reach_both n k j code m mid next sum first second = λ left used.
    let a : left + j ≡ left + k + n = omega arith in
    let b : used + n + k ≡ used + j = omega arith in
    ap (λ (x : ℕ). run_from x used code m) a ∙ first (left + k) used ∙ second left (used + n) ∙ ap (λ (x : ℕ). run_from left x code next) b

-- the fuel that is left after several steps
pub reach_left : (n left fuel : ℕ) (code : List Insn) (m next : State) → left ≤ fuel → n ≤ left → Reaches n code m next → run_from left (fuel - left) code m ≡ run_from (left - n) (fuel - (left - n)) code next
reach_left n left fuel code m next within some reaches =
    let a : left ≡ left - n + n = omega arith in
    let b : fuel - left + n ≡ fuel - (left - n) = omega arith in
    ap (λ (x : ℕ). run_from x (fuel - left) code m) a ∙ reaches (left - n) (fuel - left) ∙ ap (λ (x : ℕ). run_from (left - n) x code next) b
