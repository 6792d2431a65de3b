-- The first number below a count that passes, one number after the other.
use Rattle.std.proofs.Common.{◌≡◌, ℕ, suc, ◌+◌, ◌-◌, ◌<◌, Bool, true, false, cond, Option, Some, refl, sym, ap, ◌∙◌, arith}
use Rattle.std.specs.List.{find, range_with_len}
use Rattle.elf_bpf.specs.Elf.{first_below}

-- the first number that passes, from here on
abbrev pub first_from : ℕ → ℕ → (ℕ → Bool) → Option ℕ
first_from i count test = find test (range_with_len i (count - i))

step : (i count : ℕ) (test : ℕ → Bool) → i < count → first_from i count test ≡ cond (test i) (Some i) (first_from (i + 1) count test)
step i count test lt =
    let n : count - i ≡ suc (count - (i + 1)) = omega arith in
    rw n refl

pub passes_here : (i count : ℕ) (test : ℕ → Bool) → i < count → first_from i count test ≡ first_below count test → test i ≡ true → first_below count test ≡ Some i
passes_here i count test lt left here = sym left ∙ (step i count test lt ∙ ap (λ (b : Bool). cond b (Some i) (first_from (i + 1) count test)) here)

pub passes_later : (i count : ℕ) (test : ℕ → Bool) → i < count → first_from i count test ≡ first_below count test → test i ≡ false → first_from (i + 1) count test ≡ first_below count test
passes_later i count test lt left here = sym (step i count test lt ∙ ap (λ (b : Bool). cond b (Some i) (first_from (i + 1) count test)) here) ∙ left
