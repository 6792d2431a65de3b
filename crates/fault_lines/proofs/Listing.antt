-- The numbers of a list's rest, one line more.
use Rattle.std.proofs.Common.{◌≡◌, ℕ, suc, ◌+◌, ◌<◌, ◌≤◌, Bool, List, [], ◌∷◌, length, drop, get_or, sym, ap, ◌∙◌, arith, drop-cons}
use Rattle.std.proofs.lemmas.List.{drop_all}
use Rattle.script_words.specs.declared.script.FaultLine.{FaultLine}
use Rattle.fault_lines.specs.Lines.{with_line, numbers_of}

pub numbers_none : (copy writing : Bool) (die n : ℕ) (lines : List FaultLine) → length lines ≤ n → [] ≡ numbers_of copy writing die (drop n lines)
unfolding numbers_of
numbers_none copy writing die n lines l = ap (numbers_of copy writing die) (sym (drop_all n lines l))

pub numbers_step : (copy writing : Bool) (die i : ℕ) (lines : List FaultLine) (d : FaultLine) → i < length lines →
    numbers_of copy writing die (drop i lines) ≡ with_line copy writing die (get_or lines i d) (numbers_of copy writing die (drop (i + 1) lines))
unfolding numbers_of
numbers_step copy writing die i lines d l =
    let h : drop i lines ≡ get_or lines i d ∷ drop (suc i) lines = drop-cons lines i d l in
    let e : suc i ≡ i + 1 = omega arith in
    ap (numbers_of copy writing die) h ∙ ap (λ (j : ℕ). with_line copy writing die (get_or lines i d) (numbers_of copy writing die (drop j lines))) e

-- as the loop has it
pub numbers_next : (copy writing : Bool) (die i left : ℕ) (lines : List FaultLine) (d : FaultLine) (xs ys : List ℕ) → xs ≡ with_line copy writing die (get_or lines i d) ys →
    ys ≡ numbers_of copy writing die (drop left lines) → i + 1 ≡ left → i < length lines → xs ≡ numbers_of copy writing die (drop i lines)
numbers_next copy writing die i left lines d xs ys x y e l =
    x ∙ (ap (with_line copy writing die (get_or lines i d)) (y ∙ ap (λ (j : ℕ). numbers_of copy writing die (drop j lines)) (sym e)) ∙ sym (numbers_step copy writing die i lines d l))
