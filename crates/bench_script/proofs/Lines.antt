-- A line more of a script.
use Rattle.std.proofs.Common.{◌≡◌, ℕ, suc, ◌+◌, ◌-◌, ◌<◌, List, ◌++◌, ap, sym, ◌∙◌, append_assoc, arith}
use Rattle.bench_script.specs.Script.{line, after_line, lines}

pub line_more : (text new whole : List ℕ) (calls made x y : ℕ) → made < calls → new ≡ text ++ line x → y ≡ after_line x → text ++ lines (calls - made) x ≡ whole → new ++ lines (calls - (made + 1)) y ≡ whole
line_more text new whole calls made x y more grown later is =
    let left : calls - made ≡ suc (calls - (made + 1)) = omega (arith, more) in
    rw (grown, later) (
    append_assoc text (line x) (lines (calls - (made + 1)) (after_line x))
    ∙ sym (ap (λ n. text ++ lines n x) left) ∙ is)
