use Rattle.std.proofs.Common.{◌≡◌, ◌≤◌, length, arith, sym, ap, ◌∙◌}
use Rattle.std.proofs.lemmas.List.{length-map, length-reverse, length-take}
use Rattle.std.proofs.lemmas.Bool.Decides.{nat_tests}
use Rattle.sbpf_exec.proofs.cpu.Frames.is_full.Goals as goal

pub returns : goal.returns
returns c =
    let xs = c.self.inside.saved in
    let d = c.self.inside.depth in
    let small : d ≤ 7 = c.self.invariant.0 in
    let seven : length xs ≡ 7 = c.self.invariant.1 in
    let long : length c.args.self.now ≡ d = ap length (sym c.self.view_is) ∙ simp (length-map, length-reverse) (omega (arith, length-take d xs, small, seven)) in
    grind (arith, nat_tests, long, small)
