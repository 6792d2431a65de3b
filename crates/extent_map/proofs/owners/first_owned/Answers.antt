use Rattle.std.proofs.Common.{◌≡◌, ◌+◌, ◌-◌, suc, sym, ◌∙◌, arith}
use Rattle.extent_map.specs.Places.{is_used}
use Rattle.extent_map.proofs.Runs.{owned_here, found_here, found_later, found_none}
use Rattle.extent_map.proofs.owners.first_owned.Goals as goal

pub returns-then-is_some : goal.returns-then-is_some
returns-then-is_some c = λ blocks ps tells.
    let n : c.args.count - c.loop-k.k ≡ suc (c.args.count - (c.loop-k.k + 1)) = omega (arith, c.loop-k-test.true) in
    found_here (λ b. is_used b ps) (c.args.from + c.loop-k.k) _ _ _ n (owned_here c.args.owners.now blocks ps _ tells (omega arith) ∙ sym c.is_some.ensures ∙ c.if-is_some.true) (c.loop-k.invariant blocks ps tells)

pub loop-k-preserved : goal.loop-k-preserved
loop-k-preserved c = λ blocks ps tells.
    let n : c.args.count - c.loop-k.k ≡ suc (c.args.count - (c.loop-k.k + 1)) = omega (arith, c.loop-k-test.true) in
    let a : c.args.from + (c.loop-k.k + 1) ≡ c.args.from + c.loop-k.k + 1 = omega arith in
    rw a (found_later (λ b. is_used b ps) (c.args.from + c.loop-k.k) _ _ _ n (owned_here c.args.owners.now blocks ps _ tells (omega arith) ∙ sym c.is_some.ensures ∙ c.if-is_some.false) (c.loop-k.invariant blocks ps tells))

pub returns : goal.returns
returns c = λ blocks ps tells. found_none (λ b. is_used b ps) (c.args.from + c.loop-k.k) (c.args.count - c.loop-k.k) _ (omega (arith, c.loop-k-test.false)) (c.loop-k.invariant blocks ps tells)
