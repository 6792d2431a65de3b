use Rattle.std.proofs.Common.{◌≡◌, ◌+◌, ◌-◌, ◌*◌, take, drop, ap, arith}
use Rattle.image_format.proofs.tails.data_page.Goals as goal

pub returns-clause-value : goal.returns-clause-value
returns-clause-value c =
    let n : 4096 * c.args.b + 4096 - 4096 * c.args.b ≡ 4096 = omega arith in
    ap (λ m. take m (drop (4096 * c.args.b) c.args.body.now)) n
