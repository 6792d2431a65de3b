use Rattle.std.proofs.Common.{refl, ◌+◌, ◌%◌, ◌^◌}
use Rattle.turn_example.proofs.Counted.{one_more}
use Rattle.turn_example.specs.Counting.{adding}
use Rattle.turn_example.proofs.counter.Counter.add.Goals as goal

pub returns : goal.returns
returns c = λ o h n s. one_more c.args.self.now record { total = (c.args.self.now.total + c.args.amount) % 2 ^ 64; made = (c.args.self.now.made + 1) % 2 ^ 64; past = c.longer.result } o h n (adding c.args.actor c.args.amount) s c.longer.ensures refl refl
