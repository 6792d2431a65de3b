use Rattle.fault_lines.proofs.Named.{numbers_named}
use Rattle.fault_lines.proofs.laws.lines_listed.Goals as goal

pub returns : goal.returns
returns c = numbers_named
