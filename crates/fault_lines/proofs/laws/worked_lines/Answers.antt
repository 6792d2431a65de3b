use Rattle.std.proofs.Common.{refl}
use Rattle.fault_lines.specs.Lines.{numbers_of}
use Rattle.fault_lines.proofs.laws.worked_lines.Goals as goal

pub returns : goal.returns
unfolding numbers_of
returns c = record {
  memory = (refl, refl, refl, refl);
  flash = refl;
  mirrors = (refl, refl);
  first = (refl, refl, refl);
  plans = (refl, refl, refl);
  three = refl;
}
